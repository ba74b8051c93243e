-- What a descent call from checkpoint bytes returns, arm by arm of the answers that the code matches on.
use mathlib.Core.Path.{◌≡◌, sym, ap, subst, ◌∙◌}
use mathlib.Core.Bool.{Bool}
use mathlib.Core.List.{List}
use Prim.Native.Nat.{ℕ, ◌≤◌}
use lib.ListN.{length}
use Rattle.answers.specs.Answer.{Answer, accepted, when_accepted}
use Rattle.answers.specs.Output.{Writing}
use Rattle.answers.proofs.RefusalNumbers.{RefusalNumber}
use Rattle.problem.specs.Problem.{Problem}
use Rattle.checkpoint.specs.declared.Checkpoint.{Checkpoint}
use Rattle.std.specs.Prelude.{Result, Ok, Err}
use Rattle.search.specs.declared.SearchError.{SearchError}
use Rattle.search.proofs.SearchErrors.{error_refused}
use Rattle.search.specs.Call.{words_needed, cleared}
use Rattle.search.specs.Answers.{search_refusal, search_answer}
use Rattle.checkpoint_saver.specs.declared.SaveError.{SaveError}
use Rattle.checkpoint_saver.specs.Answers.{save_refusal, save_answer}
use Rattle.checkpoint_saver.specs.Saving.{saving_of, saving}
use Rattle.checkpoint_loader.specs.declared.Loaded.{Loaded}
use Rattle.checkpoint_loader.specs.declared.LoadError.{LoadError}
use Rattle.checkpoint_loader.specs.Answers.{load_refusal}
use Rattle.checkpoint_loader.specs.Loading.{Loading, loading_of, loading}
use Rattle.descend.specs.declared.Descended.{Descended as DescendedCode}
use Rattle.descend.specs.Call.{Descended, descend_call}
use Rattle.descend.specs.Answers.{descended_of}
use Rattle.replies.specs.declared.Reply.{Reply}
use Rattle.replies.specs.Reply.{reply, reply_of}
use Rattle.replies.specs.Apart.{used_cleared}
use Rattle.replies.proofs.CallKept.{Ways, enough_cleared}
use Rattle.replies.proofs.Refusals.{save_refused, load_refused, off_accepted, off_passed}
use Rattle.replies.proofs.CallArms.{unsaved}
use Rattle.descent_replies.specs.Apart.{DescendedBy}
use Rattle.descent_replies.specs.DescentReply.{DescentReply, descent_reply, not_descended, save_descent, descend_and_save, descend_loaded, descend_bytes}
use Rattle.descent_replies.proofs.DescentKept.{Unmoved, descend_kept}

module _ (connected : Bool) (P : Problem) (floor : ℕ) (c : Checkpoint) (budget : ℕ) (workspace next : List ℕ)
    (r : DescendedCode) (called : DescendedBy r (descend_call connected P floor c budget workspace))
  where
    -- the workspace that the call leaves
    abbrev left : List ℕ
    left = (descend_call connected P floor c budget workspace).workspace

    module _ (ceiling : ℕ) (arm : r.answer ≡ Ok ceiling) where
      -- A call that gives a ceiling was lent the words that it needs, and clears them.
      accepted_words : (words_needed ≤ length workspace) × (left ≡ cleared workspace)
      accepted_words =
          let e : (descend_call connected P floor c budget workspace).answer ≡ accepted ceiling =
          sym (ap (λ (q : Descended). q.answer) called) ∙ ap search_answer arm in
          subst
          (λ (a : Answer). Ways RefusalNumber ((words_needed ≤ length workspace) × (left ≡ cleared workspace))
          (Unmoved connected P floor c budget workspace (descend_call connected P floor c budget workspace)) a) e
          (descend_kept connected P floor c budget workspace)

      module _ (s : Result ℕ SaveError) (after : List ℕ) (saves : saving_of s after ≡ saving connected P r.checkpoint next) where
        -- what is saved of the call, by the answer of the save
        abbrev by_save : Result ℕ SaveError → DescentReply
        by_save s =
            when_accepted (save_answer s) (λ (count : ℕ). descent_reply (reply 0 count) ceiling r.visits left after) (not_descended workspace next)

        saved_call : by_save s ≡ descend_and_save connected P floor c budget workspace next
        unfolding descend_and_save
        saved_call =
            ap (λ (w : Writing). when_accepted w.answer (λ count. descent_reply (reply 0 count) ceiling r.visits left w.buffer) (not_descended workspace next)) saves
            ∙ ap (λ (a : Result ℕ SearchError). save_descent connected P (descended_of (record { answer = a; visits = r.visits; checkpoint = r.checkpoint }) left) workspace next) (sym arm)
            ∙ ap (λ (q : Descended). save_descent connected P q workspace next) called

        -- Saved, its count, ceiling and visits are returned, and the lent words that it uses are cleared.
        pub descent_saved : (count : ℕ) → s ≡ Ok count → (words : List ℕ) → words ≡ used_cleared workspace
            → descent_reply (reply 0 count) ceiling r.visits words after ≡ descend_and_save connected P floor c budget workspace next
        descent_saved count written words clear =
            ap (λ (w : List ℕ). descent_reply (reply 0 count) ceiling r.visits w after) (clear ∙ enough_cleared workspace accepted_words.0 ∙ sym accepted_words.1)
            ∙ ap by_save (sym written)
            ∙ saved_call

        -- Not saved, the refusal is handed on, and both lent buffers are as they were.
        pub descent_unsaved : (e : SaveError) → s ≡ Err e → (t : Reply) → t ≡ reply_of (save_refusal e)
            → descent_reply t 0 0 workspace after ≡ descend_and_save connected P floor c budget workspace next
        descent_unsaved e off t replied =
            ap (λ (b : List ℕ). descent_reply t 0 0 workspace b) (unsaved connected P r.checkpoint next e after (ap (λ (x : Result ℕ SaveError). saving_of x after) (sym off) ∙ saves))
            ∙ ap (λ (u : Reply). descent_reply u 0 0 workspace next) replied
            ∙ off_accepted _ (not_descended workspace next) (save_refusal e) (save_refused e)
            ∙ ap by_save (sym off)
            ∙ saved_call

    -- A call that is refused is handed on.
    pub descent_refused : (e : SearchError) → r.answer ≡ Err e → (t : Reply) → t ≡ reply_of (search_refusal e)
        → descent_reply t 0 0 workspace next ≡ descend_and_save connected P floor c budget workspace next
    unfolding descend_and_save
    descent_refused e off t replied =
        ap (λ (u : Reply). descent_reply u 0 0 workspace next) replied
        ∙ off_accepted _ (not_descended workspace next) (search_refusal e) (error_refused e)
        ∙ ap (λ (a : Result ℕ SearchError). save_descent connected P (descended_of (record { answer = a; visits = r.visits; checkpoint = r.checkpoint }) left) workspace next) (sym off)
        ∙ ap (λ (q : Descended). save_descent connected P q workspace next) called

module _ (connected : Bool) (P : Problem) (floor : ℕ) (bytes : List ℕ) (budget : ℕ) (workspace next : List ℕ)
    (r : Loaded) (loads : loading_of r ≡ loading connected P bytes)
  where
    -- the load, with this answer
    abbrev by : Result Unit LoadError → Loading
    by a = loading_of (record { answer = a; checkpoint = r.checkpoint })

    -- A checkpoint that is loaded is descended from.
    pub load_descended : r.answer ≡ Ok tt → (x : DescentReply) → x ≡ descend_and_save connected P floor r.checkpoint budget workspace next
        → x ≡ descend_bytes connected P floor bytes budget workspace next
    unfolding descend_bytes
    load_descended arm x descended =
        descended
        ∙ ap (λ (a : Result Unit LoadError). descend_loaded connected P floor (by a) budget workspace next) (sym arm)
        ∙ ap (λ (l : Loading). descend_loaded connected P floor l budget workspace next) loads

    -- A refused load is handed on, and no call is made.
    pub load_not_descended : (e : LoadError) → r.answer ≡ Err e → (t : Reply) → t ≡ reply_of (load_refusal e)
        → descent_reply t 0 0 workspace next ≡ descend_bytes connected P floor bytes budget workspace next
    unfolding descend_bytes
    load_not_descended e off t replied =
        ap (λ (u : Reply). descent_reply u 0 0 workspace next) replied
        ∙ off_passed _ (not_descended workspace next) (load_refusal e) (load_refused e)
        ∙ ap (λ (a : Result Unit LoadError). descend_loaded connected P floor (by a) budget workspace next) (sym off)
        ∙ ap (λ (l : Loading). descend_loaded connected P floor l budget workspace next) loads
