-- What a search call and a reading out from checkpoint bytes return, arm by arm of the answers that the code matches on.
use mathlib.Core.Path.{◌≡◌, refl, sym, ap, subst, ◌∙◌}
use mathlib.Core.Bool.{Bool, cond, true, true≢false}
use mathlib.Core.List.{List}
use Prim.Native.Nat.{ℕ, ◌≤◌, ◌<◌}
use native.Mathlib.Omega.{arith}
use Rattle.std.specs.Prelude.{Result, Ok, Err}
use Rattle.std.specs.Result.{result_unwrap_or}
use lib.ListN.{length, take, replicate}
use lib.Seq.{length-take-le}
use borrow.Author.Tests.{le-leb, lt-leb}
use Rattle.answers.specs.Answer.{Answer, passed, accepted, refused, refused_at, is_refused, value_of, when_accepted}
use Rattle.answers.specs.Output.{Writing, overwrite}
use Rattle.answers.proofs.RefusalNumbers.{RefusalNumber}
use Rattle.problem.specs.Problem.{Problem}
use Rattle.mapping.specs.Common.{size}
use Rattle.checkpoint.specs.declared.Checkpoint.{Checkpoint}
use Rattle.search.specs.declared.Searched.{Searched}
use Rattle.search.specs.declared.SearchError.{SearchError}
use Rattle.search.specs.declared.SearchError.TheVariants.{Shape, FewWords, ManySteps}
use Rattle.search.proofs.SearchErrors.{error_refused}
use Rattle.search.specs.Call.{Called, words_needed, cleared, search_call}
use Rattle.search.specs.Answers.{search_refusal, search_answer, called_of}
use Rattle.checkpoint_saver.specs.declared.SaveError.{SaveError}
use Rattle.checkpoint_loader.specs.declared.Loaded.{Loaded}
use Rattle.checkpoint_loader.specs.declared.LoadError.{LoadError}
use Rattle.checkpoint_saver.specs.Answers.{save_refusal, save_answer}
use Rattle.checkpoint_loader.specs.Answers.{load_answer, load_refusal}
use Rattle.checkpoint_saver.specs.Saving.{state_byte, saving_of, saving}
use Rattle.checkpoint_loader.specs.Loading.{Loading, loading_of, loading}
use Rattle.checkpoint_saver.proofs.SavedLength.{incumbent_few}
use Rattle.checkpoint_loader.proofs.LoadAccepts.{load_in_shape}
use Rattle.replies.specs.declared.Reply.{Reply}
use Rattle.replies.specs.declared.ResumeReply.{ResumeReply}
use Rattle.replies.specs.Reply.{reply, reply_of, too_short}
use Rattle.replies.specs.Apart.{FoundBy, used_cleared}
use Rattle.replies.specs.Resumed.{Resumed, resumed, not_resumed, save_on, search_from, load_on, resume_from}
use Rattle.replies.specs.ReadOut.{ReadOut, read_out, not_read_out, held_in, read_checkpoint, read_loaded, read_bytes}
use Rattle.replies.proofs.Refusals.{save_refused, load_refused, off_accepted, off_passed}
use Rattle.replies.proofs.CallKept.{Ways, Positive, save_kept, search_kept, enough_cleared}

-- A refused save leaves the buffer as it was.
pub unsaved : (connected : Bool) (P : Problem) (c : Checkpoint) (next : List ℕ) (e : SaveError) (after : List ℕ)
    → saving_of (Err e) after ≡ saving connected P c next → after ≡ next
unsaved connected P c next e after saves =
    go (save_refusal e) (save_refused e) (subst (λ (w : Writing). Ways Positive (Unit {0}) (w.buffer ≡ next) w.answer) (sym saves) (save_kept connected P c next))
  where
    go : (a : Answer) → is_refused a ≡ true → Ways Positive (Unit {0}) (after ≡ next) a → after ≡ next
    go passed r h = absurd h
    go (accepted n) r h = absurd (true≢false (sym r))
    go (refused n) r h = h.1
    go (refused_at n at) r h = h.1

module _ (connected : Bool) (P : Problem) (c : Checkpoint) (budget : ℕ) (workspace next : List ℕ)
    (r : Searched) (called : FoundBy r (search_call connected P c budget workspace))
  where
    -- the workspace that the call leaves
    abbrev left : List ℕ
    left = (search_call connected P c budget workspace).workspace

    -- the call with this answer
    abbrev with_answer : Result ℕ SearchError → Called
    with_answer a = called_of (record { answer = a; checkpoint = r.checkpoint }) left

    module _ (ceiling : ℕ) (arm : r.answer ≡ Ok ceiling) where
      -- A call that gives a ceiling was lent the words that it needs, and clears them.
      accepted_words : (words_needed ≤ length workspace) × (left ≡ cleared workspace)
      accepted_words =
          let e : (search_call connected P c budget workspace).answer ≡ accepted ceiling = sym (ap (λ (q : Called). q.answer) called) ∙ ap search_answer arm in
          subst
          (λ (a : Answer). Ways RefusalNumber ((words_needed ≤ length workspace) × (left ≡ cleared workspace))
          ((left ≡ workspace) × ((search_call connected P c budget workspace).checkpoint ≡ c)) a) e
          (search_kept connected P c budget workspace)

      module _ (s : Result ℕ SaveError) (after : List ℕ) (saves : saving_of s after ≡ saving connected P r.checkpoint next) where
        -- what is saved of the call, by the answer of the save
        abbrev by_save : Result ℕ SaveError → Resumed
        by_save s =
            when_accepted (save_answer s) (λ (count : ℕ). resumed (reply 0 count) ceiling left after) (not_resumed workspace next)

        saved_call : by_save s ≡ search_from connected P c budget workspace next
        unfolding search_from
        saved_call =
            ap (λ (w : Writing). when_accepted w.answer (λ count. resumed (reply 0 count) ceiling left w.buffer) (not_resumed workspace next)) saves
            ∙ ap (λ (a : Result ℕ SearchError). save_on connected P (with_answer a) workspace next) (sym arm)
            ∙ ap (λ (q : Called). save_on connected P q workspace next) called

        -- Saved, its count and ceiling are returned, and the lent words that it uses are cleared.
        pub search_saved : (count : ℕ) → s ≡ Ok count → (words : List ℕ) → words ≡ used_cleared workspace
            → resumed (reply 0 count) ceiling words after ≡ search_from connected P c budget workspace next
        search_saved count written words clear =
            ap (λ (w : List ℕ). resumed (reply 0 count) ceiling w after) (clear ∙ enough_cleared workspace accepted_words.0 ∙ sym accepted_words.1)
            ∙ ap by_save (sym written)
            ∙ saved_call

        -- Not saved, the refusal is handed on, and both lent buffers are as they were.
        pub search_unsaved : (e : SaveError) → s ≡ Err e → (t : Reply) → t ≡ reply_of (save_refusal e)
            → resumed t 0 workspace after ≡ search_from connected P c budget workspace next
        search_unsaved e off t replied =
            ap (λ (b : List ℕ). resumed t 0 workspace b) (unsaved connected P r.checkpoint next e after (ap (λ (x : Result ℕ SaveError). saving_of x after) (sym off) ∙ saves))
            ∙ ap (λ (u : Reply). resumed u 0 workspace next) replied
            ∙ off_accepted _ (not_resumed workspace next) (save_refusal e) (save_refused e)
            ∙ ap by_save (sym off)
            ∙ saved_call

    -- A call that is refused is handed on.
    pub search_refused : (e : SearchError) → r.answer ≡ Err e → (t : Reply) → t ≡ reply_of (search_refusal e)
        → resumed t 0 workspace next ≡ search_from connected P c budget workspace next
    unfolding search_from
    search_refused e arm t replied =
        ap (λ (u : Reply). resumed u 0 workspace next) replied
        ∙ off_accepted _ (not_resumed workspace next) (search_refusal e) (error_refused e)
        ∙ ap (λ (a : Result ℕ SearchError). save_on connected P (with_answer a) workspace next) (sym arm)
        ∙ ap (λ (q : Called). save_on connected P q workspace next) called

module _ (connected : Bool) (P : Problem) (bytes : List ℕ) (r : Loaded) (loads : loading_of r ≡ loading connected P bytes) where
  -- the load, with this answer
  abbrev by : Result Unit LoadError → Loading
  by a = loading_of (record { answer = a; checkpoint = r.checkpoint })

  module _ (arm : r.answer ≡ Ok tt) where
    -- A checkpoint that is loaded is searched on.
    pub load_searched : (budget : ℕ) (workspace next : List ℕ) (q : ResumeReply) (words after : List ℕ)
        → resumed q.reply q.ceiling words after ≡ search_from connected P r.checkpoint budget workspace next
        → resumed q.reply q.ceiling words after ≡ resume_from connected P bytes budget workspace next
    unfolding resume_from
    load_searched budget workspace next q words after searched =
        searched
        ∙ ap (λ (a : Result Unit LoadError). load_on connected P (by a) budget workspace next) (sym arm)
        ∙ ap (λ (l : Loading). load_on connected P l budget workspace next) loads

    -- It is read out.
    pub load_read : (mapping : List ℕ) (x : ReadOut) → x ≡ read_checkpoint connected P r.checkpoint mapping → x ≡ read_bytes connected P bytes mapping
    unfolding read_bytes
    load_read mapping x out =
        out
        ∙ ap (λ (a : Result Unit LoadError). read_loaded connected P (by a) mapping) (sym arm)
        ∙ ap (λ (l : Loading). read_loaded connected P l mapping) loads

    -- It is for an old graph of at most 64 vertices.
    pub load_order : P.old.order ≤ 64
    load_order = (load_in_shape connected P bytes (ap (λ (l : Loading). l.answer) (sym loads) ∙ ap load_answer arm)).0.old_sound.order_max

  module _ (e : LoadError) (arm : r.answer ≡ Err e) (t : Reply) (replied : t ≡ reply_of (load_refusal e)) where
    -- A refused load is handed on, and nothing is searched.
    pub load_not_searched : (budget : ℕ) (workspace next : List ℕ) → resumed t 0 workspace next ≡ resume_from connected P bytes budget workspace next
    unfolding resume_from
    load_not_searched budget workspace next =
        ap (λ (u : Reply). resumed u 0 workspace next) replied
        ∙ off_passed _ (not_resumed workspace next) (load_refusal e) (load_refused e)
        ∙ ap (λ (a : Result Unit LoadError). load_on connected P (by a) budget workspace next) (sym arm)
        ∙ ap (λ (l : Loading). load_on connected P l budget workspace next) loads

    -- Nor is anything read out.
    pub load_not_read : (mapping : List ℕ) → not_read_out mapping t ≡ read_bytes connected P bytes mapping
    unfolding read_bytes
    load_not_read mapping =
        ap (not_read_out mapping) replied
        ∙ off_passed _ (λ (refusal : Answer). not_read_out mapping (reply_of refusal)) (load_refusal e) (load_refused e)
        ∙ ap (λ (a : Result Unit LoadError). read_loaded connected P (by a) mapping) (sym arm)
        ∙ ap (λ (l : Loading). read_loaded connected P l mapping) loads

-- as many entries as are held
held_length : (P : Problem) (c : Checkpoint) (entries : ℕ) → entries ≡ cond c.holds P.old.order 0 → P.old.order ≤ 64
    → length c.incumbent ≡ 64 → length (held_in P c) ≡ entries
held_length P c entries e few long = length-take-le _ _ (omega (arith, incumbent_few P.old.order c.holds)) ∙ sym e

module _ (connected : Bool) (P : Problem) (c : Checkpoint) (mapping : List ℕ) (entries : ℕ) (held : entries ≡ cond c.holds P.old.order 0)
    (few : P.old.order ≤ 64) (long : length c.incumbent ≡ 64)
  where
    -- A held mapping that does not fit is refused.
    pub read_short : length mapping < entries → not_read_out mapping too_short ≡ read_checkpoint connected P c mapping
    unfolding read_checkpoint
    read_short short =
        let e : length mapping < length (held_in P c) = omega (arith, held_length P c entries held few long) in
        simp (lt-leb _ _ e)

    -- What is read out is a checkpoint's, number by number.
    pub read_numbers : entries ≤ length mapping → (state count ceiling : ℕ) (after : List ℕ) (r : Searched) (words : List ℕ)
        → state ≡ state_byte c.finished c.holds → count ≡ size (take entries c.incumbent)
        → after ≡ overwrite (take entries c.incumbent) mapping
        → called_of r words ≡ search_call connected P c 0 (replicate words_needed 0) → ceiling ≡ value_of (search_answer r.answer)
        → read_out (reply 0 state) c.steps count ceiling after ≡ read_checkpoint connected P c mapping
    unfolding read_checkpoint
    read_numbers room state count ceiling after r words p q s called t =
        let e : length (held_in P c) ≤ length mapping = omega (arith, held_length P c entries held few long) in
        rw (le-leb _ _ e, p, q, s, t, held, ← called)

-- The ceiling, and 0 of a refusal.
pub search_value : (r : Result ℕ SearchError) → result_unwrap_or r 0 ≡ value_of (search_answer r)
search_value (Ok n) = refl
search_value (Err (Shape e)) = refl
search_value (Err FewWords) = refl
search_value (Err ManySteps) = refl
