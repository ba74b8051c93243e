-- A descent call by its ways: accepted, or refused with what was lent as it was; one over words of its own; and a start that is refused.
use mathlib.Core.Path.{◌≡◌, refl, sym, ap, subst, ◌∙◌}
use mathlib.Core.Bool.{Bool, cond, true≢false}
use mathlib.Core.List.{List}
use Prim.Native.Nat.{ℕ, ◌≤◌}
use lib.Dec.{leb}
use lib.ListN.{length}
use Rattle.answers.specs.Answer.{Answer, passed, accepted, refused, refused_at, on_answer, when_accepted, first_refusal, is_refused, refusal_number}
use Rattle.answers.specs.Output.{write_if}
use Rattle.answers.proofs.RefusalNumbers.{RefusalNumber, Plain}
use Rattle.problem.specs.Problem.{Problem, problem_answer}
use Rattle.problem.proofs.ProblemPasses.{problem_plain}
use Rattle.search_tree.specs.Rules.{rules_of}
use Rattle.checkpoint.specs.declared.Checkpoint.{Checkpoint}
use Rattle.checkpoint.specs.Checkpoints.{fresh_checkpoint, in_shape}
use Rattle.checkpoint.specs.Checking.{checkpoint_answer}
use Rattle.search.specs.Call.{Called, words_needed, cleared, search_call}
use Rattle.checkpoint_saver.specs.Saving.{checkpoint_bytes, saving}
use Rattle.descend.specs.Descent.{fresh_at, start_of, descent_ceiling}
use Rattle.descend.specs.declared.Descended.{Descended as DescendedCode}
use Rattle.descend.specs.Call.{Started, refuse_start, start_call, Descended, descend_from, descend_call}
use Rattle.descend.specs.Answers.{descended_of}
use Rattle.replies.proofs.CallKept.{Ways, search_kept, same_call}
use Rattle.descent_replies.specs.Apart.{DescendedBy}
use Rattle.descent_replies.specs.DescentReply.{save_start}

module _ (connected : Bool) (P : Problem) (floor : ℕ) (c : Checkpoint) (budget : ℕ) where
  -- what a descent call gives, by the answer of the search call on its checkpoint
  abbrev by_search : List ℕ → Answer → Descended
  by_search workspace a =
      when_accepted a
      (λ top. descend_from connected P floor c budget workspace)
      (λ (refusal : Answer). record { answer = refusal; visits = 0; checkpoint = c; workspace = workspace })

  -- what a refused call leaves as it was; it makes no visit
  abbrev pub Unmoved : List ℕ → Descended → Type 0
  Unmoved workspace r = (r.workspace ≡ workspace) × (r.checkpoint ≡ c) × (r.visits ≡ 0)

  -- A descent call gives a ceiling and clears the words that it needs, or refuses and changes nothing.
  pub descend_kept : (workspace : List ℕ)
      → let r = descend_call connected P floor c budget workspace in
      Ways RefusalNumber ((words_needed ≤ length workspace) × (r.workspace ≡ cleared workspace)) (Unmoved workspace r) r.answer
  unfolding descend_call descend_from
  descend_kept workspace = go (search_call connected P c budget workspace).answer (search_kept connected P c budget workspace)
    where
      go : (a : Answer)
          → let q = search_call connected P c budget workspace in
          Ways RefusalNumber ((words_needed ≤ length workspace) × (q.workspace ≡ cleared workspace)) ((q.workspace ≡ workspace) × (q.checkpoint ≡ c)) a
          → let r = by_search workspace a in
          Ways RefusalNumber ((words_needed ≤ length workspace) × (r.workspace ≡ cleared workspace)) (Unmoved workspace r) r.answer
      go passed h = absurd h
      go (accepted n) h = (h.0, refl)
      go (refused n) h = (h.0, (refl, refl, refl))
      go (refused_at n at) h = (h.0, (refl, refl, refl))

  -- two calls whose workspaces both have the words needed, or both lack them, give the same answer, the same visits and the same checkpoint
  same_descent : (v w : List ℕ) → leb words_needed (length v) ≡ leb words_needed (length w)
      → let r = descend_call connected P floor c budget v in
      let q = descend_call connected P floor c budget w in
      ◌≡◌ {A = Descended} (record { answer = r.answer; visits = r.visits; checkpoint = r.checkpoint; workspace = q.workspace }) q
  unfolding descend_call descend_from
  same_descent v w e =
      subst (λ (a : Answer). Same (by_search v a) (by_search w (search_call connected P c budget w).answer))
      (sym (ap (λ (q : Called). q.answer) (same_call connected P c budget v w e)))
      (go (search_call connected P c budget w).answer)
    where
      Same : Descended → Descended → Type 0
      Same r q = ◌≡◌ {A = Descended} (record { answer = r.answer; visits = r.visits; checkpoint = r.checkpoint; workspace = q.workspace }) q

      go : (a : Answer) → Same (by_search v a) (by_search w a)
      go passed = refl
      go (accepted n) = refl
      go (refused n) = refl
      go (refused_at n at) = refl

  -- A call over other words than those lent gives what the call over the lent ones does, where both have the words needed or both lack them.
  pub descended_apart : (r : DescendedCode) (later own : List ℕ) → descended_of r later ≡ descend_call connected P floor c budget own
      → (words : ℕ) → leb words_needed (length own) ≡ leb words_needed words
      → (workspace : List ℕ) → length workspace ≡ words → DescendedBy r (descend_call connected P floor c budget workspace)
  descended_apart r later own called words test workspace count =
      let q = descend_call connected P floor c budget workspace in
      ap (λ (x : Descended). record { answer = x.answer; visits = x.visits; checkpoint = x.checkpoint; workspace = q.workspace }) called
      ∙ same_descent own workspace (test ∙ ap (leb words_needed) (sym count))

-- Where the start is refused, so is its saving, by the same number.
pub start_not_saved : (connected : Bool) (P : Problem) (floor number : ℕ) (buffer : List ℕ) → (start_call P floor).answer ≡ refused number
    → refusal_number (save_start connected P floor buffer).answer ≡ number
unfolding start_call saving checkpoint_answer
start_not_saved connected P floor number buffer = go (problem_answer P) (problem_plain P) (start_call P floor).checkpoint
  where
    start : ℕ
    start = start_of (rules_of P) floor

    by : Answer → Started
    by a =
        on_answer (record { answer = accepted (descent_ceiling (rules_of P) (fresh_at start)); checkpoint = fresh_checkpoint start })
        (refuse_start floor) (refuse_start floor) (λ n at. refuse_start floor n) a

    go : (a : Answer) → Plain a → (c : Checkpoint) → (by a).answer ≡ refused number
        → refusal_number (write_if (first_refusal a (cond (in_shape connected P c) passed (refused 14))) (checkpoint_bytes P.old.order c) buffer).answer ≡ number
    go passed h c e = absurd (true≢false (sym (ap is_refused e)))
    go (accepted n) h c e = absurd h
    go (refused n) h c e = ap refusal_number e
    go (refused_at n at) h c e = ap refusal_number e
