-- A list of calls in two parts: the second goes on where the first stops.
use mathlib.Core.Path.{◌≡◌, refl, sym, ap, ◌∙◌}
use mathlib.Core.Bool.{Bool}
use mathlib.Core.List.{List, [], ◌∷◌, ◌++◌}
use Prim.Native.Nat.{ℕ, ◌+◌}
use native.Mathlib.Nat.{add-zero, zero-add, add_assoc}
use Rattle.problem.specs.Problem.{Problem}
use Rattle.checkpoint.specs.declared.Checkpoint.{Checkpoint}
use Rattle.checkpoint.specs.Checkpoints.{fresh_checkpoint}
use Rattle.search.specs.Calls.{Call, called, results, leaves, counted, summed, CallIn, up_to, reached, result_of}

module _ (connected : Bool) (P : Problem) where
  -- The results of two lists of calls in turn: the second list starts at the checkpoint that the first leaves.
  pub results_append : (c : Checkpoint) (first second : List Call)
      → results connected P c (first ++ second) ≡ results connected P c first ++ results connected P (leaves connected P c first) second
  unfolding results leaves
  results_append c [] second = refl
  results_append c (call ∷ first) second = ap (◌∷◌ (called connected P c call)) (results_append (called connected P c call).checkpoint first second)

  -- The checkpoint that two lists of calls leave in turn.
  pub leaves_append : (c : Checkpoint) (first second : List Call) → leaves connected P c (first ++ second) ≡ leaves connected P (leaves connected P c first) second
  unfolding leaves
  leaves_append c [] second = refl
  leaves_append c (call ∷ first) second = leaves_append (called connected P c call).checkpoint first second

  -- The budgets of two lists of calls in turn add up.
  pub summed_append : (c : Checkpoint) (first second : List Call)
      → summed connected P c (first ++ second) ≡ summed connected P c first + summed connected P (leaves connected P c first) second
  unfolding summed leaves
  summed_append c [] second = sym (zero-add _)
  summed_append c (call ∷ first) second =
      ap (◌+◌ (counted (called connected P c call) call.budget)) (summed_append (called connected P c call).checkpoint first second) ∙ sym (add_assoc _ _ _)

  -- One more call counts its budget, unless it is refused.
  pub summed_snoc : (c : Checkpoint) (first : List Call) (call : Call)
      → summed connected P c (first ++ (call ∷ [])) ≡ summed connected P c first + counted (called connected P (leaves connected P c first) call) call.budget
  unfolding summed
  summed_snoc c first call = summed_append c first (call ∷ []) ∙ ap (◌+◌ (summed connected P c first)) (add-zero _)

module _ (connected : Bool) (P : Problem) (minimum : ℕ) {calls : List Call} (x : CallIn calls) where
  -- What a call of a list gives stands at its place among the list's results.
  pub result_at :
      results connected P (fresh_checkpoint minimum) calls
      ≡ results connected P (fresh_checkpoint minimum) x.before ++ (result_of connected P minimum x ∷ results connected P (result_of connected P minimum x).checkpoint x.later)
  unfolding results
  result_at =
      ap (results connected P (fresh_checkpoint minimum)) x.whole ∙ results_append connected P (fresh_checkpoint minimum) x.before (x.call ∷ x.later)

  -- The checkpoint reached by the end of a call is the one that the call leaves.
  pub reached_up_to : reached connected P minimum (up_to x) ≡ (result_of connected P minimum x).checkpoint
  unfolding leaves
  reached_up_to = leaves_append connected P (fresh_checkpoint minimum) x.before (x.call ∷ [])
