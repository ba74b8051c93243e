-- A list of descent calls in two parts: the second goes on where the first stops.
use mathlib.Core.Path.{◌≡◌, refl, ap, ◌∙◌}
use mathlib.Core.Bool.{Bool}
use mathlib.Core.List.{List, [], ◌∷◌, ◌++◌}
use Prim.Native.Nat.{ℕ, ◌≤◌}
use native.Mathlib.Nat.{le_refl}
use native.Mathlib.Omega.{arith}
use Rattle.problem.specs.Problem.{Problem}
use Rattle.search.specs.Calls.{Call, CallIn, up_to}
use Rattle.descend.specs.Calls.{called, Left, left_by, left_from, at_start, left_after, results_from, results, result_of}

module _ (connected : Bool) (P : Problem) (floor : ℕ) where
  -- Two lists of calls in turn: the second goes on from what the first left.
  pub left_from_append : (a : Left) (first second : List Call)
      → left_from connected P floor a (first ++ second) ≡ left_from connected P floor (left_from connected P floor a first) second
  unfolding left_from
  left_from_append a [] second = refl
  left_from_append a (call ∷ first) second = left_from_append (left_by connected P floor a call) first second

  -- One call more.
  pub left_after_up_to : {calls : List Call} (x : CallIn calls) → left_after connected P floor (up_to x) ≡ left_by connected P floor (left_after connected P floor x.before) x.call
  unfolding left_from
  left_after_up_to x = left_from_append (at_start P floor) x.before (x.call ∷ [])

  -- What is spent never falls.
  pub left_from_spent : (a : Left) (calls : List Call) → a.spent ≤ (left_from connected P floor a calls).spent
  unfolding left_from
  left_from_spent a [] = le_refl _
  left_from_spent a (call ∷ later) = omega (arith, left_from_spent (left_by connected P floor a call) later)

  -- The results of two lists in turn.
  results_from_append : (a : Left) (first second : List Call)
      → results_from connected P floor a.checkpoint (first ++ second)
      ≡ results_from connected P floor a.checkpoint first ++ results_from connected P floor (left_from connected P floor a first).checkpoint second
  unfolding results_from left_from
  results_from_append a [] second = refl
  results_from_append a (call ∷ first) second =
      ap (◌∷◌ (called connected P floor a.checkpoint call)) (results_from_append (left_by connected P floor a call) first second)

  -- What one call of a list gives stands at its place among the results.
  pub descent_result_at : {calls : List Call} (x : CallIn calls)
      → results connected P floor calls
      ≡ results connected P floor x.before ++ (result_of connected P floor x ∷ results_from connected P floor (result_of connected P floor x).checkpoint x.later)
  unfolding results_from
  descent_result_at x =
      ap (results connected P floor) x.whole ∙ results_from_append (at_start P floor) x.before (x.call ∷ x.later)
