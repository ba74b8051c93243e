-- One call of a descent where it stands: refused with 15 or 16 as the table says, or arriving at where the descent stands after the budget's visits.
use mathlib.Core.Path.{◌≡◌, sym, ap, subst}
use mathlib.Core.Logic.{◌⊎◌}
use mathlib.Core.Bool.{Bool, true, false}
use mathlib.Core.List.{List}
use Prim.Native.Nat.{ℕ, ◌+◌, ◌^◌, ◌≤◌, ◌<◌}
use lib.ListN.{length}
use Rattle.answers.specs.Answer.{refused}
use Rattle.problem.specs.Problem.{Problem, SoundProblem}
use Rattle.search_tree.specs.Rules.{rules_of}
use Rattle.search_tree.specs.Search.{search_of}
use Rattle.search_tree.specs.Walk.{State, after}
use Rattle.checkpoint.specs.declared.Checkpoint.{Checkpoint}
use Rattle.checkpoint.specs.Checkpoints.{checkpoint_of}
use Rattle.checkpoint.proofs.StateShape.{walk_state}
use Rattle.search.specs.Call.{words_needed, search_call}
use Rattle.search.proofs.WalkCall as WalkCall
use Rattle.search.proofs.WalkCall.{walk_at, walk_course}
use Rattle.descend.specs.Descent.{Descent, descents, made}
use Rattle.descend.specs.Call.{Descended, standing, arrive, descend_from, descend_call}
use Rattle.descend.specs.DescentProperty.{checkpoint_at}
use Rattle.descend.proofs.Standing.{Walks}

-- a refused call: nothing changes
abbrev pub stopped : Checkpoint → List ℕ → ℕ → Descended
stopped c workspace number = record { answer = refused number; visits = 0; checkpoint = c; workspace = workspace }

-- the three ways that a call on the checkpoint of a descent can go
pub data Course (connected : Bool) (P : Problem) (floor : ℕ) (d : Descent) (budget : ℕ) (workspace : List ℕ) (r : Descended) : Type 0 where
  few : length workspace < words_needed → r ≡ stopped (checkpoint_at d) workspace 15 → Course connected P floor d budget workspace r
  full : words_needed ≤ length workspace → (checkpoint_at d).finished ≡ false → 2 ^ 64 ≤ (checkpoint_at d).steps + budget
      → r ≡ stopped (checkpoint_at d) workspace 16 → Course connected P floor d budget workspace r
  gone : words_needed ≤ length workspace → ((checkpoint_at d).finished ≡ true) ⊎ ((checkpoint_at d).steps + budget < 2 ^ 64)
      → r ≡ arrive (rules_of P) workspace (made (search_of connected P) floor budget d) (descents (search_of connected P) floor budget d)
      → Course connected P floor d budget workspace r

module _ (connected : Bool) (P : Problem) (sound : SoundProblem P) (floor budget : ℕ) (workspace : List ℕ) where
  -- where a descent stands by the checkpoint of a walk
  standing_walk : (minimum k : ℕ)
      → standing P.old.order (walk_at connected P minimum k) ≡ record { minimum = minimum; state = after (search_of connected P) minimum k }
  unfolding checkpoint_of
  standing_walk minimum k = ap (λ (s : State). record { minimum = minimum; state = s }) (walk_state connected P sound minimum k)

  -- in a walk from some minimum
  course_walk : (minimum k : ℕ)
      → let d : Descent = record { minimum = minimum; state = after (search_of connected P) minimum k } in
      Course connected P floor d budget workspace (descend_call connected P floor (checkpoint_at d) budget workspace)
  unfolding descend_call descend_from
  course_walk minimum k = go (walk_course connected P sound minimum k budget workspace)
    where
      d : Descent
      d = record { minimum = minimum; state = after (search_of connected P) minimum k }

      arriving : Descent → Descended
      arriving e = arrive (rules_of P) workspace (made (search_of connected P) floor budget e) (descents (search_of connected P) floor budget e)

      go : WalkCall.Course connected P minimum k budget workspace (search_call connected P (walk_at connected P minimum k) budget workspace)
          → Course connected P floor d budget workspace (descend_call connected P floor (walk_at connected P minimum k) budget workspace)
      go (WalkCall.few l e) = few l (rw e)
      go (WalkCall.full l f m e) = full l f m (rw e)
      go (WalkCall.done l fits e) = gone l fits (rw e (ap arriving (standing_walk minimum k)))

  -- A call where the descent stands goes one of the three ways.
  pub descent_course : {d : Descent} → Walks connected P sound floor d
      → Course connected P floor d budget workspace (descend_call connected P floor (checkpoint_at d) budget workspace)
  descent_course {d} walks =
      subst
      (λ (s : State).
      let e : Descent = record { minimum = d.minimum; state = s } in
      Course connected P floor e budget workspace (descend_call connected P floor (checkpoint_at e) budget workspace))
      (sym walks.walk) (course_walk d.minimum walks.visits)
