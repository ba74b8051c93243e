-- The mission's third property for lists of calls with the checkpoint saved and loaded between any two of them.
use mathlib.Core.Bool.{Bool}
use mathlib.Core.Path.{◌≡◌, refl, ap, ◌∙◌}
use mathlib.Core.List.{List, [], ◌∷◌}
use Prim.Native.Nat.{ℕ}
use Rattle.problem.specs.Problem.{Problem, SoundProblem}
use Rattle.search_tree.specs.Search.{search_of}
use Rattle.search_tree.specs.Walk.{IsTotal}
use Rattle.checkpoint.specs.declared.Checkpoint.{Checkpoint}
use Rattle.checkpoint.specs.Checkpoints.{fresh_checkpoint}
use Rattle.search.specs.Calls.{called, results, leaves}
use Rattle.search.specs.ThirdProperty.{ThirdProperty}
use Rattle.search.proofs.ThirdProperty.{third_property, third_property_total}
use Rattle.checkpoint_loader.specs.Between.{Sized, SavedCall, calls_of, saved_results, saved_leaves, SameAsCalls}
use Rattle.checkpoint_loader.proofs.SaveLoad.{reloaded_same}
use Rattle.checkpoint_loader.proofs.CalledSized.{fresh_sized, called_sized}

module _ (connected : Bool) (P : Problem) where
  -- So it is from any checkpoint that the code can have, for any problem.
  pub between_from : (c : Checkpoint) → Sized c → (calls : List SavedCall) → SameAsCalls connected P c calls
  unfolding saved_results saved_leaves results leaves calls_of
  between_from c sized [] = (refl, refl)
  between_from c sized (x ∷ later) =
      let first = called connected P c x.call in
      let long = called_sized connected P c sized x.call in
      let back = reloaded_same connected P first.checkpoint long x.buffer in
      let rest = between_from first.checkpoint long later in (
        ap (λ (d : Checkpoint). first ∷ saved_results connected P d later) back ∙ ap (◌∷◌ first) rest.0,
        ap (λ (d : Checkpoint). saved_leaves connected P d later) back ∙ rest.1,
      )

  -- And from a fresh one.
  pub between : (minimum : ℕ) (calls : List SavedCall) → SameAsCalls connected P (fresh_checkpoint minimum) calls
  between minimum = between_from (fresh_checkpoint minimum) (fresh_sized minimum)

-- The third property holds of the calls, and with the checkpoint saved and loaded between them nothing is different.
pub third_property_between : (connected : Bool) (P : Problem) → SoundProblem P → (minimum t : ℕ) → IsTotal (search_of connected P) minimum t
    → (calls : List SavedCall) → ThirdProperty connected P minimum t (calls_of calls) × SameAsCalls connected P (fresh_checkpoint minimum) calls
third_property_between connected P sound minimum t total calls =
    (third_property connected P sound minimum t total (calls_of calls), between connected P minimum calls)

-- The walk has one total, and with it this holds of every list of calls.
pub third_property_between_total : (connected : Bool) (P : Problem) → SoundProblem P → (minimum : ℕ)
    → (t : ℕ) × IsTotal (search_of connected P) minimum t × ((u : ℕ) → IsTotal (search_of connected P) minimum u → u ≡ t)
    × ((calls : List SavedCall) → ThirdProperty connected P minimum t (calls_of calls) × SameAsCalls connected P (fresh_checkpoint minimum) calls)
third_property_between_total connected P sound minimum =
    let (t, total, unique, property) = third_property_total connected P sound minimum in
    (t, total, unique, third_property_between connected P sound minimum t total)
