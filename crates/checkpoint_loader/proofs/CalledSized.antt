-- A search call keeps the shape of a checkpoint, and what the code's types say of it: two arrays of 64 bytes, and steps of 64 bits.
use mathlib.Core.Path.{◌≡◌, refl}
use mathlib.Core.Bool.{Bool, true, false, ◌||◌}
use mathlib.Core.List.{List, []}
use mathlib.Core.Option.{Option, none, some, none-ne-some}
use Prim.Native.Nat.{ℕ, zero, suc, ◌+◌, ◌^◌, ◌≤◌, ◌<◌}
use native.Mathlib.Omega.{arith}
use lib.Dec.{ltb}
use lib.ListN.{length}
use borrow.Author.Tests.{ltb-true}
use Rattle.problem.specs.Problem.{Problem, SoundProblem}
use Rattle.search_tree.specs.Search.{Search, search_of}
use Rattle.search_tree.specs.Walk.{State, visit}
use Rattle.search_tree.specs.Shape.{Shape}
use Rattle.search_tree.proofs.Steps.{visit_steps, visit_finished}
use Rattle.checkpoint.specs.declared.Checkpoint.{Checkpoint}
use Rattle.checkpoint.specs.Checkpoints.{incumbent_bytes, checkpoint_of, fresh_checkpoint, state_of, InShape}
use Rattle.search.specs.Call.{visits, advance, count_fits}
use Rattle.search.specs.Calls.{Call, called}
use Rattle.checkpoint.proofs.Padding.{padded_length}
use Rattle.checkpoint.proofs.StateShape.{state_in_shape}
use Rattle.search.proofs.CallRefusals.{CallWays, refuses, accepts, call_ways}
use Rattle.search.proofs.ShapeKept.{visits_shape, advance_in_shape}
use Rattle.search.proofs.FinishedCall.{visits_finished}
use Rattle.checkpoint_loader.specs.Between.{Sized}

-- A visit makes one step at most.
pub visit_step_max : (S : Search) (minimum : ℕ) (s : State) → (visit S minimum s).steps ≤ s.steps + 1
visit_step_max S minimum s = go s.finished refl
  where
    go : (b : Bool) → s.finished ≡ b → (visit S minimum s).steps ≤ s.steps + 1
    go true e = rw (visit_finished S minimum s e) (omega arith)
    go false e = omega (arith, visit_steps S minimum s e)

-- k visits make k at most
visits_step_max : (S : Search) (minimum k : ℕ) (s : State) → (visits S minimum k s).steps ≤ s.steps + k
unfolding visits
visits_step_max S minimum zero s = omega arith
visits_step_max S minimum (suc k) s = omega (arith, visit_step_max S minimum (visits S minimum k s), visits_step_max S minimum k s)

-- what is held fills 64 bytes
held_long : (held : Option (List ℕ)) → ((h : List ℕ) → held ≡ some h → length h ≤ 64) → length (incumbent_bytes held) ≡ 64
held_long none few = padded_length [] (omega arith)
held_long (some h) few = padded_length h (few h refl)

module _ (minimum : ℕ) where
  -- A state with lists of at most 64 entries and steps of 64 bits has such a checkpoint.
  pub checkpoint_sized : (s : State) → length s.path ≤ 64 → ((h : List ℕ) → s.incumbent ≡ some h → length h ≤ 64) → s.steps < 2 ^ 64
      → Sized (checkpoint_of minimum s)
  unfolding checkpoint_of
  checkpoint_sized s few few-held fits = record {
    path_long = padded_length s.path few;
    incumbent_long = held_long s.incumbent few-held;
    steps_fit = fits;
  }

  -- So has a fresh search.
  pub fresh_sized : Sized (fresh_checkpoint minimum)
  fresh_sized = checkpoint_sized _ (omega arith) (λ h e. absurd (none-ne-some h e)) (omega arith)

module _ (connected : Bool) (P : Problem) (c : Checkpoint) (sized : Sized c) (call : Call) where
  -- the steps of an accepted call
  steps_fit : (finished : Bool) → c.finished ≡ finished → (finished || ltb (c.steps + call.budget) (2 ^ 64)) ≡ true
      → (visits (search_of connected P) c.minimum call.budget (state_of P.old.order c)).steps < 2 ^ 64
  unfolding state_of
  steps_fit true end fits =
      rw (visits_finished (search_of connected P) c.minimum call.budget (state_of P.old.order c) end) sized.steps_fit
  steps_fit false busy fits =
      let made = visits_step_max (search_of connected P) c.minimum call.budget (state_of P.old.order c) in
      omega (arith, ltb-true (c.steps + call.budget) (2 ^ 64) fits)

  -- the checkpoint that it leaves
  advanced_sized : SoundProblem P → InShape connected P c → count_fits c call.budget ≡ true
      → Sized (advance connected P c call.budget call.workspace).checkpoint
  unfolding advance
  advanced_sized sound shape fits =
      checkpoint_sized c.minimum s (omega (arith, few, in_shape_lem.reached.depth)) (λ h e. omega (arith, few, (in_shape_lem.incumbent_shape h e).full))
      (steps_fit c.finished refl fits)
    where
      s : State
      s = visits (search_of connected P) c.minimum call.budget (state_of P.old.order c)

      few : P.old.order ≤ 64
      few = sound.old_sound.order_max

      in_shape_lem : Shape (search_of connected P) c.minimum s
      in_shape_lem = visits_shape _ _ call.budget _ (state_in_shape connected P sound c sized.path_long shape)

  -- A call leaves such a checkpoint.
  pub called_sized : Sized (called connected P c call).checkpoint
  called_sized = go (call_ways connected P c call.budget call.workspace)
    where
      go : CallWays connected P c call.budget call.workspace → Sized (called connected P c call).checkpoint
      go (refuses number e) = rw e sized
      go (accepts t) = rw t.advances (advanced_sized t.sound t.shape t.counts)

  -- It is in shape again.
  pub called_in_shape : InShape connected P c → InShape connected P (called connected P c call).checkpoint
  called_in_shape in_shape_lem = go (call_ways connected P c call.budget call.workspace)
    where
      go : CallWays connected P c call.budget call.workspace → InShape connected P (called connected P c call).checkpoint
      go (refuses number e) = rw e in_shape_lem
      go (accepts t) = rw t.advances (advance_in_shape connected P t.sound c sized.path_long t.shape call.budget call.workspace)
