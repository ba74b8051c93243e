-- A checkpoint and the state that it stands for determine each other.
use mathlib.Core.Path.{◌≡◌, refl, ap}
use mathlib.Core.Bool.{Bool, true, false, cond}
use mathlib.Core.List.{List}
use mathlib.Core.Option.{Option, none, some}
use Prim.Native.Nat.{ℕ, ◌-◌, ◌≤◌, ◌<◌}
use native.Mathlib.Omega.{arith}
use lib.ListN.{get_or, length, take, replicate, length-take}
use lib.Seq.{take-append_seam, take_at}
use Rattle.problem.specs.Problem.{Problem}
use Rattle.search_tree.specs.Walk.{State}
use Rattle.checkpoint.specs.declared.Checkpoint.{Checkpoint}
use Rattle.checkpoint.specs.Checkpoints.{has_incumbent, incumbent_bytes, checkpoint_of, state_of, InShape}
use Rattle.checkpoint.proofs.Padding.{padded_back}

-- what a checkpoint says is held is what the state holds
incumbent_back : (n : ℕ) (held : Option (List ℕ)) → ((h : List ℕ) → held ≡ some h → length h ≡ n)
    → cond (has_incumbent held) (some (take n (incumbent_bytes held))) none ≡ held
incumbent_back n none full = refl
incumbent_back n (some h) full = ap some (take_at h (replicate (64 - length h) 0) n (full h refl))

-- The checkpoint of a state stands for that state.
pub state_of_checkpoint : (n minimum : ℕ) (s : State) → ((h : List ℕ) → s.incumbent ≡ some h → length h ≡ n)
    → state_of n (checkpoint_of minimum s) ≡ s
unfolding state_of checkpoint_of
state_of_checkpoint n minimum s full = λ i. record {
  steps = s.steps;
  path = take-append_seam s.path (replicate (64 - length s.path) 0) i;
  finished = s.finished;
  incumbent = incumbent_back n s.incumbent full i;
}

module _ (n : ℕ) (c : Checkpoint) (few : n ≤ 64) (path_long : length c.path ≡ 64) (incumbent_long : length c.incumbent ≡ 64) where
  -- A checkpoint whose unused bytes are 0 is that of the state that it stands for.
  pub checkpoint_tidy : c.depth ≤ 64 → ((i : ℕ) → c.depth ≤ i → i < 64 → get_or c.path i 0 ≡ 0)
      → ((i : ℕ) → n ≤ i → i < 64 → get_or c.incumbent i 0 ≡ 0)
      → (c.holds ≡ false → (i : ℕ) → i < 64 → get_or c.incumbent i 0 ≡ 0)
      → checkpoint_of c.minimum (state_of n c) ≡ c
  unfolding state_of checkpoint_of
  checkpoint_tidy deep path_rest incumbent_rest none_rest = λ i. record {
    minimum = c.minimum;
    steps = c.steps;
    depth = depth_same i;
    path = padded_back c.depth c.path path_long deep path_rest i;
    finished = c.finished;
    holds = holds_same c.holds i;
    incumbent = incumbent_same c.holds refl i;
  }
    where
      held : Bool → Option (List ℕ)
      held b = cond b (some (take n c.incumbent)) none

      depth_same : length (take c.depth c.path) ≡ c.depth
      depth_same = omega (arith, length-take c.depth c.path)

      holds_same : (b : Bool) → has_incumbent (held b) ≡ b
      holds_same true = refl
      holds_same false = refl

      incumbent_same : (b : Bool) → c.holds ≡ b → incumbent_bytes (held b) ≡ c.incumbent
      incumbent_same true e = padded_back n c.incumbent incumbent_long few incumbent_rest
      incumbent_same false e = padded_back 0 c.incumbent incumbent_long (omega arith) (λ i h. none_rest e i)

-- The state that a checkpoint in shape stands for has that checkpoint.
pub checkpoint_of_state : (connected : Bool) (P : Problem) (c : Checkpoint) → P.old.order ≤ 64 → length c.path ≡ 64 → length c.incumbent ≡ 64
    → InShape connected P c → checkpoint_of c.minimum (state_of P.old.order c) ≡ c
checkpoint_of_state connected P c few path_long incumbent_long shape =
    checkpoint_tidy P.old.order c few path_long incumbent_long (omega (arith, shape.depth_max)) shape.path_rest shape.incumbent_rest
    shape.none_rest
