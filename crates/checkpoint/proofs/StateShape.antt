-- The checkpoint of a state in shape is in shape, and the state that a checkpoint in shape stands for; so the walk's checkpoints are in shape.
use mathlib.Core.Path.{◌≡◌, refl, sym, ap}
use mathlib.Core.Logic.{◌⊎◌}
use mathlib.Core.Bool.{Bool, true, false, cond, false≢true}
use mathlib.Core.List.{List, [], ◌∷◌}
use mathlib.Core.Option.{Option, none, some, some-injective, none-ne-some}
use Prim.Native.Nat.{ℕ, ◌-◌, ◌≤◌, ◌<◌}
use native.Mathlib.Omega.{arith}
use lib.ListN.{length, get_or, take, replicate, length-take, get_or-append}
use lib.Seq.{take_at, take-append-le, get_or-take, take-take}
use Rattle.problem.specs.Problem.{Problem, SoundProblem}
use Rattle.mapping.specs.Common.{unmapped, size}
use Rattle.search_tree.specs.Rules.{rules_of}
use Rattle.search_tree.specs.Search.{search_of, Good}
use Rattle.search_tree.specs.Node.{candidate}
use Rattle.search_tree.specs.Walk.{State, after}
use Rattle.search_tree.specs.Shape.{IncumbentShape, Shape}
use Rattle.search_tree.proofs.Shape.{after_shape}
use Rattle.search_tree.proofs.WalkTheorems.{incumbent_shape_good}
use Rattle.checkpoint.specs.declared.Checkpoint.{Checkpoint}
use Rattle.checkpoint.specs.Checkpoints.{padded, has_incumbent, incumbent_bytes, checkpoint_of, state_of, InShape, in_shape}
use Rattle.checkpoint.proofs.Padding.{padded_rest}
use Rattle.checkpoint.proofs.ShapeTest.{shape_test}
use Rattle.checkpoint.proofs.CheckpointState.{state_of_checkpoint}

length_zero : (l : List ℕ) → length l ≡ 0 → l ≡ []
length_zero [] e = refl
length_zero (a ∷ l) e = absurd (omega arith)

module _ (connected : Bool) (P : Problem) (sound : SoundProblem P) (minimum : ℕ) where
  -- The checkpoint of a state in shape is in shape.
  pub checkpoint_in_shape : (s : State) → Shape (search_of connected P) minimum s → InShape connected P (checkpoint_of minimum s)
  unfolding checkpoint_of
  checkpoint_in_shape s shape = record {
    depth_max = shape.reached.depth;
    entry = entry;
    incumbent_good = λ e. (held s.incumbent refl e).0;
    incumbent_reaches = λ e. (held s.incumbent refl e).1;
    finished_root = λ e. ap length (shape.finished_root e);
    unmoved = λ e. let start = shape.fresh_root.0 e in (start.0, ap length start.1, ap has_incumbent (shape.fresh_none e));
    moved = λ f root. shape.fresh_root.1 (f, length_zero s.path root);
    path_rest = padded_rest s.path;
    incumbent_rest = incumbent_rest s.incumbent refl;
    none_rest = none_rest s.incumbent;
  }
    where
      entry : (k : ℕ) → k < length s.path
          → (get_or (padded s.path) k 0 ≡ unmapped)
          ⊎ (candidate (rules_of P) (take k (padded s.path)) k (get_or (padded s.path) k 0) ≡ true)
      entry k h =
          let tail : List ℕ = replicate (64 - length s.path) 0 in
          rw (get_or-append s.path tail 0 k h, take-append-le k s.path tail (omega arith)) (shape.reached.entry k h)

      held : (o : Option (List ℕ)) → s.incumbent ≡ o → has_incumbent o ≡ true
          → Good connected P (take P.old.order (incumbent_bytes o)) × (minimum ≤ size (take P.old.order (incumbent_bytes o)))
      held none e f = absurd (false≢true f)
      held (some h) e f =
          let good = shape.incumbent_shape h e in
          rw (take_at h (replicate (64 - length h) 0) P.old.order good.full) ((incumbent_shape_good connected P sound minimum h).0 good)

      incumbent_rest : (o : Option (List ℕ)) → s.incumbent ≡ o → (i : ℕ) → P.old.order ≤ i → i < 64 → get_or (incumbent_bytes o) i 0 ≡ 0
      incumbent_rest none e i h = padded_rest [] i (omega arith)
      incumbent_rest (some h) e i le = padded_rest h i (omega (arith, (shape.incumbent_shape h e).full))

      none_rest : (o : Option (List ℕ)) → has_incumbent o ≡ false → (i : ℕ) → i < 64 → get_or (incumbent_bytes o) i 0 ≡ 0
      none_rest none e i = padded_rest [] i (omega arith)
      none_rest (some h) e i = absurd (false≢true (sym e))

  module _ (k : ℕ) where
    -- The walk's checkpoint is in shape after any number of visits: no call on it gets 14.
    pub walk_in_shape : in_shape connected P (checkpoint_of minimum (after (search_of connected P) minimum k)) ≡ true
    walk_in_shape = (shape_test P sound connected _).1 (checkpoint_in_shape _ (after_shape (search_of connected P) minimum k))

    -- The walk's checkpoint stands for the walk's state.
    pub walk_state : state_of P.old.order (checkpoint_of minimum (after (search_of connected P) minimum k)) ≡ after (search_of connected P) minimum k
    walk_state =
        state_of_checkpoint P.old.order minimum _ (λ h e. ((after_shape (search_of connected P) minimum k).incumbent_shape h e).full)

module _ (connected : Bool) (P : Problem) (sound : SoundProblem P) (c : Checkpoint) (path_long : length c.path ≡ 64) (shape : InShape connected P c) where
  -- The state that a checkpoint in shape stands for is in shape.
  pub state_in_shape : Shape (search_of connected P) c.minimum (state_of P.old.order c)
  unfolding state_of
  state_in_shape = record {
    reached = record { depth = omega (arith, depth, shape.depth_max); entry = entry };
    incumbent_shape = held c.holds refl;
    finished_root = λ e. rw (shape.finished_root e);
    fresh_root = (
      λ e. let start = shape.unmoved e in (start.0, rw start.1),
      λ start. shape.moved start.0 (omega (arith, depth, ap length start.1)),
    );
    fresh_none = λ e. rw (shape.unmoved e).2;
  }
    where
      depth : length (take c.depth c.path) ≡ c.depth
      depth = omega (arith, length-take c.depth c.path, shape.depth_max, sound.old_sound.order_max)

      entry : (k : ℕ) → k < length (take c.depth c.path)
          → (get_or (take c.depth c.path) k 0 ≡ unmapped)
          ⊎ (candidate (rules_of P) (take k (take c.depth c.path)) k (get_or (take c.depth c.path) k 0) ≡ true)
      entry k h =
          let early : k < c.depth = omega (arith, depth) in
          rw (get_or-take c.depth c.path k 0 early, take-take k c.depth c.path (omega arith)) (shape.entry k early)

      held : (b : Bool) → c.holds ≡ b → (h : List ℕ) → cond b (some (take P.old.order c.incumbent)) none ≡ some h
          → IncumbentShape (search_of connected P) c.minimum h
      held true e h q =
          rw (← some-injective _ h q) ((incumbent_shape_good connected P sound c.minimum _).1 (shape.incumbent_good e, shape.incumbent_reaches e))
      held false e h q = absurd (none-ne-some h q)
