-- `search::walk::start` meets its contract: the words of the path are rebuilt, and the pairs, the cutoff and the bound are those of
-- the checkpoint's node (`ResumedWalk`, `AdvancedCall`). Assumes nothing.
use mathlib.Core.Path.{◌≡◌, refl, ap, ◌∙◌}
use mathlib.Core.Logic.{inl, inr}
use mathlib.Core.List.{List}
use Prim.Native.Nat.{ℕ, ◌+◌, ◌≤◌}
use native.Mathlib.Omega.{arith}
use lib.ListN.{take, length-take}
use Rattle.problem.specs.Problem.{Problem}
use Rattle.search_tree.specs.Walk.{cutoff}
use Rattle.checkpoint.specs.Checkpoints.{state_of}
use Rattle.search.specs.Walking.{Setting}
use Rattle.mapping.proofs.Size.{size_max}
use Rattle.search.proofs.AdvancedCall.{Accepted, shape_reached, call_starts}
use Rattle.search.proofs.NodeWords.{open_rows_max, size_take_max}
use Rattle.search.proofs.ReadyWalk.{own_order}
use Rattle.search.proofs.ResumedWalk.{cutoff_counted}
use Rattle.search.proofs.walk.start.Goals as goal
use Rattle.search.proofs.walk.start.Goals.{After-mapping_size-pairs, else-checkpoint, then-checkpoint}

pub overflow_add-cutoff : goal.overflow_add-cutoff
overflow_add-cutoff c =
    let a = c.args in
    omega (arith, c.mapping_size.ensures, size_max (take a.tables.order a.checkpoint.incumbent), length-take a.tables.order a.checkpoint.incumbent)

-- the cutoff counted is the state's
cutoff_is : (c : After-mapping_size-pairs) {P : Problem} {edges masks : List ℕ}
    → (let a = c.args in
    Setting P a.tables.order edges masks
    → c.if-checkpoint.cutoff ≡ cutoff a.checkpoint.minimum (state_of P.old.order a.checkpoint).incumbent)
cutoff_is c setting =
    let a = c.args in
    rw setting.order_is (cutoff_counted a.tables.order _ a.checkpoint
    (elim c.if-checkpoint.branch [ then-checkpoint w ↦ inl (w.if-checkpoint.true, w.cutoff-is ∙ ap (λ (k : ℕ). k + 1) w.mapping_size.ensures) | else-checkpoint w ↦ inr (w.if-checkpoint.false, w.cutoff-is) ]))

pub overflow_add-bound : goal.overflow_add-bound
overflow_add-bound c =
    let pairs_max : c.mapping_size-pairs.result ≤ 64 = omega (
      arith,
      c.mapping_size-pairs.ensures,
      size_take_max c.args.checkpoint.path c.args.checkpoint.depth,
      c.requires.in_bounds.depth_max,
    ) in
    let pairs = c.mapping_size-pairs.result in
    let few = open_rows_max c.args.checkpoint.depth pairs c.rebuild.new.workspace in
    omega (arith, pairs_max, c.count_open.ensures)

pub returns-then-pairs-lt-MAX_ORDER : goal.returns-then-pairs-lt-MAX_ORDER
returns-then-pairs-lt-MAX_ORDER c =
    record {
      starts = λ connected P setting shape words.
          let start : Accepted connected P c.args.checkpoint =
          record { sound = setting.sound; shape = shape; path_long = c.requires.in_bounds.path_length; incumbent_long = c.requires.lengths.0 } in
          call_starts start setting (omega (arith, c.requires.in_bounds.room, c.rebuild.auto.workspace)) c.mapping_size-pairs.ensures
          (c.rebuild.ensures.words P (own_order setting) shape.depth_max (shape_reached start) words) (cutoff_is (goal.at.returns-then-pairs-lt-MAX_ORDER c).After-mapping_size-pairs setting)
          (inl (c.if-pairs-lt-MAX_ORDER.true, ap (λ (k : ℕ). c.mapping_size-pairs.result + k) c.count_open.ensures));
      trail = c.rebuild.ensures.trail;
    }

pub returns-else-pairs-lt-MAX_ORDER : goal.returns-else-pairs-lt-MAX_ORDER
returns-else-pairs-lt-MAX_ORDER c =
    record {
      starts = λ connected P setting shape words.
          let start : Accepted connected P c.args.checkpoint =
          record { sound = setting.sound; shape = shape; path_long = c.requires.in_bounds.path_length; incumbent_long = c.requires.lengths.0 } in
          call_starts start setting (omega (arith, c.requires.in_bounds.room, c.rebuild.auto.workspace)) c.mapping_size-pairs.ensures
          (c.rebuild.ensures.words P (own_order setting) shape.depth_max (shape_reached start) words) (cutoff_is (goal.at.returns-else-pairs-lt-MAX_ORDER c).After-mapping_size-pairs setting)
          (inr (c.if-pairs-lt-MAX_ORDER.false, refl));
      trail = c.rebuild.ensures.trail;
    }
