-- `search::walk::upper_bound` meets its contract: the rows counted are those of the node's own level, or of its parent's met with the
-- masks, as far as they reach the cutoff (`NodeWords`).
-- Assumes nothing.
use mathlib.Core.Path.{◌≡◌, refl, sym, ap, ◌∙◌}
use mathlib.Core.Logic.{◌≢◌, ⊎_elim}
use mathlib.Core.List.{List}
use Prim.Native.Nat.{ℕ, ◌+◌, ◌-◌, ◌^◌, ◌<◌}
use lib.ListN.{get_or, take}
use native.Mathlib.Decide.{dec_lt}
use native.Mathlib.Omega.{arith}
use Rattle.problem.specs.Problem.{Problem}
use Rattle.mapping.specs.Common.{unmapped, size}
use Rattle.search.specs.declared.walk.Place.{Place}
use Rattle.search.specs.Words.{Words}
use Rattle.search.specs.Walking.{Setting, AtNode, LastIs, Placed}
use Rattle.search.proofs.NodeWords.{open_rows_max, size_take_max, pairs_max, entry_max, pairs_before, pairs_left_out}
use Rattle.search.proofs.NodeWords.{node_bound, node_root, node_left_out, node_bounded, node_taken_bounded, counted_max}
use Rattle.search.proofs.walk.upper_bound.Goals as goal
use Rattle.search.proofs.walk.upper_bound.Goals.{After-refine, Else-place-eq-UNMAPPED}

-- where the last row is left out, or there is none, there are fewer pairs than 64,
few_left_out : {p : Place} {ws : List ℕ} → Placed p ws → p.last ≡ unmapped → p.pairs < 64
few_left_out {p} placed out = go (dec_lt 0 p.depth)
  where
    go : Dec (0 < p.depth) → p.pairs < 64
    go (yes h) = omega (arith, placed.bounds.depth_max, pairs_left_out placed.bounds h (placed.last_is.0 h ∙ out))
    go (no n) = omega (arith, pairs_max placed.bounds)

-- and the node's words are its ancestors'
own_words : {P : Problem} {n : ℕ} {edges masks path ws : List ℕ} {depth pairs last : ℕ} → Setting P n edges masks → AtNode P path depth pairs ws
    → LastIs path depth last → last ≡ unmapped → Words P path depth ws
own_words {P} {path = path} {ws} {depth} setting node is out = go (dec_lt 0 depth)
  where
    go : Dec (0 < depth) → Words P path depth ws
    go (yes h) = node_left_out setting node h (is.0 h ∙ out)
    go (no n) = node_root setting node (omega arith)

-- what is known of the last row where it took a vertex
record LastTaken (path : List ℕ) (p : Place) : Type 0 where
  deep : 0 < p.depth
  inside : p.depth - 1 < 64
  value : p.last < 64
  before : p.pairs ≡ size (take (p.depth - 1) path) + 1

last_taken : {p : Place} {ws : List ℕ} (placed : Placed p ws) → p.last ≢ unmapped → LastTaken placed.path p
last_taken {p} placed out = go (dec_lt 0 p.depth)
  where
    go : Dec (0 < p.depth) → LastTaken placed.path p
    go (no n) = absurd (out (placed.last_is.1 (omega arith)))
    go (yes h) =
        let bounds = placed.bounds in
        let is = placed.last_is.0 h in
        let mapped : get_or placed.path (p.depth - 1) 0 ≢ unmapped = λ u. out (sym is ∙ u) in
        let own = entry_max bounds (p.depth - 1) (omega arith) mapped in
        record { deep = h; inside = omega (arith, bounds.depth_max); value = omega (arith, own, is); before = pairs_before bounds h mapped }

pub returns-then-place-eq-UNMAPPED : goal.returns-then-place-eq-UNMAPPED
returns-then-place-eq-UNMAPPED c =
    let p = c.args.place in
    let out = c.if-place-eq-UNMAPPED.true in
    let is = c.requires.open_is.left_out out in
    let few = few_left_out c.requires out in record {
      bounded = λ P path setting node last.
          let words = own_words setting node last out in
          node_bounded setting node (ap (λ (n : ℕ). p.pairs + n) is ∙ node_bound setting node few words) words;
      small = omega (arith, open_rows_max p.depth p.pairs c.args.workspace.now);
      kept = λ p h. refl;
    }

-- what is known here of the last row
taken : (c : Else-place-eq-UNMAPPED) → LastTaken c.requires.path c.args.place
taken c = last_taken c.requires c.if-place-eq-UNMAPPED.false

pub overflow_sub-place-2 : goal.overflow_sub-place-2
overflow_sub-place-2 c = omega (arith, (taken (goal.at.overflow_sub-place-2 c).Else-place-eq-UNMAPPED).before)

pub refine-requires : goal.refine-requires
refine-requires c =
    let p = c.args.place in
    let t = taken (goal.at.refine-requires c).Else-place-eq-UNMAPPED in
    let deeper : p.depth - 1 + 1 ≡ p.depth = omega (arith, t.deep) in record {
      room = c.requires.bounds.room;
      row_bound = (
        t.inside,
        omega (arith, t.before, size_take_max c.requires.path (p.depth - 1)),
        t.value,
        rw deeper (c.requires.open_is.taken c.if-place-eq-UNMAPPED.false),
      );
    }

-- the bound is below the cutoff, or small
small : (c : After-refine) → c.args.place.pairs + c.refine.result < 2 ^ 64 - 1
small c =
    let few = pairs_max c.requires.bounds in
    let deep = c.requires.bounds.depth_max in
    ⊎_elim (λ less. omega (arith, less, c.saturating_sub.ensures, c.ranges.cutoff)) (λ count. omega (arith, count, few, deep)) (counted_max c.refine.ensures)

pub overflow_add-result-2 : goal.overflow_add-result-2
overflow_add-result-2 c = omega (arith, small (goal.at.overflow_add-result-2 c).After-refine)

pub returns : goal.returns
returns c =
    let t = taken (goal.at.returns c).Else-place-eq-UNMAPPED in record {
      bounded = λ P path setting node last.
          let is = last.0 t.deep in
          node_taken_bounded setting node t.deep (λ u. c.if-place-eq-UNMAPPED.false (sym is ∙ u)) c.saturating_sub.ensures (rw is c.refine.ensures);
      small = small (goal.at.returns c).After-refine;
      kept = λ p h. c.refine.ensures.kept.sets p (omega (arith, t.before));
    }
