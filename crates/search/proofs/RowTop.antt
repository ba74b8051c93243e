-- The loop over one level's later siblings, on plain values: it starts with the row left out, and takes the bound of each greater member of
-- the row's word.
use mathlib.Core.Path.{◌≡◌}
use mathlib.Core.List.{List, map-append}
use Prim.Native.Nat.{ℕ, ◌+◌, ◌≤◌, ◌<◌, max}
use native.Mathlib.Omega.{arith}
use lib.ListN.{length, take}
use borrow.Author.Tests.{lt-ltb}
use Rattle.bitset.specs.Least.{least_above}
use Rattle.std.specs.Prelude.{Option}
use Rattle.std.specs.Prelude.{Some, None}
use Rattle.bitset.proofs.LeastBelow.{least_above_member}
use Rattle.problem.specs.Problem.{Problem}
use Rattle.mapping.specs.Common.{unmapped, size}
use Rattle.search_tree.specs.Rules.{Rules, rules_of}
use Rattle.search_tree.specs.Node.{upper_bound, extend, choices_after}
use Rattle.search_tree.specs.Ceiling.{top_bound}
use Rattle.search.specs.Words.{level_word, open_rows, meet_rows}
use Rattle.search.specs.Walking.{Setting, AtRow, level_top}
use Rattle.search.proofs.NodeWords.{size_take_max}
use Rattle.search.proofs.WordBounds.{left_out_bound, taken_bound}
use Rattle.search.proofs.WordChoices.{next_taken}
use Rattle.search.proofs.WordCeiling.{top_bound_append, top_bound_next, top_bound_last}

-- The row left out is among the choices after a value.
pub left_out_counts : (R : Rules) (q : List ℕ) (w : ℕ) → w < unmapped → 1 + upper_bound R (extend q unmapped) ≤ level_top R q w
unfolding choices_after top_bound
left_out_counts R q w h = rw (lt-ltb w unmapped h, map-append, top_bound_append) (omega arith)

-- The invariant: the greatest so far and the bounds after the last value make up the bounds after the first.
pub record RowHead (edges masks ws : List ℕ) (row pairs value top last : ℕ) : Type 0 where
  pub small : last < 64
  pub tops : (P : Problem) (path : List ℕ) → Setting P P.old.order edges masks → AtRow P path row pairs ws
      → (1 + upper_bound (rules_of P) (extend (take row path) unmapped) ≤ top)
      × (level_top (rules_of P) (take row path) value ≡ max top (level_top (rules_of P) (take row path) last))

module _ {edges masks ws : List ℕ} {row pairs : ℕ} where
  module _ {P : Problem} (path : List ℕ) (setting : Setting P P.old.order edges masks) (at : AtRow P path row pairs ws) where
    inside : row ≤ length path
    inside = omega (arith, at.path_length, at.row_max, setting.sound.old_sound.order_max)

    few : size (take row path) < 64
    few = omega (arith, at.row_max, setting.sound.old_sound.order_max, size_take_max path row)

    -- the code's bound with the row left out
    left_out_is : upper_bound (rules_of P) (extend (take row path) unmapped) ≡ pairs + open_rows (row + 1) pairs ws
    left_out_is = rw at.pairs_are (left_out_bound P setting.sound inside at.words few)

    -- the code's bound with the row taking v
    taken_is : (v : ℕ) → v < P.new.order → upper_bound (rules_of P) (extend (take row path) v) ≡ pairs + 1 + meet_rows edges masks row pairs v ws
    taken_is v h = rw (at.pairs_are, ← setting.edges_is) (taken_bound P setting.sound inside at.words few setting.masks_are v h)

    -- a member of the code's word is one of the problem's
    word_is : (last : ℕ) {l : Option ℕ} → least_above (level_word ws pairs row) last ≡ l → least_above (level_word ws (size (take row path)) row) last ≡ l
    word_is last e = rw at.pairs_are at e

  -- The maximum starts with the bound of the row left out.
  pub row_first : (value : ℕ) → value < 64 → RowHead edges masks ws row pairs value (pairs + 1 + open_rows (row + 1) pairs ws) value
  row_first value h = record {
    small = h;
    tops = λ P path setting at.
        let is = left_out_is path setting at in
        (omega arith, omega (arith, left_out_counts (rules_of P) (take row path) value (omega arith)));
  }

  -- The least member of the word above the last value counts its own bound.
  pub row_more : {value top last v above : ℕ} → RowHead edges masks ws row pairs value top last
      → least_above (level_word ws pairs row) last ≡ Some v
      → above ≡ max top (pairs + 2 + meet_rows edges masks row pairs v ws) → RowHead edges masks ws row pairs value above v
  row_more {value} {top} {last} {v} {above} head e a = record {
    small = (least_above_member (level_word ws pairs row) last e).below;
    tops = λ P path setting at.
        let in_path = inside path setting at in
        let own = word_is path setting at last e in
        let next = next_taken P setting.sound in_path at.row_max at.words last own in
        let step = top_bound_next P setting.sound in_path at.row_max at.words last own in
        let is = taken_is path setting at v next.value in
        let so_far = head.tops P path setting at in
        (omega arith, omega arith);
  }

  -- With no member above the last value, the maximum is that of the level.
  pub row_all : {value top last : ℕ} → RowHead edges masks ws row pairs value top last
      → least_above (level_word ws pairs row) last ≡ None
      → (P : Problem) (path : List ℕ) → Setting P P.old.order edges masks → AtRow P path row pairs ws
      → top ≡ level_top (rules_of P) (take row path) value
  row_all {value} {top} {last} head e P path setting at =
      let end = top_bound_last P setting.sound (inside path setting at) at.row_max at.words last (omega (arith, head.small))
      (word_is path setting at last e) in
      let so_far = head.tops P path setting at in
      omega arith
