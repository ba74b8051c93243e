use mathlib.Core.Path.{◌≡◌, sym, ap, ◌∙◌}
use Prim.Native.Nat.{ℕ, ◌+◌}
use native.Mathlib.Nat.{le_refl}
use native.Mathlib.Omega.{arith}
use Rattle.bitset.specs.Least.{least_above}
use Rattle.std.specs.Prelude.{Some}
use Rattle.bitset.proofs.LeastBelow.{least_above_member}
use Rattle.search.specs.Words.{level_word, meet_rows}
use Rattle.search.proofs.Levels.{same_none, same_more, open_rows_same, meet_rows_same}
use Rattle.search.proofs.RowTop.{row_first, row_more, row_all}
use Rattle.search.proofs.ceiling.row_top.Goals as goal
use Rattle.search.proofs.ceiling.row_top.Goals.{After-refine-kept, In-Some}

pub loop-v-init : goal.loop-v-init
loop-v-init c =
    (rw c.count_open-open.ensures (row_first c.args.value.0 c.requires.row_bound.2), same_none _ _)

-- the member that was found
member : (c : In-Some) → least_above (level_word c.args.workspace.now c.args.pairs c.args.row.0) c.loop-v.last ≡ Some c.in-Some.v
member c =
    ap (λ (w : ℕ). least_above w c.loop-v.last) (sym c.level_word-word.ensures) ∙ sym c.least_above.ensures ∙ c.in-Some.is

pub refine-kept-requires : goal.refine-kept-requires
refine-kept-requires c =
    let least = least_above_member _ _ (member (goal.at.refine-kept-requires c).In-Some) in
    let pre = c.requires in
    let kept = c.loop-v.invariant.1.words in record {
      room = omega (arith, pre.room);
      row_bound = (
        pre.row_bound.0,
        pre.row_bound.1,
        least.below,
        c.count_open-open.ensures ∙ sym (open_rows_same c.loop-v.invariant.1 (c.args.row.0 + 1) c.args.pairs (le_refl _)),
      );
    }

-- the rows counted are those foretold from the level at entry
counted : (c : After-refine-kept) → c.refine-kept.result ≡ (let a = c.args in meet_rows a.tables.edges.now a.tables.masks.now a.row.0 a.pairs c.in-Some.v a.workspace.now)
counted c =
    let a = c.args in
    (c.refine-kept.ensures.whole (omega arith)).0 ∙ meet_rows_same c.loop-v.invariant.1 a.tables.edges.now a.tables.masks.now a.row.0 a.pairs c.in-Some.v (le_refl _)

pub loop-v-smaller : goal.loop-v-smaller
loop-v-smaller c =
    let least = least_above_member _ _ (member (goal.at.loop-v-smaller c).In-Some) in
    omega (arith, least.above, least.below)

pub loop-v-preserved : goal.loop-v-preserved
loop-v-preserved c =
    let here = goal.at.loop-v-preserved c in (
      row_more c.loop-v.invariant.0 (member here.In-Some) (omega (arith, c.max-top.ensures, counted here.After-refine-kept)),
      same_more c.loop-v.invariant.1 _ (le_refl _) c.refine-kept.ensures.kept,
    )

pub returns : goal.returns
returns c =
    let none = ap (λ (w : ℕ). least_above w c.loop-v.last) (sym c.level_word-word.ensures) ∙ sym c.least_above.ensures ∙ c.in_default.is in
    record { kept = c.loop-v.invariant.1; top = row_all c.loop-v.invariant.0 none }
