-- `search::words::refine` meets its contract: the open rows after `row` are met in two parts, and their set is
-- stored at the end (`MetParts`, `RefineTurn`). Assumes nothing.
use mathlib.Core.Path.{◌≡◌, refl, sym, ap, ◌∙◌}
use Prim.Native.Nat.{◌+◌, ◌*◌, ◌<◌}
use native.Mathlib.Omega.{arith}
use lib.ListN.{get_or}
use Rattle.bitset.specs.Members.{difference_of}
use Rattle.bitset.specs.Count.{size}
use Rattle.bitset.proofs.CountBelow.{count_below_congr}
use Rattle.bitset.proofs.MembersFrom.{member_from}
use Rattle.search.specs.Words.{near_word, Met, open_set}
use Rattle.search.proofs.MetParts.{Parts, parts_meet, size_parts, met_any, met_words, met_first, rest_fits, met_both}
use Rattle.search.proofs.RefineTurn.{far_word_lem, counted_few, counted_all, counted_last}
use Rattle.search.proofs.words.refine.Goals as goal
use Rattle.search.proofs.words.refine.Goals.{After-meet-near, After-meet_far-kept}

-- the open rows that are met first and the others are the open rows
parts : (c : After-meet-near) → Parts c.members_from-open.result c.meet-near.result (difference_of c.members_from-open.result c.meet-near.result)
parts c = parts_meet c.members_from-open.result (get_or c.args.tables.first.now c.args.row.0 0) c.meet-near.ensures refl

-- the rows counted before are those of the set
whole : (c : After-meet-near) → c.args.count ≡ size c.members_from-open.result
whole c =
    let a = c.args in
    c.requires.row_bound.3 ∙ sym (ap size c.members_from-open.ensures
    ∙ count_below_congr 64 _ _ (λ r h. member_from (open_set a.pairs a.workspace.now) (a.row.0 + 1) r h))

inner : (c : After-meet-near) → c.args.pairs + 1 < 64
inner c = omega (arith, c.requires, c.if-pairs-eq63.false)

-- once the others are met, all open rows are
all_met : (c : After-meet_far-kept)
    → (let a = c.args in
    Met c.members_from-open.result (near_word a.tables.edges.now a.tables.masks.now a.row.0 a.pairs a.value.0 a.workspace.now) (a.pairs + 1)
    a.need a.workspace.now (record { rows = 0; count = c.args.count }) c.meet_far-kept.new.workspace c.meet_far-kept.result)
all_met c =
    let a = c.args in
    let t = a.tables in
    let row = a.row.0 in
    let first = get_or t.first.now row 0 in
    let parts = parts_meet c.members_from-open.result first c.meet-near.ensures refl in
    let met = met_any {need = a.need} c.meet_near-met.ensures in
    met_both parts met c.if-met-need.false
    (met_words
    (λ j h own.
    far_word_lem t.edges.now t.masks.now row a.pairs a.value.0 a.workspace.now c.members_from-open.ensures
    c.meet_near-met.new.workspace first (t.first_are row c.requires.row_bound.0) c.meet-near.ensures parts refl j h own (met.others (64 * a.pairs + j) (λ k l known e. omega arith)))
    (rw c.difference.ensures at c.meet_far-kept.ensures))

pub returns-then-pairs-eq63 : goal.returns-then-pairs-eq63
returns-then-pairs-eq63 c =
    let pre = c.requires in
    counted_last (omega (arith, pre)) (omega (arith, pre)) c.if-pairs-eq63.true

pub meet_near-met-requires : goal.meet_near-met-requires
meet_near-met-requires c =
    let here = (goal.at.meet_near-met-requires c).After-meet-near in
    let sizes = size_parts (parts here) in
    let all = whole here in
    let pre = c.requires in
    record { room = pre.room; row_bound = (pre.row_bound.0, omega arith, pre.row_bound.2, omega arith) }

pub returns-then-met-need : goal.returns-then-met-need
returns-then-met-need c =
    let here = (goal.at.returns-then-met-need c).After-meet-near in
    let a = c.args in
    counted_few a.tables.edges.now a.tables.masks.now a.row.0 a.pairs a.value.0 a.workspace.now c.members_from-open.ensures refl
    (whole here) (inner here) c.requires.room (met_first (parts here) (met_any c.meet_near-met.ensures) c.if-met-need.true) c.if-met-need.true

pub meet_far-kept-requires : goal.meet_far-kept-requires
meet_far-kept-requires c =
    let here = (goal.at.meet_far-kept-requires c).After-meet-near in
    let met = met_any {need = c.args.need} c.meet_near-met.ensures in
    let fits = rest_fits (parts here) met c.if-met-need.false (sym (whole here)) in
    (omega (arith, met.words, c.requires.room), omega (arith, inner here), rw c.difference.ensures fits)

pub returns-then-kept-need : goal.returns-then-kept-need
returns-then-kept-need c =
    let at = goal.at.returns-then-kept-need c in
    let a = c.args in
    counted_few a.tables.edges.now a.tables.masks.now a.row.0 a.pairs a.value.0 a.workspace.now c.members_from-open.ensures refl
    (whole at.After-meet-near) (inner at.After-meet-near) c.requires.room (all_met at.After-meet_far-kept) c.if-kept-need.true

pub returns : goal.returns
returns c =
    let at = goal.at.returns c in
    let a = c.args in
    let last : 4097 + a.pairs ≡ 4096 + (a.pairs + 1) = omega arith in
    rw last
    (counted_all a.tables.edges.now a.tables.masks.now a.row.0 a.pairs a.value.0 a.workspace.now c.members_from-open.ensures refl
    (whole at.After-meet-near) (inner at.After-meet-near) c.requires.room (all_met at.After-meet_far-kept) c.if-kept-need.false (omega (arith, c.meet_far-kept.type_inv)))
