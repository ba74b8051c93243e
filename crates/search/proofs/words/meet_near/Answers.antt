use mathlib.Core.Path.{◌≡◌, ap, sym, ◌∙◌}
use Prim.Native.Nat.{ℕ, ◌+◌, ◌*◌, ◌<◌}
use native.Mathlib.Omega.{arith}
use lib.ListN.{get_or}
use Rattle.bitset.specs.Members.{meet_of}
use Rattle.bitset.specs.Least.{least_member}
use Rattle.std.specs.Prelude.{Some}
use Rattle.graph.specs.Graph.{place}
use Rattle.search.specs.Words.{near_word}
use Rattle.search.proofs.MeetTurn.{met_none, next_row, met_stored, met_more, met_lost, met_all}
use Rattle.search.proofs.words.meet_near.Goals as goal
use Rattle.search.proofs.words.meet_near.Goals.{After-is_empty, After-meet-word, In-Some}

-- the row that was found
found : (c : In-Some) → least_member c.loop-r.rest ≡ Some c.in-Some.r
found c = sym c.least_member.ensures ∙ c.in-Some.is

-- it is below 64
inside : (c : In-Some) → c.in-Some.r < 64
inside c = (next_row c.loop-r.invariant (found c)).0

-- the word met is the row's new word
word_is : (c : After-meet-word)
    → (let a = c.args in
    c.meet-word.result ≡ near_word a.tables.edges.now a.tables.masks.now a.row.0 a.pairs a.value.0 a.workspace.now c.in-Some.r)
word_is c =
    let a = c.args in
    let r = c.in-Some.r in
    let mask = get_or a.tables.masks.now (256 * a.value.0 + get_or a.tables.edges.now (place a.row.0 r) 0) 0 in
    let found : least_member c.loop-r.rest ≡ Some r = sym c.least_member.ensures ∙ c.in-Some.is in
    let inside = (next_row c.loop-r.invariant found).0 in
    c.meet-word.ensures
    ∙ ap (λ (s : ℕ). meet_of s mask) (c.loop-r.invariant.others (64 * a.pairs + r) (λ m h own e. omega (arith, inside)))

pub loop-r-init : goal.loop-r-init
loop-r-init c = met_none (omega (arith, c.ranges)) c.requires.row_bound.3

pub loop-r-preserved-then-is_empty : goal.loop-r-preserved-then-is_empty
loop-r-preserved-then-is_empty c =
    let here = goal.at.loop-r-preserved-then-is_empty c in
    let row = found here.In-Some in
    rw c.without_least-rest.ensures
    (met_lost (met_stored c.loop-r.invariant row c.meet-word.result (omega arith)) row (word_is here.After-meet-word)
    (sym c.is_empty.ensures ∙ c.if-is_empty.true))

pub loop-r-preserved : goal.loop-r-preserved
loop-r-preserved c =
    let here = goal.at.loop-r-preserved c in
    rw (c.without_least-rest.ensures, c.with-rows.ensures)
    (met_more c.loop-r.invariant (found here.In-Some) (omega arith) (omega (arith, inside here.In-Some, c.requires)) (word_is here.After-meet-word)
    (sym c.is_empty.ensures ∙ c.if-is_empty.false))

pub returns : goal.returns
returns c = met_all c.loop-r.invariant (sym c.least_member.ensures ∙ c.in_default.is)
