use mathlib.Core.Path.{◌≡◌, ap, sym, ◌∙◌}
use Prim.Native.Nat.{ℕ, ◌+◌, ◌*◌}
use native.Mathlib.Omega.{arith}
use Rattle.bitset.specs.Members.{meet_of}
use Rattle.bitset.specs.Least.{least_member}
use Rattle.std.specs.Prelude.{Some}
use Rattle.search.specs.Words.{far_word}
use Rattle.search.proofs.MeetTurn.{row_inside, met_none, met_more, met_lost, met_few, met_all}
use Rattle.search.proofs.words.meet_far.Goals as goal
use Rattle.search.proofs.words.meet_far.Goals.{After-meet-word, In-Some, else-is_empty, then-is_empty+else-left-need}

-- the row that was found
found : (c : In-Some) → least_member c.loop-r.rest ≡ Some c.in-Some.r
found c = sym c.least_member.ensures ∙ c.in-Some.is

-- the word met is the row's new word
word_is : (c : After-meet-word)
    → (let a = c.args in
    c.meet-word.result ≡ far_word a.mask a.pairs a.workspace.now c.in-Some.r)
word_is c =
    let a = c.args in
    let r = c.in-Some.r in
    let inside = row_inside _ r (sym c.least_member.ensures ∙ c.in-Some.is) in
    c.meet-word.ensures
    ∙ ap (λ (s : ℕ). meet_of s a.mask) (c.loop-r.invariant.others (64 * a.pairs + r) (λ m h own e. omega (arith, inside)))

pub loop-r-init : goal.loop-r-init
loop-r-init c = met_none (omega (arith, c.ranges)) c.requires.2

pub returns-then-left-need : goal.returns-then-left-need
returns-then-left-need c =
    let here = goal.at.returns-then-left-need c in
    met_few (met_lost c.loop-r.invariant (found here.In-Some) (word_is here.After-meet-word) (sym c.is_empty.ensures ∙ c.if-is_empty.true)) c.if-left-need.true

pub loop-r-preserved : goal.loop-r-preserved
loop-r-preserved c =
    let here = goal.at.loop-r-preserved c in
    let row = found here.In-Some in
    let word = word_is here.After-meet-word in
    let inside = row_inside _ c.in-Some.r row in
    rw c.without_least-rest.ensures
    (elim c.if-is_empty.branch [
      | then-is_empty+else-left-need w ↦ rw (w.workspace-is, w.rows-is, w.left-is)
          (met_lost c.loop-r.invariant row word (sym c.is_empty.ensures ∙ w.if-is_empty.true))
      | else-is_empty w ↦ rw (w.workspace-is, w.rows-is, w.left-is, w.with-rows.ensures)
          (met_more c.loop-r.invariant row (omega arith) (omega (arith, inside)) word (sym c.is_empty.ensures ∙ w.if-is_empty.false))
    ])

pub returns : goal.returns
returns c = met_all c.loop-r.invariant (sym c.least_member.ensures ∙ c.in_default.is)
