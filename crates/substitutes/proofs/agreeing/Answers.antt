-- `substitutes::agreeing` meets its contract: where no pair is listed equal labels agree, and else the pairs are joined in.
-- Assumes nothing.
use Prim.Native.Nat.{ℕ, ◌<◌}
use native.Mathlib.Omega.{arith}
use lib.ListN.{get_or}
use Rattle.substitutes.proofs.Spread.{equal_agreeing, spread_agreeing}
use Rattle.substitutes.proofs.agreeing.Goals as goal
use Rattle.substitutes.proofs.agreeing.Goals.{After-equal-equal}

-- how great the entries of the three lent slices are
slices : (c : After-equal-equal) → let a = c.args in
    ((u : ℕ) → get_or a.old.now u 0 < 65536) × ((u : ℕ) → get_or a.new.now u 0 < 65536) × ((u : ℕ) → get_or a.list.now u 0 < 256)
slices c = (
  λ u. omega (arith, c.shared_slice_known-1.given u),
  λ u. omega (arith, c.shared_slice_known-2-1.given u),
  λ u. omega (arith, c.shared_slice_known-3-1.given u),
)

pub returns-then-list-lt-PAIR_BYTES : goal.returns-then-list-lt-PAIR_BYTES
returns-then-list-lt-PAIR_BYTES c =
    let known = slices (goal.at.returns-then-list-lt-PAIR_BYTES c).After-equal-equal in
    equal_agreeing c.places-new_low.ensures c.places-new_high.ensures c.equal-equal.ensures known.0 known.1 (omega arith)

pub returns : goal.returns
returns c =
    let known = slices (goal.at.returns c).After-equal-equal in
    spread_agreeing c.places-new_low.ensures c.places-new_high.ensures c.equal-equal.ensures known.0 known.1 c.places-old_low.ensures
    c.places-old_high.ensures c.joined-joined.ensures c.spread.ensures known.2
