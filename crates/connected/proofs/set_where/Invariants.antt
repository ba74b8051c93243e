-- `connected::set_where` meets its contract: the set holds those of the numbers passed that pass the test.
-- Assumes nothing.
use mathlib.Core.Path.{◌≡◌}
use mathlib.Core.Bool.{Bool}
use Prim.Native.Nat.{ℕ, ◌<◌}
use Rattle.bitset.specs.Members.{set_of}
use Rattle.connected.proofs.set_where.Given as goal

abbrev pub invariant-loop-i : goal.invariant-loop-i
invariant-loop-i g l =
    (passes : ℕ → Bool) → ((i : ℕ) → i < 64 → (b : Bool) → g.F.Fn.post l.test (i, tt) b → b ≡ passes i) → l.set ≡ set_of l.i passes
