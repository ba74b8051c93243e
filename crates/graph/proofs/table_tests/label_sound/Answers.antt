-- `graph::table_tests::label_sound` meets its contract: a number of two bytes that is not 0 is 1 to 65,535.
-- Assumes nothing.
use borrow.Author.Tests.{lt-ltb, le-ltb, ne_eqb, le-leb}
use mathlib.Core.Path.{◌≡◌, refl}
use mathlib.Core.Bool.{not, and-true}
use Prim.Native.Nat.{ℕ, zero, suc}
use native.Mathlib.Omega.{arith}
use lib.Dec.{leb, eqb}
use lib.ListN.{get_or}
use Rattle.graph.proofs.Labels.{label_leb}
use Rattle.std.proofs.Common.{Fits, w16, rules}
use Rattle.graph.proofs.table_tests.label_sound.Goals as goal

not_zero : (x : ℕ) → not (eqb x 0) ≡ leb 1 x
not_zero zero = refl
not_zero (suc x) = simp (ne_eqb (suc x) 0 (omega arith), le-leb 1 (suc x) (omega arith))

pub returns-then-v-order : goal.returns-then-v-order
returns-then-v-order c =
    let fits : Fits w16 (get_or c.args.labels.now c.args.v 0) = search rules in
    simp (lt-ltb _ _ c.if-v-order.true, label_leb fits, and-true) (not_zero (get_or c.args.labels.now c.args.v 0))

pub returns : goal.returns
returns c = simp (le-ltb _ _ c.if-v-order.false)
