-- Tables that fit have 64 and 4,096 bytes, and an order of at most 64.
use mathlib.Core.Path.{◌≡◌}
use mathlib.Core.Bool.{true, ◌&&◌, and-eq-true_iff}
use mathlib.Core.List.{List}
use Prim.Native.Nat.{ℕ, ◌≤◌}
use borrow.Author.Tests.{eqb-true, leb-true}
use lib.Dec.{leb, eqb}
use lib.ListN.{length}
use Rattle.graph.specs.Soundness.{tables_fit}

pub fit_lengths : (order : ℕ) (labels edges : List ℕ) → tables_fit order labels edges ≡ true
    → (length labels ≡ 64) × (length edges ≡ 4096) × (order ≤ 64)
fit_lengths order labels edges e =
    let outer = (and-eq-true_iff (eqb (length labels) 64 && eqb (length edges) 4096) (leb order 64)).0 e in
    let inner = (and-eq-true_iff (eqb (length labels) 64) (eqb (length edges) 4096)).0 outer.0 in
    (eqb-true (length labels) 64 inner.0, eqb-true (length edges) 4096 inner.1, leb-true order 64 outer.1)
