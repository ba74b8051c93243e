-- When labels agree: the test says what the proposition says, and with the empty list labels agree exactly where they are equal.
use mathlib.Core.Path.{◌≡◌, refl}
use mathlib.Core.Bool.{true, and-eq-true_iff, or-false}
use mathlib.Core.List.{List, []}
use Prim.Native.Nat.{ℕ}
use lib.Dec.{eqb}
use borrow.Author.Tests.{eq-eqb, eqb-true}
use Rattle.bounded.specs.Below.{some_below}
use Rattle.bounded.proofs.SomeBelow.{some_below_true, true_some_below}
use Rattle.substitutes.specs.Substitutes.{pairs, pair_is, listed, agree, Listed, old_label, new_label}

-- A pair that the test finds is listed,
pub listed_true : (list : List ℕ) (a b : ℕ) → listed list a b ≡ true → Listed list a b
unfolding listed
listed_true list a b e =
    let found = some_below_true (pairs list) (pair_is list a b) e in
    let both = (and-eq-true_iff (eqb (old_label list found.0) a) (eqb (new_label list found.0) b)).0 found.2 in
    record { place = found.0; inside = found.1; old_is = eqb-true _ _ both.0; new_is = eqb-true _ _ both.1 }

-- and a pair that is listed the test finds.
pub true_listed : (list : List ℕ) (a b : ℕ) → Listed list a b → listed list a b ≡ true
unfolding listed
true_listed list a b l =
    true_some_below (pairs list) (pair_is list a b) l.place l.inside
    (rw (eq-eqb (old_label list l.place) a l.old_is, eq-eqb (new_label list l.place) b l.new_is) refl)

-- "an empty list gives today's results": labels agree where they are equal.
pub none_agree : (a b : ℕ) → agree [] a b ≡ eqb a b
unfolding agree listed some_below
none_agree a b = or-false (eqb a b)

-- Equal labels agree, whatever is listed.
pub equal_agree : (list : List ℕ) (a : ℕ) → agree list a a ≡ true
unfolding agree
equal_agree list a = rw (eq-eqb a a refl) refl
