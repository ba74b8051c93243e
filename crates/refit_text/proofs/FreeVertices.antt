-- A test of all numbers below a length, at the entries of a list, is the library's test of all its entries.
use mathlib.Core.Path.{◌≡◌, refl, sym, ap, ◌∙◌}
use mathlib.Core.Bool.{Bool, true, false, ◌&&◌, and-true}
use mathlib.Core.List.{List, [], ◌∷◌}
use Prim.Native.Nat.{ℕ, zero, suc}
use lib.ListN.{length, get_or}
use Rattle.std.specs.List.{list_all}
use Rattle.bounded.specs.Below.{all_below}

all_below_none : (t : ℕ → Bool) → true ≡ all_below 0 t
unfolding all_below
all_below_none t = refl

and_assoc : (t u w : Bool) → ((t && u) && w) ≡ (t && (u && w))
and_assoc true u w = refl
and_assoc false u w = refl

-- The first number may be tested by itself.
all_below_front : (n : ℕ) (t : ℕ → Bool) → all_below (suc n) t ≡ (t 0 && all_below n (λ k. t (suc k)))
unfolding all_below
all_below_front zero t = sym (and-true (t 0))
all_below_front (suc n) t = ap (λ (b : Bool). b && t (suc n)) (all_below_front n t) ∙ and_assoc (t 0) (all_below n (λ k. t (suc k))) (t (suc n))

pub all_entries : (test : ℕ → Bool) (l : List ℕ) → list_all test l ≡ all_below (length l) (λ k. test (get_or l k 0))
all_entries test [] = all_below_none (λ k. test (get_or [] k 0))
all_entries test (x ∷ l) = ap (λ (b : Bool). test x && b) (all_entries test l) ∙ sym (all_below_front (length l) (λ k. test (get_or (x ∷ l) k 0)))
