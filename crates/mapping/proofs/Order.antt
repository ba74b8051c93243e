-- The order of mappings is a strict order, total on the mappings of one length; a common beginning does not count.
use mathlib.Core.Path.{◌≡◌, refl, sym, ap₂, ◌∙◌}
use mathlib.Core.Logic.{◌⊎◌, inl, inr}
use mathlib.Core.Bool.{Bool, true, false, ◌&&◌, ◌||◌, and-eq-true_iff, true≢false, false≢true}
use mathlib.Core.List.{List, [], ◌∷◌, ◌++◌}
use Prim.Native.Nat.{ℕ, ◌<◌}
use native.Mathlib.Decide.{dec_lt}
use native.Mathlib.Omega.{arith}
use lib.Dec.{ltb, eqb}
use lib.ListN.{length}
use borrow.Author.Tests.{ltb-true, eqb-true, lt-ltb, le-ltb, eq-eqb}
use Rattle.mapping.specs.Order.{before, Before}

-- A mapping with a smaller first entry comes first.
pub before_head : (a b : ℕ) (l m : List ℕ) → a < b → Before (a ∷ l) (b ∷ m)
unfolding before
before_head a b l m h = rw (lt-ltb a b h)

-- After the same first entry the rest decides.
pub before_tail : (a : ℕ) (l m : List ℕ) → before (a ∷ l) (a ∷ m) ≡ before l m
unfolding before
before_tail a l m = simp (le-ltb a a (omega arith), eq-eqb a a refl)

before_same : (a b : ℕ) (l m : List ℕ) → a ≡ b → Before l m → Before (a ∷ l) (b ∷ m)
before_same a b l m q e = rw q (before_tail b l m ∙ e)

-- Of two mappings the first entry decides, or the rest where the first entries are the same.
pub before_cons : (a b : ℕ) (l m : List ℕ) → Before (a ∷ l) (b ∷ m) → (a < b) ⊎ ((a ≡ b) × Before l m)
unfolding before
before_cons a b l m e = go (ltb a b) refl e
  where
    go : (t : Bool) → ltb a b ≡ t → (t || (eqb a b && before l m)) ≡ true → (a < b) ⊎ ((a ≡ b) × Before l m)
    go true q e = inl (ltb-true a b q)
    go false q e = let both = (and-eq-true_iff (eqb a b) (before l m)).0 e in inr (eqb-true a b both.0, both.1)

-- No mapping comes before itself.
pub before_irreflexive : (l : List ℕ) → before l l ≡ false
unfolding before
before_irreflexive [] = refl
before_irreflexive (a ∷ l) = before_tail a l l ∙ before_irreflexive l

-- If one mapping comes before a second, and the second before a third, then the first comes before the third.
pub before_transitive : (k l m : List ℕ) → Before k l → Before l m → Before k m
unfolding before
before_transitive [] l m p q = absurd (false≢true p)
before_transitive (a ∷ k) [] m p q = absurd (false≢true p)
before_transitive (a ∷ k) (b ∷ l) [] p q = absurd (false≢true q)
before_transitive (a ∷ k) (b ∷ l) (c ∷ m) p q = go (before_cons a b k l p) (before_cons b c l m q) (before_transitive k l m)
  where
    go : (a < b) ⊎ ((a ≡ b) × Before k l) → (b < c) ⊎ ((b ≡ c) × Before l m) → (Before k l → Before l m → Before k m)
        → Before (a ∷ k) (c ∷ m)
    go (inl h) (inl i) rest = before_head a c k m (omega arith)
    go (inl h) (inr i) rest = before_head a c k m (omega arith)
    go (inr h) (inl i) rest = before_head a c k m (omega arith)
    go (inr h) (inr i) rest = before_same a c k m (omega arith) (rest h.1 i.1)

-- Of two mappings at most one comes before the other.
pub before_asymmetric : (l m : List ℕ) → Before l m → Before m l → ⊥
before_asymmetric l m p q = true≢false (sym (before_transitive l m l p q) ∙ before_irreflexive l)

-- Of two mappings of one length one comes before the other, or they are the same.
pub before_total : (l m : List ℕ) → length l ≡ length m → Before l m ⊎ (l ≡ m) ⊎ Before m l
before_total [] [] e = inr (inl refl)
before_total [] (b ∷ m) e = absurd (omega arith)
before_total (a ∷ l) [] e = absurd (omega arith)
before_total (a ∷ l) (b ∷ m) e = go (dec_lt a b) (dec_lt b a) (before_total l m (omega arith))
  where
    go : Dec (a < b) → Dec (b < a) → Before l m ⊎ (l ≡ m) ⊎ Before m l → Before (a ∷ l) (b ∷ m) ⊎ (a ∷ l ≡ b ∷ m) ⊎ Before (b ∷ m) (a ∷ l)
    go (yes h) i rest = inl (before_head a b l m h)
    go (no h) (yes i) rest = inr (inr (before_head b a m l i))
    go (no h) (no i) (inl r) = inl (before_same a b l m (omega arith) r)
    go (no h) (no i) (inr (inl r)) = inr (inl (ap₂ ◌∷◌ (omega arith) r))
    go (no h) (no i) (inr (inr r)) = inr (inr (before_same b a m l (omega arith) r))

-- After a common beginning the rest decides.
pub before_append : (p l m : List ℕ) → before (p ++ l) (p ++ m) ≡ before l m
before_append [] l m = refl
before_append (a ∷ p) l m = before_tail a (p ++ l) (p ++ m) ∙ before_append p l m

-- At the first difference the smaller entry comes first.
pub before_difference : (p : List ℕ) (a b : ℕ) (l m : List ℕ) → a < b → Before (p ++ (a ∷ l)) (p ++ (b ∷ m))
before_difference p a b l m h = before_append p (a ∷ l) (b ∷ m) ∙ before_head a b l m h
