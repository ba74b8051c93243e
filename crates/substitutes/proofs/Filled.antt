-- Sets that a loop fills: each turn puts numbers into the set at its key.
use mathlib.Core.Path.{◌≡◌, refl, sym, ◌∙◌}
use mathlib.Core.Bool.{Bool, ◌&&◌, ◌||◌, or-false}
use mathlib.Core.List.{List}
use Prim.Native.Nat.{ℕ, ◌+◌, ◌<◌}
use native.Mathlib.Decide.{ℕ_discrete}
use native.Mathlib.Omega.{arith}
use lib.Dec.{eqb}
use lib.ListN.{length, get_or, set, replicate, length-set, length-replicate, get_or-replicate}
use lib.Seq.{get_or-set_same, get_or-set_other}
use borrow.Author.Tests.{eq-eqb, ne_eqb}
use Rattle.bounded.specs.Below.{some_below}
use Rattle.bounded.proofs.SomeBelow.{some_below_add_one}
use Rattle.bitset.specs.Members.{member, set_of}
use Rattle.bitset.proofs.SetOf.{set_of_congr, member_set_of}

module _ (n : ℕ) (key : ℕ → ℕ) (put : ℕ → ℕ → Bool) where
  -- one of the first k turns puts i into the set at a
  abbrev pub put_before : ℕ → ℕ → ℕ → Bool
  put_before k a i = some_below k (λ j. eqb a (key j) && put j i)

  -- the first k turns have filled n sets
  pub record FilledTo (k : ℕ) (sets : List ℕ) : Type 0 where
    pub entries : length sets ≡ n
    pub set_is : (a : ℕ) → a < n → get_or sets a 0 ≡ set_of 64 (put_before k a)

  pub filled_none : FilledTo 0 (replicate n 0)
  unfolding some_below set_of
  filled_none = record { entries = length-replicate {A = ℕ} n 0; set_is = λ a l. get_or-replicate n a 0 0 l }

  -- The next turn puts its numbers.
  pub filled_more : {k x : ℕ} {sets : List ℕ} → FilledTo k sets → x ≡ key k → x < n → {v : ℕ} → v ≡ set_of 64 (λ i. member (get_or sets x 0) i || put k i)
      → FilledTo (k + 1) (set sets x v)
  filled_more {k} {x} {sets} f is h {v} e = record { entries = length-set sets x v ∙ f.entries; set_is = λ a l. go a l (ℕ_discrete a x) }
    where
      own : (i : ℕ) → i < 64 → (member (get_or sets x 0) i || put k i) ≡ put_before (k + 1) x i
      own i l = rw (f.set_is x h, member_set_of 64 (put_before k x) i l, some_below_add_one k (λ j. eqb x (key j) && put j i), eq-eqb x (key k) is) refl

      go : (a : ℕ) → a < n → Dec (a ≡ x) → get_or (set sets x v) a 0 ≡ set_of 64 (put_before (k + 1) a)
      go a l (yes q) = rw q (get_or-set_same sets x v 0 (omega (arith, f.entries)) ∙ e ∙ set_of_congr 64 _ _ own)
      go a l (no ne) =
          get_or-set_other sets x a v 0 ne
          ∙ f.set_is a l
          ∙ set_of_congr 64 _ _ (λ i b. rw (some_below_add_one k (λ j. eqb a (key j) && put j i), ne_eqb a (key k) (λ q. ne (q ∙ sym is))) (sym (or-false _)))
