-- What a test tells: it passes exactly when something holds.
use mathlib.Core.Path.{◌≡◌, refl, sym, ◌∙◌}
use mathlib.Core.Logic.{◌↔◌, ◌≢◌, ◌⊎◌, inl, inr, ⊎_elim}
use mathlib.Core.Bool.{Bool, true, false, not, ◌&&◌, ◌||◌, beq, and-eq-true_iff, true≢false, false≢true}
use Prim.Native.Nat.{ℕ, ◌≤◌, ◌<◌}
use lib.Dec.{leb, ltb, eqb}
use borrow.Author.Tests.{ltb-true, leb-true, eqb-true, eqb-false, not-true, lt-ltb, le-leb, eq-eqb, ne_eqb}
use Rattle.bounded.specs.Below.{all_below}
use Rattle.bounded.proofs.AllBelow.{all_below_true, true_all_below}

abbrev pub Tells : Bool → Type 0 → Type 0
Tells t A = (t ≡ true) ↔ A

pub tells_le : (a b : ℕ) → Tells (leb a b) (a ≤ b)
tells_le a b = (leb-true a b, le-leb a b)

pub tells_lt : (a b : ℕ) → Tells (ltb a b) (a < b)
tells_lt a b = (ltb-true a b, lt-ltb a b)

-- An equality test says that the numbers are equal.
pub tells_eq : (a b : ℕ) → Tells (eqb a b) (a ≡ b)
tells_eq a b = (eqb-true a b, eq-eqb a b)

-- Its negation says that they differ.
pub tells_ne : (a b : ℕ) → Tells (not (eqb a b)) (a ≢ b)
tells_ne a b = (λ e. eqb-false a b (not-true (eqb a b) e), λ n. rw (ne_eqb a b n) refl)

-- A test says of itself that it passes.
pub tells_itself : (a : Bool) → Tells a (a ≡ true)
tells_itself a = (λ e. e, λ e. e)

pub tells_not : (a : Bool) → Tells (not a) (a ≡ false)
tells_not true = (λ e. absurd (false≢true e), λ e. absurd (true≢false e))
tells_not false = (λ e. refl, λ e. refl)

pub tells_both : {A B : Type 0} (a b : Bool) → Tells a A → Tells b B → Tells (a && b) (A × B)
tells_both a b l r = (
  λ e. let both = (and-eq-true_iff a b).0 e in (l.0 both.0, r.0 both.1),
  λ h. (and-eq-true_iff a b).1 (l.1 h.0, r.1 h.1),
)

-- One of two tests says that one of the two statements holds.
pub tells_one : {A B : Type 0} (a b : Bool) → Tells a A → Tells b B → Tells (a || b) (A ⊎ B)
tells_one true b l r = (λ e. inl (l.0 refl), λ h. refl)
tells_one false b l r = (λ e. inr (r.0 e), ⊎_elim (λ x. absurd (false≢true (l.1 x))) (λ y. r.1 y))

pub tells_same : {A B : Type 0} (a b : Bool) → Tells a A → Tells b B → Tells (beq a b) (A ↔ B)
tells_same true true l r = (λ e. (λ x. r.0 refl, λ y. l.0 refl), λ h. refl)
tells_same true false l r = (λ e. absurd (false≢true e), λ h. absurd (false≢true (r.1 (h.0 (l.0 refl)))))
tells_same false true l r = (λ e. absurd (false≢true e), λ h. absurd (false≢true (l.1 (h.1 (r.0 refl)))))
tells_same false false l r = (λ e. (λ x. absurd (false≢true (l.1 x)), λ y. absurd (false≢true (r.1 y))), λ h. refl)

-- A test of all numbers below n says that each has what its own test says.
pub tells_all : {A : ℕ → Type 0} (n : ℕ) (t : ℕ → Bool) → ((k : ℕ) → Tells (t k) (A k)) → Tells (all_below n t) ((k : ℕ) → k < n → A k)
tells_all n t each = (λ e k h. (each k).0 (all_below_true n t e k h), λ h. true_all_below n t (λ k l. (each k).1 (h k l)))

-- A test that has passed tells what holds, one that has failed what does not.
pub tells_passed : {A : Type 0} → A → Tells true A
tells_passed a = (λ e. a, λ b. refl)

pub tells_failed : {A : Type 0} → (A → ⊥) → Tells false A
tells_failed no_proof = (λ e. absurd (false≢true e), λ a. absurd (no_proof a))

-- What a test tells does not hold where it fails.
pub tells_refuted : {A : Type 0} {t : Bool} → Tells t A → t ≡ false → A → ⊥
tells_refuted told e a = false≢true (sym e ∙ told.1 a)

-- Two tests that tell the same have the same answer.
pub same_answer : {A B : Type 0} (a b : Bool) → Tells a A → Tells b B → A ↔ B → a ≡ b
same_answer true b l r same = sym (r.1 (same.0 (l.0 refl)))
same_answer false true l r same = l.1 (same.1 (r.0 refl))
same_answer false false l r same = refl
