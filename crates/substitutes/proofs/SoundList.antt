-- A list passes exactly when it is sound, and any other is refused with 23 or 24.
use mathlib.Core.Path.{◌≡◌, refl}
use mathlib.Core.Bool.{Bool, true, false, cond, not, true≢false, and-eq-true_iff}
use mathlib.Core.List.{List, []}
use Prim.Native.Nat.{ℕ, ◌%◌, ◌≤◌, ◌<◌, zero-le}
use native.Mathlib.Nat.{not-suc-le-zero}
use native.Mathlib.Omega.{arith}
use lib.Dec.{eqb, leb}
use lib.ListN.{length}
use borrow.Author.Tests.{eq-eqb, eqb-true, ne_eqb, eqb-false, le-leb, leb-true, not-true}
use Rattle.bounded.specs.Below.{all_below}
use Rattle.bounded.proofs.AllBelow.{all_below_true, true_all_below}
use Rattle.answers.specs.Answer.{passed, refused}
use Rattle.answers.proofs.Choice.{either}
use Rattle.answers.proofs.RefusalNumbers.{Plain}
use Rattle.substitutes.specs.Substitutes.{pairs, old_label, new_label}
use Rattle.substitutes.specs.Soundness.{length_fits, pair_sound, substitutes_answer, SoundSubstitutes}

-- The empty list is sound.
pub none_sound : SoundSubstitutes []
none_sound = record { whole_pairs = refl; length_max = zero-le; labelled = λ k h. absurd (not-suc-le-zero h) }

-- A sound list passes.
pub sound_list_passes : (list : List ℕ) → SoundSubstitutes list → substitutes_answer list ≡ passed
unfolding substitutes_answer
sound_list_passes list s =
    simp (eq-eqb (length list % 4) 0 s.whole_pairs, le-leb (length list) 1024 s.length_max, true_all_below (pairs list) (pair_sound list) each)
  where
    each : (k : ℕ) → k < pairs list → pair_sound list k ≡ true
    each k h =
        rw (ne_eqb (old_label list k) 0 (λ e. omega (arith, (s.labelled k h).0)), ne_eqb (new_label list k) 0 (λ e. omega (arith, (s.labelled k h).1))) refl

both_passed : (t u : Bool) → cond t (cond u passed (refused 24)) (refused 23) ≡ passed → (t ≡ true) × (u ≡ true)
both_passed true true e = (refl, refl)
both_passed true false e = absurd (true≢false (cc))
both_passed false u e = absurd (true≢false (cc))

-- A list that passes is sound.
pub passes_sound_list : (list : List ℕ) → substitutes_answer list ≡ passed → SoundSubstitutes list
unfolding substitutes_answer
passes_sound_list list e =
    let both = both_passed (length_fits list) (all_below (pairs list) (pair_sound list)) e in
    let fits = (and-eq-true_iff (eqb (length list % 4) 0) (leb (length list) 1024)).0 both.0 in record {
      whole_pairs = eqb-true _ _ fits.0;
      length_max = leb-true _ _ fits.1;
      labelled = λ k h.
          let sound = (and-eq-true_iff (not (eqb (old_label list k) 0)) (not (eqb (new_label list k) 0))).0 (all_below_true (pairs list) (pair_sound list) both.1 k h) in
          (some (eqb-false (old_label list k) 0 (not-true _ sound.0)), some (eqb-false (new_label list k) 0 (not-true _ sound.1)));
    }
  where
    some : {a : ℕ} → (a ≡ 0 → ⊥) → 1 ≤ a
    some ne = omega arith

-- A list passes, or is refused by one of the documents' numbers.
pub list_plain : (list : List ℕ) → Plain (substitutes_answer list)
unfolding substitutes_answer
list_plain list =
    either Plain (length_fits list) (either Plain (all_below (pairs list) (pair_sound list)) tt (omega arith)) (omega arith)
