-- The candidates of a row: what one is, what one more decided row does to them, and that they rise.
use mathlib.Core.Path.{◌≡◌, refl, sym, ap, ap₂, ◌∙◌}
use mathlib.Core.Logic.{◌↔◌}
use mathlib.Core.Bool.{Bool, true, false, ◌&&◌, ◌||◌, and-eq-true_iff, and_assoc, false≢true}
use mathlib.Core.List.Memᴰ
use mathlib.Core.List.{List, [], ◌∷◌, Memᴰ}
use Prim.Native.Nat.{ℕ, suc, ◌≤◌, ◌<◌}
use native.Mathlib.Omega.{arith}
use lib.Dec.{ltb, eqb}
use lib.ListN.{length, get_or, length-append, get_or-append}
use lib.Seq.{get_or-append_seam}
use borrow.Author.Tests.{ltb-true, le-ltb}
use Rattle.bounded.specs.Below.{all_below}
use Rattle.bounded.proofs.AllBelow.{all_below_true}
use Rattle.mapping.specs.Common.{unmapped}
use Rattle.search_tree.specs.Rules.{Rules}
use Rattle.search_tree.specs.Node.{fits, candidate, candidates, non_empty, extend}
use Rattle.search_tree.proofs.Sums.{all_below_agree}
use Rattle.search_tree.proofs.Passing.{Rising, mem_passes, passes_mem, rising_passing}

-- A path grows by one entry.
pub length_extend : (path : List ℕ) (w : ℕ) → length (extend path w) ≡ suc (length path)
length_extend path w = omega (arith, length-append path (w ∷ []))

-- A test of all entries of the longer path is the test of those before and of the new one.
pub all_below_extend : (path : List ℕ) (w : ℕ) (t : ℕ → ℕ → Bool)
    → all_below (length (extend path w)) (λ i. t i (get_or (extend path w) i 0)) ≡ all_below (length path) (λ i. t i (get_or path i 0)) && t (length path) w
unfolding all_below
all_below_extend path w t =
    rw length_extend (ap₂ ◌&&◌ (all_below_agree (length path) _ _ (λ k h. rw (get_or-append path (w ∷ []) 0 k h))) (rw get_or-append_seam))

module _ (R : Rules) where
  -- One more decided row: of the candidates those stay that may stand beside it.
  pub candidate_extend : (path : List ℕ) (w r v : ℕ)
      → candidate R (extend path w) r v ≡ candidate R path r v && (eqb w unmapped || R.consistent (length path) w r v)
  unfolding candidate
  candidate_extend path w r v =
      ap (λ (b : Bool). ltb v R.values && R.allowed r v && b) (all_below_extend path w (λ i u. eqb u unmapped || R.consistent i u r v))
      ∙ sym (and_assoc (ltb v R.values && R.allowed r v) (all_below (length path) (fits R path r v)) _)

  -- A candidate at a longer path is one at the shorter.
  pub candidate_shorter : (path : List ℕ) (w r v : ℕ) → candidate R (extend path w) r v ≡ true → candidate R path r v ≡ true
  candidate_shorter path w r v e = ((and-eq-true_iff (candidate R path r v) _).0 (sym (candidate_extend path w r v) ∙ e)).0

  module _ (path : List ℕ) (r : ℕ) where
    -- A candidate is one of the values.
    pub candidate_value : (v : ℕ) → candidate R path r v ≡ true → v < R.values
    unfolding candidate
    candidate_value v e =
        let value = ltb v R.values in
        ltb-true v R.values ((and-eq-true_iff value (R.allowed r v)).0 ((and-eq-true_iff (value && R.allowed r v) _).0 e).0).0

    -- What is no value is no candidate.
    pub candidate_outside : (v : ℕ) → R.values ≤ v → candidate R path r v ≡ false
    unfolding candidate
    candidate_outside v h = rw (le-ltb v R.values h) refl

    -- A candidate may stand beside each decided row.
    pub candidate_fits : (v : ℕ) → candidate R path r v ≡ true → (i : ℕ) → i < length path → fits R path r v i ≡ true
    unfolding candidate
    candidate_fits v e = all_below_true (length path) (fits R path r v) ((and-eq-true_iff (ltb v R.values && R.allowed r v) _).0 e).1

    -- The candidate set holds the candidates and nothing else.
    pub mem_candidates : {v : ℕ} → Memᴰ v (candidates R path r) ↔ (candidate R path r v ≡ true)
    unfolding candidates
    mem_candidates {v} = (
      λ m. (mem_passes (candidate R path r) R.values m).1,
      λ e. passes_mem (candidate R path r) R.values (candidate_value v e) e,
    )

    -- The candidate set rises.
    pub rising_candidates : Rising (candidates R path r)
    unfolding candidates
    rising_candidates = rising_passing (candidate R path r) R.values

    -- A candidate set is not empty exactly where there is a candidate.
    pub non_empty_candidates : (non_empty (candidates R path r) ≡ true) ↔ ((v : ℕ) × (candidate R path r v ≡ true))
    non_empty_candidates = (
      λ e. let some = first (candidates R path r) e in (some.0, mem_candidates.0 some.1),
      λ some. filled (candidates R path r) (mem_candidates.1 some.1),
    )
      where
        first : (l : List ℕ) → non_empty l ≡ true → (v : ℕ) × Memᴰ v l
        first [] e = absurd (false≢true e)
        first (v ∷ l) e = (v, Memᴰ.head refl)

        filled : (l : List ℕ) {v : ℕ} → Memᴰ v l → non_empty l ≡ true
        filled [] m = absurd (Memᴰ.not-nil m)
        filled (v ∷ l) m = refl
