-- The values that are still free at a node: no entry of the path takes them. A candidate is free, and taking it leaves one fewer.
use mathlib.Core.Path.{◌≡◌, refl, ◌∙◌}
use mathlib.Core.Bool.{Bool, true, false, cond, not, ◌&&◌}
use mathlib.Core.List.{List, []}
use Prim.Native.Nat.{ℕ, ◌+◌, ◌≤◌}
use native.Mathlib.Nat.{one-mul}
use native.Mathlib.Omega.{arith}
use lib.Dec.{eqb}
use lib.ListN.{length, get_or}
use borrow.Author.Tests.{eqb-true, ne_eqb}
use Rattle.bounded.specs.Below.{all_below}
use Rattle.bounded.proofs.AllBelow.{true_all_below}
use Rattle.bounded.proofs.Below.{sum_below_le, sum_below_same}
use Rattle.mapping.specs.Common.{unmapped}
use Rattle.search_tree.specs.Rules.{Rules, Regular}
use Rattle.search_tree.specs.Node.{fits, candidate, candidates, extend}
use Rattle.search_tree.proofs.Passing.{count, count_without, count_outside, length_passing}
use Rattle.search_tree.proofs.Candidates.{all_below_extend, candidate_value, candidate_fits}

-- no entry of the path is v
unfoldable pub is_free : List ℕ → ℕ → Bool
is_free path v = all_below (length path) (λ i. not (eqb (get_or path i 0) v))

-- how many values no entry of the path takes
unfoldable pub free_values : Rules → List ℕ → ℕ
free_values R path = count R.values (is_free path)

-- One more entry takes itself and no other value.
pub is_free_extend : (path : List ℕ) (w v : ℕ) → is_free (extend path w) v ≡ is_free path v && not (eqb w v)
unfolding is_free
is_free_extend path w v = all_below_extend path w (λ i u. not (eqb u v))

-- At the root every value is free.
pub free_root : (R : Rules) → free_values R [] ≡ R.values
unfolding free_values is_free all_below
free_root R = sum_below_same R.values 1 ∙ one-mul R.values

module _ (R : Rules) (regular : Regular R) (path : List ℕ) where
  -- A candidate is free: beside an entry that takes it, it would not fit.
  pub candidate_free : (r v : ℕ) → candidate R path r v ≡ true → is_free path v ≡ true
  unfolding is_free
  candidate_free r v e = true_all_below (length path) _ (λ i h. go i (eqb (get_or path i 0) v) refl (candidate_fits R path r v e i h))
    where
      go : (i : ℕ) (b : Bool) → eqb (get_or path i 0) v ≡ b → fits R path r v i ≡ true → not b ≡ true
      go i false same f = refl
      go i true same f =
          let taken = eqb-true (get_or path i 0) v same in
          let mapped = ne_eqb (get_or path i 0) unmapped (omega (arith, candidate_value R path r v e, regular.few)) in
          absurd (regular.distinct i (get_or path i 0) r v (rw mapped at f) taken)

  -- A row has at most as many candidates as there are free values.
  pub candidates_free : (r : ℕ) → length (candidates R path r) ≤ free_values R path
  unfolding free_values candidates
  candidates_free r =
      rw (length_passing (candidate R path r)) (sum_below_le R.values _ _ (λ v h. go (candidate R path r v) (is_free path v) (candidate_free r v)))
    where
      go : (a b : Bool) → (a ≡ true → b ≡ true) → cond a 1 0 ≤ cond b 1 0
      go true b implies = rw (implies refl) (omega arith)
      go false b implies = omega arith

  -- Once a row takes a candidate, one value fewer is free.
  pub free_taken : (r v : ℕ) → candidate R path r v ≡ true → free_values R (extend path v) + 1 ≡ free_values R path
  unfolding free_values
  free_taken r v e =
      simp is_free_extend (count_without R.values v (is_free path) (candidate_value R path r v e) (candidate_free r v e))

  -- A row that is left out takes no value.
  pub free_left_out : free_values R (extend path unmapped) ≡ free_values R path
  unfolding free_values
  free_left_out = simp is_free_extend (count_outside R.values unmapped (is_free path) regular.few)
