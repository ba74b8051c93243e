-- The upper bound: a last node's is its size, and no child's exceeds its parent's.
use mathlib.Core.Path.{◌≡◌, refl}
use mathlib.Core.Logic.{⊎_elim}
use mathlib.Core.Bool.{Bool, true, false, cond, ◌&&◌}
use mathlib.Core.List.{List, [], ◌∷◌, Memᴰ}
use Prim.Native.Nat.{ℕ, ◌+◌, ◌≤◌, ◌<◌}
use native.Mathlib.Omega.{arith}
use lib.Dec.{leb}
use lib.ListN.{length}
use borrow.Author.Tests.{leb-true, leb-false, le-leb, lt-leb}
use Rattle.bounded.proofs.Below.{sum_below_same}
use Rattle.mapping.specs.Common.{unmapped, size}
use Rattle.mapping.proofs.Size.{counted, counted_max, size_nil, size_cons, size_append}
use Rattle.search_tree.specs.Rules.{Rules}
use Rattle.search_tree.specs.Node.{candidates, non_empty, upper_bound, extend, is_last, children}
use Rattle.search_tree.proofs.Sums.{sum_below_agree, sum_below_less}
use Rattle.search_tree.proofs.Candidates.{length_extend, candidate_shorter, non_empty_candidates}
use Rattle.search_tree.proofs.Children.{Choice, child_is}

-- what row r adds to the upper bound: 1 where it is undecided and has a candidate
abbrev row_bound : Rules → List ℕ → ℕ → ℕ
row_bound R path r = cond (leb (length path) r && non_empty (candidates R path r)) 1 0

module _ (R : Rules) (path : List ℕ) where
  -- At a last node the upper bound is the size.
  pub bound_last : is_last R path ≡ true → upper_bound R path ≡ size path
  unfolding upper_bound
  bound_last last = omega (arith, sum_below_agree R.rows (row_bound R path) (λ r. 0) decided, sum_below_same R.rows 0)
    where
      decided : (r : ℕ) → r < R.rows → row_bound R path r ≡ 0
      decided r h = rw (lt-leb (length path) r (omega (arith, leb-true R.rows (length path) last)))

  -- no row adds more at the longer path
  row_bound_shorter : (v r : ℕ) → row_bound R (extend path v) r ≤ row_bound R path r
  row_bound_shorter v r = go (leb (length (extend path v)) r) (non_empty (candidates R (extend path v) r)) refl refl
    where
      go : (a b : Bool) → leb (length (extend path v)) r ≡ a → non_empty (candidates R (extend path v) r) ≡ b → cond (a && b) 1 0 ≤ row_bound R path r
      go false b ea eb = omega arith
      go true false ea eb = omega arith
      go true true ea eb =
          let u = (non_empty_candidates R (extend path v) r).0 eb in
          let undecided = le-leb (length path) r (omega (arith, leb-true (length (extend path v)) r ea, length_extend path v)) in
          let some = (non_empty_candidates R path r).1 (u.0, candidate_shorter R path v r u.0 u.1) in
          rw (undecided, some) (omega arith)

  -- the row that the longer path decides adds nothing there; what its entry adds to the size, it added to the upper bound before
  row_bound_decided : (v : ℕ) → Choice R path v → row_bound R (extend path v) (length path) + counted v ≤ row_bound R path (length path)
  row_bound_decided v choice =
      rw (lt-leb (length (extend path v)) (length path) (omega (arith, length_extend path v)))
      (⊎_elim (λ (e : v ≡ unmapped). rw e (omega arith))
      (λ e. rw (le-leb (length path) (length path) (omega arith), (non_empty_candidates R path (length path)).1 (v, e)) (omega (arith, counted_max v)))
      choice)

  -- No child's upper bound exceeds its parent's.
  pub bound_falls : (c : List ℕ) → is_last R path ≡ false → Memᴰ c (children R path) → upper_bound R c ≤ upper_bound R path
  unfolding upper_bound
  bound_falls c inner m =
      let child = (child_is R path).0 m in
      let v = child.value in
      let row = leb-false R.rows (length path) inner in
      let less = sum_below_less R.rows (row_bound R (extend path v)) (row_bound R path) (length path) (counted v) row
      (λ r h. row_bound_shorter v r) (row_bound_decided v child.choice) in
      rw child.extended (omega (arith, size_append path (v ∷ []), size_cons v [], size_nil))
