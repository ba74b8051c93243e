-- Siblings are visited in the order of mappings: every solution under an earlier one comes before every solution under a later one.
use mathlib.Core.Path.{◌≡◌, sym, ap, ◌∙◌}
use mathlib.Core.Bool.{false}
use mathlib.Core.List.Memᴰ
use mathlib.Core.List.{List, [], ◌∷◌, ◌++◌, map, Memᴰ}
use Prim.Native.Nat.{ℕ, ◌<◌}
use native.Mathlib.Omega.{arith}
use lib.Seq.{append_snoc}
use Rattle.branch_bound.specs.Tree.{Under}
use Rattle.mapping.specs.Order.{Before}
use Rattle.mapping.proofs.Order.{before_difference}
use Rattle.search_tree.specs.Rules.{Regular}
use Rattle.search_tree.specs.Search.{Search}
use Rattle.search_tree.specs.Node.{choices, extend, is_last, children}
use Rattle.search_tree.specs.Trees.{tree}
use Rattle.search_tree.proofs.Passing.{Rising}
use Rattle.search_tree.proofs.Choices.{rising_choices}
use Rattle.search_tree.proofs.Children.{children_inner, under_prefix}

-- two of the longer paths, one behind the other, end in rising values
two_rising : (path l : List ℕ) → Rising l → (p : List (List ℕ)) (c : List ℕ) (q : List (List ℕ)) → map (extend path) l ≡ p ++ (c ∷ q)
    → (d : List ℕ) → Memᴰ d q → (a : ℕ) × (b : ℕ) × (c ≡ extend path a) × (d ≡ extend path b) × (a < b)
two_rising path [] r [] c q e d m = let z : ◌≡◌ {A = ℕ} 0 1 = cc in absurd (omega arith)
two_rising path [] r (x ∷ p) c q e d m = let z : ◌≡◌ {A = ℕ} 0 1 = cc in absurd (omega arith)
two_rising path (v ∷ l) r [] c q e d m =
    let rest : q ≡ map (extend path) l = cc in
    let found = Memᴰ.of_map (extend path) l (rw rest at m) in
    (v, found.0, cc, sym found.2, r.0 found.0 found.1)
two_rising path (v ∷ l) r (x ∷ p) c q e d m = two_rising path l r.1 p c q (cc) d m

module _ (S : Search) (regular : Regular S.rules) where
  -- Every solution under a child comes before every solution under a later child.
  pub siblings_in_order : (n : List ℕ) (p : List (List ℕ)) (c : List ℕ) (q : List (List ℕ)) → is_last S.rules n ≡ false → children S.rules n ≡ p ++ (c ∷ q)
      → (d : List ℕ) → Memᴰ d q → (s t : List ℕ) → Under (tree S) c s → Under (tree S) d t → Before s t
  siblings_in_order n p c q inner e d m s t us ut =
      let two = two_rising n (choices S.rules n) (rising_choices S.rules n regular.few) p c q (sym (children_inner S.rules n inner) ∙ e) d m in
      rw (begins s c two.0 us two.2, begins t d two.1 ut two.3) (before_difference n two.0 two.1 _ _ two.4)
    where
      -- a solution under a child has the child's value at the place behind the parent's path
      begins : (s c : List ℕ) (v : ℕ) (u : Under (tree S) c s) → c ≡ extend n v → s ≡ n ++ (v ∷ (under_prefix S u).0)
      begins s c v u e = (under_prefix S u).1 ∙ ap (λ (l : List ℕ). l ++ (under_prefix S u).0) e ∙ append_snoc n v (under_prefix S u).0
