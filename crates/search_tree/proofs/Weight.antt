-- The weight of a node: 02's V of the values still free and the rows still undecided. It covers one visit and the children's weights.
use mathlib.Core.Path.{◌≡◌, refl, ap₂}
use mathlib.Core.Bool.{true, false}
use mathlib.Core.List.{List, [], ◌∷◌, ◌++◌, map, Memᴰ}
use Prim.Native.Nat.{ℕ, zero, suc, ◌+◌, ◌-◌, ◌*◌, ◌≤◌}
use native.Mathlib.Nat.{zero-mul, suc-mul, mul-le-mul_right}
use native.Mathlib.Omega.{arith}
use lib.ListN.{length}
use borrow.Author.Tests.{leb-false}
use Rattle.branch_bound.specs.Tree.{weights}
use Rattle.mapping.specs.Common.{unmapped}
use Rattle.search_tree.specs.Rules.{Rules, Regular}
use Rattle.search_tree.specs.Search.{Search}
use Rattle.search_tree.specs.Node.{candidate, candidates, choices, extend, is_last, children}
use Rattle.search_tree.specs.StepLimit.{step_limit}
use Rattle.search_tree.specs.Trees.{tree}
use Rattle.search_tree.proofs.Candidates.{length_extend, mem_candidates}
use Rattle.search_tree.proofs.Children.{children_inner}
use Rattle.search_tree.proofs.FreeValues.{free_values, free_root, free_taken, free_left_out, candidates_free}

-- how many visits the walk can make at most at the node and below it
unfoldable pub weight : Rules → List ℕ → ℕ
weight R path = step_limit (free_values R path) (R.rows - length path)

-- A walk takes at least one visit.
pub step_limit_one : (m n : ℕ) → 1 ≤ step_limit m n
unfolding step_limit
step_limit_one m zero = omega arith
step_limit_one m (suc n) = omega arith

-- Every node weighs at least one.
pub weight_one : (R : Rules) (path : List ℕ) → 1 ≤ weight R path
unfolding weight
weight_one R path = step_limit_one (free_values R path) (R.rows - length path)

-- The root weighs as much as a walk of all rows and all values can take.
pub weight_root : (R : Rules) → weight R [] ≡ step_limit R.values R.rows
unfolding weight
weight_root R = ap₂ step_limit (free_root R) (omega arith)

-- the weights of longer paths together, where all but the last weigh b
weights_choices : (S : Search) (path : List ℕ) (b : ℕ) (l : List ℕ) (w : ℕ) → ((v : ℕ) → Memᴰ v l → weight S.rules (extend path v) ≡ b)
    → weights (tree S) (weight S.rules) (map (extend path) (l ++ (w ∷ []))) ≡ length l * b + weight S.rules (extend path w)
unfolding weights
weights_choices S path b [] w each = omega (arith, zero-mul b)
weights_choices S path b (v ∷ l) w each =
    omega (arith, each v (Memᴰ.head refl), weights_choices S path b l w (λ u m. each u (Memᴰ.tail m)), suc-mul (length l) b)

module _ (S : Search) (regular : Regular S.rules) (path : List ℕ) where
  -- 02's m
  free : ℕ
  free = free_values S.rules path

  -- the rows that are undecided at a child: 02's n - 1
  undecided : ℕ
  undecided = S.rules.rows - suc (length path)

  -- a child that takes a candidate: V(m - 1, n - 1)
  weight_taken : (v : ℕ) → candidate S.rules path (length path) v ≡ true → weight S.rules (extend path v) ≡ step_limit (free - 1) undecided
  unfolding weight free undecided
  weight_taken v e = ap₂ step_limit (omega (arith, free_taken S.rules regular path (length path) v e)) (rw length_extend)

  -- the child that leaves its row out: V(m, n - 1)
  weight_left_out : weight S.rules (extend path unmapped) ≡ step_limit free undecided
  unfolding weight free undecided
  weight_left_out = ap₂ step_limit (free_left_out S.rules regular path) (rw length_extend)

  -- the children together
  weights_children : is_last S.rules path ≡ false
      → weights (tree S) (weight S.rules) (children S.rules path)
      ≡ length (candidates S.rules path (length path)) * step_limit (free - 1) undecided + step_limit free undecided
  unfolding choices
  weights_children inner =
      rw (children_inner S.rules path inner, ← weight_left_out)
      (weights_choices S path (step_limit (free - 1) undecided) (candidates S.rules path (length path)) unmapped
      (λ v m. weight_taken v ((mem_candidates S.rules path (length path)).0 m)))

  -- One visit and the children's weights are within the node's weight.
  pub weight_falls : is_last S.rules path ≡ false → 1 + weights (tree S) (weight S.rules) (children S.rules path) ≤ weight S.rules path
  unfolding weight free undecided step_limit
  weight_falls inner =
      let one_more : S.rules.rows - length path ≡ suc undecided = omega (arith, leb-false S.rules.rows (length path) inner) in
      let few = mul-le-mul_right (step_limit (free - 1) undecided) (candidates_free S.rules regular path (length path)) in
      rw one_more (omega (arith, weights_children inner))
