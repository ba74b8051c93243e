-- A tree as depth-first branch and bound sees it, and what it asks of the tree's bound, weight and order.
use Rattle.std.specs.Prelude.{◌≡◌, Bool, true, false, ℕ, ◌+◌, ◌≤◌}
use mathlib.Core.List.{List, [], ◌∷◌, ◌++◌, Memᴰ}

pub record Tree : Type 1 where
  pub Node : Type 0
  -- in the order in which they are visited
  pub children : Node → List Node
  -- a last node is a solution
  pub last : Node → Bool
  -- what no solution under the node exceeds
  pub bound : Node → ℕ
  pub size : Node → ℕ
  -- which solutions may be held
  pub admits : Node → Bool

module _ (T : Tree) where
  -- the solution s is at n or below it
  pub data Under : T.Node → T.Node → Type 0 where
    here : {n : T.Node} → T.last n ≡ true → Under n n
    below : {n c s : T.Node} → T.last n ≡ false → Memᴰ c (T.children n) → Under c s → Under n s

  unfoldable pub weights : (T.Node → ℕ) → List T.Node → ℕ
  weights weight [] = 0
  weights weight (n ∷ ns) = weight n + weights weight ns

  -- what makes a tree finite and its bound and order honest
  pub record Lawful (weight : T.Node → ℕ) (before : T.Node → T.Node → Type 0) : Type 0 where
    pub weight_one : (n : T.Node) → 1 ≤ weight n
    pub weight_falls : (n : T.Node) → T.last n ≡ false → 1 + weights weight (T.children n) ≤ weight n
    pub bound_last : (n : T.Node) → T.last n ≡ true → T.bound n ≡ T.size n
    pub bound_falls : (n c : T.Node) → T.last n ≡ false → Memᴰ c (T.children n) → T.bound c ≤ T.bound n
    -- solutions under an earlier sibling come before those under a later one
    pub siblings : (n : T.Node) (p : List T.Node) (c : T.Node) (q : List T.Node) → T.last n ≡ false → T.children n ≡ p ++ (c ∷ q)
        → (d : T.Node) → Memᴰ d q → (s t : T.Node) → Under c s → Under d t → before s t
