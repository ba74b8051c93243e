-- What a search is to hold at its end: of the largest solutions that may be held the first, or nothing where none reaches the minimum.
use Rattle.std.specs.Prelude.{◌≡◌, ◌⊎◌, true, ℕ, ◌≤◌, ◌<◌}
use Rattle.std.proofs.Math.Option.{Option, none, some}
use Rattle.branch_bound.specs.Tree.{Tree, Under}

module _ (T : Tree) (minimum : ℕ) where
  -- a solution under the root that may be held and reaches the minimum
  pub record Candidate (root h : T.Node) : Type 0 where
    pub under : Under T root h
    pub admitted : T.admits h ≡ true
    pub reaches : minimum ≤ T.size h

  pub record Best (before : T.Node → T.Node → Type 0) (root : T.Node) (incumbent : Option T.Node) : Type 0 where
    pub candidate : (h : T.Node) → incumbent ≡ some h → Candidate root h
    -- where nothing is held, no solution that may be held reaches the minimum
    pub none_reaches : incumbent ≡ none → (s : T.Node) → Under T root s → T.admits s ≡ true → T.size s < minimum
    -- none is larger than the one held
    pub largest : (h : T.Node) → incumbent ≡ some h → (s : T.Node) → Under T root s → T.admits s ≡ true → T.size s ≤ T.size h
    -- and of those as large it is the first
    pub first : (h : T.Node) → incumbent ≡ some h → (s : T.Node) → Under T root s → T.admits s ≡ true → T.size s ≡ T.size h
        → (s ≡ h) ⊎ before h s
