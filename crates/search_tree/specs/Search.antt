-- What a search is about: the rules of its tree, which last nodes may be held (01, "The walk", second paragraph, "at d = n: the path is held"; 02, U7, "A
-- last node that isn't connected is visited and not held"), and which mappings count.
use Rattle.std.specs.Prelude.{◌≡◌, Bool, true, not, ◌||◌, List, ℕ}
use Rattle.problem.specs.Problem.{Problem}
use Rattle.mapping.specs.Common.{Common}
use Rattle.connected.specs.Connected.{Connected}
use Rattle.connected.specs.Spreading.{is_connected}
use Rattle.search_tree.specs.Rules.{Rules, rules_of}

-- candidates, bounds and open nodes depend on the rules alone; only a visit asks what is admitted
pub record Search : Type 0 where
  pub rules : Rules
  pub admits : List ℕ → Bool

-- every last node may be held; in the connected search, every one that is connected by these edges
abbrev pub admits_by : Bool → List ℕ → List ℕ → Bool
admits_by connected edges path = not connected || is_connected edges path

-- which are the old graph's
abbrev pub admits_of : Bool → Problem → List ℕ → Bool
admits_of connected P = admits_by connected P.old.edges

-- the first search, or the second, which is the connected one
abbrev pub search_of : Bool → Problem → Search
search_of connected P = record { rules = rules_of P; admits = admits_of connected P }

-- The mappings that count: common subgraphs, and "For this search a good matching, wherever the third property names one, is a connected good one."
pub record Good (connected : Bool) (P : Problem) (l : List ℕ) : Type 0 where
  pub common : Common P l
  pub is_connected : connected ≡ true → Connected P.old l
