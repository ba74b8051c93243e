-- What the code carries from call to call: a path in eight bytes, and the mapping that is held with the number of pairs that the next one must have
-- (01, "The walk", path and target; 02, U2).
use Rattle.std.specs.Prelude.{◌≡◌, true, Some, None, List, ℕ, ◌-◌, ◌≤◌, ◌<◌, get_or, take, drop, replicate}
use Rattle.std.proofs.Math.Option.{Option, none, some}
use Rattle.bitset.specs.Members.{member}
use Rattle.problem.specs.declared.Problem.{Problem as LentProblem}
use Rattle.problem.specs.Lent.{EdgesLong}
use Rattle.mapping.specs.Common.{size}
use Rattle.mapping.specs.Check.{EntriesBelow}
use Rattle.search_tree.specs.Walk.{cutoff}
use Rattle.clique.specs.declared.branching.Incumbent.{Incumbent}
use Rattle.clique.specs.Call.{padded}

-- whole tables, orders that the search admits, and sets of new vertices for the old ones
pub record Small (p : LentProblem) (sets : List ℕ) : Type 0 where
  pub tables : EdgesLong p
  pub old_max : p.old.order ≤ 8
  pub new_max : p.new.order ≤ 64
  pub new_vertices : (r v : ℕ) → r < p.old.order → member (get_or sets r 0) v ≡ true → v < p.new.order

-- the first `depth` rows are decided, each by a vertex that is a place of the tables or by 255, and have so many pairs; the bytes of the others are 0
pub record Decided (path : List ℕ) (depth pairs : ℕ) : Type 0 where
  pub entries : EntriesBelow path depth
  pub counted : pairs ≡ size (take depth path)
  pub rest : drop depth path ≡ replicate (8 - depth) 0

-- the incumbent as it is carried from this minimum on
abbrev pub incumbent_as : ℕ → Option (List ℕ) → Incumbent
incumbent_as minimum none = record { cutoff = cutoff minimum none; mapping = None }
incumbent_as minimum (some l) = record { cutoff = cutoff minimum (some l); mapping = Some (padded l) }

-- what is carried before a search becomes what is carried after it, whatever the minimum was
abbrev pub Becomes : Incumbent → (ℕ → Option (List ℕ) → Option (List ℕ)) → Incumbent → Type 0
Becomes held search after =
    (minimum : ℕ) (incumbent : Option (List ℕ)) → held ≡ incumbent_as minimum incumbent → after ≡ incumbent_as minimum (search minimum incumbent)
