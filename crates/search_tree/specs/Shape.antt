-- 01's shape of a bookmark, for the walk's states: "Bookmark and calls", first paragraph, clause by clause; a state has no unused bytes.
use Rattle.std.specs.Prelude.{◌≡◌, ◌↔◌, true, false, List, [], ℕ, ◌≤◌, length}
use Rattle.std.proofs.Math.Option.{Option, none, some}
use Rattle.mapping.specs.Common.{size}
use Rattle.search_tree.specs.Search.{Search}
use Rattle.search_tree.specs.Trees.{Reached}
use Rattle.search_tree.specs.Walk.{State}

module _ (S : Search) (minimum : ℕ) where
  -- what may be held: a reached path that decides every row, is admitted and reaches the minimum
  pub record IncumbentShape (h : List ℕ) : Type 0 where
    pub reached : Reached S.rules h
    pub full : length h ≡ S.rules.rows
    pub admitted : S.admits h ≡ true
    pub reaches : minimum ≤ size h

  -- the same of an incumbent, if there is one
  abbrev pub EachIncumbent : Option (List ℕ) → Type 0
  EachIncumbent incumbent = (h : List ℕ) → incumbent ≡ some h → IncumbentShape h

  pub record Shape (s : State) : Type 0 where
    -- "depth is at most n; each path byte is a candidate of its row or 255"
    pub reached : Reached S.rules s.path
    -- "a held matching is good and reaches the floor"
    pub incumbent_shape : EachIncumbent s.incumbent
    -- "finished has depth 0"
    pub finished_root : s.finished ≡ true → s.path ≡ []
    -- "steps are 0 exactly when it is unfinished at depth 0"
    pub fresh_root : (s.steps ≡ 0) ↔ ((s.finished ≡ false) × (s.path ≡ []))
    -- "and then nothing is held"
    pub fresh_none : s.steps ≡ 0 → s.incumbent ≡ none
