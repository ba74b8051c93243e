-- What the workspace and the masks hold while the search walks: candidate sets as 64-bit words (01, "The walk", "Each set is one 64-bit word").
use Rattle.std.specs.Prelude.{◌≡◌, true, false, cond, not, ◌&&◌, ◌||◌, ◌⊎◌, ◌≢◌, List, ℕ, ◌+◌, ◌*◌, ◌≤◌, ◌<◌, leb, ltb, eqb, length, get_or, take}
use Rattle.bitset.specs.Members.{member, set_of, meet_of}
use Rattle.bitset.specs.Count.{count_below}
use Rattle.graph.specs.Graph.{Graph, place, edge}
use Rattle.problem.specs.Problem.{Problem, allowed}
use Rattle.mapping.specs.Common.{size}
use Rattle.search_tree.specs.Rules.{rules_of}
use Rattle.search_tree.specs.Node.{candidate}
use Rattle.search.specs.declared.words.Kept.{Kept}

-- the candidate set of row r at a node
abbrev pub word_of : Problem → List ℕ → ℕ → ℕ
word_of P path r = set_of 64 (candidate (rules_of P) path r)

-- the new vertices other than w whose edge to w has label k
abbrev pub mask_of : Graph → ℕ → ℕ → ℕ
mask_of g w k = set_of 64 (λ v. ltb v g.order && not (eqb w v) && eqb k (edge g w v))

-- one word for each new vertex and edge label
pub record Masks (g : Graph) (masks : List ℕ) : Type 0 where
  pub words : length masks ≡ 16384
  pub mask : (w k : ℕ) → w < g.order → k < 256 → get_or masks (256 * w + k) 0 ≡ mask_of g w k

-- the masks of one new vertex are filled in, and nothing else changes
pub record MaskRow (g : Graph) (w : ℕ) (masks masks' : List ℕ) : Type 0 where
  pub words : length masks' ≡ length masks
  pub mask : (k : ℕ) → k < 256 → get_or masks' (256 * w + k) 0 ≡ mask_of g w k
  pub kept : (i : ℕ) → (i < 256 * w) ⊎ (256 * w + 256 ≤ i) → get_or masks' i 0 ≡ get_or masks i 0

-- Words stand by level, the number of pairs on the path: word 64 * pairs + row. With 64 pairs no row is undecided, so the places of level 64
-- hold something else: for each level the set of its rows that have a candidate.
abbrev pub open_set : ℕ → List ℕ → ℕ
open_set pairs workspace = get_or workspace (4096 + pairs) 0

-- the word of a row at a level; a row that is not in the level's set has the empty set, whatever its place holds
unfoldable pub level_word : List ℕ → ℕ → ℕ → ℕ
level_word workspace pairs r = cond (member (open_set pairs workspace) r) (get_or workspace (64 * pairs + r) 0) 0

-- a level's set holds only rows below n, and only those with a candidate
pub record ExactSet (n pairs : ℕ) (workspace : List ℕ) : Type 0 where
  pub inside : (r : ℕ) → member (open_set pairs workspace) r ≡ true → r < n
  pub filled : (r : ℕ) → member (open_set pairs workspace) r ≡ true → level_word workspace pairs r ≢ 0

-- the levels up to `pairs` are unchanged
pub record SameLevels (pairs : ℕ) (workspace workspace' : List ℕ) : Type 0 where
  pub words : length workspace' ≡ length workspace
  pub sets : (p : ℕ) → p ≤ pairs → open_set p workspace' ≡ open_set p workspace
  pub word : (p r : ℕ) → p ≤ pairs → r < 64 → level_word workspace' p r ≡ level_word workspace p r

-- level 0 holds the words of the root: the new vertices that a row may lie on
pub record RootWords (P : Problem) (workspace workspace' : List ℕ) : Type 0 where
  pub words : length workspace' ≡ length workspace
  pub root : (r : ℕ) → r < P.old.order → level_word workspace' 0 r ≡ set_of 64 (allowed P r)
  pub exact : ExactSet P.old.order 0 workspace'

-- the word that a later row r has once `row`, with `pairs` pairs before it, took `value`
abbrev pub met_word : List ℕ → List ℕ → ℕ → ℕ → ℕ → List ℕ → ℕ → ℕ
met_word edges masks row pairs value workspace r =
    meet_of (level_word workspace pairs r) (get_or masks (256 * value + get_or edges (place row r) 0) 0)

-- the next level holds the words of the rows after `row`, and the levels before it are unchanged
pub record Refined (edges masks : List ℕ) (row pairs value : ℕ) (workspace workspace' : List ℕ) : Type 0 where
  pub kept : SameLevels pairs workspace workspace'
  pub met : (r : ℕ) → row < r → r < 64 → level_word workspace' (pairs + 1) r ≡ met_word edges masks row pairs value workspace r
  pub exact : (n : ℕ) → pairs + 1 < 64 → ExactSet n pairs workspace → ExactSet n (pairs + 1) workspace'

-- how many rows from depth on are in the level's set
abbrev pub open_rows : ℕ → ℕ → List ℕ → ℕ
open_rows depth pairs workspace = count_below 64 (λ r. leb depth r && member (open_set pairs workspace) r)

-- how many rows after `row` have a candidate once it took `value`
abbrev pub meet_rows : List ℕ → List ℕ → ℕ → ℕ → ℕ → List ℕ → ℕ
meet_rows edges masks row pairs value workspace =
    count_below 64 (λ r. ltb row r && not (eqb (met_word edges masks row pairs value workspace r) 0))

-- the rows after `row` are counted that have a candidate once it took `value`, and the next level holds their words; or, once fewer than
-- `need` rows can have one, the count is some number below `need`
pub record Counted (edges masks : List ℕ) (row pairs value need : ℕ) (workspace workspace' : List ℕ) (count : ℕ) : Type 0 where
  pub kept : SameLevels pairs workspace workspace'
  pub few : count < need → meet_rows edges masks row pairs value workspace < need
  pub whole : need ≤ count → (count ≡ meet_rows edges masks row pairs value workspace) × Refined edges masks row pairs value workspace workspace'

-- how many rows of a set have no candidate, by their new words
abbrev pub lost_rows : ℕ → (ℕ → ℕ) → ℕ
lost_rows set word = count_below 64 (λ r. member set r && eqb (word r) 0)

-- the rows of a set are given their new words in a level, and those that are not empty join the rows kept; or so many are empty that the
-- count falls below `need`
pub record Met (set : ℕ) (word : ℕ → ℕ) (level need : ℕ) (workspace : List ℕ) (kept : Kept) (workspace' : List ℕ) (r : Kept) : Type 0 where
  pub words : length workspace' ≡ length workspace
  -- nothing but the places of these rows changes
  pub others : (i : ℕ) → ((m : ℕ) → m < 64 → member set m ≡ true → i ≢ 64 * level + m) → get_or workspace' i 0 ≡ get_or workspace i 0
  pub few : r.count < need → kept.count < need + lost_rows set word
  pub count_is : need ≤ r.count → r.count + lost_rows set word ≡ kept.count
  pub rows_are : need ≤ r.count → (m : ℕ) → m < 64 → member r.rows m ≡ (member kept.rows m || (member set m && not (eqb (word m) 0)))
  pub filled : need ≤ r.count → (m : ℕ) → m < 64 → member set m ≡ true → eqb (word m) 0 ≡ false → get_or workspace' (64 * level + m) 0 ≡ word m

-- the new word of a row whose edge to `row` has a mask of its own
abbrev pub near_word : List ℕ → List ℕ → ℕ → ℕ → ℕ → List ℕ → ℕ → ℕ
near_word edges masks row pairs value workspace r =
    meet_of (get_or workspace (64 * pairs + r) 0) (get_or masks (256 * value + get_or edges (place row r) 0) 0)

-- the new word of a row by the one mask of null edges
abbrev pub far_word : ℕ → ℕ → List ℕ → ℕ → ℕ
far_word mask pairs workspace r = meet_of (get_or workspace (64 * pairs + r) 0) mask

-- the words of each of the path's first k entries, k up to depth, stand at its number of pairs: a left-out row changes no word
pub record Words (P : Problem) (path : List ℕ) (depth : ℕ) (workspace : List ℕ) : Type 0 where
  pub word : (k : ℕ) → k ≤ depth → (r : ℕ) → k ≤ r → r < P.old.order
      → level_word workspace (size (take k path)) r ≡ word_of P (take k path) r
  pub exact : (k : ℕ) → k ≤ depth → size (take k path) < 64 → ExactSet P.old.order (size (take k path)) workspace
