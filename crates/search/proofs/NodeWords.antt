-- The words of a node from those of its parent, and the node's upper bound: what the code adds to the workspace as it goes down a path.
use mathlib.Core.Path.{◌≡◌, refl, sym, ap, ◌∙◌}
use mathlib.Core.Logic.{◌⊎◌, ⊎_elim, inl, inr}
use mathlib.Core.Bool.{not, ◌&&◌}
use mathlib.Core.List.{List}
use Prim.Native.Nat.{ℕ, ◌+◌, ◌-◌, ◌≤◌, ◌<◌}
use native.Mathlib.Decide.{dec_lt}
use native.Mathlib.Omega.{arith}
use lib.Dec.{leb, ltb, eqb}
use lib.ListN.{length, get_or, take, length-take}
use lib.Seq.{get_or-take}
use borrow.Author.Tests.{le-leb}
use Rattle.bitset.specs.Members.{member}
use Rattle.bitset.proofs.CountBelow.{count_below_le}
use Rattle.problem.specs.Problem.{Problem}
use Rattle.mapping.specs.Common.{unmapped, size}
use Rattle.mapping.proofs.Size.{size_max, counted_mapped}
use Rattle.search_tree.specs.Rules.{rules_of}
use Rattle.search_tree.specs.Node.{upper_bound, extend}
use Rattle.search_tree.specs.Trees.{Reached}
use Rattle.search_tree.proofs.BoundFalls.{bound_last}
use Rattle.search_tree.proofs.Candidates.{candidate_value}
use Rattle.search.specs.Words.{open_set, met_word, Refined, open_rows, meet_rows, Counted, Words}
use Rattle.search.specs.Walking.{Setting, AtNode, InBounds, Bounded}
use Rattle.search.proofs.ReadyWalk.{decided_length}
use Rattle.search.proofs.WordLevels.{size_extend, size_left_out, take_extend, words_shorter, words_left_out, words_kept, words_refined}
use Rattle.search.proofs.WordBounds.{prefix_bound, taken_bound}

-- No more rows are counted than a set can hold.
pub open_rows_max : (depth pairs : ℕ) (ws : List ℕ) → open_rows depth pairs ws ≤ 64
open_rows_max depth pairs ws = count_below_le 64 (λ r. leb depth r && member (open_set pairs ws) r)

pub meet_rows_max : (edges masks : List ℕ) (row pairs value : ℕ) (ws : List ℕ) → meet_rows edges masks row pairs value ws ≤ 64
meet_rows_max edges masks row pairs value ws = count_below_le 64 (λ r. ltb row r && not (eqb (met_word edges masks row pairs value ws r) 0))

-- A path's first entries have no more pairs than entries.
pub size_take_max : (path : List ℕ) (k : ℕ) → size (take k path) ≤ k
size_take_max path k = omega (arith, size_max (take k path), length-take k path)

-- A row that is not left out adds a pair.
pub size_mapped : (path : List ℕ) (row : ℕ) → row < length path → (get_or path row 0 ≡ unmapped → ⊥)
    → size (take (row + 1) path) ≡ size (take row path) + 1
size_mapped path row h mapped =
    rw (take_extend path row h) (omega (arith, size_extend (take row path) (get_or path row 0), counted_mapped (get_or path row 0) mapped))

module _ {path : List ℕ} {depth pairs : ℕ} {ws : List ℕ} (bounds : InBounds path depth pairs ws) where
  -- A node has no more pairs than rows.
  pub pairs_max : pairs ≤ depth
  pairs_max = omega (arith, bounds.pairs_are, size_take_max path depth)

  -- A row that is not left out took a vertex below 64.
  pub entry_max : (row : ℕ) → row < depth → (get_or path row 0 ≡ unmapped → ⊥) → get_or path row 0 < 64
  entry_max row h mapped = ⊎_elim (λ out. absurd (mapped out)) (λ low. low) (bounds.entry row h)

  -- Where the last row is not left out, its parent has one pair less.
  pub pairs_before : 0 < depth → (get_or path (depth - 1) 0 ≡ unmapped → ⊥) → pairs ≡ size (take (depth - 1) path) + 1
  pairs_before h mapped =
      let deeper : depth - 1 + 1 ≡ depth = omega arith in
      let inside : depth - 1 < length path = omega (arith, bounds.depth_max, bounds.path_length) in
      bounds.pairs_are ∙ (rw deeper at (size_mapped path (depth - 1) inside mapped))

  -- Where the last row is left out, there are fewer pairs than rows.
  pub pairs_left_out : 0 < depth → get_or path (depth - 1) 0 ≡ unmapped → pairs < depth
  pairs_left_out h out =
      let deeper : depth - 1 + 1 ≡ depth = omega arith in
      omega (arith, bounds.pairs_are, size_take_max path (depth - 1), rw deeper at (size_left_out path (depth - 1) out))

module _ {P : Problem} {n : ℕ} {edges masks : List ℕ} (setting : Setting P n edges masks) (path : List ℕ) (depth : ℕ) (long : length path ≡ 64)
    (within : depth ≤ P.old.order) (reached : Reached (rules_of P) (take depth path)) where
  -- a row of the path that is not left out took a new vertex
  taken_value : (row : ℕ) → row < depth → (get_or path row 0 ≡ unmapped → ⊥) → get_or path row 0 < P.new.order
  taken_value row h mapped =
      let inside = decided_length setting.sound path depth long within in
      let entry = reached.entry row (omega arith) in
      let same : get_or (take depth path) row 0 ≡ get_or path row 0 = get_or-take depth path row 0 h in
      ⊎_elim (λ out. absurd (mapped (sym same ∙ out)))
      (λ c. rw same at (candidate_value (rules_of P) (take row (take depth path)) row (get_or (take depth path) row 0) c))
      entry

  -- The words of the path's next prefix, once its last row, which took a new vertex, is refined.
  pub words_taken : {ws ws' : List ℕ} (row : ℕ) → row < depth → (get_or path row 0 ≡ unmapped → ⊥)
      → Refined edges masks row (size (take row path)) (get_or path row 0) ws ws' → Words P path row ws → Words P path (row + 1) ws'
  words_taken row h mapped refined words =
      let max = setting.sound.old_sound.order_max in
      words_refined P setting.sound (omega arith) refl (taken_value row h mapped) setting.masks_are
      (rw setting.edges_is refined) words

module _ {P : Problem} {n : ℕ} {edges masks path ws : List ℕ} {depth pairs : ℕ} (setting : Setting P n edges masks)
    (node : AtNode P path depth pairs ws) where
  -- The upper bound of a node, from its words.
  pub node_bound : pairs < 64 → Words P path depth ws → pairs + open_rows depth pairs ws ≡ upper_bound (rules_of P) (take depth path)
  node_bound few words =
      let max = setting.sound.old_sound.order_max in
      rw node.pairs_are (sym (prefix_bound P setting.sound (omega (arith, node.depth_max, node.path_length)) words (omega (arith, node.pairs_are))))

  -- With 64 pairs no row is undecided.
  pub node_full : 64 ≤ pairs → pairs ≡ upper_bound (rules_of P) (take depth path)
  node_full full =
      let q = take depth path in
      let max = setting.sound.old_sound.order_max in
      let last : P.old.order ≤ length q = omega (arith, node.pairs_are, size_max q) in
      node.pairs_are ∙ sym (bound_last (rules_of P) q (le-leb P.old.order (length q) last))

  -- The root's words are those of its ancestors: it has none.
  pub node_root : depth ≡ 0 → Words P path depth ws
  node_root e = words_shorter (omega arith) node.words

  -- Where the last row is left out, the node's words are its parent's.
  pub node_left_out : 0 < depth → get_or path (depth - 1) 0 ≡ unmapped → Words P path depth ws
  node_left_out h out =
      let deeper : depth - 1 + 1 ≡ depth = omega arith in
      rw deeper at (words_left_out P out node.words)

  -- Where the last row took a new vertex, the node's words are its parent's, refined.
  pub node_taken : {ws' : List ℕ} → 0 < depth → (get_or path (depth - 1) 0 ≡ unmapped → ⊥)
      → Refined edges masks (depth - 1) (pairs - 1) (get_or path (depth - 1) 0) ws ws' → Words P path depth ws'
  node_taken {ws'} h mapped refined =
      let max = setting.sound.old_sound.order_max in
      let inside : depth - 1 < length path = omega (arith, node.depth_max, node.path_length) in
      let deeper : depth - 1 + 1 ≡ depth = omega arith in
      let one : size (take depth path) ≡ size (take (depth - 1) path) + 1 = rw deeper at (size_mapped path (depth - 1) inside mapped) in
      let before : pairs - 1 ≡ size (take (depth - 1) path) = omega (arith, node.pairs_are) in
      rw deeper at (words_taken setting path depth node.path_length node.depth_max node.reached (depth - 1) (omega arith) mapped
      (rw before at refined) node.words)

  -- Where the last row took a new vertex, its upper bound, from its parent's words.
  pub node_taken_bound : 0 < depth → (get_or path (depth - 1) 0 ≡ unmapped → ⊥)
      → pairs + meet_rows edges masks (depth - 1) (pairs - 1) (get_or path (depth - 1) 0) ws ≡ upper_bound (rules_of P) (take depth path)
  node_taken_bound h mapped =
      let max = setting.sound.old_sound.order_max in
      let row : ℕ = depth - 1 in
      let inside : row < length path = omega (arith, node.depth_max, node.path_length) in
      let deeper : row + 1 ≡ depth = omega arith in
      let one : size (take depth path) ≡ size (take row path) + 1 = rw deeper at (size_mapped path row inside mapped) in
      let before : pairs - 1 ≡ size (take row path) = omega (arith, node.pairs_are) in
      let value = taken_value setting path depth node.path_length node.depth_max node.reached row (omega arith) mapped in
      let last : take depth path ≡ extend (take row path) (get_or path row 0) = rw deeper at (take_extend path row inside) in
      let bound = taken_bound P setting.sound (omega arith) node.words (omega (arith, size_take_max path row)) setting.masks_are (get_or path row 0) value in
      rw (← setting.edges_is) (omega (arith, node.pairs_are, rw (← before, ← last) at bound))

  -- A bound that is known, beside the node's own words.
  pub node_bounded : {ws' : List ℕ} {cutoff bound : ℕ} → bound ≡ upper_bound (rules_of P) (take depth path) → Words P path depth ws'
      → Bounded P path depth cutoff ws' bound
  node_bounded is words = record { low = λ h. omega arith; high = λ h. (is, words); words = words_shorter (omega arith) words }

  -- Where the last row took a new vertex, the rows that are counted give the bound, as far as it reaches the cutoff.
  pub node_taken_bounded : {ws' : List ℕ} {cutoff need count : ℕ} → 0 < depth → (get_or path (depth - 1) 0 ≡ unmapped → ⊥) → need ≡ cutoff - pairs
      → Counted edges masks (depth - 1) (pairs - 1) (get_or path (depth - 1) 0) need ws ws' count → Bounded P path depth cutoff ws' (pairs + count)
  node_taken_bounded {ws'} {cutoff} {need} {count} h mapped asked counted = record {
    low = λ l. omega (arith, bound, counted.few (omega arith));
    high = λ l.
        let all = counted.whole (omega arith) in
        (ap (λ (k : ℕ). pairs + k) all.0 ∙ bound, node_taken h mapped all.1);
    words = words_kept P setting.sound (omega (arith, before)) counted.kept node.words;
  }
    where
      bound : pairs + meet_rows edges masks (depth - 1) (pairs - 1) (get_or path (depth - 1) 0) ws ≡ upper_bound (rules_of P) (take depth path)
      bound = node_taken_bound h mapped

      before : pairs ≡ size (take (depth - 1) path) + 1
      before =
          let deeper : depth - 1 + 1 ≡ depth = omega arith in
          let inside : depth - 1 < length path = omega (arith, node.depth_max, node.path_length, setting.sound.old_sound.order_max) in
          node.pairs_are ∙ (rw deeper at (size_mapped path (depth - 1) inside mapped))

-- A count of rows, or a number below what is needed, is small.
pub counted_max : {edges masks ws ws' : List ℕ} {row pairs value need count : ℕ} → Counted edges masks row pairs value need ws ws' count
    → (count < need) ⊎ (count ≤ 64)
counted_max {edges} {masks} {ws} {ws'} {row} {pairs} {value} {need} {count} counted = go (dec_lt count need)
  where
    go : Dec (count < need) → (count < need) ⊎ (count ≤ 64)
    go (yes few) = inl few
    go (no enough) = inr (omega (arith, (counted.whole (omega arith)).0, meet_rows_max edges masks row pairs value ws))
