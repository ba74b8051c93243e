-- The nearest later sibling of a node or of an ancestor: rows left out are passed, and the last pair's word has the next choice.
use mathlib.Core.Path.{◌≡◌, refl, sym, ◌∙◌}
use mathlib.Core.Logic.{◌≢◌, ◌⊎◌, inl, inr, ⊎_elim}
use mathlib.Core.Bool.{true, false, true≢false}
use mathlib.Core.List.{List, ◌∷◌}
use Prim.Native.Nat.{ℕ, zero, suc, ◌+◌, ◌-◌, ◌≤◌, ◌<◌}
use native.Mathlib.Nat.{le_refl}
use native.Mathlib.Numerals.{add-one}
use native.Mathlib.Decide.{ℕ_discrete}
use native.Mathlib.Omega.{arith}
use lib.ListN.{length, get_or, take, drop, set, take-append-drop}
use lib.Seq.{length-take-le, take-take, get_or-take}
use Rattle.bitset.specs.Least.{least_above}
use Rattle.std.specs.Prelude.{Some, None}
use Rattle.bitset.proofs.LeastBelow.{least_above_member}
use Rattle.problem.specs.Problem.{Problem, SoundProblem}
use Rattle.mapping.specs.Common.{unmapped, size}
use Rattle.mapping.proofs.Size.{counted, counted_mapped, size_nil}
use Rattle.search_tree.specs.Rules.{rules_of}
use Rattle.search_tree.specs.Node.{extend, later_siblings}
use Rattle.search_tree.proofs.Candidates.{candidate_value}
use Rattle.search_tree.proofs.Children.{Choice}
use Rattle.search_tree.proofs.OpenNodes.{later_siblings_append}
use Rattle.search_tree.proofs.Reached.{reached_root, reached_take}
use Rattle.search.specs.Words.{level_word, Words}
use Rattle.search.specs.Walking.{AtNode, Moved, Retreats}
use Rattle.search.proofs.MovedPath.{moved_front, moved_stored}
use Rattle.search.proofs.ReadyWalk.{node_length}
use Rattle.search.proofs.WordLevels.{size_left_out, words_same, words_shorter}
use Rattle.search.proofs.WordChoices.{next_taken, siblings_taken, siblings_last, siblings_left_out, siblings_root}
use Rattle.search.proofs.NodeWords.{size_take_max, size_mapped}
use Rattle.search.proofs.StoredRow.{stored_prefix, stored_node}

-- The invariant: no row of the path from k up to depth is a pair, so none has a later sibling.
pub record Passed (path : List ℕ) (depth pairs k : ℕ) : Type 0 where
  pub within : k ≤ depth
  pub pairs_are : pairs ≡ size (take k path)
  pub siblings : (P : Problem) → SoundProblem P → later_siblings (rules_of P) path depth ≡ later_siblings (rules_of P) path k

-- At first no row is passed.
pub passed_none : (path : List ℕ) (depth pairs : ℕ) → pairs ≡ size (take depth path) → Passed path depth pairs depth
passed_none path depth pairs e = record { within = le_refl depth; pairs_are = e; siblings = λ P sound. refl }

-- A row that is left out is passed.
pub passed_more : {path : List ℕ} {depth pairs k row : ℕ} → Passed path depth pairs k → k ≡ row + 1 → get_or path row 0 ≡ unmapped
    → Passed path depth pairs row
passed_more {path} {depth} {pairs} {k} {row} passed top e = record {
  within = omega (arith, passed.within);
  pairs_are = passed.pairs_are ∙ rw top (size_left_out path row e);
  siblings = λ P sound. passed.siblings P sound ∙ rw top (siblings_left_out P sound path row e);
}

-- No row is a pair, or the rows after the last pair are passed.
abbrev pub LastPair : List ℕ → ℕ → ℕ → Type 0
LastPair path depth pairs = Passed path depth pairs 0 ⊎ ((row : ℕ) × Passed path depth pairs (row + 1) × (get_or path row 0 ≢ unmapped))

pass_on : {path : List ℕ} {depth pairs : ℕ} (j : ℕ) → (Passed path depth pairs j → LastPair path depth pairs) → Passed path depth pairs (suc j)
    → Dec (get_or path j 0 ≡ unmapped) → LastPair path depth pairs
pass_on j further passed (yes out) = further (passed_more passed (sym (add-one j)) out)
pass_on j further passed (no mapped) = inr (j, rw (add-one j) passed, mapped)

pass_down : {path : List ℕ} {depth pairs : ℕ} (k : ℕ) → Passed path depth pairs k → LastPair path depth pairs
pass_down zero passed = inl passed
pass_down {path} (suc j) passed = pass_on j (pass_down j) passed (ℕ_discrete (get_or path j 0) unmapped)

pub passed_to : {path : List ℕ} {depth pairs : ℕ} → pairs ≡ size (take depth path) → LastPair path depth pairs
passed_to {path} {depth} {pairs} e = pass_down depth (passed_none path depth pairs e)

-- A row that is a pair adds one to the pairs before it.
pub pairs_before : {path : List ℕ} {depth pairs k row : ℕ} → Passed path depth pairs k → k ≡ row + 1 → row < length path
    → get_or path row 0 ≢ unmapped → (pairs ≡ size (take row path) + 1) × (size (take row path) ≤ row)
pairs_before {path} {depth} {pairs} {k} {row} passed top inside mapped =
    (passed.pairs_are ∙ rw top (size_mapped path row inside mapped), size_take_max path row)

module _ {P : Problem} (sound : SoundProblem P) {path ws : List ℕ} {depth pairs : ℕ} (node : AtNode P path depth pairs ws) where
  own_inside : depth ≤ length path
  own_inside = omega (arith, node.path_length, node.depth_max, sound.old_sound.order_max)

  -- the later siblings depend on the path's first entries alone
  own_siblings : later_siblings (rules_of P) (take depth path) depth ≡ later_siblings (rules_of P) path depth
  own_siblings =
      let short = node_length sound node in
      sym (rw take-append-drop at (later_siblings_append (rules_of P) (take depth path) (drop depth path) depth (omega arith)))

  -- All rows are passed: there is no later sibling.
  pub retreat_ends : {path' : List ℕ} {last later : ℕ} → Passed path depth pairs 0 → Moved path 0 last path'
      → Retreats P path depth ws (record { depth = 0; pairs = 0; finished = true; last = last; later = later }) path'
  retreat_ends {path'} passed moved = record {
    none_left = λ _. (own_siblings ∙ passed.siblings P sound ∙ siblings_root (rules_of P) path, refl);
    sibling = λ e. absurd (true≢false e);
    node = record {
      path_length = moved.path_length;
      room = node.room;
      reached = reached_root (rules_of P);
      depth_max = omega arith;
      pairs_are = sym size_nil;
      words = words_same path path' 0 refl (words_shorter (omega arith) node.words);
    };
    rest_zero = λ zero. moved.rest;
  }

  module _ (row : ℕ) (passed : Passed path depth pairs (row + 1)) (mapped : get_or path row 0 ≢ unmapped) where
    row_below : row < depth
    row_below = omega (arith, passed.within)

    row_inside : row < length path
    row_inside = omega (arith, row_below, own_inside)

    row_inner : row < P.old.order
    row_inner = omega (arith, row_below, node.depth_max)

    -- the row's value is a new vertex
    row_value : get_or path row 0 < unmapped
    row_value =
        let max = sound.new_sound.order_max in
        ⊎_elim (λ u. absurd (mapped u))
        (λ c. omega (arith, candidate_value (rules_of P) (take row (take depth path)) row (get_or path row 0) c))
        (rw (get_or-take depth path row 0 row_below) at (node.reached.entry row (omega (arith, row_below, node_length sound node))))

    row_words : Words P path row ws
    row_words = words_shorter (omega (arith, row_below)) node.words

    -- where v is the next choice of the row, the path that moved on to it is the nearest later sibling
    retreats : {count v last later : ℕ} {path' : List ℕ} {rest : List (List ℕ)} → Choice (rules_of P) (take row path) v → count ≡ size (take row path) + counted v
        → later_siblings (rules_of P) path (row + 1) ≡ extend (take row path) v ∷ rest → Moved path (row + 1) v path'
        → Retreats P path depth ws (record { depth = row + 1; pairs = count; finished = false; last = last; later = later }) path'
    retreats {count} {v} {last} {later} {path'} {rest} choice more next moved =
        let inner64 : row < 64 = omega (arith, row_inside, node.path_length) in
        let reached = rw (take-take row depth path (omega (arith, row_below))) at (reached_take (rules_of P) node.reached row) in
        let same : take row path' ≡ take row path = moved_front node.path_length inner64 moved in
        let inside : row < length path' = omega (arith, moved.path_length) in
        let whole : Retreats P path depth ws (record { depth = row + 1; pairs = count; finished = false; last = last; later = later }) (set path' row v) = record {
          none_left = λ e. absurd (true≢false (sym e));
          sibling = λ _. (rest, rw (own_siblings, passed.siblings P sound, stored_prefix path' row v inside, same) next);
          node = stored_node moved.path_length node.room inside row_inner (rw same reached)
              (words_same path path' row (sym same) row_words) (rw same choice) (rw same more);
          rest_zero = λ zero. rw (moved_stored node.path_length inner64 moved) moved.rest;
        } in
        rw (moved_stored node.path_length inner64 moved) at whole

    -- The least member above the row's value is stored: the sibling takes it.
    pub sibling_taken : {v last later : ℕ} {path' : List ℕ} → least_above (level_word ws (pairs - 1) row) (get_or path row 0) ≡ Some v → Moved path (row + 1) v path'
        → Retreats P path depth ws (record { depth = row + 1; pairs = pairs; finished = false; last = last; later = later }) path'
    sibling_taken {v} e moved =
        let before = pairs_before passed refl row_inside mapped in
        let level : pairs - 1 ≡ size (take row path) = omega arith in
        let found : least_above (level_word ws (size (take row path)) row) (get_or path row 0) ≡ Some v = rw level at e in
        let small = (least_above_member _ _ e).below in
        let one = counted_mapped v (λ u. omega arith) in
        let next = next_taken P sound (omega (arith, row_inside)) row_inner row_words (get_or path row 0) {v = v} found in
        retreats (inr (rw (length-take-le row path (omega (arith, row_inside))) next.is_candidate)) (omega arith)
        (siblings_taken P sound (omega (arith, row_inside)) row_inner row_words found) moved

    -- No member is above the row's value: the sibling leaves the row out.
    pub sibling_left_out : {last later : ℕ} {path' : List ℕ} → least_above (level_word ws (pairs - 1) row) (get_or path row 0) ≡ None → Moved path (row + 1) unmapped path'
        → Retreats P path depth ws (record { depth = row + 1; pairs = pairs - 1; finished = false; last = last; later = later }) path'
    sibling_left_out e moved =
        let before = pairs_before passed refl row_inside mapped in
        let level : pairs - 1 ≡ size (take row path) = omega arith in
        let found : least_above (level_word ws (size (take row path)) row) (get_or path row 0) ≡ None = rw level at e in
        retreats (inl refl) (omega arith) (siblings_last P sound (omega (arith, row_inside)) row_inner row_words row_value found) moved
