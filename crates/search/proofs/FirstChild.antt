-- The first child, from the least member of the next row's word.
use mathlib.Core.Path.{◌≡◌, refl, sym}
use mathlib.Core.Logic.{inl, inr}
use mathlib.Core.Bool.{false}
use mathlib.Core.List.{List, ◌∷◌}
use Prim.Native.Nat.{ℕ, ◌+◌, ◌<◌}
use native.Mathlib.Nat.{le_refl}
use native.Mathlib.Numerals.{add-one}
use native.Mathlib.Omega.{arith}
use lib.ListN.{length, take, set}
use lib.Seq.{take-take}
use Rattle.bitset.specs.Least.{least_member}
use Rattle.std.specs.Prelude.{Some, None}
use Rattle.bitset.proofs.LeastBelow.{least_below_member}
use Rattle.problem.specs.Problem.{Problem, SoundProblem}
use Rattle.mapping.specs.Common.{unmapped}
use Rattle.mapping.proofs.Size.{counted, counted_mapped}
use Rattle.search_tree.specs.Rules.{rules_of}
use Rattle.search_tree.specs.Node.{extend, children}
use Rattle.search_tree.proofs.Children.{Choice}
use Rattle.search.specs.Words.{level_word, Words}
use Rattle.search.specs.Walking.{AtNode, Moved, Descends}
use Rattle.search.proofs.MovedPath.{moved_front, moved_stored}
use Rattle.search.proofs.ReadyWalk.{node_length}
use Rattle.search.proofs.WordLevels.{words_same}
use Rattle.search.proofs.WordChoices.{first_taken, only_left_out}
use Rattle.search.proofs.StoredRow.{stored_prefix, stored_node}

module _ {P : Problem} (sound : SoundProblem P) {path ws : List ℕ} {depth pairs : ℕ} (inner : depth < P.old.order)
    (node : AtNode P path depth pairs ws) (words : Words P path depth ws) where
  -- the node's words, over its own prefix
  own_words : Words P (take depth path) (length (take depth path)) ws
  own_words = rw (node_length sound node) (words_same path (take depth path) depth (sym (take-take depth depth path (le_refl depth))) words)

  -- where v is the first choice, the path that moved on to it is the first child
  descends : {count v last later : ℕ} {path' : List ℕ} {rest : List (List ℕ)} → Choice (rules_of P) (take depth path) v → count ≡ pairs + counted v
      → children (rules_of P) (take depth path) ≡ extend (take depth path) v ∷ rest → Moved path (depth + 1) v path'
      → Descends P path depth ws (record { depth = depth + 1; pairs = count; finished = false; last = last; later = later }) path'
  descends {count} {v} {last} {later} {path'} {rest} choice more first moved =
      let inner64 : depth < 64 = omega (arith, sound.old_sound.order_max) in
      let inside : depth < length path' = omega (arith, moved.path_length) in
      let same : take depth path' ≡ take depth path = moved_front node.path_length inner64 moved in
      let whole : Descends P path depth ws (record { depth = depth + 1; pairs = count; finished = false; last = last; later = later }) (set path' depth v) = record {
        goes_on = refl;
        deeper = add-one depth;
        child = (rest, rw (stored_prefix path' depth v inside, same) first);
        node = stored_node moved.path_length node.room inside inner (rw same node.reached) (words_same path path' depth (sym same) words)
            (rw same choice) (rw same (omega (arith, node.pairs_are)));
        rest_zero = λ zero. rw (moved_stored node.path_length inner64 moved) moved.rest;
      } in
      rw (moved_stored node.path_length inner64 moved) at whole

  -- The least member of the row's word is stored: the first child takes it.
  pub child_taken : {v last later : ℕ} {path' : List ℕ} → least_member (level_word ws pairs depth) ≡ Some v → Moved path (depth + 1) v path'
      → Descends P path depth ws (record { depth = depth + 1; pairs = pairs + 1; finished = false; last = last; later = later }) path'
  child_taken {v} e moved =
      let small = (least_below_member 64 _ e).below in
      let first = first_taken P sound (omega (arith, node_length sound node)) own_words {v = v} (rw (node_length sound node, ← node.pairs_are) e) in
      let one = counted_mapped v (λ u. omega arith) in
      descends (inr first.is_candidate) (omega arith) first.children_are moved

  -- The row's word is empty: the first child leaves the row out.
  pub child_left_out : {last later : ℕ} {path' : List ℕ} → least_member (level_word ws pairs depth) ≡ None → Moved path (depth + 1) unmapped path'
      → Descends P path depth ws (record { depth = depth + 1; pairs = pairs; finished = false; last = last; later = later }) path'
  child_left_out e moved =
      let first = only_left_out P sound (omega (arith, node_length sound node)) own_words (rw (node_length sound node, ← node.pairs_are) e) in
      descends (inl refl) (omega arith) first.children_are moved
