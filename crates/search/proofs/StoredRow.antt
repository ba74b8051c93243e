-- The node whose path has one row stored anew: its prefix, its number of pairs, and that its ancestors' words still stand.
use mathlib.Core.Path.{◌≡◌, sym, ◌∙◌}
use mathlib.Core.List.{List}
use Prim.Native.Nat.{ℕ, ◌+◌, ◌≤◌, ◌<◌}
use native.Mathlib.Numerals.{add-one}
use native.Mathlib.Omega.{arith}
use lib.ListN.{length, take, set, length-set}
use lib.Seq.{length-take-le, take-set-le, take-suc-set}
use Rattle.problem.specs.Problem.{Problem}
use Rattle.mapping.specs.Common.{size}
use Rattle.mapping.proofs.Size.{counted}
use Rattle.search_tree.specs.Rules.{rules_of}
use Rattle.search_tree.specs.Node.{extend}
use Rattle.search_tree.specs.Trees.{Reached}
use Rattle.search_tree.proofs.Children.{Choice}
use Rattle.search_tree.proofs.Reached.{reached_extend}
use Rattle.search.specs.Words.{Words}
use Rattle.search.specs.Walking.{AtNode}
use Rattle.search.proofs.WordLevels.{size_extend, words_same, words_shorter}

-- The path's first entries with v at the row after them.
pub stored_prefix : (path : List ℕ) (row v : ℕ) → row < length path → take (row + 1) (set path row v) ≡ extend (take row path) v
stored_prefix path row v inside = rw add-one (take-suc-set path row v inside)

-- A choice stored at the row after a reached prefix makes a node of the tree.
pub stored_node : {P : Problem} {path ws : List ℕ} {row pairs v : ℕ} → length path ≡ 64 → 4160 ≤ length ws → row < length path
    → row < P.old.order → Reached (rules_of P) (take row path) → Words P path row ws
    → Choice (rules_of P) (take row path) v → pairs ≡ size (take row path) + counted v
    → AtNode P (set path row v) (row + 1) pairs ws
stored_node {P} {path} {ws} {row} {pairs} {v} sized room inside inner reached words choice count =
    let prefix = stored_prefix path row v inside in
    let depth = length-take-le row path (omega arith) in
    record {
      path_length = length-set path row v ∙ sized;
      room = room;
      reached = rw prefix (reached_extend (rules_of P) reached (omega arith) choice);
      depth_max = omega arith;
      pairs_are = rw prefix (count ∙ sym (size_extend (take row path) v));
      words = words_shorter (omega arith) (words_same path (set path row v) row (sym (take-set-le row path row v (omega arith))) words);
    }
