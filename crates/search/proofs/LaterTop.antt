-- The loop over a path's levels, on plain values: a level's later siblings are counted, or passed over where they cannot raise the maximum.
use mathlib.Core.Path.{◌≡◌, sym, ap, ◌∙◌}
use mathlib.Core.Logic.{◌≢◌}
use mathlib.Core.List.{List}
use Prim.Native.Nat.{ℕ, ◌+◌, ◌-◌, ◌≤◌, ◌<◌, max}
use native.Mathlib.Nat.{le_refl}
use native.Mathlib.Omega.{arith}
use lib.ListN.{length, get_or, take, drop, take-append-drop}
use lib.Seq.{length-take-le}
use Rattle.problem.specs.Problem.{Problem}
use Rattle.mapping.specs.Common.{unmapped, size}
use Rattle.search_tree.specs.Rules.{rules_of}
use Rattle.search_tree.specs.Node.{upper_bound, later_siblings}
use Rattle.search_tree.specs.Ceiling.{top_bound}
use Rattle.search_tree.proofs.OpenNodes.{later_siblings_append}
use Rattle.search.specs.Words.{SameLevels, open_rows, Words}
use Rattle.search.specs.Walking.{Setting, AtNode, AtRow, InBounds, level_top}
use Rattle.search.proofs.NodeWords.{size_mapped, size_take_max}
use Rattle.search.proofs.Levels.{same_none, same_more, open_rows_same}
use Rattle.search.proofs.WordLevels.{words_shorter, size_left_out, words_kept}
use Rattle.search.proofs.WordBounds.{prefix_bound}
use Rattle.search.proofs.WordCeiling.{top_bound_level, top_bound_skip, top_bound_same, top_bound_root}

-- one more than the greatest bound of the later siblings of a path's first k entries, and of fewer
abbrev pub later_top : Problem → List ℕ → ℕ → ℕ
later_top P path k = top_bound (rules_of P) (later_siblings (rules_of P) path k)

-- The invariant: the greatest so far and the levels up to k make up all levels, and these are unchanged.
pub record LevelsHead (edges masks path ws ws' : List ℕ) (depth pairs least k left top : ℕ) : Type 0 where
  pub k_max : k ≤ depth
  pub left_is : left ≡ size (take k path)
  pub kept : SameLevels left ws ws'
  pub tops : (P : Problem) → Setting P P.old.order edges masks → AtNode P path depth pairs ws → max least (later_top P path depth) ≡ max top (later_top P path k)

-- the path goes as far as its depth
inside : {path ws : List ℕ} {depth pairs : ℕ} → InBounds path depth pairs ws → depth ≤ length path
inside bounds = omega (arith, bounds.path_length, bounds.depth_max)

module _ {edges masks path ws : List ℕ} {depth pairs : ℕ} (bounds : InBounds path depth pairs ws) where
  -- Before the first level, all are left.
  pub levels_first : (least : ℕ) → LevelsHead edges masks path ws ws depth pairs least depth pairs least
  levels_first least = record { k_max = le_refl depth; left_is = bounds.pairs_are; kept = same_none pairs ws; tops = λ P setting node. omega arith }

  module _ {ws' : List ℕ} {least k left top : ℕ} (row : ℕ) (next : k ≡ row + 1) (before : LevelsHead edges masks path ws ws' depth pairs least k left top) where
    head : LevelsHead edges masks path ws ws' depth pairs least (row + 1) left top
    head = rw next at before

    row_inside : row < length path
    row_inside = omega (arith, inside bounds, head.k_max)

    -- A level that leaves its row out adds nothing.
    pub level_left_out : get_or path row 0 ≡ unmapped → LevelsHead edges masks path ws ws' depth pairs least row left top
    level_left_out e = record {
      k_max = omega (arith, head.k_max);
      left_is = head.left_is ∙ size_left_out path row e;
      kept = head.kept;
      tops = λ P setting node. omega (arith, head.tops P setting node, top_bound_same P setting.sound path row e);
    }

    module _ (mapped : get_or path row 0 ≢ unmapped) where
      -- The level's node has one pair less.
      pub level_pairs : left ≡ size (take row path) + 1
      level_pairs = head.left_is ∙ size_mapped path row row_inside mapped

      left_before : left - 1 ≡ size (take row path)
      left_before = omega (arith, level_pairs)

      -- the words of the level's node
      level_words : {P : Problem} → AtNode P path depth pairs ws → Words P path row ws
      level_words node = words_shorter (omega (arith, head.k_max)) node.words

      lower : SameLevels (left - 1) ws ws'
      lower = same_more head.kept (left - 1) (omega arith) (same_none (left - 1) ws')

      -- A level counts its later siblings,
      pub level_counted : {ws'' : List ℕ} {above top' value : ℕ} → SameLevels (left - 1) ws' ws''
          → ((P : Problem) (path : List ℕ) → Setting P P.old.order edges masks → AtRow P path row (left - 1) ws'
          → above ≡ level_top (rules_of P) (take row path) value)
          → value ≡ get_or path row 0
          → top' ≡ max top above → LevelsHead edges masks path ws ws'' depth pairs least row (left - 1) top'
      level_counted {ws''} {above} {top'} {value} same counts is e = record {
        k_max = omega (arith, head.k_max);
        left_is = left_before;
        kept = same_more head.kept (left - 1) (omega arith) same;
        tops = λ P setting node.
            let words = words_kept P setting.sound (omega (arith, left_before)) lower (level_words node) in
            let at : AtRow P path row (left - 1) ws' = record {
              path_length = node.path_length;
              row_max = omega (arith, head.k_max, node.depth_max);
              pairs_are = left_before;
              words = words;
            } in
            omega (arith, head.tops P setting node, top_bound_level (rules_of P) path row, rw is at (counts P path setting at));
      }

      -- and is passed over where its node's bound is not above the maximum so far.
      pub level_skipped : left - 1 + 1 + open_rows row (left - 1) ws' ≤ top → LevelsHead edges masks path ws ws' depth pairs least row (left - 1) top
      level_skipped h = record {
        k_max = omega (arith, head.k_max);
        left_is = left_before;
        kept = lower;
        tops = λ P setting node.
            let row_is : row < P.old.order = omega (arith, head.k_max, node.depth_max) in
            let few : size (take row path) < 64 = omega (arith, row_is, setting.sound.old_sound.order_max, size_take_max path row) in
            let is : upper_bound (rules_of P) (take row path) ≡ left - 1 + open_rows row (left - 1) ws =
            rw left_before (prefix_bound P setting.sound (omega (arith, row_inside)) (level_words node) few) in
            let same = open_rows_same lower row (left - 1) (le_refl (left - 1)) in
            omega (arith, head.tops P setting node, top_bound_skip (rules_of P) path row top (omega (arith, row_inside)) row_is (omega arith));
      }

  -- At the root the maximum is that of all levels.
  pub levels_all : {ws' : List ℕ} {least k left top : ℕ} → k ≡ 0 → LevelsHead edges masks path ws ws' depth pairs least k left top
      → (P : Problem) → Setting P P.old.order edges masks → AtNode P path depth pairs ws → top ≡ max least (later_top P (take depth path) depth)
  levels_all {ws'} {least} {k} {left} {top} e head P setting node =
      let R = rules_of P in
      let same = later_siblings_append R (take depth path) (drop depth path) depth (omega (arith, length-take-le depth path (inside bounds))) in
      let whole = ap (λ (l : List ℕ). later_siblings R l depth) (take-append-drop depth path) in
      omega (arith, head.tops P setting node, ap (later_top P path) e, top_bound_root R path, ap (top_bound R) (sym whole ∙ same))
