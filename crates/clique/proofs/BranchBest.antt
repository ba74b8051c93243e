-- Clique branching holds what the finished walk of the first search holds: a largest common subgraph and of those the first, or nothing where none reaches the
-- minimum (02, U2).
use mathlib.Core.Path.{◌≡◌}
use mathlib.Core.Logic.{◌↔◌, ⊎_elim}
use mathlib.Core.Bool.{true, false}
use mathlib.Core.List.{List, [], ◌∷◌, map}
use mathlib.Core.Option.{Option, none, some}
use Prim.Native.Nat.{ℕ, zero, suc, ◌+◌, ◌*◌, ◌<◌}
use native.Mathlib.Omega.{arith}
use lib.ListN.{length, length-append}
use borrow.Author.Tests.{le-leb, lt-leb}
use Rattle.branch_bound.specs.Tree.{Under, here}
use Rattle.branch_bound.proofs.Solutions.{
  UnderOne,
  InOrder,
  under_none,
  under_last,
  under_child,
  under_parent,
  under_head,
  under_tail,
  under_cons,
  children_in_order,
}
use Rattle.mapping.specs.Common.{size, Common}
use Rattle.mapping.specs.Order.{Before}
use Rattle.problem.specs.Problem.{Problem, SoundProblem}
use Rattle.search_tree.specs.Rules.{Regular}
use Rattle.search_tree.specs.Search.{Search, search_of}
use Rattle.search_tree.specs.Node.{choices, extend, is_last, children}
use Rattle.search_tree.specs.Trees.{tree}
use Rattle.search_tree.specs.Walk.{after, IsTotal}
use Rattle.search_tree.specs.Best.{Best}
use Rattle.search_tree.proofs.Children.{children_inner}
use Rattle.search_tree.proofs.LawfulTree.{lawful}
use Rattle.search_tree.proofs.ReachedCommon.{last_common}
use Rattle.search_tree.proofs.Best.{best_same, best_none}
use Rattle.search_tree.proofs.WalkTheorems.{rules_regular, common_good, good_best_unique}
use Rattle.clique.specs.Branching.{branch_row, branch_choices, branch}
use Rattle.clique.proofs.Turns.{row_end, row_turns, choices_end, choices_turns}
use Rattle.clique.proofs.Kept.{Kept, kept_none, kept_one, kept_then, kept_same, kept_best}

module _ (S : Search) (minimum : ℕ) where
  -- the choices try the last nodes under their children, if the rows after each choice do
  choices_kept : (k : ℕ) (path cs : List ℕ) (held : Option (List ℕ)) → InOrder (tree S) Before (map (extend path) cs)
      → ((v : ℕ) (h : Option (List ℕ)) → Kept minimum (Under (tree S) (extend path v)) h (branch_row S.rules minimum (2 * k) (extend path v) h))
      → Kept minimum (UnderOne (tree S) (map (extend path) cs)) held (branch_choices S.rules minimum (2 * k + 1) path cs held)
  choices_kept k path [] held order rows-kept = rw choices_end (kept_none (λ s u. under_none u))
  choices_kept k path (v ∷ cs) held order rows-kept =
      rw choices_turns
      (kept_same (λ s. (⊎_elim under_head under_tail, under_cons))
      (kept_then order.0 (rows-kept v held) (choices_kept k path cs _ order.1 rows-kept)))

  module _ (regular : Regular S.rules) where
    -- With k rows left, the last nodes under the path are tried, in their order.
    row_kept : (k : ℕ) (path : List ℕ) (held : Option (List ℕ)) → length path + k ≡ S.rules.rows
        → Kept minimum (Under (tree S) path) held (branch_row S.rules minimum (2 * k) path held)
    row_kept zero path held left = rw row_end (kept_same (λ s. (λ e. rw e (here last), under_last last)) (kept_one path held))
      where
        last : is_last S.rules path ≡ true
        last = le-leb S.rules.rows (length path) (omega arith)
    row_kept (suc k) path held left =
        rw row_turns
        (kept_same {Tried = UnderOne (tree S) (children S.rules path)} (λ s. (under_parent inner, under_child inner))
        (rw alike (choices_kept k path (choices S.rules path) held (rw alike at (children_in_order (lawful S regular) path inner))
        (λ v h. row_kept k (extend path v) h (simp length-append (omega arith))))))
      where
        inner : is_last S.rules path ≡ false
        inner = lt-leb S.rules.rows (length path) (omega arith)

        alike : children S.rules path ≡ map (extend path) (choices S.rules path)
        alike = children_inner S.rules path inner

    -- From the root on, the best last node is held.
    row_best : Best (Under (tree S) []) minimum (branch_row S.rules minimum (2 * S.rules.rows) [] none)
    row_best = kept_best (row_kept S.rules.rows [] none (omega arith))

module _ (P : Problem) (sound : SoundProblem P) (minimum : ℕ) where
  -- Clique branching of a sound problem holds the best common subgraph.
  pub branch_best : Best (Common P) minimum (branch P minimum)
  branch_best = best_same (last_common P sound false) (row_best (search_of false P) minimum (rules_regular P sound))

  -- It holds nothing exactly where no common subgraph reaches the minimum.
  pub branch_none : (branch P minimum ≡ none) ↔ ((l : List ℕ) → Common P l → size l < minimum)
  branch_none = best_none (branch P minimum) branch_best

  -- It holds what the walk of the first search holds at its total.
  pub branch_finished : {t : ℕ} → IsTotal (search_of false P) minimum t → branch P minimum ≡ (after (search_of false P) minimum t).incumbent
  branch_finished total = good_best_unique false P sound minimum total (branch P minimum) (best_same (common_good P) branch_best)

  -- What it holds has an entry for each old vertex.
  pub branch_length : (l : List ℕ) → branch P minimum ≡ some l → length l ≡ P.old.order
  branch_length l e = (branch_best.good l e).entries
