-- The last nodes under the root are the reached paths that decide every row.
use mathlib.Core.Path.{◌≡◌}
use mathlib.Core.Logic.{◌↔◌}
use mathlib.Core.Bool.{false}
use mathlib.Core.List.Memᴰ
use mathlib.Core.List.{List, [], Memᴰ}
use Prim.Native.Nat.{ℕ, zero, suc, ◌+◌, ◌-◌, ◌≤◌, ◌<◌}
use native.Mathlib.Omega.{arith}
use lib.ListN.{length, take}
use lib.Seq.{take_all, take-suc, length-take-le}
use borrow.Author.Tests.{le-leb, lt-leb}
use Rattle.branch_bound.specs.Tree.{Under, here, below}
use Rattle.search_tree.specs.Search.{Search}
use Rattle.search_tree.specs.Node.{extend, is_last, children}
use Rattle.search_tree.specs.Trees.{tree, Reached}
use Rattle.search_tree.proofs.Children.{mem_choices, children_inner}
use Rattle.search_tree.proofs.Reached.{reached_root, last_length, reached_children}

module _ (S : Search) where
  -- A last node under a reached one is reached and decides every row.
  pub under_reached : {n s : List ℕ} → Under (tree S) n s → Reached S.rules n → Reached S.rules s × (length s ≡ S.rules.rows)
  under_reached (here final) r = (r, last_length S.rules r final)
  under_reached (below inner m u) r = under_reached u (reached_children S.rules r inner m).0

  module _ {s : List ℕ} (r : Reached S.rules s) (all : length s ≡ S.rules.rows) where
    -- a shorter beginning is not last
    beginning_inner : (k : ℕ) → k < length s → is_last S.rules (take k s) ≡ false
    beginning_inner k h = lt-leb S.rules.rows (length (take k s)) (omega (arith, length-take-le k s (omega arith)))

    -- the beginning with an entry more is a child
    beginning_child : (k : ℕ) → k < length s → Memᴰ (take (suc k) s) (children S.rules (take k s))
    beginning_child k h =
        rw (take-suc s k 0 h, children_inner S.rules (take k s) (beginning_inner k h))
        (Memᴰ.map (extend (take k s)) ((mem_choices S.rules (take k s)).1 (rw (length-take-le k s (omega arith)) (r.entry k h))))

    -- the beginning that is j entries short
    under_short : (j k : ℕ) → k + j ≡ length s → Under (tree S) (take k s) s
    under_short zero k e = rw (take_all k s (omega arith)) (here (le-leb S.rules.rows (length s) (omega arith)))
    under_short (suc j) k e = below (beginning_inner k (omega arith)) (beginning_child k (omega arith)) (under_short j (suc k) (omega arith))

    -- A reached path that decides every row is under each of its beginnings.
    pub under_beginning : (k : ℕ) → k ≤ length s → Under (tree S) (take k s) s
    under_beginning k h = under_short (length s - k) k (omega arith)

  -- The last nodes under the root are the reached paths that decide every row.
  pub under_root : (s : List ℕ) → Under (tree S) [] s ↔ (Reached S.rules s × (length s ≡ S.rules.rows))
  under_root s = (λ u. under_reached u (reached_root S.rules), λ r. under_beginning r.0 r.1 0 (omega arith))
