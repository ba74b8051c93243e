-- The open nodes are a stack, though the walk keeps the next node alone: whichever node is next, its path tells what is open behind it.
use mathlib.Core.Path.{◌≡◌, refl, sym, ap, ◌∙◌}
use mathlib.Core.Bool.{false}
use mathlib.Core.List.{List, [], ◌∷◌, ◌++◌, map, append-ne-nil_of_right_ne-nil, cons-ne-nil, nil≢cons, head-eq_of_cons-eq, tail-eq_of_cons-eq}
use Prim.Native.Nat.{ℕ, zero, suc, ◌≤◌}
use native.Mathlib.Nat.{le_refl}
use native.Mathlib.Omega.{arith}
use lib.ListN.{length, get_or, take, drop, take-append-drop, get_or-append}
use lib.Seq.{length-take-le, take-append-le, take-append_seam, get_or-append_seam}
use Rattle.mapping.specs.Common.{unmapped}
use Rattle.search_tree.specs.Rules.{Rules}
use Rattle.search_tree.specs.Node.{extend, is_last, candidates, choices, children, choices_after, later_siblings, open_nodes}
use Rattle.search_tree.proofs.Candidates.{length_extend}
use Rattle.search_tree.proofs.Children.{children_inner}
use Rattle.search_tree.proofs.Choices.{choices_after_first, choices_after_next}

module _ (R : Rules) where
  -- The later siblings of the first k entries, and of fewer, depend on those entries alone.
  pub later_siblings_append : (p q : List ℕ) (k : ℕ) → k ≤ length p → later_siblings R (p ++ q) k ≡ later_siblings R p k
  unfolding later_siblings
  later_siblings_append p q zero h = refl
  later_siblings_append p q (suc k) h =
      let l : k ≤ length p = omega arith in
      rw (take-append-le k p q l, get_or-append p q 0 k h, later_siblings_append p q k l)

  -- of a path with an entry added, the siblings after that entry come first
  later_siblings_deeper : (q : List ℕ) (c : ℕ)
      → later_siblings R (extend q c) (suc (length q)) ≡ map (extend q) (choices_after R q c) ++ later_siblings R q (length q)
  unfolding later_siblings
  later_siblings_deeper q c =
      rw (take-append_seam q (c ∷ []), get_or-append_seam q c [] 0, later_siblings_append q (c ∷ []) (length q) (le_refl (length q)))

  -- Behind a child stand the siblings after it, and then all that stands behind its parent.
  pub open_nodes_extend : (q : List ℕ) (c : ℕ)
      → open_nodes R (extend q c) ≡ extend q c ∷ (map (extend q) (choices_after R q c) ++ later_siblings R q (length q))
  unfolding open_nodes
  open_nodes_extend q c =
      ap (λ (l : List (List ℕ)). extend q c ∷ l)
      (ap (later_siblings R (extend q c)) (length_extend q c) ∙ later_siblings_deeper q c)

  -- there is always the choice 255
  choices_some : (path : List ℕ) → choices R path ≡ [] → ⊥
  unfolding choices
  choices_some path = append-ne-nil_of_right_ne-nil (candidates R path (length path)) (cons-ne-nil unmapped [])

  -- A node that is not last has a child.
  pub children_some : (path : List ℕ) → is_last R path ≡ false → children R path ≡ [] → ⊥
  children_some path inner e = go (choices R path) refl (sym (children_inner R path inner) ∙ e)
    where
      go : (cs : List ℕ) → choices R path ≡ cs → map (extend path) cs ≡ [] → ⊥
      go [] a e = choices_some path a
      go (c ∷ cs) a e = cons-ne-nil _ _ e

  module _ (few : R.values ≤ unmapped) where
    -- Once the nearest later sibling is next, the same nodes stand behind it.
    pub siblings_open : (path : List ℕ) (k : ℕ) → k ≤ length path → (p : List ℕ) (rest : List (List ℕ))
        → later_siblings R path k ≡ p ∷ rest → open_nodes R p ≡ p ∷ rest
    unfolding later_siblings
    siblings_open path zero h p rest e = absurd (nil≢cons e)
    siblings_open path (suc k) h p rest e =
        go (choices_after R (take k path) (get_or path k 0)) refl e (siblings_open path k (omega arith) p rest)
      where
        q : List ℕ
        q = take k path

        -- the nodes behind q are those behind the first k entries
        behind : later_siblings R q (length q) ≡ later_siblings R path k
        behind =
            let depth : length q ≡ k = length-take-le k path (omega arith) in
            ap (later_siblings R q) depth
            ∙ sym (later_siblings_append q (drop k path) k (omega arith))
            ∙ ap (λ (l : List ℕ). later_siblings R l k) (take-append-drop k path)

        go : (cs : List ℕ) → choices_after R q (get_or path k 0) ≡ cs → map (extend q) cs ++ later_siblings R path k ≡ p ∷ rest
            → (later_siblings R path k ≡ p ∷ rest → open_nodes R p ≡ p ∷ rest) → open_nodes R p ≡ p ∷ rest
        go [] a e ih = ih e
        go (c ∷ cs) a e ih =
            rw (← head-eq_of_cons-eq e, open_nodes_extend q c, choices_after_next R q few (get_or path k 0) c cs a, behind)
            (ap (λ (l : List (List ℕ)). extend q c ∷ l) (tail-eq_of_cons-eq e))

    -- Once the first child is next, its siblings and all that stood behind their parent stand behind it.
    pub children_open : (path : List ℕ) → is_last R path ≡ false → (p : List ℕ) (rest : List (List ℕ))
        → children R path ≡ p ∷ rest → open_nodes R p ≡ children R path ++ later_siblings R path (length path)
    children_open path inner p rest e = go (choices R path) refl (sym (children_inner R path inner) ∙ e)
      where
        go : (cs : List ℕ) → choices R path ≡ cs → map (extend path) cs ≡ p ∷ rest
            → open_nodes R p ≡ children R path ++ later_siblings R path (length path)
        go [] a e = absurd (choices_some path a)
        go (c ∷ cs) a e =
            rw (← head-eq_of_cons-eq e, open_nodes_extend path c, choices_after_first R path few c cs a, children_inner R path inner, a)
