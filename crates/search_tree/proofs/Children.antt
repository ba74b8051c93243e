-- The children of a node: what they are, and that every solution under a node begins with the node's path.
use mathlib.Core.Path.{◌≡◌, refl, sym, ap, ◌∙◌}
use mathlib.Core.Logic.{◌↔◌, ◌⊎◌, inl, inr, ⊎_elim}
use mathlib.Core.Bool.{Bool, true, false}
use mathlib.Core.List.Memᴰ
use mathlib.Core.List.{
  List,
  [],
  ◌∷◌,
  ◌++◌,
  map,
  append-nil,
  Memᴰ,
}
use Prim.Native.Nat.{ℕ}
use lib.ListN.{length}
use lib.Seq.{append_snoc}
use Rattle.branch_bound.specs.Tree.{Under, here, below}
use Rattle.mapping.specs.Common.{unmapped}
use Rattle.search_tree.specs.Rules.{Rules}
use Rattle.search_tree.specs.Search.{Search}
use Rattle.search_tree.specs.Node.{candidate, candidates, choices, extend, is_last, children}
use Rattle.search_tree.specs.Trees.{tree}
use Rattle.search_tree.proofs.Candidates.{mem_candidates}

-- the path's next row may take v: a candidate, or no value
abbrev pub Choice : Rules → List ℕ → ℕ → Type 0
Choice R path v = (v ≡ unmapped) ⊎ (candidate R path (length path) v ≡ true)

-- c is the path with a choice of its next row added
pub record Child (R : Rules) (path c : List ℕ) : Type 0 where
  pub inner : is_last R path ≡ false
  pub value : ℕ
  pub choice : Choice R path value
  pub extended : c ≡ extend path value

module _ (R : Rules) (path : List ℕ) where
  -- The choices are the candidates and 255.
  pub mem_choices : {v : ℕ} → Memᴰ v (choices R path) ↔ Choice R path v
  unfolding choices
  mem_choices {v} = (
    λ m. ⊎_elim (λ i. inr ((mem_candidates R path (length path)).0 i)) (λ i. inl (Memᴰ.eq_of_singleton i))
        (Memᴰ.append_cases (candidates R path (length path)) m),
    ⊎_elim (λ e. Memᴰ.append_right (candidates R path (length path)) (Memᴰ.head e))
        (λ e. Memᴰ.append_left (unmapped ∷ []) ((mem_candidates R path (length path)).1 e)),
  )

  -- A node that is not last has a child for each choice.
  pub children_inner : is_last R path ≡ false → children R path ≡ map (extend path) (choices R path)
  unfolding children
  children_inner inner = rw inner

  -- A last node has no children.
  pub children_last : is_last R path ≡ true → children R path ≡ []
  unfolding children
  children_last last = rw last

  -- A child is the path of a node that is not last with one choice added, and each such path is a child.
  pub child_is : {c : List ℕ} → Memᴰ c (children R path) ↔ Child R path c
  child_is {c} = (go (is_last R path) refl, back)
    where
      go : (b : Bool) → is_last R path ≡ b → Memᴰ c (children R path) → Child R path c
      go true last m = absurd (Memᴰ.not-nil (rw (children_last last) at m))
      go false inner m =
          let found = Memᴰ.of_map (extend path) (choices R path) (rw (children_inner inner) at m) in
          record { inner = inner; value = found.0; choice = mem_choices.0 found.1; extended = sym found.2 }

      back : Child R path c → Memᴰ c (children R path)
      back h = rw (children_inner h.inner) (Memᴰ.cast h.extended (Memᴰ.map (extend path) (mem_choices.1 h.choice)))

-- Every solution under a node begins with the node's path.
pub under_prefix : (S : Search) {n s : List ℕ} → Under (tree S) n s → (rest : List ℕ) × (s ≡ n ++ rest)
under_prefix S (here {n = n} e) = ([], sym (append-nil n))
under_prefix S (below {n = n} {c = c} e m u) =
    let child = (child_is S.rules n).0 m in
    let later = under_prefix S u in
    (child.value ∷ later.0, later.1 ∙ ap (λ (l : List ℕ). l ++ later.0) child.extended ∙ append_snoc n child.value later.0)
