-- The nodes that the walk can reach: the root, every beginning of one, its children and all that is open behind it.
use mathlib.Core.Path.{◌≡◌, subst}
use mathlib.Core.Logic.{◌⊎◌, ⊎_elim}
use mathlib.Core.Bool.{true, false}
use mathlib.Core.List.Memᴰ
use mathlib.Core.List.{
  List,
  [],
  ◌∷◌,
  map,
  concat-ne-nil,
  Memᴰ,
}
use Prim.Native.Nat.{ℕ, zero, suc, ◌≤◌, ◌<◌}
use native.Mathlib.Nat.{not-suc-le-zero, eq-or-lt_of_le}
use native.Mathlib.Omega.{arith}
use lib.ListN.{length, get_or, take, length-take, get_or-append}
use lib.Seq.{length-take-le, take-take, get_or-take, take-append-le, take-append_seam, get_or-append_seam}
use borrow.Author.Tests.{leb-true, leb-false}
use Rattle.mapping.specs.Common.{unmapped}
use Rattle.search_tree.specs.Rules.{Rules}
use Rattle.search_tree.specs.Node.{candidate, extend, is_last, choices, children, choices_after, later_siblings}
use Rattle.search_tree.specs.Trees.{Reached}
use Rattle.search_tree.proofs.Candidates.{length_extend}
use Rattle.search_tree.proofs.Children.{Choice, mem_choices, children_inner}
use Rattle.search_tree.proofs.Choices.{mem_choices_after}

module _ (R : Rules) where
  -- what is asked of entry k of a reached path
  abbrev Entry : List ℕ → ℕ → Type 0
  Entry path k = (get_or path k 0 ≡ unmapped) ⊎ (candidate R (take k path) k (get_or path k 0) ≡ true)

  -- The root is reached.
  pub reached_root : Reached R []
  reached_root = record { depth = omega arith; entry = λ k h. absurd (not-suc-le-zero h) }

  -- A last node that is reached decides every row.
  pub last_length : {path : List ℕ} → Reached R path → is_last R path ≡ true → length path ≡ R.rows
  last_length {path} r final = omega (arith, r.depth, leb-true R.rows (length path) final)

  -- A node that is not last leaves a row undecided.
  pub inner_length : (path : List ℕ) → is_last R path ≡ false → length path < R.rows
  inner_length path inner = leb-false R.rows (length path) inner

  -- Every beginning of a reached path is reached.
  pub reached_take : {path : List ℕ} → Reached R path → (n : ℕ) → Reached R (take n path)
  reached_take {path} r n = record { depth = omega (arith, r.depth, length-take n path); entry = entry }
    where
      entry : (k : ℕ) → k < length (take n path) → Entry (take n path) k
      entry k h =
          let short : k < n = omega (arith, length-take n path) in
          rw (get_or-take n path k 0 short, take-take k n path (omega arith)) (r.entry k (omega (arith, length-take n path)))

  -- A reached path with a choice of its next row added is reached.
  pub reached_extend : {path : List ℕ} → Reached R path → length path < R.rows → {v : ℕ} → Choice R path v → Reached R (extend path v)
  reached_extend {path} r h {v} choice = record {
    depth = omega (arith, length_extend path v);
    entry = λ k l. ⊎_elim (last k) (earlier k) (eq-or-lt_of_le {n = k} {m = length path} (omega (arith, length_extend path v)));
  }
    where
      last : (k : ℕ) → k ≡ length path → Entry (extend path v) k
      last k e = rw (e, take-append_seam path (v ∷ []), get_or-append_seam path v [] 0) choice

      earlier : (k : ℕ) → k < length path → Entry (extend path v) k
      earlier k l = rw (take-append-le k path (v ∷ []) (omega arith), get_or-append path (v ∷ []) 0 k l) (r.entry k l)

  -- so are all paths with one of several choices added, and none is the root
  reached_choices : {path : List ℕ} → Reached R path → length path < R.rows → (cs : List ℕ)
      → ((v : ℕ) → Memᴰ v cs → Memᴰ v (choices R path)) → {p : List ℕ} → Memᴰ p (map (extend path) cs)
      → Reached R p × (p ≡ [] → ⊥)
  reached_choices {path} r h cs among m =
      let v = Memᴰ.of_map (extend path) cs m in
      let choice = (mem_choices R path).0 (among v.0 v.1) in
      subst (λ (q : List ℕ). Reached R q × (q ≡ [] → ⊥)) v.2 (reached_extend r h choice, concat-ne-nil v.0 path)

  -- The children of a reached node are reached, and none is the root.
  pub reached_children : {path : List ℕ} → Reached R path → is_last R path ≡ false → {p : List ℕ} → Memᴰ p (children R path)
      → Reached R p × (p ≡ [] → ⊥)
  reached_children {path} r inner m =
      reached_choices r (inner_length path inner) (choices R path) (λ v h. h) (rw (children_inner R path inner) at m)

  -- The later siblings of a reached path and of its beginnings are reached, and none is the root.
  pub reached_siblings : {path : List ℕ} → Reached R path → (k : ℕ) → k ≤ length path → {p : List ℕ} → Memᴰ p (later_siblings R path k)
      → Reached R p × (p ≡ [] → ⊥)
  unfolding later_siblings
  reached_siblings r zero h m = absurd (Memᴰ.not-nil m)
  reached_siblings {path} r (suc k) h {p} m =
      let q = take k path in
      let w = get_or path k 0 in
      ⊎_elim
      (λ n. reached_choices (reached_take r k) (omega (arith, r.depth, length-take-le k path (omega arith))) (choices_after R q w)
      (λ v c. mem_choices_after R q w c) n)
      (λ n. reached_siblings r k (omega arith) n)
      (Memᴰ.append_cases (map (extend q) (choices_after R q w)) m)
