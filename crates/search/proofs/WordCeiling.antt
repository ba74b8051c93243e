-- The greatest upper bound of the later siblings, level by level and choice by choice, as a loop over the words takes its maximum.
use mathlib.Core.Path.{◌≡◌, refl, ap}
use mathlib.Core.List.Memᴰ
use mathlib.Core.List.{List, [], ◌∷◌, ◌++◌, map, Memᴰ}
use Prim.Native.Nat.{ℕ, ◌+◌, ◌≤◌, ◌<◌, max}
use native.Mathlib.Numerals.{add-one}
use native.Mathlib.Omega.{arith}
use lib.ListN.{length, get_or, take}
use lib.Seq.{length-take-le}
use borrow.Author.Tests.{lt-leb}
use Rattle.bitset.specs.Least.{least_above}
use Rattle.std.specs.Prelude.{Some, None}
use Rattle.problem.specs.Problem.{Problem, SoundProblem}
use Rattle.mapping.specs.Common.{unmapped, size}
use Rattle.search_tree.specs.Rules.{Rules, rules_of}
use Rattle.search_tree.specs.Node.{upper_bound, extend, choices_after, later_siblings}
use Rattle.search_tree.specs.Ceiling.{top_bound}
use Rattle.search_tree.proofs.Children.{Choice, mem_choices, child_is}
use Rattle.search_tree.proofs.Choices.{mem_choices_after}
use Rattle.search_tree.proofs.BoundFalls.{bound_falls}
use Rattle.search.specs.Words.{level_word, Words}
use Rattle.search.proofs.WordChoices.{siblings_left_out, next_taken, next_left_out}

module _ (R : Rules) where
  -- The greatest bound of two lists of nodes is the greater of theirs.
  pub top_bound_append : (l m : List (List ℕ)) → top_bound R (l ++ m) ≡ max (top_bound R l) (top_bound R m)
  unfolding top_bound
  top_bound_append [] m = omega arith
  top_bound_append (p ∷ l) m = omega (arith, top_bound_append l m)

  -- Nodes whose bounds are at most b have a greatest bound of at most b.
  pub top_bound_le : (b : ℕ) (l : List (List ℕ)) → ((c : List ℕ) → Memᴰ c l → upper_bound R c ≤ b) → top_bound R l ≤ 1 + b
  unfolding top_bound
  top_bound_le b [] each = omega arith
  top_bound_le b (p ∷ l) each = omega (arith, top_bound_le b l (λ c m. each c (Memᴰ.tail m)), each p (Memᴰ.head refl))

  -- No choice of a node's next row exceeds the node's own bound.
  pub choice_bound : (q : List ℕ) → length q < R.rows → (v : ℕ) → Choice R q v → upper_bound R (extend q v) ≤ upper_bound R q
  choice_bound q h v choice =
      let inner = lt-leb R.rows (length q) h in
      bound_falls R q (extend q v) inner
      ((child_is R q).1 (record { inner = inner; value = v; choice = choice; extended = refl }))

  -- So the choices after w do not either.
  pub top_bound_falls : (q : List ℕ) (w : ℕ) → length q < R.rows → top_bound R (map (extend q) (choices_after R q w)) ≤ 1 + upper_bound R q
  top_bound_falls q w h =
      top_bound_le (upper_bound R q) (map (extend q) (choices_after R q w))
      (λ c m. let found = Memᴰ.of_map (extend q) (choices_after R q w) m in
      rw found.2 at (choice_bound q h found.0 ((mem_choices R q).0 (mem_choices_after R q w found.1))))

  -- The later siblings of one more level count beside those before.
  pub top_bound_level : (path : List ℕ) (k : ℕ)
      → top_bound R (later_siblings R path (k + 1))
      ≡ max (top_bound R (map (extend (take k path)) (choices_after R (take k path) (get_or path k 0)))) (top_bound R (later_siblings R path k))
  unfolding later_siblings
  top_bound_level path k =
      rw add-one (top_bound_append (map (extend (take k path)) (choices_after R (take k path) (get_or path k 0))) (later_siblings R path k))

  -- A level whose node's bound is not above the maximum so far may be skipped.
  pub top_bound_skip : (path : List ℕ) (k top : ℕ) → k ≤ length path → k < R.rows → 1 + upper_bound R (take k path) ≤ top
      → max top (top_bound R (later_siblings R path (k + 1))) ≡ max top (top_bound R (later_siblings R path k))
  top_bound_skip path k top inside row h =
      let depth = length-take-le k path inside in
      omega (arith, top_bound_level path k, top_bound_falls (take k path) (get_or path k 0) (omega arith))

  -- The root has no later siblings to count.
  pub top_bound_root : (path : List ℕ) → top_bound R (later_siblings R path 0) ≡ 0
  unfolding later_siblings top_bound
  top_bound_root path = refl

module _ (P : Problem) (sound : SoundProblem P) where
  -- A level whose entry is 255 adds nothing.
  pub top_bound_same : (path : List ℕ) (k : ℕ) → get_or path k 0 ≡ unmapped
      → top_bound (rules_of P) (later_siblings (rules_of P) path (k + 1)) ≡ top_bound (rules_of P) (later_siblings (rules_of P) path k)
  top_bound_same path k e = ap (top_bound (rules_of P)) (siblings_left_out P sound path k e)

  module _ {path ws : List ℕ} {k : ℕ} (inside : k ≤ length path) (row : k < P.old.order) (words : Words P path k ws) where
    -- After w comes the least member v above it: its bound counts beside those after v.
    pub top_bound_next : (w : ℕ) {v : ℕ} → least_above (level_word ws (size (take k path)) k) w ≡ Some v
        → top_bound (rules_of P) (map (extend (take k path)) (choices_after (rules_of P) (take k path) w))
        ≡ max (1 + upper_bound (rules_of P) (extend (take k path) v))
        (top_bound (rules_of P) (map (extend (take k path)) (choices_after (rules_of P) (take k path) v)))
    unfolding top_bound
    top_bound_next w {v} e = rw (next_taken P sound inside row words w e).after_are

    -- Where no member is above w, the bound with the row left out is the last.
    pub top_bound_last : (w : ℕ) → w < unmapped → least_above (level_word ws (size (take k path)) k) w ≡ None
        → top_bound (rules_of P) (map (extend (take k path)) (choices_after (rules_of P) (take k path) w))
        ≡ 1 + upper_bound (rules_of P) (extend (take k path) unmapped)
    unfolding top_bound
    top_bound_last w h e = rw (next_left_out P sound inside row words w h e) (omega arith)
