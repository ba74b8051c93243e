-- A mapping is a common subgraph exactly when its mapped rows are allowed, each alone, and consistent, each two.
use mathlib.Core.Path.{◌≡◌, ap, subst₂}
use mathlib.Core.Logic.{◌≢◌}
use mathlib.Core.Bool.{true}
use mathlib.Core.List.{List}
use Prim.Native.Nat.{ℕ, ◌<◌}
use native.Mathlib.Decide.{ℕ_discrete, dec_lt}
use native.Mathlib.Omega.{arith}
use lib.ListN.{length, get_or}
use Rattle.problem.specs.Problem.{Problem, SoundProblem, compare_vertices, compare_edges, allowed, consistent}
use Rattle.mapping.specs.Common.{Common, Pairwise, unmapped, size, x, y}
use Rattle.problem.proofs.Consistent.{allowed_facts, facts_allowed, consistent_facts, facts_consistent, consistent_symmetric}
use Rattle.mapping.proofs.Mapped.{x_below, x_mapped, mapped_x, x_injective}

-- In a common subgraph each mapped row is allowed, and each two mapped rows are consistent.
pub common_pairwise : (P : Problem) (l : List ℕ) → Common P l → Pairwise P l
common_pairwise P l c = record { entries = c.entries; alone = alone; together = together }
  where
    alone : (v : ℕ) → v < length l → get_or l v 0 ≢ unmapped → allowed P v (get_or l v 0) ≡ true
    alone v h m = let i = mapped_x l v h m in rw (← i.2) (facts_allowed P _ _ (c.image i.0 i.1) (c.vertices i.0 i.1) (c.edges i.0 i.0 i.1 i.1))

    pair : (i j : ℕ) → i < size l → j < size l → x l i < x l j → consistent P (x l i) (y l i) (x l j) (y l j) ≡ true
    pair i j hi hj h =
        let apart : i ≢ j = λ q. let e : x l i ≡ x l j = ap (x l) q in omega arith in
        facts_consistent P (x l i) (y l i) (x l j) (y l j) (λ e. apart (c.injective i j hi hj e)) (c.edges i j hi hj)

    together : (u v : ℕ) → u < v → v < length l → get_or l u 0 ≢ unmapped → get_or l v 0 ≢ unmapped
        → consistent P u (get_or l u 0) v (get_or l v 0) ≡ true
    together u v h k mu mv =
        let i = mapped_x l u (omega arith) mu in
        let j = mapped_x l v k mv in
        subst₂ (λ (a b : ℕ). consistent P a (get_or l a 0) b (get_or l b 0) ≡ true) i.2 j.2
        (pair i.0 j.0 i.1 j.1 (omega arith))

-- In a sound problem, a mapping whose mapped rows are allowed and consistent is a common subgraph.
pub pairwise_common : (P : Problem) (l : List ℕ) → SoundProblem P → Pairwise P l → Common P l
pairwise_common P l s p =
    record {
      entries = p.entries;
      image = λ i h. (alone i h).0;
      injective = λ i j hi hj e. injective i j hi hj e (ℕ_discrete i j);
      vertices = λ i h. (alone i h).1;
      edges = λ i j hi hj. agree i j hi hj (ℕ_discrete i j);
    }
  where
    alone : (i : ℕ) → i < size l → (y l i < P.new.order) × (compare_vertices P (x l i) (y l i) ≡ true) × (compare_edges P (x l i) (x l i) (y l i) (y l i) ≡ true)
    alone i h = allowed_facts P (x l i) (y l i) (p.alone (x l i) (x_below l i h) (x_mapped l i h))

    old_below : (i : ℕ) → i < size l → x l i < 64
    old_below i h = omega (arith, x_below l i h, p.entries, s.old_sound.order_max)

    new_below : (i : ℕ) → i < size l → y l i < 64
    new_below i h = omega (arith, (alone i h).0, s.new_sound.order_max)

    rising : (i j : ℕ) → i < size l → j < size l → x l i < x l j → consistent P (x l i) (y l i) (x l j) (y l j) ≡ true
    rising i j hi hj h = p.together (x l i) (x l j) h (x_below l j hj) (x_mapped l i hi) (x_mapped l j hj)

    together : (i j : ℕ) → i < size l → j < size l → i ≢ j → (y l i ≢ y l j) × (compare_edges P (x l i) (x l j) (y l i) (y l j) ≡ true)
    together i j hi hj ne = consistent_facts P (x l i) (y l i) (x l j) (y l j) (go (dec_lt (x l i) (x l j)))
      where
        go : Dec (x l i < x l j) → consistent P (x l i) (y l i) (x l j) (y l j) ≡ true
        go (yes h) = rising i j hi hj h
        go (no h) =
            let apart : x l i ≢ x l j = λ e. ne (x_injective l i j hi hj e) in
            consistent_symmetric P s (x l j) (y l j) (x l i) (y l i) (old_below j hj) (old_below i hi) (new_below j hj) (new_below i hi)
            (rising j i hj hi (omega arith))

    agree : (i j : ℕ) → i < size l → j < size l → Dec (i ≡ j) → compare_edges P (x l i) (x l j) (y l i) (y l j) ≡ true
    agree i j hi hj (yes q) = rw (← q) (alone i hi).2
    agree i j hi hj (no ne) = (together i j hi hj ne).1

    injective : (i j : ℕ) → i < size l → j < size l → y l i ≡ y l j → Dec (i ≡ j) → i ≡ j
    injective i j hi hj e (yes q) = q
    injective i j hi hj e (no ne) = absurd ((together i j hi hj ne).0 e)
