-- The common subgraphs of a problem and the cliques of its association graph are the same, but for the order in which a clique is listed.
use mathlib.Core.Path.{◌≡◌, ap, subst₂}
use mathlib.Core.Logic.{◌↔◌, ◌≢◌}
use mathlib.Core.Bool.{true, not, and-eq-true_iff}
use mathlib.Core.List.{List}
use Prim.Native.Nat.{ℕ, ◌<◌}
use native.Mathlib.Decide.{ℕ_discrete}
use native.Mathlib.Omega.{arith}
use lib.Dec.{ltb, eqb}
use lib.ListN.{length, get_or}
use borrow.Author.Tests.{lt-ltb, ltb-true, ne_eqb, eqb-false, not-true}
use Rattle.problem.specs.Problem.{Problem, SoundProblem, compare_edges, allowed, consistent}
use Rattle.problem.proofs.Consistent.{allowed_facts, facts_allowed, facts_consistent}
use Rattle.mapping.specs.Common.{Common, unmapped, size, x, y}
use Rattle.mapping.proofs.Mapped.{x_below, x_injective}
use Rattle.mapping.proofs.Pairwise.{pairwise_common}
use Rattle.clique.specs.Association.{Pair, pair, pair_at, is_vertex, apart, joined, AssociationClique, Among, pairs_of, mapping_of}
use Rattle.clique.proofs.PairLists.{
  Separate,
  pairs_at,
  pairs_inside,
  pairs_entry,
  mapping_length,
  pair_entry,
  entry_pair,
  mapping_size,
  mapping_entry,
  pairs_mapping,
  mapping_order,
}

-- ---- the tests

-- Two pairs that are apart share no vertex.
apart_facts : (p q : Pair) → apart p q ≡ true → (p.old ≢ q.old) × (p.new ≢ q.new)
apart_facts p q e =
    let both = (and-eq-true_iff (not (eqb p.old q.old)) (not (eqb p.new q.new))).0 e in
    (eqb-false p.old q.old (not-true (eqb p.old q.old) both.0), eqb-false p.new q.new (not-true (eqb p.new q.new) both.1))

module _ (P : Problem) where
  -- A vertex is an old vertex with a new one on which it may lie.
  vertex_facts : (p : Pair) → is_vertex P p ≡ true → (p.old < P.old.order) × (allowed P p.old p.new ≡ true)
  vertex_facts p e =
      let both = (and-eq-true_iff (ltb p.old P.old.order) (allowed P p.old p.new)).0 e in
      (ltb-true p.old P.old.order both.0, both.1)

  -- Two vertices that are joined share no vertex of a graph, and may stand together.
  joined_facts : (p q : Pair) → joined P p q ≡ true
      → (p.old ≢ q.old) × (p.new ≢ q.new) × (consistent P p.old p.new q.old q.new ≡ true)
  joined_facts p q e =
      let both = (and-eq-true_iff (apart p q) (compare_edges P p.old q.old p.new q.new)).0 e in
      let two = apart_facts p q both.0 in
      (two.0, two.1, facts_consistent P p.old p.new q.old q.new two.1 both.1)

  -- Where two pairs share no vertex and their edges agree, they are joined.
  facts_joined : (p q : Pair) → p.old ≢ q.old → p.new ≢ q.new → compare_edges P p.old q.old p.new q.new ≡ true → joined P p q ≡ true
  facts_joined p q old new e = rw (ne_eqb p.old q.old old, ne_eqb p.new q.new new) e

-- ---- from a mapping to a clique

-- The pairs of a common subgraph are a clique.
pub common_clique : (P : Problem) (l : List ℕ) → Common P l → AssociationClique P (pairs_of l)
common_clique P l c = record { vertices = vertices; distinct = distinct; connected = connected }
  where
    vertices : (i : ℕ) → i < length (pairs_of l) → is_vertex P (pair_at (pairs_of l) i) ≡ true
    vertices i h =
        let k = pairs_inside l i h in
        rw (pairs_at l i k, lt-ltb (x l i) P.old.order (omega (arith, x_below l i k, c.entries)))
        (facts_allowed P (x l i) (y l i) (c.image i k) (c.vertices i k) (c.edges i i k k))

    distinct : (i j : ℕ) → i < length (pairs_of l) → j < length (pairs_of l) → pair_at (pairs_of l) i ≡ pair_at (pairs_of l) j → i ≡ j
    distinct i j hi hj e =
        let ki = pairs_inside l i hi in
        let kj = pairs_inside l j hj in
        x_injective l i j ki kj (ap (λ (p : Pair). p.old) (rw (pairs_at l i ki, pairs_at l j kj) at e))

    connected : (i j : ℕ) → i < length (pairs_of l) → j < length (pairs_of l) → i ≢ j → joined P (pair_at (pairs_of l) i) (pair_at (pairs_of l) j) ≡ true
    connected i j hi hj ne =
        let ki = pairs_inside l i hi in
        let kj = pairs_inside l j hj in
        rw (pairs_at l i ki, pairs_at l j kj)
        (facts_joined P (pair (x l i) (y l i)) (pair (x l j) (y l j)) (λ e. ne (x_injective l i j ki kj e)) (λ e. ne (c.injective i j ki kj e))
        (c.edges i j ki kj))

-- The mapping made of a common subgraph's pairs is that common subgraph.
pub common_mapping : (P : Problem) (l : List ℕ) → Common P l → mapping_of P.old.order (pairs_of l) ≡ l
common_mapping P l c = rw (← c.entries) (pairs_mapping l)

-- ---- from a clique to a mapping

module _ (P : Problem) (sound : SoundProblem P) (c : List Pair) (clique : AssociationClique P c) where
  -- Each pair of a clique has a row of its own, and an image that is not 255.
  clique_separate : Separate P.old.order c
  clique_separate = record {
    below = λ i h. (vertex_facts P (pair_at c i) (clique.vertices i h)).0;
    image = image;
    rows = λ i j hi hj e. rows i j hi hj e (ℕ_discrete i j);
  }
    where
      image : (i : ℕ) → i < length c → (pair_at c i).new ≢ unmapped
      image i h e =
          let f = allowed_facts P (pair_at c i).old (pair_at c i).new (vertex_facts P (pair_at c i) (clique.vertices i h)).1 in
          omega (arith, f.0, sound.new_sound.order_max)

      rows : (i j : ℕ) → i < length c → j < length c → (pair_at c i).old ≡ (pair_at c j).old → Dec (i ≡ j) → i ≡ j
      rows i j hi hj e (yes q) = q
      rows i j hi hj e (no ne) = absurd ((joined_facts P (pair_at c i) (pair_at c j) (clique.connected i j hi hj ne)).0 e)

  -- The mapping made of a clique is a common subgraph.
  pub clique_common : Common P (mapping_of P.old.order c)
  clique_common = pairwise_common P made sound record { entries = entries; alone = alone; together = together }
    where
      made : List ℕ
      made = mapping_of P.old.order c

      entries : length made ≡ P.old.order
      entries = mapping_length P.old.order c

      entry : (i : ℕ) → i < length c → get_or made (pair_at c i).old 0 ≡ (pair_at c i).new
      entry = pair_entry P.old.order c clique_separate

      from : (v : ℕ) → v < length made → get_or made v 0 ≢ unmapped → (i : ℕ) × (i < length c) × ((pair_at c i).old ≡ v)
      from v h m = entry_pair P.old.order c v (omega (arith, entries)) m

      alone : (v : ℕ) → v < length made → get_or made v 0 ≢ unmapped → allowed P v (get_or made v 0) ≡ true
      alone v h m =
          let i = from v h m in
          rw (← i.2, entry i.0 i.1) (vertex_facts P (pair_at c i.0) (clique.vertices i.0 i.1)).1

      together : (u v : ℕ) → u < v → v < length made → get_or made u 0 ≢ unmapped → get_or made v 0 ≢ unmapped
          → consistent P u (get_or made u 0) v (get_or made v 0) ≡ true
      together u v k h mu mv =
          let i = from u (omega arith) mu in
          let j = from v h mv in
          let ne : i.0 ≢ j.0 = λ e. let q : (pair_at c i.0).old ≡ (pair_at c j.0).old = ap (λ (n : ℕ). (pair_at c n).old) e in omega (arith, i.2, j.2) in
          subst₂ (λ (a b : ℕ). consistent P a (get_or made a 0) b (get_or made b 0) ≡ true) i.2 j.2
          (rw (entry i.0 i.1, entry j.0 j.1)
          (joined_facts P (pair_at c i.0) (pair_at c j.0) (clique.connected i.0 j.0 i.1 j.1 ne)).2)

  -- It has as many pairs as the clique.
  pub clique_size : size (mapping_of P.old.order c) ≡ length c
  clique_size = mapping_size P.old.order c clique_separate

  -- A pair is in the clique exactly where the mapping has that entry.
  clique_entry : (v w : ℕ) → Among (pair v w) c ↔ ((v < P.old.order) × (w ≢ unmapped) × (get_or (mapping_of P.old.order c) v 0 ≡ w))
  clique_entry = mapping_entry P.old.order c clique_separate

  -- The mapping's pairs are those of the clique.
  pub clique_pairs : (p : Pair) → Among p (pairs_of (mapping_of P.old.order c)) ↔ Among p c
  clique_pairs p = (
    λ a. let f = entries.0 a in (clique_entry p.old p.new).1 (omega (arith, rows, f.0), f.1, f.2),
    λ a. let f = (clique_entry p.old p.new).0 a in entries.1 (omega (arith, rows, f.0), f.1, f.2),
  )
    where
      made : List ℕ
      made = mapping_of P.old.order c

      rows : length made ≡ P.old.order
      rows = mapping_length P.old.order c

      entries : Among p (pairs_of made) ↔ ((p.old < length made) × (p.new ≢ unmapped) × (get_or made p.old 0 ≡ p.new))
      entries = pairs_entry made p.old p.new

-- Two lists of one clique make one mapping.
pub clique_order : (P : Problem) → SoundProblem P → (c d : List Pair) → AssociationClique P c → AssociationClique P d
    → ((p : Pair) → Among p c ↔ Among p d) → mapping_of P.old.order c ≡ mapping_of P.old.order d
clique_order P sound c d cliqueC cliqueD = mapping_order P.old.order c d (clique_separate P sound c cliqueC) (clique_separate P sound d cliqueD)
