-- What 01 says of the rules that documents 001 and 004 print: each is the association graph's rule with a condition missing, 001's that no vertex is shared and
-- 004's that labels are compared; and, since 02, U4, both that edges of vertices with themselves are. With it, the largest clique has the greatest size of a
-- common subgraph.
use mathlib.Core.Path.{◌≡◌, refl, sym, ap, ◌∙◌}
use mathlib.Core.Logic.Iff
use mathlib.Core.Logic.{◌↔◌, ◌⊎◌, inl, inr, ◌≢◌}
use mathlib.Core.Bool.{Bool, true, false, not, ◌&&◌, ◌||◌, and_assoc, and_comm, and-false, and-true}
use mathlib.Core.List.{List}
use Prim.Native.Nat.{ℕ}
use lib.Dec.{ltb, eqb}
use lib.ListN.{length}
use borrow.Author.Tests.{eqb-true, eq-eqb, ne_eqb}
use Rattle.graph.specs.Graph.{edge}
use Rattle.problem.specs.Problem.{Problem, SoundProblem, compare_vertices, compare_edges, allowed}
use Rattle.problem.specs.OwnEdges.{WithoutOwnEdges}
use Rattle.problem.proofs.OwnEdges.{own_agree}
use Rattle.mapping.specs.Common.{Common, size}
use Rattle.clique.specs.Association.{
  Pair,
  pair_at,
  is_vertex,
  own_edges,
  apart,
  joined,
  Clique,
  Greatest,
  in_product,
  both_or_neither,
  modular_vertex,
  modular_edge,
  unlabelled_edge,
}
use Rattle.clique.proofs.Association.{greatest_same, sizes_same}

-- ---- the rules

-- two equal numbers are both 0 or both not
alike : (a b : ℕ) → ((not (eqb a 0) && not (eqb b 0) || not (not (eqb a 0)) && not (not (eqb b 0))) && eqb a b) ≡ eqb a b
alike a b = go (eqb a b) refl
  where
    same : (t : Bool) → (not t && not t || not (not t) && not (not t)) ≡ true
    same true = refl
    same false = refl

    go : (t : Bool) → eqb a b ≡ t → ((not (eqb a 0) && not (eqb b 0) || not (not (eqb a 0)) && not (not (eqb b 0))) && t) ≡ t
    go true e = rw (eqb-true a b e, same (eqb b 0))
    go false e = and-false (not (eqb a 0) && not (eqb b 0) || not (not (eqb a 0)) && not (not (eqb b 0)))

-- of two numbers, both or neither 0 is equality
exact : (k : ℕ) → k ≢ 0 → (a b : ℕ) → (a ≡ 0) ⊎ (a ≡ k) → (b ≡ 0) ⊎ (b ≡ k)
    → (not (eqb a 0) && not (eqb b 0) || not (not (eqb a 0)) && not (not (eqb b 0))) ≡ eqb a b
exact k nz a b (inl ea) (inl eb) = rw (ea, eb)
exact k nz a b (inl ea) (inr eb) = rw (ea, eb, ne_eqb k 0 nz, ne_eqb 0 k (λ e. nz (sym e)))
exact k nz a b (inr ea) (inl eb) = rw (ea, eb, ne_eqb k 0 nz)
exact k nz a b (inr ea) (inr eb) = rw (ea, eb, ne_eqb k 0 nz, eq-eqb k k refl)

module _ (P : Problem) where
  -- Edges that are equal are both there or both not.
  edges_alike : (p q : Pair) → (both_or_neither P p q && compare_edges P p.old q.old p.new q.new) ≡ compare_edges P p.old q.old p.new q.new
  edges_alike p q = alike (edge P.old p.old q.old) (edge P.new p.new q.new)

  -- 001's vertices, whose labels are compared, are the association graph's where their edges with themselves are compared too.
  pub modular_vertex_lem : (p : Pair) → (modular_vertex P p && own_edges P p) ≡ is_vertex P p
  unfolding allowed
  modular_vertex_lem p =
      ap (λ (b : Bool). b && own_edges P p) (and_assoc (ltb p.old P.old.order) (ltb p.new P.new.order) (compare_vertices P p.old p.new))
      ∙ and_assoc (ltb p.old P.old.order) (ltb p.new P.new.order && compare_vertices P p.old p.new) (own_edges P p)

  -- 001's edges, with no vertex shared, are the association graph's.
  pub modular_edge_lem : (p q : Pair) → (modular_edge P p q && apart p q) ≡ joined P p q
  modular_edge_lem p q = rw edges_alike (and_comm (compare_edges P p.old q.old p.new q.new) (apart p q))

  -- 004's vertices, with labels compared and their edges with themselves, are the association graph's.
  pub unlabelled_vertex : (p : Pair) → (in_product P p && compare_vertices P p.old p.new && own_edges P p) ≡ is_vertex P p
  unlabelled_vertex = modular_vertex_lem

  -- 004's edges, with labels compared, are the association graph's.
  pub unlabelled_edge_lem : (p q : Pair) → (unlabelled_edge P p q && compare_edges P p.old q.old p.new q.new) ≡ joined P p q
  unlabelled_edge_lem p q =
      and_assoc (apart p q) (both_or_neither P p q) (compare_edges P p.old q.old p.new q.new) ∙ ap (λ (b : Bool). apart p q && b) (edges_alike p q)

  -- Where all edges have one label, 004's are the association graph's as they are printed.
  pub unlabelled_exact : (k : ℕ) → k ≢ 0 → ((a b : ℕ) → (edge P.old a b ≡ 0) ⊎ (edge P.old a b ≡ k))
      → ((a b : ℕ) → (edge P.new a b ≡ 0) ⊎ (edge P.new a b ≡ k)) → (p q : Pair) → unlabelled_edge P p q ≡ joined P p q
  unlabelled_exact k nz old new p q =
      ap (λ (b : Bool). apart p q && b)
      (exact k nz (edge P.old p.old q.old) (edge P.new p.new q.new) (old p.old q.old) (new p.new q.new))

-- ---- greatest sizes

-- Cliques by equal tests are the same.
clique_same : {vertex other : Pair → Bool} {edges others : Pair → Pair → Bool} → ((p : Pair) → vertex p ≡ other p)
    → ((p q : Pair) → edges p q ≡ others p q) → (c : List Pair) → Clique vertex edges c → Clique other others c
clique_same sameVertex sameEdge c clique = record {
  vertices = λ i h. sym (sameVertex (pair_at c i)) ∙ clique.vertices i h;
  distinct = clique.distinct;
  connected = λ i j hi hj ne. sym (sameEdge (pair_at c i) (pair_at c j)) ∙ clique.connected i j hi hj ne;
}

module _ (P : Problem) (sound : SoundProblem P) where
  -- A rule that is the association graph's has cliques of the greatest size of a common subgraph.
  rule_greatest : {vertex : Pair → Bool} {edges : Pair → Pair → Bool} → ((p : Pair) → vertex p ≡ is_vertex P p)
      → ((p q : Pair) → edges p q ≡ joined P p q) → (k : ℕ) → Greatest (Common P) size k ↔ Greatest (Clique vertex edges) length k
  rule_greatest sameVertex sameEdge = greatest_same (λ k. Iff.trans (sizes_same P sound k) (
    λ m. (m.0, clique_same (λ p. sym (sameVertex p)) (λ p q. sym (sameEdge p q)) m.0 m.1, m.2),
    λ m. (m.0, clique_same sameVertex sameEdge m.0 m.1, m.2),
  ))

  -- With no vertex shared, and edges of vertices with themselves compared, the largest clique of 001's modular product has the greatest size of a common subgraph.
  pub modular_product_greatest : (k : ℕ) → Greatest (Common P) size k ↔ Greatest
      (Clique (λ p. modular_vertex P p && own_edges P p) (λ p q. modular_edge P p q && apart p q)) length k
  modular_product_greatest = rule_greatest (modular_vertex_lem P) (modular_edge_lem P)

  -- With labels compared, those of a vertex's edge with itself too, so has that of 004's association graph.
  pub association_graph_greatest : (k : ℕ) → Greatest (Common P) size k ↔ Greatest
      (Clique (λ p. in_product P p && compare_vertices P p.old p.new && own_edges P p)
      (λ p q. unlabelled_edge P p q && compare_edges P p.old q.old p.new q.new))
      length k
  association_graph_greatest = rule_greatest (unlabelled_vertex P) (unlabelled_edge_lem P)

  module _ (none : WithoutOwnEdges P) where
    -- Where no vertex has an edge with itself, nothing is to be compared there.
    plain_vertex : (p : Pair) → modular_vertex P p ≡ is_vertex P p
    plain_vertex p = sym (rw (own_agree P sound none p.old p.new) (and-true (modular_vertex P p))) ∙ modular_vertex_lem P p

    -- So 01's sentence stands as it is: "With kinds compared, and no part shared by two pairs, the largest clique of 001's modular product ..
    pub modular_product_plain : (k : ℕ) → Greatest (Common P) size k ↔ Greatest (Clique (modular_vertex P) (λ p q. modular_edge P p q && apart p q)) length k
    modular_product_plain = rule_greatest plain_vertex (modular_edge_lem P)

    -- .. and of 004's association graph has the greatest good size".
    pub association_graph_plain : (k : ℕ) → Greatest (Common P) size k ↔ Greatest
        (Clique (λ p. in_product P p && compare_vertices P p.old p.new) (λ p q. unlabelled_edge P p q && compare_edges P p.old q.old p.new q.new))
        length k
    association_graph_plain = rule_greatest plain_vertex (unlabelled_edge_lem P)
