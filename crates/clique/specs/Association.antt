-- The association graph of a problem, its cliques, and the rules that documents 001 and 004 print for such graphs: 01, "The walk", "With kinds compared, and
-- no part shared by two pairs, the largest clique of 001's modular product and of 004's association graph has the greatest good size."
use Rattle.std.specs.Prelude.{◌≡◌, Bool, true, not, ◌&&◌, ◌||◌, List, [], ◌∷◌, map, ℕ, ◌≤◌, ◌<◌, ltb, eqb, length, get_or, set, replicate}
use Rattle.graph.specs.Graph.{Graph, edge}
use Rattle.problem.specs.Problem.{Problem, compare_vertices, compare_edges, allowed}
use Rattle.mapping.specs.Common.{unmapped, mapped, size, Common}

-- a vertex of the association graph: "An old part's number never serves as a new part's number"
pub record Pair : Type 0 where
  pub old : ℕ
  pub new : ℕ

abbrev pub pair : ℕ → ℕ → Pair
pair v w = record { old = v; new = w }

-- ---- the graph, by the rule of the mappings

-- "With kinds compared": an old vertex with a new vertex on which it may lie
abbrev pub is_vertex : Problem → Pair → Bool
is_vertex P p = ltb p.old P.old.order && allowed P p.old p.new

-- "paired parts need equal own links" (02, U4)
abbrev pub own_edges : Problem → Pair → Bool
own_edges P p = compare_edges P p.old p.old p.new p.new

-- "no part shared by two pairs"
abbrev pub apart : Pair → Pair → Bool
apart p q = not (eqb p.old q.old) && not (eqb p.new q.new)

-- an edge of the association graph: so two pairs may stand together in a mapping, as `consistent` says of two rows
abbrev pub joined : Problem → Pair → Pair → Bool
joined P p q = apart p q && compare_edges P p.old q.old p.new q.new

-- ---- cliques, by any test of vertices and any test of edges

-- read only at places of the list
abbrev pub pair_at : List Pair → ℕ → Pair
pair_at c i = get_or c i (pair 0 0)

-- 001: "a set of vertices in a graph such that each vertex is connected to each and every other vertex". The set is listed, so that its size is the length.
pub record Clique (vertex : Pair → Bool) (edges : Pair → Pair → Bool) (c : List Pair) : Type 0 where
  pub vertices : (i : ℕ) → i < length c → vertex (pair_at c i) ≡ true
  -- no vertex is listed twice: a printed rule may join a vertex to itself
  pub distinct : (i j : ℕ) → i < length c → j < length c → pair_at c i ≡ pair_at c j → i ≡ j
  pub connected : (i j : ℕ) → i < length c → j < length c → (i ≡ j → ⊥) → edges (pair_at c i) (pair_at c j) ≡ true

-- a clique of the association graph
abbrev pub AssociationClique : Problem → List Pair → Type 0
AssociationClique P = Clique (is_vertex P) (joined P)

-- p is one of the pairs listed
abbrev pub Among : Pair → List Pair → Type 0
Among p c = (i : ℕ) × (i < length c) × (pair_at c i ≡ p)

-- ---- mappings and lists of pairs

-- each mapped old vertex with its image
abbrev pub pairs_of : List ℕ → List Pair
pairs_of l = map (λ v. pair v (get_or l v 0)) (mapped l)

-- each pair's new vertex in the row of its old one, of this many rows, and the other rows left out
unfoldable pub mapping_of : ℕ → List Pair → List ℕ
mapping_of n [] = replicate n unmapped
mapping_of n (p ∷ c) = set (mapping_of n c) p.old p.new

-- ---- greatest sizes

module _ {A : Type 0} (Is : A → Type 0) (size_of : A → ℕ) where
  -- there is one of size k
  abbrev pub OfSize : ℕ → Type 0
  OfSize k = (a : A) × Is a × (size_of a ≡ k)

  -- there is one of size k, and none is larger
  pub record Greatest (k : ℕ) : Type 0 where
    pub attained : OfSize k
    pub bound : (a : A) → Is a → size_of a ≤ k

-- ---- the printed rules

abbrev pub adjacent : Graph → ℕ → ℕ → Bool
adjacent g a b = not (eqb (edge g a b) 0)

-- 001: "the vertex set V1 × V2 of graphs G1 and G2", 004: "the vertex set V = V1 × V2"
abbrev pub in_product : Problem → Pair → Bool
in_product P p = ltb p.old P.old.order && ltb p.new P.new.order

-- 004: "either (u1, u2) ∈ E1 and (v1, v2) ∈ E2 or (u1, u2) ∉ E1 and (v1, v2) ∉ E2", and 001 the same with other indices
abbrev pub both_or_neither : Problem → Pair → Pair → Bool
both_or_neither P p q =
    let old = adjacent P.old p.old q.old in
    let new = adjacent P.new p.new q.new in
    (old && new) || (not old && not new)

-- 001, section 3: "In weighted and labelled graphs, an additional condition applies such that only vertices of the same label are matched, and likewise for
-- the edges, i.e: w(ui, uj) = w(vi, vj)". Its words are taken, which compare the labels of every pair; nothing is said of pairs that share a vertex.
-- Labels of vertices are compared as in mappings, so by U1's list of substitutes too.
abbrev pub modular_vertex : Problem → Pair → Bool
modular_vertex P p = in_product P p && compare_vertices P p.old p.new

abbrev pub modular_edge : Problem → Pair → Pair → Bool
modular_edge P p q = both_or_neither P p q && compare_edges P p.old q.old p.new q.new

-- 004, section 2.1: "with two vertices (u1, v1) and (u2, v2) being adjacent whenever: u1 ≠ u2 and v1 ≠ v2, and either (u1, u2) ∈ E1 and (v1, v2) ∈ E2 or
-- (u1, u2) ∉ E1 and (v1, v2) ∉ E2". Nothing is said of labels, and the vertices are those of `in_product`.
abbrev pub unlabelled_edge : Problem → Pair → Pair → Bool
unlabelled_edge P p q = apart p q && both_or_neither P p q

-- ---- what a rule lets through

-- a clique by these tests that is larger than every common subgraph
pub record Exceeds (P : Problem) (vertex : Pair → Bool) (edges : Pair → Pair → Bool) (c : List Pair) : Type 0 where
  pub clique : Clique vertex edges c
  pub smaller : (l : List ℕ) → Common P l → size l < length c
