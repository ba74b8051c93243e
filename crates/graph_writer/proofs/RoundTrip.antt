-- The round trip, in either edition: reading the bytes of a sound graph gives that graph, order and both tables.
use mathlib.Core.Path.{◌≡◌, refl, sym, ap, ap₂, ◌∙◌, subst, subst₂}
use mathlib.Core.Logic.{◌≢◌}
use mathlib.Core.Bool.{Bool, true, false, cond, not, ◌&&◌}
use mathlib.Core.List.{List, [], ◌∷◌, ◌++◌}
use Prim.Native.Nat.{ℕ, suc, ◌+◌, ◌/◌, ◌%◌, ◌≤◌, ◌<◌, min, max}
use native.Mathlib.Numerals.{add-one}
use native.Mathlib.Decide.{ℕ_discrete}
use native.Mathlib.Omega.{arith}
use lib.Dec.{leb, eqb}
use lib.ListN.{length, take, get_or, set}
use borrow.Author.Tests.{leb-true, leb-false, eqb-true, eqb-false, eq-eqb, ne_eqb, le-leb}
use Rattle.bounded.specs.Below.{run_below}
use Rattle.answers.specs.Answer.{accepted}
use Rattle.graph.specs.Graph.{Graph, graph, place, label, edge, Sound, empty_graph}
use Rattle.graph.proofs.Places.{place_injective, vertices_of}
use Rattle.graph.proofs.SoundTests.{passes_sound}
use Rattle.graph_reader.specs.declared.Edition.{Edition}
use Rattle.graph_reader.specs.declared.Edition.TheVariants.{One, Two}
use Rattle.graph_reader.specs.Editions.{LabelsFit}
use Rattle.graph_reader.specs.Reading.{with_edge, read_all, opens, read_file, reading_edition, reading}
use Rattle.graph_writer.specs.Writing.{vertex_bytes, edge_bytes, row_bytes, edition_bytes, graph_bytes, writing}
use Rattle.graph_writer.proofs.PartialTables.{partial_table, partial_new, partial_none, partial_all, partial_same, partial_set, partial_set_both}
use Rattle.graph_writer.proofs.Stretches.{Makes, makes_nothing, makes_both, makes_run, makes_vertex, makes_edge, read_end}
use Rattle.graph_writer.proofs.Written.{written_passed, written_bytes}

-- the place of the edge whose label stands at i, its lower vertex first: the writer gives the edges by rising rank
abbrev edge_rank : ℕ → ℕ
edge_rank i = place (min (i / 64) (i % 64)) (max (i / 64) (i % 64))

-- a lower and a higher vertex stand at two places, a vertex with itself at one
pair_places : (x y a b : ℕ) → min x y ≡ a → max x y ≡ b → (a ≤ b) × (place x y ≢ place a b → place x y ≡ place b a)
pair_places x y a b low high = omega arith

-- so the entries of rank place a b stand at these
rank_places : (a b i : ℕ) → b < 64 → i < 4096 → edge_rank i ≡ place a b → (a ≤ b) × (i ≢ place a b → i ≡ place b a)
rank_places a b i hb h r =
    let v = vertices_of i h in
    let p = place_injective (min (i / 64) (i % 64)) (max (i / 64) (i % 64)) a b v.3 hb r in
    rw v.0 at (pair_places (i / 64) (i % 64) a b p.0 p.1)

-- ranks between the places of a and n and of suc a and 0 are of pairs with n or above
row_beyond : (a n low high : ℕ) → place a n ≤ place low high → place low high < place (suc a) 0 → n ≤ high
row_beyond a n low high h k = omega arith

-- and so are the ranks from the place of n and 0 on
rows_beyond : (n x y : ℕ) → max x y < 64 → place n 0 ≤ place (min x y) (max x y) → n ≤ max x y
rows_beyond n x y h k = omega arith

-- the labels of the vertices below v
abbrev labels_to : Graph → ℕ → List ℕ
labels_to g v = partial_table 64 (λ i. i) g.labels v

-- the edges of rank below c
abbrev edges_to : Graph → ℕ → List ℕ
edges_to g c = partial_table 4096 edge_rank g.edges c

-- the graph read after the first v vertices
abbrev vertices_read : Graph → ℕ → Graph
vertices_read g v = graph v (labels_to g v) (edges_to g 0)

-- the graph read after all vertices and the edges of rank below c
abbrev edges_read : Graph → ℕ → Graph
edges_read g c = graph g.order g.labels (edges_to g c)

module _ (from to : Edition) (g : Graph) (s : Sound g) (to_fits : LabelsFit to g) where
  -- a vertex command adds the next vertex
  vertex_made : (v : ℕ) → v < g.order → Makes from to (vertices_read g v) (vertex_bytes from g v) (vertices_read g (suc v))
  vertex_made v h =
      subst (Makes from to (vertices_read g v) (vertex_bytes from g v)) grown
      (makes_vertex from to (vertices_read g v) (label g v) (s.labelled v h).0 (to_fits v h) (omega arith))
    where
      grown : graph (v + 1) (set (labels_to g v) v (label g v)) (edges_to g 0) ≡ vertices_read g (suc v)
      grown = rw (add-one v, partial_set 64 (λ i. i) g.labels v v (omega arith) refl (λ k l ne. ne))

  -- all of them leave a graph with no edge yet
  vertices_made : Makes from to empty_graph (run_below g.order (vertex_bytes from g)) (edges_read g 0)
  vertices_made =
      subst₂ (λ (first last : Graph). Makes from to first (run_below g.order (vertex_bytes from g)) last)
      (ap₂ (graph 0) (sym (partial_none 64 (λ i. i) g.labels)) (sym (partial_none 4096 edge_rank g.edges)))
      (ap (λ (labels : List ℕ). graph g.order labels (edges_to g 0))
      (sym (partial_all 64 (λ i. i) g.labels g.order s.labels_length (λ i h r. s.unlabelled i r h))))
      (makes_run from to (vertices_read g) (vertex_bytes from g) g.order vertex_made)

  -- beyond the graph's vertices the entries are 0
  entry_beyond : (i : ℕ) → i < 4096 → g.order ≤ max (i / 64) (i % 64) → get_or g.edges i 0 ≡ 0
  entry_beyond i h n = let v = vertices_of i h in rw v.0 at (s.within (i / 64) (i % 64) v.1 v.2 n)

  -- the entries of rank place a b are 0, unless the writer gives that edge
  entry_null : (a b : ℕ) → a < 64 → b < 64 → (a ≤ b → edge g a b ≡ 0) → (i : ℕ) → i < 4096 → edge_rank i ≡ place a b
      → get_or g.edges i 0 ≡ 0
  entry_null a b ha hb null i h r = go (rank_places a b i hb h r) (ℕ_discrete i (place a b))
    where
      go : (a ≤ b) × (i ≢ place a b → i ≡ place b a) → Dec (i ≡ place a b) → get_or g.edges i 0 ≡ 0
      go places (yes e) = rw e (null places.0)
      go places (no ne) = rw (places.1 ne) (s.symmetric b a hb ha ∙ null places.0)

  -- where the writer gives no edge of rank place a b, that rank is filled in already
  edge_null : (a b : ℕ) → a < 64 → b < 64 → (a ≤ b → edge g a b ≡ 0) → edges_read g (place a b) ≡ edges_read g (place a (suc b))
  edge_null a b ha hb null = ap (graph g.order g.labels)
      (partial_same 4096 edge_rank g.edges (place a b) (place a (suc b)) (omega arith) (λ i h r r'. entry_null a b ha hb null i h (omega arith)))

  -- where it gives that edge, that rank is filled in by it
  edge_set : (a b : ℕ) → a ≤ b → b < 64 → with_edge (edges_read g (place a b)) a b (edge g a b) ≡ edges_read g (place a (suc b))
  edge_set a b l hb = ap (graph g.order g.labels)
      (ap (set (set (edges_to g (place a b)) (place a b) (edge g a b)) (place b a)) (s.symmetric a b (omega arith) hb)
      ∙ partial_set_both 4096 edge_rank g.edges (place a b) (place a b) (place b a) (omega arith) (omega arith) (omega arith) (omega arith)
      (λ k h ne ne' r. ne' ((rank_places a b k hb h r).1 ne))
      ∙ ap (edges_to g) (omega arith))

  -- what the writer gives at a and b adds the edges of that rank
  edge_made : (a b : ℕ) → a < g.order → b < g.order → Makes from to (edges_read g (place a b)) (edge_bytes g a b) (edges_read g (place a (suc b)))
  edge_made a b ha hb = go (leb a b) (eqb (edge g a b) 0) refl refl
    where
      a_max : a < 64
      a_max = omega arith

      b_max : b < 64
      b_max = omega arith

      go : (t u : Bool) → leb a b ≡ t → eqb (edge g a b) 0 ≡ u
          → Makes from to (edges_read g (place a b)) (cond (t && not u) (2 ∷ a ∷ b ∷ edge g a b ∷ []) []) (edges_read g (place a (suc b)))
      go true false p q =
          let l = leb-true a b p in
          subst (Makes from to (edges_read g (place a b)) (2 ∷ a ∷ b ∷ edge g a b ∷ [])) (edge_set a b l b_max)
          (makes_edge from to (edges_read g (place a b)) a b (edge g a b) (omega arith) (omega (arith, eqb-false (edge g a b) 0 q))
          (partial_new 4096 edge_rank g.edges (place a b) (place a b) (omega arith) (omega arith)))
      go true true p q = subst (Makes from to (edges_read g (place a b)) [])
          (edge_null a b a_max b_max (λ l. eqb-true (edge g a b) 0 q)) (makes_nothing from to (edges_read g (place a b)))
      go false u p q = subst (Makes from to (edges_read g (place a b)) [])
          (edge_null a b a_max b_max (λ l. absurd (omega (arith, leb-false a b p)))) (makes_nothing from to (edges_read g (place a b)))

  -- a row's edges end at the graph's order
  row_end : (a : ℕ) → edges_read g (place a g.order) ≡ edges_read g (place (suc a) 0)
  row_end a = ap (graph g.order g.labels)
      (partial_same 4096 edge_rank g.edges (place a g.order) (place (suc a) 0) (omega arith)
      (λ i h r r'. entry_beyond i h (row_beyond a g.order (min (i / 64) (i % 64)) (max (i / 64) (i % 64)) r r')))

  -- what it gives at a adds the edges of that row
  row_made : (a : ℕ) → a < g.order → Makes from to (edges_read g (place a 0)) (row_bytes g a) (edges_read g (place (suc a) 0))
  unfolding row_bytes
  row_made a h =
      subst (Makes from to (edges_read g (place a 0)) (run_below g.order (edge_bytes g a))) (row_end a)
      (makes_run from to (λ b. edges_read g (place a b)) (edge_bytes g a) g.order (λ b hb. edge_made a b h hb))

  -- and so do the rows
  rows_end : edges_read g (place g.order 0) ≡ g
  rows_end = ap (graph g.order g.labels)
      (sym (partial_all 4096 edge_rank g.edges (place g.order 0) s.edges_length
      (λ i h r. entry_beyond i h (rows_beyond g.order (i / 64) (i % 64) (vertices_of i h).3 r))))

  -- all rows leave the whole graph
  edges_made : Makes from to (edges_read g 0) (run_below g.order (row_bytes g)) g
  edges_made =
      subst (Makes from to (edges_read g 0) (run_below g.order (row_bytes g))) rows_end
      (makes_run from to (λ a. edges_read g (place a 0)) (row_bytes g) g.order row_made)

-- For every sound graph whose labels fit, reading what is written in an edition gives that same graph, order and both tables.
pub file_trip : (from to : Edition) (g : Graph) → Sound g → LabelsFit to g → read_file from to (edition_bytes from g) ≡ read_all g
unfolding read_file opens edition_bytes
file_trip One to g s f = (makes_both One to (vertices_made One to g s f) (edges_made One to g s f)).onward 0 (0 ∷ []) ∙ read_end One to g _
file_trip Two to g s f =
    let rest = run_below g.order (vertex_bytes Two g) ++ run_below g.order (row_bytes g) ++ (0 ∷ []) in
    simp (ne_eqb (length (4 ∷ 2 ∷ rest)) 0 (omega arith), le-leb 2 (length (4 ∷ 2 ∷ rest)) (omega arith))
    ((makes_both Two to (vertices_made Two to g s f) (edges_made Two to g s f)).onward 2 (0 ∷ []) ∙ read_end Two to g _)

-- every label of a sound graph is one that edition 2 holds
pub sound_fits : (g : Graph) → Sound g → LabelsFit Two g
sound_fits g s v h = (s.labelled v h).1

-- So reading what `write_graph` writes gives that same graph.
pub round_trip : (g : Graph) → Sound g → (labels edges : List ℕ) → length labels ≡ 64 → length edges ≡ 4096
    → reading labels edges (graph_bytes g) ≡ read_all g
unfolding reading reading_edition
round_trip g s labels edges l e =
    simp (eq-eqb (length labels) 64 l, eq-eqb (length edges) 4096 e) (file_trip Two Two g s (sound_fits g s))

-- Reading the bytes that a writer has written into a buffer gives the graph that was written.
pub written_read : (g : Graph) (buffer : List ℕ) (k : ℕ) → (writing g buffer).answer ≡ accepted k
    → (labels edges : List ℕ) → length labels ≡ 64 → length edges ≡ 4096
    → reading labels edges (take k (writing g buffer).buffer) ≡ read_all g
written_read g buffer k a labels edges l e =
    rw (written_bytes g buffer k a) (round_trip g (passes_sound g (written_passed g buffer k a)) labels edges l e)
