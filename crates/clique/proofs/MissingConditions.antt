-- What the printed rules of 001 and 004 let through, computed on small problems: for each condition that is missing, a clique that is larger than every common
-- subgraph (01, "The walk": "001's printed rule lacks the second condition and 004 compares no kinds"; 02, U4: "paired parts need equal own links").
use mathlib.Core.Path.{◌≡◌, refl, sym, ap, ap₂, ◌∙◌}
use mathlib.Core.Logic.{◌≢◌}
use mathlib.Core.Bool.{Bool, true, not, ◌&&◌, true≢false, and-eq-true_iff}
use mathlib.Core.List.{List, [], ◌∷◌}
use mathlib.Core.Option.{some}
use Prim.Native.Nat.{ℕ, ◌<◌}
use native.Mathlib.Decide.{ℕ_discrete, dec_lt}
use native.Mathlib.Omega.{arith}
use lib.Dec.{eqb, lit<}
use lib.ListN.{length}
use borrow.Author.Tests.{eq-eqb}
use Rattle.bounded.specs.Below.{all_below, some_below, run_below}
use Rattle.bounded.proofs.AllBelow.{all_below_true}
use Rattle.graph_reader.specs.Reading.{reading, reading_edition, read_file, opens, read_at, read_from, judge}
use Rattle.substitutes.specs.Substitutes.{listed, agree}
use Rattle.substitutes.specs.Soundness.{substitutes_answer}
use Rattle.problem.specs.Problem.{Problem, SoundProblem, compare_edges, allowed, consistent}
use Rattle.problem_reader.proofs.MarkedGraphs.{bytes, between, one, two, sevens, held, listing, between_sound, one_sound, sevens_sound, held_sound, listing_sound}
use Rattle.mapping.specs.Common.{mapped_from, size}
use Rattle.search_tree.specs.Node.{candidate, candidates, choices}
use Rattle.clique.specs.Branching.{keep_larger, branch_row, branch}
use Rattle.clique.specs.Association.{Pair, pair, pair_at, apart, Clique, Exceeds, in_product, modular_vertex, modular_edge, unlabelled_edge}
use Rattle.clique.proofs.Association.{branch_greatest}

-- ---- a test of cliques

abbrev same : Pair → Pair → Bool
same p q = eqb p.old q.old && eqb p.new q.new

module _ (vertex : Pair → Bool) (edges : Pair → Pair → Bool) (c : List Pair) where
  -- two pairs, joined both ways
  abbrev both : ℕ → ℕ → Bool
  both i j = not (same (pair_at c i) (pair_at c j)) && edges (pair_at c i) (pair_at c j) && edges (pair_at c j) (pair_at c i)

  -- each pair is a vertex, and any two are
  abbrev clique_test : Bool
  clique_test = all_below (length c) (λ i. vertex (pair_at c i)) && all_below (length c) (λ i. all_below i (both i))

  module _ (passes : clique_test ≡ true) where
    -- what the test says of a pair and an earlier one
    earlier : (i j : ℕ) → j < i → i < length c
        → (not (same (pair_at c i) (pair_at c j)) ≡ true) × (edges (pair_at c i) (pair_at c j) ≡ true) × (edges (pair_at c j) (pair_at c i) ≡ true)
    earlier i j h l =
        let all = ((and-eq-true_iff (all_below (length c) (λ i. vertex (pair_at c i))) _).0 passes).1 in
        let last = (and-eq-true_iff (not (same (pair_at c i) (pair_at c j)) && edges (pair_at c i) (pair_at c j)) (edges (pair_at c j) (pair_at c i))).0
        (all_below_true i (both i) (all_below_true (length c) (λ i. all_below i (both i)) all i l) j h) in
        let first = (and-eq-true_iff (not (same (pair_at c i) (pair_at c j))) (edges (pair_at c i) (pair_at c j))).0 last.0 in
        (first.0, first.1, last.1)

    -- two places hold two pairs
    apart_at : (i j : ℕ) → j < i → i < length c → pair_at c i ≡ pair_at c j → ⊥
    apart_at i j h l e =
        let equal : same (pair_at c i) (pair_at c j) ≡ true =
        ap₂ ◌&&◌ (eq-eqb _ _ (ap (λ (p : Pair). p.old) e)) (eq-eqb _ _ (ap (λ (p : Pair). p.new) e)) in
        true≢false (sym (earlier i j h l).0 ∙ ap not equal)

    test_clique : Clique vertex edges c
    test_clique = record {
      vertices = all_below_true (length c) (λ i. vertex (pair_at c i)) ((and-eq-true_iff _ (all_below (length c) (λ i. all_below i (both i)))).0 passes).0;
      distinct = λ i j hi hj e. distinct i j hi hj e (ℕ_discrete i j) (dec_lt j i);
      connected = λ i j hi hj ne. connected i j hi hj ne (dec_lt j i);
    }
      where
        distinct : (i j : ℕ) → i < length c → j < length c → pair_at c i ≡ pair_at c j → Dec (i ≡ j) → Dec (j < i) → i ≡ j
        distinct i j hi hj e (yes q) d = q
        distinct i j hi hj e (no n) (yes h) = absurd (apart_at i j h hi e)
        distinct i j hi hj e (no n) (no h) = absurd (apart_at j i (omega (arith, n)) hj (sym e))

        connected : (i j : ℕ) → i < length c → j < length c → i ≢ j → Dec (j < i) → edges (pair_at c i) (pair_at c j) ≡ true
        connected i j hi hj ne (yes h) = (earlier i j h hi).1
        connected i j hi hj ne (no h) = (earlier j i (omega (arith, ne)) hj).2

-- A clique is larger than every common subgraph where it is longer than what clique branching holds.
exceeds : (P : Problem) → SoundProblem P → {vertex : Pair → Bool} {edges : Pair → Pair → Bool} (c : List Pair) → clique_test vertex edges c ≡ true
    → (h : List ℕ) → branch P 0 ≡ some h → size h < length c → Exceeds P vertex edges c
exceeds P sound {vertex} {edges} c passes h e less = record {
  clique = test_clique vertex edges c passes;
  smaller = λ l common. omega (arith, (branch_greatest P sound 0 h e).bound l common);
}

-- ---- the examples

-- 001, one part of kind 7 against two of kind 7, and two against one: without "no part shared by two pairs" the one is paired with both.
pub modular_shares : Exceeds (between one two) (modular_vertex (between one two)) (modular_edge (between one two)) (pair 0 0 ∷ pair 0 1 ∷ [])
    × Exceeds (between two one) (modular_vertex (between two one)) (modular_edge (between two one)) (pair 0 0 ∷ pair 1 0 ∷ [])
unfolding reading reading_edition read_file opens read_at read_from judge bytes all_below some_below run_below listed agree allowed consistent mapped_from candidate candidates choices keep_larger branch_row
modular_shares = (
  exceeds (between one two) one_sound (pair 0 0 ∷ pair 0 1 ∷ []) refl (0 ∷ []) refl (lit< tt),
  exceeds (between two one) (between_sound two one refl refl 2 1 refl refl) (pair 0 0 ∷ pair 1 0 ∷ []) refl (0 ∷ 255 ∷ []) refl (lit< tt),
)

-- 004, one part of kind 7 against one of kind 9: vertices are paired whatever their labels.
pub unlabelled_vertices : Exceeds (listing []) (in_product (listing [])) (unlabelled_edge (listing [])) (pair 0 0 ∷ [])
unfolding reading reading_edition read_file opens read_at read_from judge all_below some_below run_below listed agree substitutes_answer allowed consistent mapped_from candidate candidates choices keep_larger branch_row
unlabelled_vertices = exceeds (listing []) (listing_sound [] refl) (pair 0 0 ∷ []) refl (255 ∷ []) refl (lit< tt)

-- 004, two parts of kind 7 linked by 1 against two linked by 2: pairs are joined whatever the edges' labels, also where the vertices' are compared.
pub unlabelled_edges : let P = between (sevens 1) (sevens 2) in
    Exceeds P (in_product P) (unlabelled_edge P) (pair 0 0 ∷ pair 1 1 ∷ []) × Exceeds P (modular_vertex P) (unlabelled_edge P) (pair 0 0 ∷ pair 1 1 ∷ [])
unfolding reading reading_edition read_file opens read_at read_from judge all_below some_below run_below listed agree allowed consistent mapped_from candidate candidates choices keep_larger branch_row
unlabelled_edges = (
  exceeds (between (sevens 1) (sevens 2)) sevens_sound (pair 0 0 ∷ pair 1 1 ∷ []) refl (0 ∷ 255 ∷ []) refl (lit< tt),
  exceeds (between (sevens 1) (sevens 2)) sevens_sound (pair 0 0 ∷ pair 1 1 ∷ []) refl (0 ∷ 255 ∷ []) refl (lit< tt),
)

-- Both, a part of kind 7 linked with itself against one that is not: with no part shared and kinds compared the two are paired still.
pub own_edges_differ : let P = between (held 1) one in
    Exceeds P (modular_vertex P) (λ p q. modular_edge P p q && apart p q) (pair 0 0 ∷ [])
    × Exceeds P (modular_vertex P) (λ p q. unlabelled_edge P p q && compare_edges P p.old q.old p.new q.new) (pair 0 0 ∷ [])
unfolding reading reading_edition read_file opens read_at read_from judge all_below some_below run_below listed agree allowed consistent mapped_from candidate candidates choices keep_larger branch_row
own_edges_differ = (
  exceeds (between (held 1) one) held_sound (pair 0 0 ∷ []) refl (255 ∷ []) refl (lit< tt),
  exceeds (between (held 1) one) held_sound (pair 0 0 ∷ []) refl (255 ∷ []) refl (lit< tt),
)
