-- The check of a row finds no fault exactly where the row is left out, or allowed and consistent with each earlier mapped row.
use mathlib.Core.Path.{◌≡◌, refl}
use mathlib.Core.Logic.{◌≢◌}
use mathlib.Core.Bool.{Bool, true, false, cond, true≢false}
use mathlib.Core.List.{List}
use mathlib.Core.Option.{Option, none, some, some-ne-none}
use Prim.Native.Nat.{ℕ, ◌<◌}
use lib.Dec.{ltb, eqb}
use lib.ListN.{get_or}
use borrow.Author.Tests.{eqb-false, ne_eqb, ltb-true, lt-ltb}
use Rattle.bounded.specs.First.{first_below}
use Rattle.bounded.proofs.First.{first_below_none, none_first_below, first_below_some}
use Rattle.problem.specs.Problem.{Problem, compare_vertices, compare_edges, allowed, consistent}
use Rattle.mapping.specs.Common.{unmapped}
use Rattle.mapping.specs.Answers.{Outcome, accepted, refused_row, refused_rows}
use Rattle.mapping.specs.Check.{clash, edge_fault, row_fault}
use Rattle.problem.proofs.Consistent.{allowed_facts, facts_allowed, consistent_facts, facts_consistent}

-- the tests of a row against an earlier one: the earlier is left out, the images are the same, the edges agree
abbrev clash_tests : Bool → Bool → Bool → Outcome → Outcome → Option Outcome
clash_tests out same agree sameImage edgesDiffer = cond out none (cond same (some sameImage) (cond agree none (some edgesDiffer)))

clash_passed : (same agree : Bool) (p q : Outcome) → clash_tests false same agree p q ≡ none → (same ≡ false) × (agree ≡ true)
clash_passed true agree p q e = absurd (some-ne-none p e)
clash_passed false true p q e = (refl, refl)
clash_passed false false p q e = absurd (some-ne-none q e)

clash_outcome : (out same agree : Bool) (p q o : Outcome) → clash_tests out same agree p q ≡ some o → (p ≢ o) → (q ≢ o) → ⊥
clash_outcome true same agree p q o e np nq = true≢false (cc)
clash_outcome false true agree p q o e np nq = np (cc)
clash_outcome false false true p q o e np nq = true≢false (cc)
clash_outcome false false false p q o e np nq = nq (cc)

-- the tests of a row: it is left out, its image is a new vertex, the labels agree, and then those against the earlier rows
abbrev row_tests : Bool → Bool → Bool → Option Outcome → Outcome → Outcome → Option Outcome
row_tests out below agree earlier labelsDiffer noVertex =
    cond out none (cond below (cond agree earlier (some labelsDiffer)) (some noVertex))

row_passed : (below agree : Bool) (earlier : Option Outcome) (p q : Outcome) → row_tests false below agree earlier p q ≡ none
    → (below ≡ true) × (agree ≡ true) × (earlier ≡ none)
row_passed true true earlier p q e = (refl, refl, e)
row_passed true false earlier p q e = absurd (some-ne-none p e)
row_passed false agree earlier p q e = absurd (some-ne-none q e)

row_outcome : (out below agree : Bool) (earlier : Option Outcome) (p q o : Outcome) → row_tests out below agree earlier p q ≡ some o
    → (p ≢ o) → (q ≢ o) → earlier ≡ some o
row_outcome true below agree earlier p q o e np nq = absurd (true≢false (cc))
row_outcome false true true earlier p q o e np nq = e
row_outcome false true false earlier p q o e np nq = absurd (np (cc))
row_outcome false false agree earlier p q o e np nq = absurd (nq (cc))

-- the test of a row with itself, and then those against the earlier rows
edges_passed : (own : Bool) (earlier : Option Outcome) (p : Outcome) → cond own earlier (some p) ≡ none → (own ≡ true) × (earlier ≡ none)
edges_passed true earlier p e = (refl, e)
edges_passed false earlier p e = absurd (some-ne-none p e)

edges_outcome : (own : Bool) (earlier : Option Outcome) (p o : Outcome) → cond own earlier (some p) ≡ some o → (p ≢ o) → earlier ≡ some o
edges_outcome true earlier p o e np = e
edges_outcome false earlier p o e np = absurd (np (cc))

module _ (P : Problem) (l : List ℕ) where
  -- what the check asks of row v and the earlier row u
  abbrev pub PairPasses : ℕ → ℕ → Type 0
  PairPasses u v = get_or l u 0 ≢ unmapped → consistent P u (get_or l u 0) v (get_or l v 0) ≡ true

  -- what it asks of row v
  abbrev pub RowPasses : ℕ → Type 0
  RowPasses v = get_or l v 0 ≢ unmapped → (allowed P v (get_or l v 0) ≡ true) × ((u : ℕ) → u < v → PairPasses u v)

  -- A row that clashes with no earlier row is consistent with each that is mapped.
  pub clash_none : (v u : ℕ) → clash P l v u ≡ none → PairPasses u v
  clash_none v u e m =
      let tests = clash_passed (eqb (get_or l u 0) (get_or l v 0)) (compare_edges P u v (get_or l u 0) (get_or l v 0)) _ _
      (rw (ne_eqb (get_or l u 0) unmapped m) at e) in
      facts_consistent P u (get_or l u 0) v (get_or l v 0) (eqb-false (get_or l u 0) (get_or l v 0) tests.0) tests.1

  -- A row does not clash with an earlier one that is left out or consistent.
  pub none_clash : (v u : ℕ) → PairPasses u v → clash P l v u ≡ none
  none_clash v u f = go (eqb (get_or l u 0) unmapped) refl
    where
      go : (t : Bool) → eqb (get_or l u 0) unmapped ≡ t → clash P l v u ≡ none
      go true e = rw e
      go false e =
          let facts = consistent_facts P u (get_or l u 0) v (get_or l v 0) (f (eqb-false (get_or l u 0) unmapped e)) in
          simp (e, ne_eqb (get_or l u 0) (get_or l v 0) facts.0, facts.1)

  -- A row with no fault is left out, or allowed and consistent with the earlier mapped rows.
  pub row_none : (v : ℕ) → row_fault P l v ≡ none → RowPasses v
  unfolding row_fault
  row_none v e m =
      let tests = row_passed (ltb (get_or l v 0) P.new.order) (compare_vertices P v (get_or l v 0)) (edge_fault P l v) _ _
      (rw (ne_eqb (get_or l v 0) unmapped m) at e) in
      let own = edges_passed (compare_edges P v v (get_or l v 0) (get_or l v 0)) (first_below v (clash P l v)) _ tests.2 in (
        facts_allowed P v (get_or l v 0) (ltb-true (get_or l v 0) P.new.order tests.0) tests.1 own.0,
        λ u h. clash_none v u (first_below_none v (clash P l v) own.1 u h),
      )

  -- A row that is left out, or allowed and consistent with the earlier mapped rows, has no fault.
  pub none_row : (v : ℕ) → RowPasses v → row_fault P l v ≡ none
  unfolding row_fault
  none_row v f = go (eqb (get_or l v 0) unmapped) refl
    where
      go : (t : Bool) → eqb (get_or l v 0) unmapped ≡ t → row_fault P l v ≡ none
      go true e = rw e
      go false e =
          let passes = f (eqb-false (get_or l v 0) unmapped e) in
          let facts = allowed_facts P v (get_or l v 0) passes.0 in
          simp (e, lt-ltb (get_or l v 0) P.new.order facts.0, facts.1, facts.2)
          (none_first_below v (clash P l v) (λ u h. none_clash v u (passes.1 u h)))

  -- A row's fault is a refusal.
  pub row_refuses : (v n : ℕ) → row_fault P l v ≡ some (accepted n) → ⊥
  unfolding row_fault
  row_refuses v n e =
      let first = first_below_some v (clash P l v) (accepted n)
      (edges_outcome (compare_edges P v v (get_or l v 0) (get_or l v 0)) (first_below v (clash P l v)) (refused_rows 22 v v) (accepted n)
      (row_outcome (eqb (get_or l v 0) unmapped) (ltb (get_or l v 0) P.new.order) (compare_vertices P v (get_or l v 0)) (edge_fault P l v)
      (refused_row 21 v) (refused_row 19 v) (accepted n) e (λ q. true≢false (cc)) (λ q. true≢false (cc))) (λ q. true≢false (cc))) in
      let u = first.0 in
      clash_outcome (eqb (get_or l u 0) unmapped) (eqb (get_or l u 0) (get_or l v 0)) (compare_edges P u v (get_or l u 0) (get_or l v 0))
      (refused_rows 20 v u) (refused_rows 22 v u) (accepted n) first.2 (λ q. true≢false (cc)) (λ q. true≢false (cc))
