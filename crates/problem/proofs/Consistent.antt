-- What the tests of one mapped row and of two ask, and that the test of two does not depend on which of them comes first.
use mathlib.Core.Path.{◌≡◌, refl, sym, ap₂, ◌∙◌}
use mathlib.Core.Logic.{◌≢◌}
use mathlib.Core.Bool.{Bool, true, false, not, ◌&&◌, and-eq-true_iff}
use Prim.Native.Nat.{ℕ, ◌<◌}
use lib.Dec.{ltb, eqb}
use borrow.Author.Tests.{lt-ltb, ltb-true, ne_eqb, eqb-true, eqb-false, not-true}
use Rattle.graph.specs.Graph.{edge}
use Rattle.problem.specs.Problem.{Problem, SoundProblem, compare_vertices, compare_edges, allowed, consistent}

module _ (P : Problem) where
  -- An old vertex may lie on w only where w is a new vertex, the labels agree, and so do the edges with themselves.
  pub allowed_facts : (v w : ℕ) → allowed P v w ≡ true
      → (w < P.new.order) × (compare_vertices P v w ≡ true) × (compare_edges P v v w w ≡ true)
  unfolding allowed
  allowed_facts v w e =
      let own = (and-eq-true_iff (ltb w P.new.order && compare_vertices P v w) (compare_edges P v v w w)).0 e in
      let both = (and-eq-true_iff (ltb w P.new.order) (compare_vertices P v w)).0 own.0 in
      (ltb-true w P.new.order both.0, both.1, own.1)

  -- Where all that holds, an old vertex may lie on w.
  pub facts_allowed : (v w : ℕ) → w < P.new.order → compare_vertices P v w ≡ true → compare_edges P v v w w ≡ true → allowed P v w ≡ true
  unfolding allowed
  facts_allowed v w h e own = rw (lt-ltb w P.new.order h, e) own

  -- That w is a new vertex need not be asked again.
  pub new_vertex : (v w : ℕ) → (ltb w P.new.order && allowed P v w) ≡ allowed P v w
  unfolding allowed
  new_vertex v w = go (ltb w P.new.order)
    where
      go : (t : Bool) → (t && (t && compare_vertices P v w && compare_edges P v v w w)) ≡ (t && compare_vertices P v w && compare_edges P v v w w)
      go true = refl
      go false = refl

  -- "link kinds must still be equal": no list makes edges agree.
  pub edges_equal : (v v' w w' : ℕ) → compare_edges P v v' w w' ≡ true → edge P.old v v' ≡ edge P.new w w'
  edges_equal v v' w w' e = eqb-true _ _ e

  -- Two mapped rows may stand together only where their partners are two and the edges agree.
  pub consistent_facts : (v w v' w' : ℕ) → consistent P v w v' w' ≡ true → (w ≢ w') × (compare_edges P v v' w w' ≡ true)
  unfolding consistent
  consistent_facts v w v' w' e =
      let both = (and-eq-true_iff (not (eqb w w')) (compare_edges P v v' w w')).0 e in
      (eqb-false w w' (not-true (eqb w w') both.0), both.1)

  -- Where their partners are two and the edges agree, two mapped rows may stand together.
  pub facts_consistent : (v w v' w' : ℕ) → w ≢ w' → compare_edges P v v' w w' ≡ true → consistent P v w v' w' ≡ true
  unfolding consistent
  facts_consistent v w v' w' ne e = rw (ne_eqb w w' ne) e

module _ (P : Problem) (s : SoundProblem P) where
  -- Edges of sound graphs compare the same both ways.
  pub edges_symmetric : (v v' w w' : ℕ) → v < 64 → v' < 64 → w < 64 → w' < 64 → compare_edges P v v' w w' ≡ compare_edges P v' v w' w
  edges_symmetric v v' w w' hv hv' hw hw' = ap₂ eqb (s.old_sound.symmetric v v' hv hv') (s.new_sound.symmetric w w' hw hw')

  -- Two rows may stand together in either order.
  pub consistent_symmetric : (v w v' w' : ℕ) → v < 64 → v' < 64 → w < 64 → w' < 64
      → consistent P v w v' w' ≡ true → consistent P v' w' v w ≡ true
  consistent_symmetric v w v' w' hv hv' hw hw' e =
      let both = consistent_facts P v w v' w' e in
      facts_consistent P v' w' v w (λ q. both.0 (sym q)) (sym (edges_symmetric v v' w w' hv hv' hw hw') ∙ both.1)
