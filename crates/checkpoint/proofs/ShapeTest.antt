-- The test of a checkpoint's shape passes exactly on checkpoints in shape.
use mathlib.Core.Path.{◌≡◌, refl, sym, ap, ◌∙◌}
use mathlib.Core.Logic.Iff
use mathlib.Core.Logic.{◌↔◌, ◌⊎◌, inl, inr, ⊎_elim}
use mathlib.Core.Bool.{Bool, true, false, true≢false, false≢true}
use mathlib.Core.List.{List}
use Prim.Native.Nat.{ℕ, ◌≤◌, ◌<◌}
use native.Mathlib.Decide.{dec_lt}
use native.Mathlib.Omega.{arith}
use lib.Dec.{eqb}
use lib.ListN.{get_or, take, length-take}
use borrow.Author.Tests.{leb-true, eqb-true, eqb-false, le-leb}
use Rattle.bounded.proofs.Tells.{Tells, tells_le, tells_lt, tells_eq, tells_itself, tells_not, tells_both, tells_one, tells_same, tells_all}
use Rattle.problem.specs.Problem.{Problem, SoundProblem}
use Rattle.mapping.specs.Common.{Common, unmapped, size}
use Rattle.mapping.specs.Answers.{Outcome, accepted, refused, refused_row, refused_rows}
use Rattle.mapping.specs.Check.{list_outcome, check_outcome}
use Rattle.problem.proofs.ProblemPasses.{problem_passes}
use Rattle.mapping.proofs.CheckPasses.{common_passes, passes_common}
use Rattle.search_tree.specs.Rules.{rules_of}
use Rattle.search_tree.specs.Node.{candidate}
use Rattle.search_tree.proofs.WalkTheorems.{admits_tells}
use Rattle.connected.specs.Connected.{Connected}
use Rattle.checkpoint.specs.declared.Checkpoint.{Checkpoint}
use Rattle.checkpoint.specs.Checkpoints.{InShape, reaches, path_fits, rest_fits, in_shape}

reached_number : (k : ℕ) (o : Outcome) → reaches k o ≡ true → (n : ℕ) × (o ≡ accepted n) × (k ≤ n)
reached_number k (accepted n) e = (n, refl, leb-true k n e)
reached_number k (refused n) e = absurd (false≢true e)
reached_number k (refused_row n r) e = absurd (false≢true e)
reached_number k (refused_rows n r s) e = absurd (false≢true e)

-- what the tests say, in their order
abbrev Clauses : Bool → Problem → Checkpoint → Type 0
Clauses connected P c =
    (((((c.depth ≤ P.old.order)
    × ((k : ℕ) → k < c.depth → (get_or c.path k 0 ≡ unmapped) ⊎ (candidate (rules_of P) (take k c.path) k (get_or c.path k 0) ≡ true)))
    × ((c.holds ≡ false) ⊎ (Common P (take P.old.order c.incumbent) × (c.minimum ≤ size (take P.old.order c.incumbent)))))
    × ((((c.finished ≡ false) ⊎ (c.depth ≡ 0))
    × ((c.steps ≡ 0) ↔ ((c.finished ≡ false) × (c.depth ≡ 0))))
    × ((eqb c.steps 0 ≡ false) ⊎ (c.holds ≡ false))))
    × ((i : ℕ) → i < 64
    → ((i < c.depth) ⊎ (get_or c.path i 0 ≡ 0)) × (((c.holds ≡ true) × (i < P.old.order)) ⊎ (get_or c.incumbent i 0 ≡ 0))))
    × ((c.holds ≡ false) ⊎ (connected ≡ true → Connected P.old (take P.old.order c.incumbent)))

clauses_shape : (connected : Bool) (P : Problem) (c : Checkpoint) → Clauses connected P c → InShape connected P c
clauses_shape connected P c x = record {
  depth_max = x.0.0.0.0.0;
  entry = x.0.0.0.0.1;
  incumbent_good = λ e. record { common = (held e).0; is_connected = ⊎_elim (λ f. absurd (true≢false (sym e ∙ f))) (λ h. h) x.1 };
  incumbent_reaches = λ e. (held e).1;
  finished_root = λ e. ⊎_elim (λ f. absurd (true≢false (sym e ∙ f))) (λ root. root) x.0.0.1.0.0;
  unmoved = λ e. let start = x.0.0.1.0.1.0 e in (start.0, start.1, ⊎_elim (λ ne. absurd (eqb-false c.steps 0 ne e)) (λ f. f) x.0.0.1.1);
  moved = λ f root. x.0.0.1.0.1.1 (f, root);
  path_rest = λ i h l. ⊎_elim (λ early. absurd (omega arith)) (λ z. z) (x.0.1 i l).0;
  incumbent_rest = λ i h l. ⊎_elim (λ early. absurd (omega arith)) (λ z. z) (x.0.1 i l).1;
  none_rest = λ f i l. ⊎_elim (λ early. absurd (true≢false (sym early.0 ∙ f))) (λ z. z) (x.0.1 i l).1;
}
  where
    held : c.holds ≡ true → Common P (take P.old.order c.incumbent) × (c.minimum ≤ size (take P.old.order c.incumbent))
    held e = ⊎_elim (λ f. absurd (true≢false (sym e ∙ f))) (λ h. h) x.0.0.0.1

shape_clauses : (connected : Bool) (P : Problem) (c : Checkpoint) → InShape connected P c → Clauses connected P c
shape_clauses connected P c s = (
  (
    (
      ((s.depth_max, s.entry), held c.holds refl),
      (
        (finished c.finished refl, (λ e. let start = s.unmoved e in (start.0, start.1), λ start. s.moved start.0 start.1)),
        steps (eqb c.steps 0) refl,
      ),
    ),
    λ i l. (path i l (dec_lt i c.depth), incumbent i l c.holds refl (dec_lt i P.old.order)),
  ),
  hangs c.holds refl,
)
  where
    held : (b : Bool) → c.holds ≡ b
        → (c.holds ≡ false) ⊎ (Common P (take P.old.order c.incumbent) × (c.minimum ≤ size (take P.old.order c.incumbent)))
    held true e = inr ((s.incumbent_good e).common, s.incumbent_reaches e)
    held false e = inl e

    hangs : (b : Bool) → c.holds ≡ b → (c.holds ≡ false) ⊎ (connected ≡ true → Connected P.old (take P.old.order c.incumbent))
    hangs true e = inr (s.incumbent_good e).is_connected
    hangs false e = inl e

    finished : (b : Bool) → c.finished ≡ b → (c.finished ≡ false) ⊎ (c.depth ≡ 0)
    finished true e = inr (s.finished_root e)
    finished false e = inl e

    steps : (b : Bool) → eqb c.steps 0 ≡ b → (eqb c.steps 0 ≡ false) ⊎ (c.holds ≡ false)
    steps true e = inr (s.unmoved (eqb-true c.steps 0 e)).2
    steps false e = inl e

    path : (i : ℕ) → i < 64 → Dec (i < c.depth) → (i < c.depth) ⊎ (get_or c.path i 0 ≡ 0)
    path i l (yes early) = inl early
    path i l (no late) = inr (s.path_rest i (omega arith) l)

    incumbent : (i : ℕ) → i < 64 → (b : Bool) → c.holds ≡ b → Dec (i < P.old.order)
        → ((c.holds ≡ true) × (i < P.old.order)) ⊎ (get_or c.incumbent i 0 ≡ 0)
    incumbent i l true e (yes early) = inl (e, early)
    incumbent i l true e (no late) = inr (s.incumbent_rest i (omega arith) l)
    incumbent i l false e d = inr (s.none_rest e i l)

module _ (P : Problem) (sound : SoundProblem P) where
  -- In a sound problem the check of a list is all of the check.
  pub list_check : (l : List ℕ) → check_outcome P l ≡ list_outcome P l
  unfolding check_outcome
  list_check l = rw (problem_passes P sound)

  -- The check of a list accepts it with at least k pairs exactly where it is a common subgraph of so many.
  pub tells_reaches : (k : ℕ) (l : List ℕ) → Tells (reaches k (list_outcome P l)) (Common P l × (k ≤ size l))
  tells_reaches k l = (
    λ e.
        let found = reached_number k (list_outcome P l) e in
        let good = passes_common P l sound found.0 (list_check l ∙ found.1) in
        (good.0, omega (arith, found.2, good.1)),
    λ good. ap (reaches k) (sym (list_check l) ∙ common_passes P l sound good.0) ∙ le-leb k (size l) good.1,
  )

  module _ (connected : Bool) (c : Checkpoint) where
    tells_clauses : Tells (in_shape connected P c) (Clauses connected P c)
    unfolding in_shape
    tells_clauses =
        tells_both _ _ (tells_both _ _ (tells_both _ _ (tells_both _ _ (tells_both _ _
        (tells_le c.depth P.old.order)
        (tells_all c.depth (path_fits P c) (λ k. tells_one _ _ (tells_eq (get_or c.path k 0) unmapped) (tells_itself _))))
        (tells_one _ _ (tells_not c.holds) (tells_reaches c.minimum _)))
        (tells_both _ _ (tells_both _ _
        (tells_one _ _ (tells_not c.finished) (tells_eq c.depth 0))
        (tells_same _ _ (tells_eq c.steps 0) (tells_both _ _ (tells_not c.finished) (tells_eq c.depth 0))))
        (tells_one _ _ (tells_not (eqb c.steps 0)) (tells_not c.holds))))
        (tells_all 64 (rest_fits P.old.order c) (λ i. tells_both _ _
        (tells_one _ _ (tells_lt i c.depth) (tells_eq (get_or c.path i 0) 0))
        (tells_one _ _ (tells_both _ _ (tells_itself c.holds) (tells_lt i P.old.order)) (tells_eq (get_or c.incumbent i 0) 0)))))
        (tells_one _ _ (tells_not c.holds) (admits_tells connected P sound _
        (omega (arith, length-take P.old.order c.incumbent, sound.old_sound.order_max))))

    -- The test passes exactly on a checkpoint in shape.
    pub shape_test : (in_shape connected P c ≡ true) ↔ InShape connected P c
    shape_test = Iff.trans tells_clauses (clauses_shape connected P c, shape_clauses connected P c)
