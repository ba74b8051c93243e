-- What the search holds is a candidate at every step and the best one at the end, and there is one best.
use mathlib.Core.Path.{◌≡◌, refl, sym, ap}
use mathlib.Core.Logic.{⊎_elim}
use mathlib.Core.Bool.{true}
use mathlib.Core.Option.{Option, none, some}
use mathlib.Core.List.{[]}
use Prim.Native.Nat.{ℕ}
use native.Mathlib.Omega.{arith}
use Rattle.branch_bound.specs.Tree.{Tree, Under, Lawful}
use Rattle.branch_bound.specs.Search.{State, after}
use Rattle.branch_bound.specs.Best.{Candidate, Best}
use Rattle.branch_bound.proofs.Solutions.{UnderOne, under_none}
use Rattle.branch_bound.proofs.Invariant.{Beaten, Invariant, invariant_after}

module _ (T : Tree) (minimum : ℕ) (before : T.Node → T.Node → Type 0) (root : T.Node) where
  -- what a finished state holds is best, if the invariant holds
  invariant_best : (x : State T) → Invariant T minimum before root x → x.nodes ≡ [] → Best T minimum before root x.incumbent
  invariant_best x I e = record {
    candidate = I.candidate;
    none_reaches = λ is_none s u a. rw is_none at (beaten s u a);
    largest = λ h is_some s u a. (rw is_some at (beaten s u a)).0;
    first = λ h is_some s u a. (rw is_some at (beaten s u a)).1;
  }
    where
      beaten : (s : T.Node) → Under T root s → T.admits s ≡ true → Beaten T minimum before x.incumbent s
      beaten s u a = ⊎_elim (λ (v : UnderOne T x.nodes s). absurd (under_none (rw e at v))) (λ b. b) (I.covers s u a)

  -- There is one best: where no two solutions come before each other, two that are best are the same.
  pub best_unique : ((s t : T.Node) → before s t → before t s → ⊥)
      → (a b : Option T.Node) → Best T minimum before root a → Best T minimum before root b → a ≡ b
  best_unique asymmetric none none p q = refl
  best_unique asymmetric none (some h) p q =
      let c = q.candidate h refl in absurd (omega (arith, p.none_reaches refl h c.under c.admitted, c.reaches))
  best_unique asymmetric (some g) none p q =
      let c = p.candidate g refl in absurd (omega (arith, q.none_reaches refl g c.under c.admitted, c.reaches))
  best_unique asymmetric (some g) (some h) p q = ap {B = Option T.Node} some same
    where
      c : Candidate T minimum root g
      c = p.candidate g refl

      d : Candidate T minimum root h
      d = q.candidate h refl

      size_same : T.size g ≡ T.size h
      size_same = omega (arith, p.largest g refl h d.under d.admitted, q.largest h refl g c.under c.admitted)

      same : g ≡ h
      same = ⊎_elim (λ e. e)
          (λ hg. ⊎_elim (λ e. sym e) (λ gh. absurd (asymmetric h g hg gh)) (p.first g refl h d.under d.admitted (sym size_same)))
          (q.first h refl g c.under c.admitted size_same)

module _ {T : Tree} {weight : T.Node → ℕ} {before : T.Node → T.Node → Type 0} (L : Lawful T weight before) (minimum : ℕ) (root : T.Node) where
  -- What is held is at every step a solution under the root that may be held and reaches the minimum.
  pub incumbent_candidate : (k : ℕ) (h : T.Node) → (after T minimum root k).incumbent ≡ some h → Candidate T minimum root h
  incumbent_candidate k = (invariant_after L minimum root k).candidate

  -- Once no node is open, what is held is best.
  pub finished_best : (k : ℕ) → (after T minimum root k).nodes ≡ [] → Best T minimum before root (after T minimum root k).incumbent
  finished_best k = invariant_best T minimum before root (after T minimum root k) (invariant_after L minimum root k)
