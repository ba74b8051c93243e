-- The invariant of the search: what is held, in which order the nodes are open, and that no solution is lost.
use mathlib.Core.Path.{◌≡◌, refl, sym, ◌∙◌}
use mathlib.Core.Logic.{◌⊎◌, inl, inr, ⊎_elim}
use mathlib.Core.Bool.{true, false, true≢false}
use mathlib.Core.Option.{Option, none, some, some-injective, none-ne-some}
use mathlib.Core.List.{List, [], ◌∷◌, ◌++◌}
use Prim.Native.Nat.{ℕ, ◌≤◌, ◌<◌}
use native.Mathlib.Omega.{arith}
use Rattle.branch_bound.specs.Tree.{Tree, Under, here, Lawful}
use Rattle.branch_bound.specs.Search.{State, state, cutoff, step, after}
use Rattle.branch_bound.specs.Best.{Candidate}
use Rattle.branch_bound.proofs.Steps.{step_cases, after_keeps}
use Rattle.branch_bound.proofs.Solutions.{
  UnderOne,
  InOrder,
  under_none,
  under_last,
  under_head,
  under_tail,
  under_cons,
  under_parent,
  under_opened,
  under_closed,
  in_order_append,
  under_bound,
  children_in_order,
}

module _ (T : Tree) (minimum : ℕ) (before : T.Node → T.Node → Type 0) where
  -- s need not be held any more: it is below the minimum, or no better than the incumbent
  abbrev pub Beaten : Option T.Node → T.Node → Type 0
  Beaten none s = T.size s < minimum
  Beaten (some h) s = (T.size s ≤ T.size h) × (T.size s ≡ T.size h → (s ≡ h) ⊎ before h s)

  -- what holds of every state of a search from the root
  pub record Invariant (root : T.Node) (x : State T) : Type 0 where
    pub candidate : (h : T.Node) → x.incumbent ≡ some h → Candidate T minimum root h
    pub in_order : InOrder T before x.nodes
    -- the solutions under the open nodes are under the root
    pub inside : (s : T.Node) → UnderOne T x.nodes s → Under T root s
    -- and the incumbent comes before them
    pub ahead : (h s : T.Node) → x.incumbent ≡ some h → UnderOne T x.nodes s → before h s
    -- each solution that may be held is still under an open node, or beaten
    pub covers : (s : T.Node) → Under T root s → T.admits s ≡ true → UnderOne T x.nodes s ⊎ Beaten x.incumbent s

  -- What is beaten is below the cutoff.
  pub beaten_below : (incumbent : Option T.Node) (s : T.Node) → Beaten incumbent s → T.size s < cutoff T minimum incumbent
  beaten_below none s b = b
  beaten_below (some h) s b = omega arith

  -- what is below the cutoff and after the incumbent is beaten
  below_beaten : (incumbent : Option T.Node) (s : T.Node) → T.size s < cutoff T minimum incumbent → ((h : T.Node) → incumbent ≡ some h → before h s)
      → Beaten incumbent s
  below_beaten none s low ahead = low
  below_beaten (some h) s low ahead = (omega arith, λ e. inr (ahead h refl))

  -- the cutoff is at least the minimum
  minimum_cutoff : (incumbent : Option T.Node) → ((h : T.Node) → incumbent ≡ some h → minimum ≤ T.size h) → minimum ≤ cutoff T minimum incumbent
  minimum_cutoff none reaches = omega arith
  minimum_cutoff (some h) reaches = omega (arith, reaches h refl)

  invariant_start : (root : T.Node) → Invariant root (state T (root ∷ []) none)
  invariant_start root = record {
    candidate = λ h e. absurd (none-ne-some h e);
    in_order = (λ s t u v. absurd (under_none v), tt);
    inside = λ s u. ⊎_elim (λ v. v) (λ v. absurd (under_none v)) (under_cons u);
    ahead = λ h s e u. absurd (none-ne-some h e);
    covers = λ s u a. inl (under_head u);
  }

module _ {T : Tree} {weight : T.Node → ℕ} {before : T.Node → T.Node → Type 0} (L : Lawful T weight before) (minimum : ℕ) (root : T.Node) where
  module _ (incumbent : Option T.Node) (n : T.Node) (rest : List T.Node) (I : Invariant T minimum before root (state T (n ∷ rest) incumbent)) where
    -- the visited node n may go where all that is under it is beaten
    closed : ((s : T.Node) → Under T n s → T.admits s ≡ true → Beaten T minimum before incumbent s)
        → Invariant T minimum before root (state T rest incumbent)
    closed beaten = record {
      candidate = I.candidate;
      in_order = I.in_order.1;
      inside = λ s u. I.inside s (under_tail u);
      ahead = λ h s e u. I.ahead h s e (under_tail u);
      covers = λ s u a. ⊎_elim (λ v. ⊎_elim (λ w. inr (beaten s w a)) (λ w. inl w) (under_cons v)) (λ b. inr b) (I.covers s u a);
    }

    dropped : T.bound n < cutoff T minimum incumbent → Invariant T minimum before root (state T rest incumbent)
    dropped low = closed λ s u a. below_beaten T minimum before incumbent s (omega (arith, under_bound L u)) (λ h e. I.ahead h s e (under_head u))

    refused : T.last n ≡ true → T.admits n ≡ false → Invariant T minimum before root (state T rest incumbent)
    refused final unfit = closed λ s u a. absurd (true≢false (sym a ∙ (rw (under_last final u) unfit)))

    taken : cutoff T minimum incumbent ≤ T.bound n → T.last n ≡ true → T.admits n ≡ true → Invariant T minimum before root (state T rest (some n))
    taken reach final fit = record {
      candidate = λ h e. rw (← some-injective n h e) (record {
        under = I.inside n (under_head (here final));
        admitted = fit;
        reaches = omega (arith, size_bound, minimum_cutoff T minimum before incumbent (λ h e. (I.candidate h e).reaches));
      });
      in_order = I.in_order.1;
      inside = λ s u. I.inside s (under_tail u);
      ahead = λ h s e u. rw (← some-injective n h e) (I.in_order.0 n s (here final) u);
      covers = λ s u a. ⊎_elim (λ v. ⊎_elim (λ w. inr (itself s (under_last final w))) (λ w. inl w) (under_cons v)) (λ b. inr (smaller s b))
          (I.covers s u a);
    }
      where
        size_bound : T.bound n ≡ T.size n
        size_bound = L.bound_last n final

        itself : (s : T.Node) → s ≡ n → Beaten T minimum before (some n) s
        itself s e = (rw e (omega arith), λ same. inl e)

        smaller : (s : T.Node) → Beaten T minimum before incumbent s → Beaten T minimum before (some n) s
        smaller s b =
            let low : T.size s < T.size n = omega (arith, size_bound, beaten_below T minimum before incumbent s b) in
            (omega arith, λ same. absurd (omega arith))

    opened : T.last n ≡ false → Invariant T minimum before root (state T (T.children n ++ rest) incumbent)
    opened inner = record {
      candidate = I.candidate;
      in_order = in_order_append (T.children n) rest (children_in_order L n inner) I.in_order.1
          (λ s t u v. I.in_order.0 s t (under_parent inner u) v);
      inside = λ s u. I.inside s (under_closed rest inner u);
      ahead = λ h s e u. I.ahead h s e (under_closed rest inner u);
      covers = λ s u a. ⊎_elim (λ v. inl (under_opened rest inner v)) (λ b. inr b) (I.covers s u a);
    }

  -- Every step keeps the invariant.
  pub invariant_step : (x : State T) → Invariant T minimum before root x → Invariant T minimum before root (step T minimum x)
  invariant_step = step_cases T minimum (λ x next. Invariant T minimum before root x → Invariant T minimum before root next) (λ incumbent I. I)
      (λ incumbent n rest. record {
        dropped = λ low I. dropped incumbent n rest I low;
        refused = λ reach final unfit I. refused incumbent n rest I final unfit;
        taken = λ reach final fit I. taken incumbent n rest I reach final fit;
        opened = λ reach inner I. opened incumbent n rest I inner;
      })

  -- The invariant holds after every number of steps.
  pub invariant_after : (k : ℕ) → Invariant T minimum before root (after T minimum root k)
  invariant_after = after_keeps T minimum root (Invariant T minimum before root) (invariant_start T minimum before root) invariant_step
