-- The cutoff never falls, the ceiling never rises, and every solution that may be held is below the ceiling.
use mathlib.Core.Path.{◌≡◌, refl}
use mathlib.Core.Logic.{⊎_elim}
use mathlib.Core.Bool.{true}
use mathlib.Core.List.{List, [], ◌∷◌, ◌++◌, Memᴰ}
use Prim.Native.Nat.{ℕ, ◌+◌, ◌≤◌, ◌<◌, max}
use native.Mathlib.Omega.{arith}
use Rattle.branch_bound.specs.Tree.{Tree, Under, Lawful}
use Rattle.branch_bound.specs.Search.{State, cutoff, step, after, top_bound, ceiling}
use Rattle.branch_bound.proofs.Steps.{step_cases, after_rises, after_falls}
use Rattle.branch_bound.proofs.Solutions.{UnderOne, under_bound}
use Rattle.branch_bound.proofs.Invariant.{Beaten, beaten_below, invariant_after}

module _ (T : Tree) where
  top_bound_append : (p q : List T.Node) → top_bound T (p ++ q) ≡ max (top_bound T p) (top_bound T q)
  unfolding top_bound
  top_bound_append [] q = omega arith
  top_bound_append (n ∷ p) q = omega (arith, top_bound_append p q)

  top_bound_within : (b : ℕ) (nodes : List T.Node) → ((n : T.Node) → Memᴰ n nodes → T.bound n ≤ b) → top_bound T nodes ≤ b + 1
  unfolding top_bound
  top_bound_within b [] within = omega arith
  top_bound_within b (n ∷ nodes) within =
      omega (arith, within n (Memᴰ.head refl), top_bound_within b nodes (λ m h. within m (Memᴰ.tail h)))

  -- The top bound of some nodes is above the bound of each.
  pub top_bound_above : {n : T.Node} {nodes : List T.Node} → Memᴰ n nodes → T.bound n < top_bound T nodes
  unfolding top_bound
  top_bound_above (Memᴰ.head e) = rw e (omega arith)
  top_bound_above (Memᴰ.tail m) = omega (arith, top_bound_above m)

module _ {T : Tree} {weight : T.Node → ℕ} {before : T.Node → T.Node → Type 0} (L : Lawful T weight before) (minimum : ℕ) where
  -- No step lowers the cutoff.
  pub cutoff_step : (s : State T) → cutoff T minimum s.incumbent ≤ cutoff T minimum (step T minimum s).incumbent
  cutoff_step = step_cases T minimum (λ s next. cutoff T minimum s.incumbent ≤ cutoff T minimum next.incumbent) (λ incumbent. omega arith)
      (λ incumbent n rest. record {
        dropped = λ low. omega arith;
        refused = λ reach final unfit. omega arith;
        taken = λ reach final fit. omega (arith, L.bound_last n final);
        opened = λ reach inner. omega arith;
      })

  -- No step raises the ceiling.
  pub ceiling_step : (s : State T) → ceiling T minimum (step T minimum s) ≤ ceiling T minimum s
  unfolding ceiling top_bound
  ceiling_step = step_cases T minimum (λ s next. ceiling T minimum next ≤ ceiling T minimum s) (λ incumbent. omega arith)
      (λ incumbent n rest. record {
        dropped = λ low. omega arith;
        refused = λ reach final unfit. omega arith;
        taken = λ reach final fit. omega (arith, L.bound_last n final);
        opened = λ reach inner.
            omega (arith, top_bound_append T (T.children n) rest, top_bound_within T (T.bound n) (T.children n) (λ c m. L.bound_falls n c inner m));
      })

  module _ (root : T.Node) where
    -- The cutoff never falls.
    pub cutoff_rises : (k j : ℕ) → k ≤ j → cutoff T minimum (after T minimum root k).incumbent ≤ cutoff T minimum (after T minimum root j).incumbent
    cutoff_rises = after_rises T minimum root (λ s. cutoff T minimum s.incumbent) cutoff_step

    -- The ceiling never rises.
    pub ceiling_falls : (k j : ℕ) → k ≤ j → ceiling T minimum (after T minimum root j) ≤ ceiling T minimum (after T minimum root k)
    ceiling_falls = after_falls T minimum root (ceiling T minimum) ceiling_step

    -- Every solution under the root that may be held is below the ceiling.
    pub below_ceiling : (k : ℕ) (s : T.Node) → Under T root s → T.admits s ≡ true → T.size s < ceiling T minimum (after T minimum root k)
    unfolding ceiling
    below_ceiling k s u a = ⊎_elim is_open is_beaten ((invariant_after L minimum root k).covers s u a)
      where
        x : State T
        x = after T minimum root k

        is_open : UnderOne T x.nodes s → T.size s < max (cutoff T minimum x.incumbent) (top_bound T x.nodes)
        is_open v = omega (arith, under_bound L v.under, top_bound_above T v.member)

        is_beaten : Beaten T minimum before x.incumbent s → T.size s < max (cutoff T minimum x.incumbent) (top_bound T x.nodes)
        is_beaten b = omega (arith, beaten_below T minimum before x.incumbent s b)
