-- The search ends, after a total number of steps that is at most the root's weight, and then stays as it is.
use mathlib.Core.Path.{◌≡◌, refl, ap, ◌∙◌}
use mathlib.Core.Logic.{◌↔◌}
use mathlib.Core.List.{List, [], ◌∷◌, ◌++◌, cons-ne-nil}
use Prim.Native.Nat.{ℕ, zero, suc, ◌+◌, ◌-◌, ◌≤◌, ◌<◌}
use native.Mathlib.Decide.{dec_le, le_ind}
use native.Mathlib.Omega.{arith}
use Rattle.branch_bound.specs.Tree.{Tree, weights, Lawful}
use Rattle.branch_bound.specs.Search.{State, step, after, IsTotal}
use Rattle.branch_bound.proofs.Steps.{step_cases}

-- whether a list, as that of the open nodes, is empty
decide_empty : {A : Type 0} (l : List A) → Dec (l ≡ [])
decide_empty [] = yes refl
decide_empty (a ∷ l) = no (cons-ne-nil a l)

-- t is the first number at which P holds
record First (P : ℕ → Type 0) (t : ℕ) : Type 0 where
  holds : P t
  not_before : (k : ℕ) → k < t → P k → ⊥

first_later : (P : ℕ → Type 0) (t : ℕ) → (P zero → ⊥) → First (λ k. P (suc k)) t → First P (suc t)
first_later P t not_zero first = record { holds = first.holds; not_before = not_before }
  where
    not_before : (k : ℕ) → k < suc t → P k → ⊥
    not_before zero h p = not_zero p
    not_before (suc k) h p = first.not_before k (omega arith) p

-- where P is decided and holds at n, it holds first at some t up to n
first_exists : (P : ℕ → Type 0) → ((k : ℕ) → Dec (P k)) → (n : ℕ) → P n → (t : ℕ) × First P t × (t ≤ n)
first_exists P decide zero holds = (zero, record { holds = holds; not_before = λ k h. omega arith }, omega arith)
first_exists P decide (suc n) holds = go (decide zero) (first_exists (λ k. P (suc k)) (λ k. decide (suc k)) n holds)
  where
    go : Dec (P zero) → (t : ℕ) × First (λ k. P (suc k)) t × (t ≤ n) → (t : ℕ) × First P t × (t ≤ suc n)
    go (yes p) later = (zero, record { holds = p; not_before = λ k h. omega arith }, omega arith)
    go (no np) later = (suc later.0, first_later P later.0 np later.1, omega arith)

module _ (T : Tree) (minimum : ℕ) where
  -- A finished state is its own next state.
  pub step_finished : (s : State T) → s.nodes ≡ [] → step T minimum s ≡ s
  step_finished = step_cases T minimum (λ s next. s.nodes ≡ [] → next ≡ s) (λ incumbent e. refl)
      (λ incumbent n rest. let busy = cons-ne-nil n rest in record {
        dropped = λ low e. absurd (busy e);
        refused = λ reach final unfit e. absurd (busy e);
        taken = λ reach final fit e. absurd (busy e);
        opened = λ reach inner e. absurd (busy e);
      })

  module _ (root : T.Node) where
    -- Once no node is open nothing changes.
    pub finished_stays : (k j : ℕ) → (after T minimum root k).nodes ≡ [] → k ≤ j → after T minimum root j ≡ after T minimum root k
    unfolding after
    finished_stays k j e = le_ind (λ j. after T minimum root j ≡ after T minimum root k) refl
        (λ j h same. ap (step T minimum) same ∙ step_finished (after T minimum root k) e) j

    -- No node is open exactly from the total number of steps on.
    pub finished_from : {t : ℕ} → IsTotal T minimum root t → (k : ℕ) → ((after T minimum root k).nodes ≡ []) ↔ (t ≤ k)
    finished_from {t} total k = (
      λ e. go e (dec_le t k),
      λ h. ap (λ (s : State T). s.nodes) (finished_stays t k total.finished h) ∙ total.finished,
    )
      where
        go : (after T minimum root k).nodes ≡ [] → Dec (t ≤ k) → t ≤ k
        go e (yes h) = h
        go e (no nh) = absurd (total.busy k (omega arith) e)

    -- There is one total number of steps.
    pub total_unique : {t u : ℕ} → IsTotal T minimum root t → IsTotal T minimum root u → t ≡ u
    total_unique {t} {u} a b =
        let below : t ≤ u = (finished_from a u).0 b.finished in
        let above : u ≤ t = (finished_from b t).0 a.finished in
        omega arith

weights_append : (T : Tree) (weight : T.Node → ℕ) (p q : List T.Node)
    → weights T weight (p ++ q) ≡ weights T weight p + weights T weight q
unfolding weights
weights_append T weight [] q = omega arith
weights_append T weight (n ∷ p) q = omega (arith, weights_append T weight p q)

module _ {T : Tree} {weight : T.Node → ℕ} {before : T.Node → T.Node → Type 0} (L : Lawful T weight before) (minimum : ℕ) where
  -- Each step takes at least one from the weights of the open nodes while one is open.
  pub weights_fall : (s : State T) → (s.nodes ≡ [] → ⊥) → weights T weight (step T minimum s).nodes < weights T weight s.nodes
  unfolding weights
  weights_fall = step_cases T minimum (λ s next. (s.nodes ≡ [] → ⊥) → weights T weight next.nodes < weights T weight s.nodes)
      (λ incumbent busy. absurd (busy refl))
      (λ incumbent n rest.
      let one = L.weight_one n in
      record {
        dropped = λ low busy. omega arith;
        refused = λ reach final unfit busy. omega arith;
        taken = λ reach final fit busy. omega arith;
        opened = λ reach inner busy. omega (arith, L.weight_falls n inner, weights_append T weight (T.children n) rest);
      })

  module _ (root : T.Node) where
    -- After k steps the open nodes have at most the root's weight less k.
    pub weights_after : (k : ℕ) → weights T weight (after T minimum root k).nodes ≤ weight root - k
    unfolding after weights
    weights_after zero = omega arith
    weights_after (suc k) = go (after T minimum root k) (decide_empty (after T minimum root k).nodes) (weights_after k)
      where
        go : (s : State T) → Dec (s.nodes ≡ []) → weights T weight s.nodes ≤ weight root - k
            → weights T weight (step T minimum s).nodes ≤ weight root - suc k
        go s (yes e) left = rw (step_finished T minimum s e, e) (omega arith)
        go s (no busy) left = omega (arith, weights_fall s busy)

    -- The search ends: after as many steps as the root's weight no node is open.
    pub ends : (k : ℕ) → weight root ≤ k → (after T minimum root k).nodes ≡ []
    ends k h = go (decide_empty (after T minimum root k).nodes)
      where
        go : Dec ((after T minimum root k).nodes ≡ []) → (after T minimum root k).nodes ≡ []
        go (yes e) = e
        go (no busy) = absurd (omega (arith, weights_fall (after T minimum root k) busy, weights_after k))

    -- There is a total number of steps, at most the root's weight.
    pub total_exists : (t : ℕ) × IsTotal T minimum root t × (t ≤ weight root)
    total_exists =
        let end = ends (weight root) (omega arith) in
        let first = first_exists (λ k. (after T minimum root k).nodes ≡ []) (λ k. decide_empty (after T minimum root k).nodes) (weight root) end in
        (first.0, record { finished = first.1.holds; busy = first.1.not_before }, first.2)
