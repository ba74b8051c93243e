-- There is one best mapping, it depends only on which mappings count, and there is none exactly where no such mapping reaches the minimum.
use mathlib.Core.Path.{◌≡◌, refl, sym, ap}
use mathlib.Core.Logic.{◌↔◌, ⊎_elim}
use mathlib.Core.List.{List}
use mathlib.Core.Option.{Option, none, some}
use Prim.Native.Nat.{ℕ, ◌<◌}
use native.Mathlib.Omega.{arith}
use Rattle.mapping.specs.Common.{size}
use Rattle.mapping.proofs.Order.{before_asymmetric}
use Rattle.search_tree.specs.Best.{Best}

-- Where the same mappings count, the same is best.
pub best_same : {Good Other : List ℕ → Type 0} {minimum : ℕ} {incumbent : Option (List ℕ)} → ((l : List ℕ) → Good l ↔ Other l)
    → Best Good minimum incumbent → Best Other minimum incumbent
best_same same b = record {
  none_reaches = λ e l o. b.none_reaches e l ((same l).1 o);
  good = λ h e. (same h).0 (b.good h e);
  reaches = b.reaches;
  largest = λ h e l o. b.largest h e l ((same l).1 o);
  first = λ h e l o. b.first h e l ((same l).1 o);
}

-- Two mappings that are best are the same.
pub best_unique : {Good : List ℕ → Type 0} {minimum : ℕ} (a b : Option (List ℕ)) → Best Good minimum a → Best Good minimum b → a ≡ b
best_unique none none p q = refl
best_unique none (some h) p q = absurd (omega (arith, p.none_reaches refl h (q.good h refl), q.reaches h refl))
best_unique (some g) none p q = absurd (omega (arith, q.none_reaches refl g (p.good g refl), p.reaches g refl))
best_unique (some g) (some h) p q = ap {B = Option (List ℕ)} some same
  where
    size_same : size g ≡ size h
    size_same = omega (arith, p.largest g refl h (q.good h refl), q.largest h refl g (p.good g refl))

    same : g ≡ h
    same = ⊎_elim (λ e. e)
        (λ hg. ⊎_elim (λ e. sym e) (λ gh. absurd (before_asymmetric h g hg gh)) (p.first g refl h (q.good h refl) (sym size_same)))
        (q.first h refl g (p.good g refl) size_same)

-- Nothing is best exactly where no mapping that counts reaches the minimum.
pub best_none : {Good : List ℕ → Type 0} {minimum : ℕ} (incumbent : Option (List ℕ)) → Best Good minimum incumbent
    → (incumbent ≡ none) ↔ ((l : List ℕ) → Good l → size l < minimum)
best_none none b = (b.none_reaches, λ low. refl)
best_none (some h) b = (b.none_reaches, λ low. absurd (omega (arith, b.reaches h refl, low h (b.good h refl))))
