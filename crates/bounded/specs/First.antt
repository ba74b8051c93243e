-- The first finding among those of the numbers below a bound, rising.
use Rattle.std.proofs.Math.Option.{Option, none, some}
use Rattle.std.specs.Prelude.{ℕ, zero, suc}

module _ {A : Type 0} where
  abbrev pub or_else : Option A → Option A → Option A
  or_else (some a) b = some a
  or_else none b = b

  unfoldable pub first_below : ℕ → (ℕ → Option A) → Option A
  first_below zero f = none
  first_below (suc n) f = or_else (first_below n f) (f n)
