-- `bitset::is_empty` meets its contract: a word has no ones exactly where it is 0. Assumes nothing.
use borrow.Author.Rules.{rules}
use borrow.Author.Tests.{eq-eqb, ne_eqb}
use mathlib.Core.Path.{◌≡◌, sym, ◌∙◌}
use Prim.Native.Nat.{ℕ, ◌^◌, ◌<◌}
use native.Mathlib.Decide.{ℕ_discrete}
use lib.Count.{ones}
use lib.Dec.{eqb}
use Rattle.bitset.proofs.Ones.{size_ones, size_zero}
use Rattle.bitset.proofs.is_empty.Goals as goal

ones_zero : (s : ℕ) → s < 2 ^ 64 → eqb (ones s) 0 ≡ eqb s 0
ones_zero s h =
    elim (ℕ_discrete s 0) [
      | yes e ↦ eq-eqb _ _ (sym (size_ones h) ∙ (size_zero h).1 e) ∙ sym (eq-eqb _ _ e)
      | no n ↦ ne_eqb _ _ (λ z. n ((size_zero h).0 (size_ones h ∙ z))) ∙ sym (ne_eqb _ _ n)
    ]

pub returns : goal.returns
returns c = ones_zero _ (search rules)
