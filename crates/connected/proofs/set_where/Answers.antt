use mathlib.Core.Path.{◌≡◌, refl, sym, ap, ◌∙◌}
use native.Mathlib.Omega.{arith}
use Prim.Native.Nat.{ℕ}
use Rattle.bitset.specs.Members.{set_of, insert}
use Rattle.bitset.proofs.SetOf.{set_of_add, set_of_skip}
use Rattle.connected.proofs.set_where.Goals as goal
use Rattle.connected.proofs.set_where.Goals.{then-test, else-test}

pub loop-i-init : goal.loop-i-init
unfolding set_of
loop-i-init g c passes told = refl

pub loop-i-preserved : goal.loop-i-preserved
loop-i-preserved g c passes told =
    let l = c.loop-i in
    elim c.if-test.branch [
      | then-test w ↦ w.set-is ∙ w.with-set.ensures ∙ ap (λ (s : ℕ). insert s l.i) (l.invariant passes told) ∙ set_of_add _ l.i c.loop-i-test.true (sym (told l.i c.loop-i-test.true c.test.result c.test.ensures) ∙ w.if-test.true)
      | else-test w ↦ w.set-is ∙ l.invariant passes told ∙ set_of_skip _ l.i (sym (told l.i c.loop-i-test.true c.test.result c.test.ensures) ∙ w.if-test.false)
    ]

pub returns : goal.returns
returns g c passes told =
    let all : c.loop-i.i ≡ 64 = omega arith in
    c.loop-i.invariant passes told ∙ ap (λ (n : ℕ). set_of n passes) all
