use borrow.Author.Tests.{ltb-true, ne_eqb}
use mathlib.Core.Path.{◌≡◌, refl, ap, sym, ◌∙◌}
use mathlib.Core.Bool.{Bool, true, false}
use mathlib.Core.List.{List}
use mathlib.Core.Option.{none, some-ne-none}
use Prim.Native.Nat.{ℕ, ◌<◌}
use native.Mathlib.Omega.{arith}
use lib.Dec.{ltb}
use lib.ListN.{get_or}
use Rattle.std.proofs.lemmas.Result.{err_from_is_err_and}
use Rattle.bounded.proofs.First.{clear_none, clear_more, clear_all, clear_found}
use Rattle.problem.specs.declared.Problem.{Problem as LentProblem}
use Rattle.mapping.specs.Common.{unmapped}
use Rattle.mapping.specs.Check.{finding}
use Rattle.mapping.specs.LentRows.{lent_row}
use Rattle.mapping.proofs.rows.Rows.first_fault.Goals as goal

-- a clear row that is mapped is mapped to a new vertex
clear_entry : (p : LentProblem) (sets l : List ℕ) (u : ℕ) → lent_row p sets l u ≡ none → (get_or l u 0 ≡ unmapped → ⊥) → get_or l u 0 < p.new.order
unfolding lent_row
clear_entry p sets l u e m = go (ltb (get_or l u 0) p.new.order) refl
  where
    go : (b : Bool) → ltb (get_or l u 0) p.new.order ≡ b → get_or l u 0 < p.new.order
    go true t = ltb-true _ _ t
    go false t = absurd (some-ne-none _ (simp (ne_eqb (get_or l u 0) unmapped m, t) at e))

pub loop-v-init : goal.loop-v-init
loop-v-init c = clear_none _ _

pub row_fault-requires : goal.row_fault-requires
row_fault-requires c = (
  c.loop-v-test.true,
  λ u h m.
      let below = clear_entry _ _ _ u (c.loop-v.invariant.1 u h) m in
      omega (arith, below, c.args.self.new_order_max),
)

pub returns-in_err-row_fault : goal.returns-in_err-row_fault
returns-in_err-row_fault c =
    let told = err_from_is_err_and c.from_residual.result c.from_residual.ensures.1 in
    rw (told.1, told.2)
    (sym (clear_found _ _ _ _ c.loop-v-test.true c.loop-v.invariant (sym c.row_fault.ensures ∙ ap finding c.in_err-row_fault.was)))

pub loop-v-preserved : goal.loop-v-preserved
loop-v-preserved c =
    clear_more _ _ _ c.loop-v-test.true c.loop-v.invariant
    (sym c.row_fault.ensures ∙ ap finding c.in_ok-row_fault.was)

pub returns : goal.returns
returns c = sym (clear_all _ _ _ c.loop-v-test.false c.loop-v.invariant)
