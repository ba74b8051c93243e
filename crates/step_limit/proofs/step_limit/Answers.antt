-- `step_limit::step_limit` meets its contract: what is read off the table is the capped step limit. Assumes nothing.
use mathlib.Core.Path.{ap, sym, ◌∙◌}
use mathlib.Core.Logic.{inl, inr, ⊎_elim}
use Prim.Native.Nat.{◌≤◌}
use Rattle.answers.specs.Answer.{accepted}
use Rattle.step_limit.proofs.TableLimits.{table_limit}
use Rattle.step_limit.proofs.Foretold.{foretold_limit, foretold_many}
use borrow.Author.Rules.{rules}
use Rattle.step_limit.proofs.step_limit.Goals as goal

pub returns-then-new_order-gt-MAX_ORDER : goal.returns-then-new_order-gt-MAX_ORDER
returns-then-new_order-gt-MAX_ORDER c =
    sym (foretold_many _ _ (⊎_elim inl (λ h. inr h.1) c.then-new_order-gt-MAX_ORDER.either))

pub returns : goal.returns
returns c =
    let few : c.args.new_order ≤ 64 = search rules in
    let old_few : c.args.old_order ≤ 64 = search rules in
    ap accepted (table_limit c.whole_table-limits.result c.whole_table-limits.ensures _ _ few old_few) ∙ sym (foretold_limit _ _ few old_few)
