-- `refit_text::refit` meets its contract: the length of the input is tested first, and all that is printed has room (`RefitLength`). Assumes nothing.
use borrow.Author.Rules.{rules}
use mathlib.Core.Path.{◌≡◌, ap, ◌∙◌}
use mathlib.Core.List.{List}
use Prim.Native.Nat.{ℕ, ◌-◌}
use native.Mathlib.Nat.{le_of_eq}
use native.Mathlib.Omega.{arith}
use lib.ListN.{length, take, drop, length-drop}
use lib.Seq.{take_all}
use borrow.Author.Tests.{eq-eqb, ne_eqb}
use Rattle.little_endian.specs.LittleEndian.{from_little}
use Rattle.text.specs.Writes.{Writes}
use Rattle.text.proofs.PutTexts.{writes_same, writes_front}
use Rattle.refit_text.specs.Program.{minimum_of, budget_of, graphs_text, refit_text}
use Rattle.refit_text.proofs.RefitLength.{refit_put}
use Rattle.refit_text.proofs.refit.Goals as goal
use Rattle.refit_text.proofs.refit.Goals.{then-input-eq9, else-input-eq9}

-- the budget is the number of the bytes after the first
budget : (input : List ℕ) → from_little (take 8 (take (length input - 1) (drop 1 input))) ≡ budget_of input
budget input = ap (λ (l : List ℕ). from_little (take 8 l)) (take_all _ (drop 1 input) (le_of_eq (length-drop 1 input)))

pub returns : goal.returns
unfolding refit_text
returns c =
    let a = c.args in
    let old = a.old_bytes.now in
    let new = a.new_bytes.now in
    let input = a.input.now in
    let begun = c.new-writer in
    let put : Writes (refit_text old new input) begun.result c.if-input-eq9.writer =
    elim c.if-input-eq9.branch [
      | then-input-eq9 x ↦
          let text = ap (graphs_text old new (minimum_of input)) (x.load-budget.ensures ∙ budget input) in
          rw x.writer-is (writes_same (rw (eq-eqb (length input) 9 x.if-input-eq9.true) text) x.put_graphs.ensures)
      | else-input-eq9 x ↦ rw x.writer-is (writes_same (rw (ne_eqb (length input) 9 x.if-input-eq9.false)) x.put.ensures)
    ] in
    refit_put old new input (λ i. omega (arith, c.type_inv.input i))
    (writes_front put begun.ensures.front begun.ensures.unchanged c.written.ensures) (search rules)
