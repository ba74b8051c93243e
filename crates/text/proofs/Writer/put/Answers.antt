use mathlib.Core.Path.{sym, ap, ◌∙◌}
use Prim.Native.Nat.{ℕ}
use native.Mathlib.Numerals.{add-one}
use lib.ListN.{take}
use lib.Seq.{take-suc}
use Rattle.text.proofs.PutTexts.{writes_same, writes_then}
use Rattle.text.proofs.Writer.put.Goals as goal

pub loop-byte-preserved : goal.loop-byte-preserved
loop-byte-preserved c =
    let bytes = c.args.bytes.now in
    let i = c.loop-byte.byte-index in
    writes_same (sym (take-suc bytes i 0 c.loop-byte-test.true) ∙ ap (λ (k : ℕ). take k bytes) (sym (add-one i)))
    (writes_then c.loop-byte.invariant c.put_byte.ensures)
