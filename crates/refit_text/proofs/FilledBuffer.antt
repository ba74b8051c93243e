-- The bytes that were written lie in the buffer, so that a caller may lend just these.
use mathlib.Core.Path.{◌≡◌, ap, ◌∙◌}
use mathlib.Core.Bool.{Bool, true, false, cond}
use mathlib.Core.List.{List}
use Prim.Native.Nat.{ℕ, ◌≤◌}
use native.Mathlib.Omega.{arith}
use lib.Dec.{leb}
use lib.ListN.{length, drop, length-append}
use Rattle.answers.specs.Answer.{accepted, refused}
use Rattle.answers.specs.Output.{Writing, overwrite, fill}
use Rattle.refit_text.specs.Program.{written}

pub written_fits : (text before after : List ℕ) (count : ℕ) → written count after ≡ fill text before → count ≤ length after
written_fits text before after count = go (leb (length text) (length before))
  where
    go : (room : Bool) → written count after ≡ cond room (written (length text) (overwrite text before)) (record { answer = refused 13; buffer = before })
        → count ≤ length after
    go true q =
        let a : accepted count ≡ accepted (length text) = ap (λ (w : Writing). w.answer) q in
        let n : count ≡ length text = cc in
        omega (arith, ap length (ap (λ (w : Writing). w.buffer) q) ∙ length-append text (drop (length text) before))
    go false q =
        let a : accepted count ≡ refused 13 = ap (λ (w : Writing). w.answer) q in
        let z : ◌≡◌ {A = ℕ} 0 1 = cc in
        absurd (omega arith)
