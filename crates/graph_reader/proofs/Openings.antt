-- How a file begins: it opens as its edition does, or is refused by 1 or 27 at 0.
use mathlib.Core.Path.{◌≡◌, refl}
use mathlib.Core.Bool.{Bool, true, false, cond}
use mathlib.Core.List.{List}
use Prim.Native.Nat.{ℕ, ◌≤◌}
use native.Mathlib.Omega.{arith}
use lib.Dec.{leb, eqb}
use lib.ListN.{length, get_or}
use borrow.Author.Tests.{leb-true}
use Rattle.answers.specs.Answer.{Answer, passed, refused_at}
use Rattle.answers.proofs.Choice.{either}
use Rattle.graph_reader.specs.declared.Edition.{Edition}
use Rattle.graph_reader.specs.declared.Edition.TheVariants.{One, Two}
use Rattle.graph_reader.specs.Editions.{opening_width}
use Rattle.graph_reader.specs.Reading.{opens}

-- What holds of a file that opens, and of both refusals, holds of every file's beginning.
pub opens_cases : (P : Answer → Type 0) (edition : Edition) (bytes : List ℕ) → P passed → P (refused_at 1 0) → P (refused_at 27 0) → P (opens edition bytes)
unfolding opens
opens_cases P One bytes p cut other = p
opens_cases P Two bytes p cut other =
    either P (eqb (length bytes) 0) cut
    (either P (eqb (get_or bytes 0 0) 4) (either P (leb 2 (length bytes)) (either P (eqb (get_or bytes 1 0) 2) p other) cut) other)

-- A file that opens as its edition does has the bytes of the opening.
pub opened_fits : (edition : Edition) (bytes : List ℕ) → opens edition bytes ≡ passed → opening_width edition ≤ length bytes
unfolding opens
opened_fits One bytes e = omega arith
opened_fits Two bytes e = go (eqb (length bytes) 0) (eqb (get_or bytes 0 0) 4) (leb 2 (length bytes)) refl e
  where
    go : (t u v : Bool) → leb 2 (length bytes) ≡ v
        → cond t (refused_at 1 0) (cond u (cond v (cond (eqb (get_or bytes 1 0) 2) passed (refused_at 27 0)) (refused_at 1 0)) (refused_at 27 0)) ≡ passed
        → 2 ≤ length bytes
    go true u v r f = let clash : ◌≡◌ {A = ℕ} 0 1 = cc in absurd (omega arith)
    go false true true r f = leb-true 2 (length bytes) r
    go false true false r f = let clash : ◌≡◌ {A = ℕ} 0 1 = cc in absurd (omega arith)
    go false false v r f = let clash : ◌≡◌ {A = ℕ} 0 1 = cc in absurd (omega arith)
