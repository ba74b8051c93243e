-- The invariant of a loop that puts a line for some of the numbers below a bound, and its steps.
use mathlib.Core.Path.{◌≡◌, sym, ap}
use mathlib.Core.Bool.{Bool, true, false, cond}
use mathlib.Core.List.{List, []}
use Prim.Native.Nat.{ℕ, ◌+◌, ◌≤◌, ◌<◌}
use native.Mathlib.Omega.{arith}
use Rattle.bounded.specs.Below.{run_below}
use Rattle.bounded.proofs.Below.{run_below_add_one}
use Rattle.text.specs.Writes.{Writes}
use Rattle.text.specs.declared.Writer.{Writer}
use Rattle.text.proofs.PutTexts.{writes_same, writes_none, writes_then}

-- Where a test holds, the first of its two texts is meant,
pub line_there : (t : Bool) (a b : List ℕ) → t ≡ true → cond t a b ≡ a
line_there t a b e = ap (λ (u : Bool). cond u a b) e

-- and else the other.
pub line_else : (t : Bool) (a b : List ℕ) → t ≡ false → cond t a b ≡ b
line_else t a b e = ap (λ (u : Bool). cond u a b) e

-- The invariant: of the n texts of the run f, those below k are put.
pub record PutTo (n : ℕ) (f : ℕ → List ℕ) (k : ℕ) (before now : Writer) : Type 0 where
  pub within : k ≤ n
  pub texts : Writes (run_below k f) before now

-- At first no text is put.
pub lines_none : (n : ℕ) (f : ℕ → List ℕ) (writer : Writer) → PutTo n f 0 writer writer
unfolding run_below
lines_none n f writer = record { within = omega arith; texts = writes_none writer }

-- Where the next number has a line, and it is put, the numbers up to that one have theirs.
pub line_more : {n : ℕ} {f : ℕ → List ℕ} {k : ℕ} {before now after : Writer} {line : List ℕ} → PutTo n f k before now → k < n
    → f k ≡ line → Writes line now after → PutTo n f (k + 1) before after
line_more {f} {k} sofar h e put =
    record { within = omega arith; texts = writes_same (sym (run_below_add_one k f)) (writes_then sofar.texts (writes_same (sym e) put)) }

-- Where it has none, nothing is put.
pub line_none : {n : ℕ} {f : ℕ → List ℕ} {k : ℕ} {before now : Writer} → PutTo n f k before now → k < n → f k ≡ [] → PutTo n f (k + 1) before now
line_none {now} sofar h e = line_more sofar h e (writes_none now)

-- At the end all lines are put.
pub lines_all : {n : ℕ} {f : ℕ → List ℕ} {k : ℕ} {before now : Writer} → PutTo n f k before now → n ≤ k → Writes (run_below n f) before now
lines_all {n} {f} {k} sofar h =
    let e : k ≡ n = omega arith in
    writes_same (ap (λ (m : ℕ). run_below m f) e) sofar.texts
