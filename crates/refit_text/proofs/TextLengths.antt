-- How long the lines can get: those of an accepted call fit into 8,192 bytes.
use mathlib.Core.Bool.{Bool, true, false, cond}
use mathlib.Core.List.{List, [], ◌++◌}
use Prim.Native.Nat.{ℕ, ◌+◌, ◌*◌, ◌^◌, ◌≤◌, ◌<◌}
use native.Mathlib.Nat.{le_trans, mul-le-mul_left}
use native.Mathlib.Omega.{arith}
use lib.Dec.{lit≤, eqb}
use lib.ListN.{length, get_or, length-append}
use Rattle.bounded.specs.Below.{run_below}
use Rattle.bounded.proofs.Below.{length_run_below, sum_below_le, sum_below_same}
use Rattle.mapping.specs.Common.{unmapped, size}
use Rattle.mapping.proofs.Size.{size_max}
use Rattle.text.specs.Decimal.{decimal}
use Rattle.text.specs.Put.{number_line}
use Rattle.refit_text.specs.Lines.{size_word, remove_word, fit_word, state_line, size_line, keep_line, keep_text, keep_lines, remove_text, remove_lines, is_free, fit_text, fit_lines}
use Rattle.refit_text.specs.Report.{vertex_lines, head_lines, incumbent_lines}
use Rattle.text.proofs.Decimals.{decimal_length}

-- a number of 64 bits
abbrev Word : ℕ → Type 0
Word n = n < 2 ^ 64

-- A number of 64 bits has at most 20 digits,
word_digits : (n : ℕ) → Word n → length (decimal n) ≤ 20
word_digits n h = decimal_length n 19 (le_trans h (lit≤ tt))

-- and its line as many bytes, with the word before it and the end of the line.
pub length_number_line : (word : List ℕ) (n : ℕ) → Word n → length (number_line word n) ≤ length word + 21
length_number_line word n h = simp length-append (omega (arith, word_digits n h))

length_keep_line : (i v : ℕ) → Word i → Word v → length (keep_line i v) ≤ 47
length_keep_line i v h k = simp length-append (omega (arith, word_digits i h, word_digits v k))

-- the longer of two lines
length_cond : (t : Bool) (a b : List ℕ) (k : ℕ) → length a ≤ k → length b ≤ k → length (cond t a b) ≤ k
length_cond true a b k p q = p
length_cond false a b k p q = q

-- at most 64 texts of at most k bytes
length_run : (n k : ℕ) (f : ℕ → List ℕ) → n ≤ 64 → ((i : ℕ) → i < n → length (f i) ≤ k) → length (run_below n f) ≤ k * 64
length_run n k f h each =
    let texts : length (run_below n f) ≤ k * n =
    rw (length_run_below n f, ← (sum_below_same n k)) (sum_below_le n (λ i. length (f i)) (λ i. k) each) in
    le_trans texts (mul-le-mul_left k h)

-- l is a mapping of at most 64 vertices
module _ (l : List ℕ) (few : length l ≤ 64) (bytes : (i : ℕ) → Word (get_or l i 0)) where
  length_keep_lines : length (keep_lines l) ≤ 47 * 64
  unfolding keep_lines
  length_keep_lines =
      length_run (length l) 47 (keep_text l) few
      (λ i h.
      length_cond (eqb (get_or l i 0) unmapped) [] (keep_line i (get_or l i 0)) 47 (omega arith)
      (length_keep_line i (get_or l i 0) (omega arith) (bytes i)))

  length_remove_lines : length (remove_lines l) ≤ 28 * 64
  unfolding remove_lines
  length_remove_lines =
      length_run (length l) 28 (remove_text l) few
      (λ i h.
      length_cond (eqb (get_or l i 0) unmapped) (number_line remove_word i) [] 28 (length_number_line remove_word i (omega arith)) (omega arith))

  length_fit_lines : (m : ℕ) → m ≤ 64 → length (fit_lines m l) ≤ 25 * 64
  unfolding fit_lines
  length_fit_lines m some =
      length_run m 25 (fit_text l) some
      (λ v h. length_cond (is_free l v) (number_line fit_word v) [] 25 (length_number_line fit_word v (omega arith)) (omega arith))

  length_incumbent_lines : (holds : Bool) (m : ℕ) → m ≤ 64 → length (incumbent_lines holds m l) ≤ 100 * 64
  unfolding vertex_lines
  length_incumbent_lines holds m some =
      let all : length (vertex_lines m l) ≤ 100 * 64 =
      simp length-append (omega (arith, length_keep_lines, length_remove_lines, length_fit_lines m some)) in
      length_cond holds (vertex_lines m l) [] (100 * 64) all (omega arith)

  length_size_line : (holds : Bool) → length (size_line holds l) ≤ 26
  length_size_line holds =
      length_cond holds (number_line size_word (size l)) _ 26 (length_number_line size_word (size l) (omega (arith, size_max l))) (omega arith)

  length_head_lines : (finished holds : Bool) (steps ceiling : ℕ) → Word steps → Word ceiling → length (head_lines finished holds l steps ceiling) ≤ 94
  length_head_lines finished holds steps ceiling p q =
      simp length-append
      (omega (
        arith,
        length_cond finished (state_line true) (state_line false) 14 (omega arith) (omega arith),
        length_size_line holds,
        word_digits steps p,
        word_digits ceiling q,
      ))

  -- The lines of an accepted call fit into 8,192 bytes.
  pub length_accepted : (finished holds : Bool) (steps ceiling m : ℕ) → Word steps → Word ceiling → m ≤ 64
      → length (head_lines finished holds l steps ceiling ++ incumbent_lines holds m l) ≤ 8192
  length_accepted finished holds steps ceiling m p q some =
      let both = length-append (head_lines finished holds l steps ceiling) (incumbent_lines holds m l) in
      omega (arith, both, length_head_lines finished holds steps ceiling p q, length_incumbent_lines holds m some)
