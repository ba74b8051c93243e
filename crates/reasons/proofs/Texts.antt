-- The texts as a whole: each refusal's number has one and no other number has, all are printable ASCII, and 80 bytes have room for each.
use mathlib.Core.Path.{◌≡◌, refl}
use mathlib.Core.Bool.{Bool, true, cond, not, ◌&&◌, and-eq-true_iff}
use mathlib.Core.List.{List, [], ◌∷◌}
use Prim.Native.Nat.{ℕ, zero, suc, ◌≤◌}
use Prim.Native.String.{String}
use native.Mathlib.Omega.{arith}
use borrow.Author.Tests.{leb-true, le-leb}
use lib.Dec.{leb, eqb}
use lib.ListN.{length, get_or}
use Rattle.answers.specs.Answer.{accepted, refusal_number}
use Rattle.answers.specs.Output.{Writing, fill}
use Rattle.answers.proofs.Choice.{cond_cases}
use Rattle.reasons.specs.Reasons.{bytes_of, reasons, reason_text}

-- from a blank to a tilde
unfoldable pub printable : List ℕ → Bool
printable [] = true
printable (b ∷ bytes) = leb 32 b && leb b 126 && printable bytes

-- a refusal's number among 0 to 28: "Number 6 never occurs now" (02, U4)
abbrev is_refusals : ℕ → Bool
is_refusals k = not (eqb k 0) && not (eqb k 6)

-- the text of number k
unfoldable pub right_text : ℕ → List ℕ → Bool
right_text k bytes = printable bytes && cond (is_refusals k) (leb 1 (length bytes)) (eqb (length bytes) 0)

-- the texts of the numbers from k on
unfoldable pub right : ℕ → List String → Bool
right k [] = true
right k (s ∷ texts) = leb (length (bytes_of s)) 80 && (right_text k (bytes_of s) && right (suc k) texts)

-- The numbers 0 to 28 have a place in the list; later ones have no text (`RowTexts.no_text`).
pub as_many : length reasons ≡ 29
unfolding reasons
as_many = refl

-- All of them are so.
pub all_right : right 0 reasons ≡ true
unfolding right right_text reasons bytes_of printable
all_right = refl

-- so that 80 bytes have room for each
few : (k : ℕ) (texts : List String) → right k texts ≡ true → (i : ℕ) → length (bytes_of (get_or texts i "")) ≤ 80
unfolding right bytes_of
few k [] h i = omega arith
few k (s ∷ texts) h zero = leb-true _ 80 ((and-eq-true_iff (leb (length (bytes_of s)) 80) (right_text k (bytes_of s) && right (suc k) texts)).0 h).0
few k (s ∷ texts) h (suc i) =
    let later = ((and-eq-true_iff (leb (length (bytes_of s)) 80) (right_text k (bytes_of s) && right (suc k) texts)).0 h).1 in
    few (suc k) texts ((and-eq-true_iff (right_text k (bytes_of s)) (right (suc k) texts)).0 later).1 i

pub text_few : (k : ℕ) → length (reason_text k) ≤ 80
unfolding reason_text
text_few k = few 0 reasons all_right k

-- 13 never occurs with 80 bytes,
pub reason_fits : (k : ℕ) (buffer : List ℕ) → 80 ≤ length buffer → (fill (reason_text k) buffer).answer ≡ accepted (length (reason_text k))
reason_fits k buffer h = simp (le-leb (length (reason_text k)) (length buffer) (omega (arith, text_few k)))

-- and where it does, the buffer is as it was.
pub reason_unmoved : (k : ℕ) (buffer : List ℕ) → 1 ≤ refusal_number (fill (reason_text k) buffer).answer → (fill (reason_text k) buffer).buffer ≡ buffer
reason_unmoved k buffer =
    cond_cases (λ (w : Writing). 1 ≤ refusal_number w.answer → w.buffer ≡ buffer) (leb (length (reason_text k)) (length buffer))
    (λ e z. absurd (omega arith)) (λ e z. refl)
