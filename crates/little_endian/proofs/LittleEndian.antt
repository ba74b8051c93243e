-- A number and its bytes, the lowest first, determine each other, at every width; and the library's bytes of a number are these.
use mathlib.Core.Path.{◌≡◌, refl, sym, ap, ap₂, ◌∙◌}
use mathlib.Core.Logic.{◌↔◌}
use mathlib.Core.List.{List, [], ◌∷◌, ◌++◌}
use Prim.Native.Nat.{ℕ, zero, suc, ◌+◌, ◌*◌, ◌/◌, ◌%◌, ◌^◌, ◌<◌}
use native.Mathlib.Nat.{mod-lt, mod-add-div, mod-eq_of_lt, div-eq_of_lt, div-div-eq-div-mul, add-mul-mod_self_left, add-mul-div_left, div-lt_iff_lt-mul, pow-suc}
use native.Mathlib.Omega.{arith}
use lib.ListN.{length, replicate, drop, get_or}
use lib.Seq.{drop-nil, drop-length}
use Rattle.little_endian.specs.LittleEndian.{little_endian, from_little}
use Rattle.std.specs.Int.{bytes_low_first}

-- The bytes of a number are as many as asked for.
pub length_little : (k x : ℕ) → length (little_endian k x) ≡ k
unfolding little_endian
length_little zero x = refl
length_little (suc k) x = ap suc (length_little k (x / 256))

-- Each is a byte.
pub little_bytes : (k x i : ℕ) → i < k → get_or (little_endian k x) i 0 < 256
unfolding little_endian
little_bytes zero x i h = omega arith
little_bytes (suc k) x zero h = mod-lt x (omega arith)
little_bytes (suc k) x (suc i) h = little_bytes k (x / 256) i (omega arith)

-- A number that k bytes hold is the number of its k bytes.
pub little_back : (k x : ℕ) → x < 256 ^ k → from_little (little_endian k x) ≡ x
unfolding little_endian from_little
little_back zero x h = omega (arith, h)
little_back (suc k) x h =
    let rest : x / 256 < 256 ^ k = (div-lt_iff_lt-mul {k = 256} (omega arith)).1 (rw pow-suc at h) in
    ap (λ (y : ℕ). x % 256 + 256 * y) (little_back k (x / 256) rest) ∙ mod-add-div x 256

-- A number that k bytes hold, with a byte put below it, is one that k + 1 bytes hold.
pub next_byte_fits : (k x b : ℕ) → x < 256 ^ k → b < 256 → b + 256 * x < 256 ^ suc k
next_byte_fits k x b h l = rw pow-suc (omega arith)

-- The number of some bytes is one that as many bytes hold.
pub from_little_max : (bytes : List ℕ) → ((i : ℕ) → i < length bytes → get_or bytes i 0 < 256) → from_little bytes < 256 ^ length bytes
unfolding from_little
from_little_max [] each = omega arith
from_little_max (b ∷ bytes) each =
    next_byte_fits (length bytes) (from_little bytes) b (from_little_max bytes (λ i h. each (suc i) (omega arith))) (each 0 (omega arith))

-- Bytes are the bytes of their number.
pub from_little_lem : (bytes : List ℕ) → ((i : ℕ) → i < length bytes → get_or bytes i 0 < 256) → little_endian (length bytes) (from_little bytes) ≡ bytes
unfolding little_endian from_little
from_little_lem [] each = refl
from_little_lem (b ∷ bytes) each =
    let small : b < 256 = each 0 (omega arith) in
    let low : (b + 256 * from_little bytes) % 256 ≡ b = add-mul-mod_self_left b 256 (from_little bytes) ∙ mod-eq_of_lt small in
    let high : (b + 256 * from_little bytes) / 256 ≡ from_little bytes =
    omega (arith, add-mul-div_left b (from_little bytes) {y = 256} (omega arith), div-eq_of_lt small) in
    ap₂ ◌∷◌ low (ap (little_endian (length bytes)) high ∙ from_little_lem bytes (λ i h. each (suc i) (omega arith)))

-- Two runs of bytes, equally many, that say one number are the same.
pub from_little_injective : (xs ys : List ℕ) → length xs ≡ length ys
    → ((i : ℕ) → i < length xs → get_or xs i 0 < 256) → ((i : ℕ) → i < length ys → get_or ys i 0 < 256)
    → from_little xs ≡ from_little ys → xs ≡ ys
from_little_injective xs ys long each-x each-y e = sym (from_little_lem xs each-x) ∙ ap₂ little_endian long e ∙ from_little_lem ys each-y

-- The number of the bytes from i on, by the byte at i and the number of those after it.
from_next : (bytes : List ℕ) (i : ℕ) → from_little (drop i bytes) ≡ get_or bytes i 0 + 256 * from_little (drop (suc i) bytes)
unfolding from_little
from_next [] i = rw (drop-nil i) refl
from_next (b ∷ bytes) zero = refl
from_next (b ∷ bytes) (suc i) = from_next bytes i

-- The number of eight bytes, by sums and products.
pub eight_bytes : (bytes : List ℕ) → length bytes ≡ 8
    → let b = get_or bytes in
    from_little bytes ≡ b 0 0 + 256 * (b 1 0 + 256 * (b 2 0 + 256 * (b 3 0 + 256 * (b 4 0 + 256 * (b 5 0 + 256 * (b 6 0 + 256 * b 7 0))))))
unfolding from_little
eight_bytes bytes e =
    let none : from_little (drop 8 bytes) ≡ 0 = rw (← e, drop-length bytes) refl in
    omega (arith, none, from_next bytes 0, from_next bytes 1, from_next bytes 2, from_next bytes 3, from_next bytes 4, from_next bytes 5, from_next bytes 6, from_next bytes 7)

-- The number is 0 exactly where all bytes are.
pub from_little_zero : (bytes : List ℕ) → (from_little bytes ≡ 0) ↔ ((i : ℕ) → i < length bytes → get_or bytes i 0 ≡ 0)
unfolding from_little
from_little_zero [] = (λ e i h. refl, λ each. refl)
from_little_zero (b ∷ bytes) =
    let rest = from_little_zero bytes in (
      λ e i. elim i as (λ k. k < suc (length bytes) → get_or (b ∷ bytes) k 0 ≡ 0) [
        | zero ↦ λ h. omega arith
        | suc k ↦ λ h. rest.0 (omega arith) k (omega arith)
      ],
      λ each. omega (arith, each 0 (omega arith), rest.1 (λ i h. each (suc i) (omega arith))),
    )

-- The bytes that the library's `to_le_bytes` gives from byte i + 1 on are those of the number without its i + 1 lowest,
bytes_above : (i k x : ℕ) → bytes_low_first (suc i) k x ≡ little_endian k (x / 256 ^ suc i)
unfolding little_endian
bytes_above i zero x = refl
bytes_above i (suc k) x =
    let next : x / 256 ^ suc (suc i) ≡ x / 256 ^ suc i / 256 =
    rw (pow-suc 256 (suc i), div-div-eq-div-mul x (256 ^ suc i) 256) refl in
    ap (λ (l : List ℕ). x / 256 ^ suc i % 256 ∷ l) (bytes_above (suc i) k x ∙ ap (little_endian k) next)

-- so that they are the bytes of the number.
pub library_bytes : (k x : ℕ) → bytes_low_first 0 (suc k) x ≡ little_endian (suc k) x
unfolding little_endian
library_bytes k x = ap (λ (l : List ℕ). x % 256 ∷ l) (bytes_above 0 k x)

-- Zeros above some bytes count nothing.
pub from_little_zeros : (bytes : List ℕ) (n : ℕ) → from_little (bytes ++ replicate n 0) ≡ from_little bytes
unfolding from_little
from_little_zeros [] zero = refl
from_little_zeros [] (suc n) = omega (arith, from_little_zeros [] n)
from_little_zeros (b ∷ bytes) n = rw (from_little_zeros bytes n)
