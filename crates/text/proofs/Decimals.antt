-- Laws of decimal digits: the digits of a number of one digit and of more, how many there are, and that they read back as the number.
use mathlib.Core.Path.{◌≡◌, refl, sym, ap, ◌∙◌}
use mathlib.Core.Bool.{Bool, true, false}
use mathlib.Core.List.{List, [], ◌∷◌, ◌++◌}
use Prim.Native.Nat.{ℕ, zero, suc, ◌+◌, ◌*◌, ◌-◌, ◌/◌, ◌%◌, ◌^◌, ◌≤◌, ◌<◌}
use native.Mathlib.Nat.{not-suc-le-zero, pow-suc, div-lt_iff_lt-mul}
use native.Mathlib.Omega.{arith}
use lib.Dec.{ltb}
use lib.ListN.{length, get_or, length-append}
use borrow.Author.Tests.{ltb-true, ltb-false, lt-ltb, le-ltb}
use Rattle.text.specs.Decimal.{digit, digits, decimal, read_on, AllDigits}

-- the definition, by its test
digits_low : (f n : ℕ) → ltb n 10 ≡ true → digits (suc f) n ≡ digit n ∷ []
unfolding digits
digits_low f n e = rw (e, digits)

digits_high : (f n : ℕ) → ltb n 10 ≡ false → digits (suc f) n ≡ digits f (n / 10) ++ (digit (n % 10) ∷ [])
unfolding digits
digits_high f n e = rw (e, digits)

-- Any fuel above the number gives the same digits.
pub digits_enough : (f g n : ℕ) → n < f → n < g → digits f n ≡ digits g n
digits_enough zero g n p q = absurd (not-suc-le-zero p)
digits_enough (suc f) zero n p q = absurd (not-suc-le-zero q)
digits_enough (suc f) (suc g) n p q = go (ltb n 10) refl (digits_enough f g (n / 10))
  where
    go : (t : Bool) → ltb n 10 ≡ t → (n / 10 < f → n / 10 < g → digits f (n / 10) ≡ digits g (n / 10)) → digits (suc f) n ≡ digits (suc g) n
    go true e tenth = digits_low f n e ∙ sym (digits_low g n e)
    go false e tenth =
        let h = ltb-false n 10 e in
        digits_high f n e
        ∙ ap (λ (l : List ℕ). l ++ (digit (n % 10) ∷ [])) (tenth (omega arith) (omega arith))
        ∙ sym (digits_high g n e)

-- A number below 10 has one digit.
pub decimal_low : (n : ℕ) → n < 10 → decimal n ≡ digit n ∷ []
decimal_low n h = digits_low n n (lt-ltb n 10 h)

-- Any other has the digits of its tenth, and what is left as the last one.
pub decimal_high : (n : ℕ) → 10 ≤ n → decimal n ≡ decimal (n / 10) ++ (digit (n % 10) ∷ [])
decimal_high n h =
    digits_high n n (le-ltb n 10 h)
    ∙ ap (λ (l : List ℕ). l ++ (digit (n % 10) ∷ [])) (digits_enough n (suc (n / 10)) (n / 10) (omega arith) (omega arith))

-- They are one more than those of the tenth.
pub length_decimal_high : (n : ℕ) → 10 ≤ n → length (decimal n) ≡ length (decimal (n / 10)) + 1
length_decimal_high n h = ap length (decimal_high n h) ∙ length-append (decimal (n / 10)) (digit (n % 10) ∷ [])

-- What holds of the digits of each number below 10, and of those of any other where it holds of its tenth's, holds of all.
decimal_cases : (P : ℕ → Type 0) → ((n : ℕ) → n < 10 → P n) → ((n : ℕ) → 10 ≤ n → P (n / 10) → P n) → (n : ℕ) → P n
decimal_cases P low high n = all (suc n) n (omega arith)
  where
    all : (f m : ℕ) → m < f → P m
    all zero m h = absurd (not-suc-le-zero h)
    all (suc f) m h = go (ltb m 10) refl (all f (m / 10))
      where
        go : (t : Bool) → ltb m 10 ≡ t → (m / 10 < f → P (m / 10)) → P m
        go true e tenth = low m (ltb-true m 10 e)
        go false e tenth = let l = ltb-false m 10 e in high m l (tenth (omega arith))

-- A number below 10 ^ k has at most k digits, where k is not 0.
pub decimal_length : (n k : ℕ) → n < 10 ^ suc k → length (decimal n) ≤ suc k
decimal_length =
    decimal_cases (λ n. (k : ℕ) → n < 10 ^ suc k → length (decimal n) ≤ suc k)
    (λ n l k h. omega (arith, ap length (decimal_low n l)))
    (λ n l tenth k h. more n l tenth k h)
  where
    more : (n : ℕ) → 10 ≤ n → ((k : ℕ) → n / 10 < 10 ^ suc k → length (decimal (n / 10)) ≤ suc k)
        → (k : ℕ) → n < 10 ^ suc k → length (decimal n) ≤ suc k
    more n l tenth zero h = absurd (omega arith)
    more n l tenth (suc k) h =
        let shorter = tenth k ((div-lt_iff_lt-mul (omega arith)).1 (rw (← (pow-suc 10 (suc k))) h)) in
        omega (arith, shorter, length_decimal_high n l)

-- digits read after others, from what these read as
read_on_append : (r : ℕ) (l m : List ℕ) → read_on r (l ++ m) ≡ read_on (read_on r l) m
unfolding read_on
read_on_append r [] m = refl
read_on_append r (d ∷ l) m = read_on_append (r * 10 + (d - 48)) l m

-- The digits of a number read as the number.
pub decimal_reads : (n : ℕ) → read_on 0 (decimal n) ≡ n
unfolding read_on
decimal_reads =
    decimal_cases (λ n. read_on 0 (decimal n) ≡ n)
    (λ n l. ap (read_on 0) (decimal_low n l) ∙ omega arith)
    (λ n l tenth.
    ap (read_on 0) (decimal_high n l)
    ∙ read_on_append 0 (decimal (n / 10)) (digit (n % 10) ∷ [])
    ∙ ap (λ (r : ℕ). r * 10 + (digit (n % 10) - 48)) tenth
    ∙ omega arith)

all_digits_append : (l m : List ℕ) → AllDigits l → AllDigits m → AllDigits (l ++ m)
unfolding AllDigits
all_digits_append [] m p q = q
all_digits_append (d ∷ l) m p q = (p.0, p.1, all_digits_append l m p.2 q)

one_digit : (d : ℕ) → d < 10 → AllDigits (digit d ∷ [])
unfolding AllDigits
one_digit d h = (omega arith, omega arith, tt)

-- The bytes of a number are digits.
pub decimal_digits : (n : ℕ) → AllDigits (decimal n)
decimal_digits =
    decimal_cases (λ n. AllDigits (decimal n))
    (λ n l. rw (decimal_low n l) (one_digit n l))
    (λ n l tenth. rw (decimal_high n l) (all_digits_append (decimal (n / 10)) (digit (n % 10) ∷ []) tenth (one_digit (n % 10) (omega arith))))

-- what comes after a first digit that is not 0 leaves it the first
first_stays : (l m : List ℕ) → 49 ≤ get_or l 0 0 → 49 ≤ get_or (l ++ m) 0 0
first_stays [] m h = absurd (omega arith)
first_stays (d ∷ l) m h = h

-- No number but 0 begins with the digit 0.
pub decimal_first : (n : ℕ) → 0 < n → 49 ≤ get_or (decimal n) 0 0
decimal_first =
    decimal_cases (λ n. 0 < n → 49 ≤ get_or (decimal n) 0 0)
    (λ n l h. omega (arith, ap (λ (m : List ℕ). get_or m 0 0) (decimal_low n l)))
    (λ n l tenth h. rw (decimal_high n l) (first_stays (decimal (n / 10)) (digit (n % 10) ∷ []) (tenth (omega arith))))
