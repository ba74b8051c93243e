-- A number in decimal digits, as 01's "The refit program" prints it: the fewest digits, the highest first.
use Rattle.std.specs.Prelude.{true, false, List, [], ◌∷◌, ◌++◌, ℕ, zero, suc, ◌+◌, ◌*◌, ◌-◌, ◌/◌, ◌%◌, ◌≤◌, ltb}

-- the ASCII code of a digit
abbrev pub digit : ℕ → ℕ
digit d = 48 + d

-- each digit makes the number smaller, so fuel above the number never runs out
unfoldable pub digits : ℕ → ℕ → List ℕ
digits zero n = []
digits (suc fuel) n = elim (ltb n 10) [ true ↦ digit n ∷ [] | false ↦ digits fuel (n / 10) ++ (digit (n % 10) ∷ []) ]

abbrev pub decimal : ℕ → List ℕ
decimal n = digits (suc n) n

-- digits read from the first on, after digits that read as r
unfoldable pub read_on : ℕ → List ℕ → ℕ
read_on r [] = r
read_on r (d ∷ l) = read_on (r * 10 + (d - 48)) l

-- each byte of a text is a digit
unfoldable pub AllDigits : List ℕ → Type 0
AllDigits [] = Unit
AllDigits (d ∷ l) = (48 ≤ d) × (d ≤ 57) × AllDigits l
