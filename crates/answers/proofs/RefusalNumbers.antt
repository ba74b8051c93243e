-- An answer that refuses by one of the documents' numbers, if it refuses: 1 to 28 but for the output's 13 and for 6, which "never occurs now" (02, U4).
use Prim.Native.Nat.{ℕ, ◌+◌, ◌-◌, ◌≤◌}
use Rattle.answers.specs.Answer.{Answer, passed, accepted, refused, refused_at}

abbrev pub RefusalNumber : ℕ → Type 0
RefusalNumber n = (1 ≤ n) × (n ≤ 28) × (1 ≤ (n - 13) + (13 - n)) × (1 ≤ (n - 6) + (6 - n))

-- an answer that has a value where it accepts
abbrev pub Valued : Answer → Type 0
Valued passed = ⊥
Valued (accepted n) = Unit {0}
Valued (refused number) = RefusalNumber number
Valued (refused_at number at) = RefusalNumber number

-- one that has none
abbrev pub Plain : Answer → Type 0
Plain passed = Unit {0}
Plain (accepted n) = ⊥
Plain (refused number) = RefusalNumber number
Plain (refused_at number at) = RefusalNumber number
