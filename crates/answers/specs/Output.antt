-- What an answer with output leaves in a lent buffer: the row "Output" of 01's refusals, and "Writers change only the bytes they fill".
use Rattle.std.specs.Prelude.{cond, List, ◌++◌, ℕ, leb, length, drop}
use Rattle.answers.specs.Answer.{Answer, accepted, refused, when_passed}

-- the answer, and the buffer afterwards
pub record Writing : Type 0 where
  pub answer : Answer
  pub buffer : List ℕ

-- "Writers change only the bytes they fill."
abbrev pub overwrite : List ℕ → List ℕ → List ℕ
overwrite bytes buffer = bytes ++ drop (length bytes) buffer

-- these bytes at the front of the buffer, where it has room; else 13, "too short"
abbrev pub fill : List ℕ → List ℕ → Writing
fill bytes buffer =
    cond (leb (length bytes) (length buffer))
    (record { answer = accepted (length bytes); buffer = overwrite bytes buffer })
    (record { answer = refused 13; buffer = buffer })

-- these bytes where what was tested before has passed: its refusals come before 13, and a refusal changes nothing
abbrev pub write_if : Answer → List ℕ → List ℕ → Writing
write_if tested bytes buffer = when_passed tested (fill bytes buffer) (λ refusal. record { answer = refusal; buffer = buffer })
