-- What 17's place says of the bytes: "the first byte that can't stand there (the length if the end is missing)" (01, "Refusals by place of checking").
use Rattle.std.specs.Prelude.{◌≡◌, List, ◌++◌, ℕ, ◌+◌, ◌≤◌, ◌<◌, length, get_or, take, None, Some}
use Rattle.checkpoint_loader.specs.Form.{form_fault}

-- every one is a byte
abbrev pub Bytes : List ℕ → Type 0
Bytes bytes = (i : ℕ) → i < length bytes → get_or bytes i 0 < 256

pub record FaultPlace (n : ℕ) (bytes : List ℕ) (at : ℕ) : Type 0 where
  pub within : at ≤ length bytes
  -- the bytes before it can still be completed to bytes in the form
  pub rest : List ℕ
  pub rest_bytes : Bytes rest
  pub completed : form_fault n (take at bytes ++ rest) ≡ None
  -- with the byte at it they cannot: whatever follows, the fault stays
  pub spoilt : at < length bytes → (more : List ℕ) → form_fault n (take (at + 1) bytes ++ more) ≡ Some at
