-- What an accepted filling tells: the bytes stand at the front of the buffer.
use mathlib.Core.Path.{◌≡◌}
use mathlib.Core.Bool.{Bool, true, false, cond}
use mathlib.Core.List.{List}
use Prim.Native.Nat.{ℕ}
use lib.Dec.{leb}
use lib.ListN.{length, take, drop}
use lib.Seq.{take_at}
use Rattle.answers.specs.Answer.{accepted, refused}
use Rattle.answers.specs.Output.{Writing, overwrite, fill}

-- Filling that is accepted with k leaves the bytes in the first k of the buffer.
pub filled_bytes : (bytes buffer : List ℕ) (k : ℕ) → (fill bytes buffer).answer ≡ accepted k → take k (fill bytes buffer).buffer ≡ bytes
filled_bytes bytes buffer k = go (leb (length bytes) (length buffer))
  where
    fits : Bool → Writing
    fits t = cond t (record { answer = accepted (length bytes); buffer = overwrite bytes buffer }) (record { answer = refused 13; buffer = buffer })

    go : (t : Bool) → (fits t).answer ≡ accepted k → take k (fits t).buffer ≡ bytes
    go true a = take_at bytes (drop (length bytes) buffer) k (cc)
    go false a = cc
