-- Calls one after the other from checkpoint bytes to checkpoint bytes, of whichever exported function: each is given the bytes that the last accepted one wrote
-- (01, "Bookmark and calls", third paragraph, "Between two calls the bookmark's value stays the same").
use Rattle.std.specs.Prelude.{cond, List, [], ◌∷◌, ℕ, eqb}
use Rattle.search.specs.Calls.{Call}

-- what a caller chooses for each call, anything it likes: a `next` of any length too
pub record ByteCall : Type 0 where
  pub budget : ℕ
  pub workspace : List ℕ
  pub next : List ℕ

-- the call on a checkpoint in it
abbrev pub call_of : ByteCall → Call
call_of x = record { budget = x.budget; workspace = x.workspace }

-- what a call tells of its bytes: the refusal's number, or 0 and the bytes that it wrote
pub record Written : Type 0 where
  pub number : ℕ
  pub bytes : List ℕ

-- the bytes that the next call is given: those that this one wrote, or the same again where it is refused
abbrev pub bytes_after : List ℕ → Written → List ℕ
bytes_after bytes w = cond (eqb w.number 0) w.bytes bytes

-- with this call's item at the front, unless the call is refused with 13: such a call counts as if it had not been made
abbrev pub unless13 : {A : Type 0} → Written → A → List A → List A
unless13 w item rest = cond (eqb w.number 13) rest (item ∷ rest)

-- by what a call on bytes writes
module _ (writes : List ℕ → ByteCall → Written) where
  -- the bytes after the last call
  unfoldable pub bytes_left : List ℕ → List ByteCall → List ℕ
  bytes_left bytes [] = bytes
  bytes_left bytes (x ∷ later) = bytes_left (bytes_after bytes (writes bytes x)) later

  -- the calls on checkpoints that are made
  unfoldable pub calls_made : List ℕ → List ByteCall → List Call
  calls_made bytes [] = []
  calls_made bytes (x ∷ later) = let w = writes bytes x in unless13 w (call_of x) (calls_made (bytes_after bytes w) later)

  -- what a caller sees of these
  unfoldable pub returned : {A : Type 0} → (List ℕ → ByteCall → A) → List ℕ → List ByteCall → List A
  returned seen bytes [] = []
  returned seen bytes (x ∷ later) = let w = writes bytes x in unless13 w (seen bytes x) (returned seen (bytes_after bytes w) later)
