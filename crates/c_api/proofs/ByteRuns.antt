-- Calls one after the other through bytes are calls one after the other on the checkpoints that these bytes load, by recursion over the list.
use mathlib.Core.Path.{◌≡◌, refl}
use mathlib.Core.Bool.{true, false}
use mathlib.Core.List.{List, [], ◌∷◌}
use Prim.Native.Nat.{ℕ}
use lib.Dec.{eqb}
use Rattle.checkpoint.specs.declared.Checkpoint.{Checkpoint}
use Rattle.search.specs.Calls.{Call}
use Rattle.c_api.specs.ByteRuns.{ByteCall, call_of, Written, bytes_after, bytes_left, calls_made, returned}

-- calls on checkpoints: what each shows, and the checkpoint that the last one leaves
module _ {A : Type 0} (shows : Checkpoint → Call → A) (leaves : Checkpoint → Call → Checkpoint) where
  unfoldable pub shown : Checkpoint → List Call → List A
  shown c [] = []
  shown c (call ∷ later) = shows c call ∷ shown (leaves c call) later

  unfoldable pub left : Checkpoint → List Call → Checkpoint
  left c [] = c
  left c (call ∷ later) = left (leaves c call) later

  -- `Loads bytes c`: these bytes load c, and one can go on from it
  module _ (writes : List ℕ → ByteCall → Written) (seen : List ℕ → ByteCall → A) (Loads : List ℕ → Checkpoint → Type 0) where
    -- one call, by what it writes and what is seen of it: it is refused with 13, or it is the call on c, and the next call's bytes load the checkpoint that it leaves
    pub data Step (bytes : List ℕ) (c : Checkpoint) (x : ByteCall) (w : Written) (a : A) : Type 0 where
      dropped : eqb w.number 13 ≡ true → bytes_after bytes w ≡ bytes → Step bytes c x w a
      made : eqb w.number 13 ≡ false → a ≡ shows c (call_of x) → Loads (bytes_after bytes w) (leaves c (call_of x)) → Step bytes c x w a

    -- from bytes that load c: the calls return what the calls made on checkpoints show, and the bytes left load the checkpoint that these leave
    abbrev Follows : List ℕ → Checkpoint → List ByteCall → Type 0
    Follows bytes c calls =
        (returned writes seen bytes calls ≡ shown c (calls_made writes bytes calls)) × Loads (bytes_left writes bytes calls) (left c (calls_made writes bytes calls))

    -- Where each call goes one of the two ways, so it is.
    pub follows : ((bytes : List ℕ) (c : Checkpoint) → Loads bytes c → (x : ByteCall) → Step bytes c x (writes bytes x) (seen bytes x))
        → (bytes : List ℕ) (c : Checkpoint) → Loads bytes c → (calls : List ByteCall) → Follows bytes c calls
    unfolding returned calls_made bytes_left shown left
    follows step bytes c loads [] = (refl, loads)
    follows step bytes c loads (x ∷ later) = go (λ b d l. follows step b d l later) (step bytes c loads x)
      where
        go : ((b : List ℕ) (d : Checkpoint) → Loads b d → Follows b d later) → Step bytes c x (writes bytes x) (seen bytes x) → Follows bytes c (x ∷ later)
        go rest (dropped t same) = rw (t, same) (rest bytes c loads)
        go rest (made f same there) =
            let more = rest (bytes_after bytes (writes bytes x)) (leaves c (call_of x)) there in
            rw f (rw (same, more.0), more.1)
