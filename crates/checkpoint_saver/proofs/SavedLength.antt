-- How many bytes a saved checkpoint has.
use mathlib.Core.Path.{◌≡◌, refl, ap₂, ◌∙◌}
use mathlib.Core.Bool.{Bool, true, false, cond}
use mathlib.Core.List.{List, [], ◌∷◌, ◌++◌}
use Prim.Native.Nat.{ℕ, zero, suc, ◌+◌, ◌*◌, ◌≤◌}
use native.Mathlib.Omega.{arith}
use lib.ListN.{length, take, get_or, length-append}
use lib.Seq.{get_or-take}
use Rattle.little_endian.specs.LittleEndian.{little_endian}
use Rattle.bounded.specs.Below.{run_below}
use Rattle.bounded.proofs.Below.{length_run_below, sum_below_same}
use Rattle.problem.specs.Problem.{Problem, SoundProblem}
use Rattle.checkpoint.specs.declared.Checkpoint.{Checkpoint}
use Rattle.checkpoint.specs.Checkpoints.{InShape}
use Rattle.checkpoint_saver.specs.Saving.{header_bytes, entry_bytes, checkpoint_bytes, max_bytes}

-- The header has 13 bytes.
pub length_header_bytes : (c : Checkpoint) → length (header_bytes c) ≡ 13
unfolding header_bytes little_endian
length_header_bytes c = refl

-- Each entry takes two bytes.
pub length_entry_bytes : (mark : ℕ) (l : List ℕ) (k : ℕ) → length (entry_bytes mark l k) ≡ 2 * k
length_entry_bytes mark l k = length_run_below k (λ i. mark ∷ get_or l i 0 ∷ []) ∙ sum_below_same k 2

-- The entries at the front of a list are as many of the list.
pub entry_bytes_front : (mark : ℕ) (l : List ℕ) (n k : ℕ) → k ≤ n → entry_bytes mark (take n l) k ≡ entry_bytes mark l k
unfolding run_below
entry_bytes_front mark l n zero h = refl
entry_bytes_front mark l n (suc k) h =
    ap₂ (λ (front : List ℕ) (b : ℕ). front ++ (mark ∷ b ∷ [])) (entry_bytes_front mark l n k (omega arith)) (get_or-take n l k 0 h)

-- The header has 13 bytes, the end 1, and each entry 2.
pub saved_length : (n : ℕ) (c : Checkpoint) → length (checkpoint_bytes n c) ≡ 14 + 2 * c.depth + 2 * cond c.holds n 0
unfolding checkpoint_bytes
saved_length n c =
    let path = entry_bytes 19 c.path c.depth in
    let incumbent = entry_bytes 20 c.incumbent (cond c.holds n 0) in
    omega
    (arith, length-append (header_bytes c ++ path ++ incumbent) (0 ∷ []), length-append (header_bytes c ++ path) incumbent, length-append (header_bytes c) path, length_header_bytes c, length_entry_bytes 19 c.path c.depth, length_entry_bytes 20 c.incumbent (cond c.holds n 0))

-- A mapping has at most n entries.
pub incumbent_few : (n : ℕ) (holds : Bool) → cond holds n 0 ≤ n
incumbent_few n true = omega arith
incumbent_few n false = omega arith

-- "At most 270 bytes."
pub saved_max : (connected : Bool) (P : Problem) → SoundProblem P → (c : Checkpoint) → InShape connected P c → length (checkpoint_bytes P.old.order c) ≤ max_bytes
saved_max connected P sound c shape =
    omega (arith, saved_length P.old.order c, shape.depth_max, sound.old_sound.order_max, incumbent_few P.old.order c.holds)
