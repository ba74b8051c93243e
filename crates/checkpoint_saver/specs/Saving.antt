-- The bytes of a checkpoint, and saving them into a lent buffer: 01, "Bookmark and calls", last paragraph, and the row "Output" of the refusals;
-- 02, U1, "Saving and loading a bookmark take the list too", and U7, "else 14, when saved or loaded for this search too".
use Rattle.std.specs.Prelude.{Bool, cond, List, [], ◌∷◌, ◌++◌, ℕ, ◌+◌, get_or, Result}
use Rattle.little_endian.specs.LittleEndian.{little_endian}
use Rattle.bounded.specs.Below.{run_below}
use Rattle.answers.specs.Output.{Writing, write_if}
use Rattle.problem.specs.Problem.{Problem}
use Rattle.checkpoint.specs.declared.Checkpoint.{Checkpoint}
use Rattle.checkpoint.specs.Checking.{checkpoint_answer}
use Rattle.checkpoint_saver.specs.declared.SaveError.{SaveError}
use Rattle.checkpoint_saver.specs.Answers.{save_answer}

-- "0 unfinished, 1 unfinished with a matching, 2 finished, 3 finished with one"
abbrev pub state_byte : Bool → Bool → ℕ
state_byte finished holds = cond finished 2 0 + cond holds 1 0

-- "16, floor; 17, steps in eight bytes, low first; 18, state"
unfoldable pub header_bytes : Checkpoint → List ℕ
header_bytes c =
    (16 ∷ c.minimum ∷ 17 ∷ []) ++ little_endian 8 c.steps ++ (18 ∷ state_byte c.finished c.holds ∷ [])

-- k entries of a list, each after its mark
abbrev pub entry_bytes : ℕ → List ℕ → ℕ → List ℕ
entry_bytes mark l k = run_below k (λ i. mark ∷ get_or l i 0 ∷ [])

-- "19, byte for each path entry; then 20, byte for each of n entries if one is held; 0"; n is the old order
unfoldable pub checkpoint_bytes : ℕ → Checkpoint → List ℕ
checkpoint_bytes n c =
    header_bytes c ++ entry_bytes 19 c.path c.depth ++ entry_bytes 20 c.incumbent (cond c.holds n 0) ++ (0 ∷ [])

-- "At most 270 bytes."
abbrev pub max_bytes : ℕ
max_bytes = 270

-- the answer, and the buffer afterwards
abbrev pub saving_of : Result ℕ SaveError → List ℕ → Writing
saving_of r buffer = record { answer = save_answer r; buffer = buffer }

-- 10, 11, 12, 23 and 24; then 14; then 13; "Writers change only the bytes they fill", and a refusal changes nothing
unfoldable pub saving : Bool → Problem → Checkpoint → List ℕ → Writing
saving connected P c buffer = write_if (checkpoint_answer connected P c) (checkpoint_bytes P.old.order c) buffer
