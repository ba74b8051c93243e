-- What checkpoint bytes say, and loading them: 01, "Bookmark and calls", last paragraph, and the rows "Bookmark bytes" and "Bookmark" of the refusals;
-- 02, U1, "Saving and loading a bookmark take the list too", and U7, "else 14, when saved or loaded for this search too".
use Rattle.std.specs.Prelude.{Bool, cond, List, [], ◌∷◌, ℕ, ◌+◌, ◌-◌, ◌*◌, ◌/◌, length, get_or, take, drop, Option, None, Some}
use Rattle.little_endian.specs.LittleEndian.{from_little}
use Rattle.bounded.specs.Below.{run_below}
use Rattle.answers.specs.Answer.{Answer, passed, refused, refused_at, when_passed}
use Rattle.problem.specs.Problem.{Problem, problem_answer}
use Rattle.checkpoint.specs.declared.Checkpoint.{Checkpoint}
use Rattle.checkpoint.specs.Checkpoints.{padded, fresh_checkpoint, in_shape}
use Rattle.checkpoint_loader.specs.declared.Loaded.{Loaded}
use Rattle.checkpoint_loader.specs.Answers.{load_answer}
use Rattle.checkpoint_loader.specs.Form.{holds_of, finished_of, form_fault}

-- k entries from a place on: the second byte of each pair
abbrev pub entries : List ℕ → ℕ → ℕ → List ℕ
entries bytes from k = run_below k (λ i. get_or bytes (from + 2 * i + 1) 0 ∷ [])

-- how many entries of a mapping bytes in the form have, and how many of a path: the header has 13 bytes, the end 1, each entry 2
abbrev pub incumbent_entries : ℕ → List ℕ → ℕ
incumbent_entries n bytes = cond (holds_of (get_or bytes 12 0)) n 0

abbrev pub path_entries : ℕ → List ℕ → ℕ
path_entries n bytes = (length bytes - (14 + 2 * incumbent_entries n bytes)) / 2

-- the checkpoint that bytes in the form say
unfoldable pub said : ℕ → List ℕ → Checkpoint
said n bytes =
    record {
      minimum = get_or bytes 1 0;
      steps = from_little (take 8 (drop 3 bytes));
      depth = path_entries n bytes;
      path = padded (entries bytes 13 (path_entries n bytes));
      finished = finished_of (get_or bytes 12 0);
      holds = holds_of (get_or bytes 12 0);
      incumbent = padded (entries bytes (13 + 2 * path_entries n bytes) (incumbent_entries n bytes));
    }

-- the answer, and the checkpoint
pub record Loading : Type 0 where
  pub answer : Answer
  pub checkpoint : Checkpoint

abbrev pub loading_of : Loaded → Loading
loading_of r = record { answer = load_answer r.answer; checkpoint = r.checkpoint }

-- "a refused load returns a fresh bookmark of floor 0"
abbrev pub refuse : Answer → Loading
refuse answer = record { answer = answer; checkpoint = fresh_checkpoint 0 }

-- "14 not in shape", for the checkpoint that the bytes say
abbrev pub on_shape : Bool → Problem → Checkpoint → Loading
on_shape connected P c = cond (in_shape connected P c) (record { answer = passed; checkpoint = c }) (refuse (refused 14))

abbrev pub on_form : Bool → Problem → List ℕ → Option ℕ → Loading
on_form connected P bytes (Some at) = refuse (refused_at 17 at)
on_form connected P bytes None = on_shape connected P (said P.old.order bytes)

-- 10, 11, 12, 23 and 24; then 17 with its place; then 14
unfoldable pub loading : Bool → Problem → List ℕ → Loading
loading connected P bytes = when_passed (problem_answer P) (on_form connected P bytes (form_fault P.old.order bytes)) refuse
