-- The form of checkpoint bytes, and the first byte that cannot stand where it does: 01, "Bookmark and calls", last paragraph, and number 17.
use Rattle.std.specs.Prelude.{Bool, true, false, cond, not, ◌&&◌, List, [], ◌∷◌, ℕ, suc, ◌+◌, ◌%◌, leb, ltb, eqb, Option, None, Some}
use Rattle.std.specs.Bool.{then_some}
-- what may come next:
-- Header i, the header's byte i ("16, floor; 17, steps in eight bytes, low first; 18, state");
-- Path holds k, after k path entries, with a mapping to follow or not ("19, byte for each path entry"), and PathByte holds k, the byte of entry k;
-- Incumbent k, after k entries of the mapping ("then 20, byte for each of n entries if one is held"), and IncumbentByte k, the byte of entry k;
-- Done, after the end
use Rattle.checkpoint_loader.specs.declared.form.Stage.{Stage}
use Rattle.checkpoint_loader.specs.declared.form.Stage.TheVariants.{Header, Path, PathByte, Incumbent, IncumbentByte, Done}

abbrev pub stage_if : Bool → Stage → Option Stage
stage_if fits s = then_some fits s

abbrev pub or_stage : Option Stage → Option Stage → Option Stage
or_stage (Some s) t = Some s
or_stage None t = t

-- "18, state (0 unfinished, 1 unfinished with a matching, 2 finished, 3 finished with one)"
abbrev pub holds_of : ℕ → Bool
holds_of state = eqb (state % 2) 1

abbrev pub finished_of : ℕ → Bool
finished_of state = leb 2 state

-- the header has marks at 0, 2 and 11, and the state at 12
abbrev pub header_stage : ℕ → ℕ → Option Stage
header_stage i b =
    cond (eqb i 0) (stage_if (eqb b 16) (Header 1))
    (cond (eqb i 2) (stage_if (eqb b 17) (Header 3))
    (cond (eqb i 11) (stage_if (eqb b 18) (Header 12))
    (cond (eqb i 12) (stage_if (leb b 3) (Path (holds_of b) 0)) (Some (Header (i + 1))))))

-- after k path entries: another one, "depth above n included"; the mapping's first entry, where one is held; or the end
abbrev pub path_stage : ℕ → Bool → ℕ → ℕ → Option Stage
path_stage n holds k b =
    or_stage (stage_if (eqb b 19 && ltb k n) (PathByte holds k))
    (or_stage (stage_if (eqb b 20 && holds && ltb 0 n) (IncumbentByte 0))
    (stage_if (eqb b 0 && not (holds && ltb 0 n)) Done))

-- the stage after byte b, or none where b cannot stand
unfoldable pub next : ℕ → Stage → ℕ → Option Stage
next n (Header i) b = header_stage i b
next n (Path holds k) b = path_stage n holds k b
next n (PathByte holds k) b = Some (Path holds (k + 1))
next n (Incumbent k) b = cond (ltb k n) (stage_if (eqb b 20) (IncumbentByte k)) (stage_if (eqb b 0) Done)
next n (IncumbentByte k) b = Some (Incumbent (k + 1))
next n Done b = None

abbrev pub is_done : Stage → Bool
is_done (Header i) = false
is_done (Path holds k) = false
is_done (PathByte holds k) = false
is_done (Incumbent k) = false
is_done (IncumbentByte k) = false
is_done Done = true

-- 17's place: "the first byte that can't stand there (the length if the end is missing)"; none where the bytes are in the form
unfoldable pub fault_from : ℕ → Stage → ℕ → List ℕ → Option ℕ
fault_from n stage at [] = cond (is_done stage) None (Some at)
fault_from n stage at (b ∷ rest) = elim (next n stage b) [ None ↦ Some at | Some later ↦ fault_from n later (suc at) rest ]

abbrev pub form_fault : ℕ → List ℕ → Option ℕ
form_fault n bytes = fault_from n (Header 0) 0 bytes

-- the number that a stage carries, at most the number of bytes before it
abbrev pub count : Stage → ℕ
count (Header i) = i
count (Path holds k) = k
count (PathByte holds k) = k
count (Incumbent k) = k
count (IncumbentByte k) = k
count Done = 0
