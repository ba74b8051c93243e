-- The check of a mapping, by the row "Partner list" of 01's refusals: 18, then row by row 19, 21, and against each earlier mapped row, rising, 20 and 22;
-- 02, U1, puts 23 and 24 before them, and 02, U4, 22 of the row with itself after 21.
use Rattle.std.specs.Prelude.{Bool, cond, Result, Ok, Err, List, ◌≡◌, ℕ, ◌<◌, ltb, eqb, length, get_or}
use Rattle.std.proofs.Math.Option.{Option, none, some}
use Rattle.bounded.specs.First.{first_below}
use Rattle.answers.specs.Answer.{Answer, on_answer, when_passed}
use Rattle.problem.specs.Problem.{Problem, compare_vertices, compare_edges, problem_answer}
use Rattle.mapping.specs.Common.{unmapped, size}
use Rattle.mapping.specs.Answers.{Outcome, accepted, refused, refused_row, refused_rows, Outcomes, flawed, checked, fault_outcome}
use Rattle.mapping.specs.declared.MappingError.{MappingError}

-- what the code finds in rows
abbrev pub finding : Result Unit MappingError → Option Outcome
finding (Ok x) = none
finding (Err e) = some (fault_outcome e)

-- the mapped entries before row v are below 64, so that they are places of the new graph's tables
abbrev pub EntriesBelow : List ℕ → ℕ → Type 0
EntriesBelow l v = (u : ℕ) → u < v → (get_or l u 0 ≡ unmapped → ⊥) → get_or l u 0 < 64

-- row v against the earlier row u; "left-out rows are passed over"
abbrev pub clash : Problem → List ℕ → ℕ → ℕ → Option Outcome
clash P l v u =
    cond (eqb (get_or l u 0) unmapped) none
    (cond (eqb (get_or l u 0) (get_or l v 0)) (some (refused_rows 20 v u))
    (cond (compare_edges P u v (get_or l u 0) (get_or l v 0)) none (some (refused_rows 22 v u))))

abbrev pub on_fault : Option Outcome → Outcome → Outcome
on_fault (some fault) o = fault
on_fault none o = o

-- "22 tests the row with itself right after 21, and gives that row twice" (02, U4); then the earlier rows, rising
abbrev pub edge_fault : Problem → List ℕ → ℕ → Option Outcome
edge_fault P l v = cond (compare_edges P v v (get_or l v 0) (get_or l v 0)) (first_below v (clash P l v)) (some (refused_rows 22 v v))

-- one row: its entry is a new vertex, of this many, the labels agree by this test, and then what is found in its edges
abbrev pub row_by : ℕ → (ℕ → Bool) → Option Outcome → List ℕ → ℕ → Option Outcome
row_by order agrees edges l v =
    cond (eqb (get_or l v 0) unmapped) none
    (cond (ltb (get_or l v 0) order) (cond (agrees (get_or l v 0)) edges (some (refused_row 21 v))) (some (refused_row 19 v)))

unfoldable pub row_fault : Problem → List ℕ → ℕ → Option Outcome
row_fault P l v = row_by P.new.order (compare_vertices P v) (edge_fault P l v) l v

-- a mapping of this many old vertices, row by row
abbrev pub list_by : ℕ → (ℕ → Option Outcome) → List ℕ → Outcome
list_by order row l = cond (eqb (length l) order) (on_fault (first_below (length l) row) (accepted (size l))) (refused 18)

unfoldable pub list_outcome : Problem → List ℕ → Outcome
list_outcome P l = list_by P.old.order (row_fault P l) l

-- what follows on two sound graphs and a sound list, or their refusal; `refused_at` is no answer about two graphs
abbrev pub on_problem : Answer → Outcome → Outcome
on_problem answer o = on_answer o accepted refused refused_row answer

-- all of it: 10, 11, 12, 23 and 24 come first
unfoldable pub check_outcome : Problem → List ℕ → Outcome
check_outcome P l = on_problem (problem_answer P) (list_outcome P l)

-- the same of two mappings: 10, 11, 12, 23 and 24 come first, once for both
unfoldable pub both_outcomes : Problem → List ℕ → List ℕ → Outcomes
both_outcomes P l m = when_passed (problem_answer P) (checked (list_outcome P l) (list_outcome P m)) flawed
