-- 01, "The refit program": its example byte for byte, and a text of each other kind that the program prints, by `refit_text`. The readings, the
-- walk and the lines are computed; that the graphs read are sound is cited, as computing it would take minutes.
use mathlib.Core.Path.{◌≡◌, refl, ap}
use mathlib.Core.Bool.{true, false}
use mathlib.Core.List.{List, [], ◌∷◌}
use Prim.Native.Char.{code}
use Prim.Native.String as string
use Prim.Native.Nat.{ℕ, ◌<◌, ◌^◌}
use native.Mathlib.Omega.{arith}
use lib.Dec.{lit<}
use lib.ListN.{length, replicate, length-replicate}
use Rattle.little_endian.specs.LittleEndian.{from_little}
use Rattle.bounded.specs.Below.{all_below, some_below, sum_below, run_below}
use Rattle.answers.specs.Answer.{accepted}
use Rattle.graph.specs.Graph.{Graph, graph}
use Rattle.graph_reader.specs.Reading.{reading, reading_edition, read_file, opens, read_at, read_from, judge, read_graph}
use Rattle.problem_reader.specs.ProblemReading.{reading_problem, read_problem}
use Rattle.problem_reader.proofs.MarkedGraphs.{bytes, bytes_small, old as old_bytes, new as new_bytes}
use Rattle.problem_reader.proofs.ReadProblem.{problem_sound}
use Rattle.substitutes.specs.Substitutes.{listed, agree}
use Rattle.problem.specs.Problem.{Problem, SoundProblem, problem, allowed, consistent}
use Rattle.mapping.specs.Common.{mapped_from}
use Rattle.search_tree.specs.Rules.{rules_of}
use Rattle.search_tree.specs.Search.{search_of}
use Rattle.search_tree.specs.Node.{candidate, candidates, upper_bound, choices, children, choices_after, later_siblings, open_nodes}
use Rattle.search_tree.specs.Walk.{visit_path, visit, after}
use Rattle.search_tree.specs.Ceiling.{top_bound, ceiling}
use Rattle.checkpoint.specs.Checkpoints.{checkpoint_of}
use Rattle.search.specs.Call.{Called, words_needed}
use Rattle.search.proofs.WalkCall.{fresh_call}
use Rattle.text.specs.Decimal.{digits}
use Rattle.refit_text.specs.Lines.{keep_lines, remove_lines, is_free, fit_lines}
use Rattle.refit_text.specs.Report.{vertex_lines, accepted_text, report_text}
use Rattle.refit_text.specs.Program.{minimum_of, budget_of, search_text, refit_text}

-- the bytes of a text in ASCII
unfoldable pub ascii : string.String → List ℕ
ascii string.[] = []
ascii (string.◌∷◌ c s) = code c ∷ ascii s

-- the graph that is read from bytes, of an order that the reading accepts
abbrev read : ℕ → List ℕ → Graph
read n l = graph n (read_graph l).labels (read_graph l).edges

-- ---- from the walk to the text

-- two graphs that are read without a fault, and nine bytes of input
module _ (old new input : List ℕ) (n m : ℕ)
    (old_read : (read_graph old).answer ≡ accepted n) (old-bytes : bytes old ≡ true)
    (new_read : (read_graph new).answer ≡ accepted m) (new-bytes : bytes new ≡ true)
    (nine : length input ≡ 9) (fits : budget_of input < 2 ^ 64) where
  abbrev P : Problem
  P = problem (read n old) (read m new)

  sound : SoundProblem P
  unfolding read_problem reading_problem
  sound = problem_sound old new (bytes_small old old-bytes) (bytes_small new new-bytes) P (rw (old_read, new_read))

  -- the lines of the walk after so many visits
  abbrev walked : List ℕ
  walked =
      let s = after (search_of false P) (minimum_of input) (budget_of input) in
      accepted_text n m (ceiling (rules_of P) (minimum_of input) s) (checkpoint_of (minimum_of input) s)

  searched : search_text P (minimum_of input) (budget_of input) ≡ walked
  unfolding search_text
  searched =
      ap (λ (r : Called). report_text n m r.answer r.checkpoint)
      (fresh_call false P sound (minimum_of input) (budget_of input) (replicate words_needed 0) (omega (arith, length-replicate {A = ℕ} words_needed 0)) fits)

  printed : refit_text old new input ≡ walked
  unfolding refit_text read_problem reading_problem
  printed = rw (nine, old_read, new_read) searched

-- ---- the examples

-- the input of a minimum and a budget below 256
abbrev given : ℕ → ℕ → List ℕ
given minimum budget = minimum ∷ budget ∷ 0 ∷ 0 ∷ 0 ∷ 0 ∷ 0 ∷ 0 ∷ 0 ∷ []

-- an edge of a vertex that is not given, refused with 5
abbrev missing : List ℕ
missing = 4 ∷ 2 ∷ 3 ∷ 7 ∷ 0 ∷ 2 ∷ 0 ∷ 1 ∷ 1 ∷ 0 ∷ []

-- a file of edition 1
abbrev earlier : List ℕ
earlier = 1 ∷ 9 ∷ 1 ∷ 7 ∷ 2 ∷ 0 ∷ 1 ∷ 1 ∷ 0 ∷ []

abbrev Prints : List ℕ → List ℕ → List ℕ → string.String → Type 0
Prints old new input text = refit_text old new input ≡ ascii text

-- The texts of 01's section, row by row.
pub program_example :
    -- 01's example, its files in edition 2 (02, U6)
    Prints old_bytes new_bytes (given 1 100) "state done\nsize 2\nsteps 6\nfence 3\nkeep 0 1\nkeep 1 0\nremove 2\n"
    -- the graphs exchanged: a new vertex to fit
    × Prints new_bytes old_bytes (given 1 100) "state done\nsize 2\nsteps 6\nfence 3\nkeep 0 1\nkeep 1 0\nfit 2\n"
    -- budget 3: stopped, nothing held
    × Prints old_bytes new_bytes (given 1 3) "state stopped\nsize none\nsteps 3\nfence 3\n"
    -- minimum 3: done, nothing held
    × Prints old_bytes new_bytes (given 3 100) "state done\nsize none\nsteps 3\nfence 3\n"
    -- eight bytes of input, and ten
    × Prints old_bytes new_bytes (1 ∷ 100 ∷ 0 ∷ 0 ∷ 0 ∷ 0 ∷ 0 ∷ 0 ∷ []) "refused input\n"
    × Prints old_bytes new_bytes (1 ∷ 100 ∷ 0 ∷ 0 ∷ 0 ∷ 0 ∷ 0 ∷ 0 ∷ 0 ∷ 0 ∷ []) "refused input\n"
    -- the input is tested before the graphs
    × Prints [] [] [] "refused input\n"
    -- no old bytes; an old graph that is refused with 5; a new one
    × Prints [] new_bytes (given 1 100) "refused 1\n"
    × Prints missing new_bytes (given 1 100) "refused 5\n"
    × Prints old_bytes missing (given 1 100) "refused 5\n"
    -- the old graph is read first
    × Prints [] missing (given 1 100) "refused 1\n"
    -- a file of edition 1 is not moved silently
    × Prints earlier new_bytes (given 1 100) "refused 27\n"
    × Prints old_bytes earlier (given 1 100) "refused 27\n"
unfolding reading reading_edition read_file opens read_at read_from judge bytes from_little all_below some_below sum_below run_below listed agree allowed consistent mapped_from candidate candidates upper_bound choices children choices_after later_siblings open_nodes visit_path visit after top_bound ceiling checkpoint_of digits keep_lines remove_lines is_free fit_lines vertex_lines accepted_text read_problem reading_problem refit_text ascii
program_example = (
  printed old_bytes new_bytes (given 1 100) 3 2 refl refl refl refl refl (lit< tt),
  printed new_bytes old_bytes (given 1 100) 2 3 refl refl refl refl refl (lit< tt),
  printed old_bytes new_bytes (given 1 3) 3 2 refl refl refl refl refl (lit< tt),
  printed old_bytes new_bytes (given 3 100) 3 2 refl refl refl refl refl (lit< tt),
  refl,
  refl,
  refl,
  refl,
  refl,
  refl,
  refl,
  refl,
  refl,
)
