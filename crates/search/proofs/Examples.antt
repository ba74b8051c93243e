-- 01, "Marked examples to prove": all fourteen rows, the files as old ones for the mover and restated in edition 2 (02, U6); three rows of 02, U1, with a list; and
-- those of 02, U4, with links of a part with itself; then those of 02, U7, of both searches; by the definitions that the contracts cite. The walk and the readings are computed; the graphs and that they are sound are those of `MarkedGraphs`.
use mathlib.Core.Path.{◌≡◌, refl, ap, ◌∙◌}
use mathlib.Core.Bool.{Bool, true, false, cond}
use mathlib.Core.List.{List, [], ◌∷◌, ◌++◌, map, append-nil}
use mathlib.Core.Option.{Option, none, some}
use Prim.Native.Nat.{ℕ, ◌-◌, ◌<◌, ◌^◌}
use native.Mathlib.Omega.{arith}
use lib.Dec.{lit<}
use lib.ListN.{length, set, replicate, length-replicate, drop_of_length-le}
use Rattle.bitset.specs.Members.{member, set_of}
use Rattle.bitset.specs.Count.{count_below}
use Rattle.bitset.specs.Least.{least_below}
use Rattle.bounded.specs.Below.{all_below, some_below, sum_below, run_below}
use Rattle.bounded.specs.First.{first_below}
use Rattle.answers.specs.Answer.{passed, accepted, refused, refused_at}
use Rattle.answers.specs.Output.{Writing}
use Rattle.graph_reader.specs.declared.Edition.TheVariants.{One, Two}
use Rattle.graph_reader.specs.Reading.{reading, reading_edition, read_file, opens, read_at, read_from, judge, refuse_at}
use Rattle.graph_writer.specs.Writing.{row_bytes, edition_bytes}
use Rattle.graph_writer.specs.Moving.{moving}
use Rattle.substitutes.specs.Substitutes.{listed, agree}
use Rattle.substitutes.specs.Soundness.{substitutes_answer}
use Rattle.problem.specs.Problem.{Problem, SoundProblem, allowed, consistent}
use Rattle.mapping.specs.Common.{mapped_from, size}
use Rattle.mapping.specs.Answers as outcome
use Rattle.mapping.specs.Check.{row_fault, list_outcome}
use Rattle.problem.proofs.ProblemPasses.{problem_passes}
use Rattle.connected.specs.Spreading.{spreads, connected_set}
use Rattle.problem_reader.proofs.MarkedGraphs.{
  read_tables,
  old,
  new,
  between,
  pair,
  empty,
  one,
  two,
  linked,
  unlinked,
  listing,
  held,
  all_fives,
  pair_sound,
  empty_sound,
  one_sound,
  linked_sound,
  listing_sound,
  held_sound,
  fives_sound,
  loose,
  loose_sound,
}
use Rattle.search_tree.specs.Rules.{rules_of}
use Rattle.search_tree.specs.Search.{search_of}
use Rattle.search_tree.specs.Node.{candidate, candidates, upper_bound, choices, children, choices_after, later_siblings, open_nodes}
use Rattle.search_tree.specs.Walk.{State, visit_path, visit, after}
use Rattle.search_tree.specs.Ceiling.{top_bound, ceiling}
use Rattle.checkpoint.specs.declared.Checkpoint.{Checkpoint}
use Rattle.checkpoint.specs.Checkpoints.{fresh_checkpoint, checkpoint_of, in_shape}
use Rattle.checkpoint.specs.Checking.{checkpoint_answer}
use Rattle.search.specs.Call.{Called, visits, words_needed, arrive, search_call}
use Rattle.search.specs.ThirdProperty.{incumbent_in}
use Rattle.search.proofs.WalkCall.{fresh_call}

-- just the words needed, each holding 9
unfoldable pub workspace : List ℕ
workspace = replicate words_needed 9

abbrev call_of : Bool → Problem → ℕ → ℕ → Called
call_of connected P minimum budget = search_call connected P (fresh_checkpoint minimum) budget workspace

-- an old file moved to edition 2, into twenty bytes that hold 9: the answer, and the buffer afterwards
abbrev move_up : List ℕ → Writing
move_up bytes = moving One Two bytes (replicate 20 9)

abbrev moved_to : List ℕ → Writing
moved_to bytes = record { answer = accepted (length bytes); buffer = bytes ++ replicate (20 - length bytes) 9 }

abbrev refused_move : ℕ → ℕ → Writing
refused_move number at = record { answer = refused_at number at; buffer = replicate 20 9 }

-- budget 100 finishes the search: with so many steps, that incumbent and that ceiling, and all words 0
abbrev EndsOf : Bool → Problem → ℕ → ℕ → Option (List ℕ) → ℕ → Type 0
EndsOf connected P minimum steps incumbent top =
    call_of connected P minimum 100
    ≡ record {
      answer = accepted top;
      checkpoint = checkpoint_of minimum (record { steps = steps; path = []; finished = true; incumbent = incumbent });
      workspace = replicate words_needed 0;
    }

-- ---- from the walk to the call

module _ (connected : Bool) (P : Problem) (sound : SoundProblem P) (minimum budget : ℕ) (fits : budget < 2 ^ 64) where
  arrives : call_of connected P minimum budget ≡ arrive minimum (rules_of P) workspace (after (search_of connected P) minimum budget)
  unfolding workspace
  arrives = fresh_call connected P sound minimum budget workspace (omega (arith, length-replicate {A = ℕ} words_needed 9)) fits

  answers : (top : ℕ) → ceiling (rules_of P) minimum (after (search_of connected P) minimum budget) ≡ top → (call_of connected P minimum budget).answer ≡ accepted top
  answers top e = ap (λ (r : Called). r.answer) arrives ∙ ap accepted e

  checkpoint_at : (s : State) → after (search_of connected P) minimum budget ≡ s → (call_of connected P minimum budget).checkpoint ≡ checkpoint_of minimum s
  checkpoint_at s e = ap (λ (r : Called). r.checkpoint) arrives ∙ ap (checkpoint_of minimum) e

  clears : (call_of connected P minimum budget).workspace ≡ replicate words_needed 0
  unfolding workspace
  clears =
      ap (λ (r : Called). r.workspace) arrives
      ∙ ap (◌++◌ (replicate words_needed 0)) (drop_of_length-le workspace {i = words_needed} (omega (arith, length-replicate {A = ℕ} words_needed 9)))
      ∙ append-nil (replicate words_needed 0)

ends_of : (connected : Bool) (P : Problem) → SoundProblem P → (minimum steps : ℕ) (incumbent : Option (List ℕ)) (top : ℕ)
    → after (search_of connected P) minimum 100 ≡ record { steps = steps; path = []; finished = true; incumbent = incumbent }
    → ceiling (rules_of P) minimum (after (search_of connected P) minimum 100) ≡ top → EndsOf connected P minimum steps incumbent top
ends_of connected P sound minimum steps incumbent top walk above = λ i. record {
  answer = answers connected P sound minimum 100 (lit< tt) top above i;
  checkpoint = checkpoint_at connected P sound minimum 100 (lit< tt) _ walk i;
  workspace = clears connected P sound minimum 100 (lit< tt) i;
}

-- ---- the rows, of the first search

abbrev call : Problem → ℕ → ℕ → Called
call = call_of false

abbrev Ends : Problem → ℕ → ℕ → Option (List ℕ) → ℕ → Type 0
Ends = EndsOf false

ends : (P : Problem) → SoundProblem P → (minimum steps : ℕ) (incumbent : Option (List ℕ)) (top : ℕ)
    → after (search_of false P) minimum 100 ≡ record { steps = steps; path = []; finished = true; incumbent = incumbent }
    → ceiling (rules_of P) minimum (after (search_of false P) minimum 100) ≡ top → Ends P minimum steps incumbent top
ends = ends_of false

-- 01's marked examples, row by row, with no substitutes; then three with a list, of the check and of the search from floor 0; then those of 02, U4.
pub marked_examples :
    -- P, floor 1: 1 0 255, 6 steps, fence 3
    Ends pair 1 6 (some (1 ∷ 0 ∷ 255 ∷ [])) 3
    -- P, floor 1, allowance 3: nothing held, fence 3
    × ((incumbent_in pair (call pair 1 3).checkpoint ≡ none) × ((call pair 1 3).answer ≡ accepted 3))
    -- P, floor 1, allowance 4: size 2, unfinished, fence 3
    × ((incumbent_in pair (call pair 1 4).checkpoint ≡ some (1 ∷ 0 ∷ 255 ∷ [])) × (size (1 ∷ 0 ∷ 255 ∷ []) ≡ 2)
    × ((call pair 1 4).checkpoint.finished ≡ false) × ((call pair 1 4).answer ≡ accepted 3))
    -- P, floor 1, allowance 0: fence 4
    × ((call pair 1 0).answer ≡ accepted 4)
    -- P, floor 3: none, 3 steps, fence 3
    × Ends pair 3 3 none 3
    -- P, floor 255: none, 1 step, fence 255
    × Ends pair 255 1 none 255
    -- both empty, floor 0: size 0, 1 step, fence 1
    × Ends (between empty empty) 0 1 (some []) 1
    -- both empty, floor 1: none, 1 step, fence 1
    × Ends (between empty empty) 1 1 none 1
    -- one part of kind 7 against two of kind 7, unlinked, floor 0: 0, 4 steps, fence 2
    × Ends (between one two) 0 4 (some (0 ∷ [])) 2
    -- 7, 9 linked by 1 against 7, 9 unlinked, floor 0: 0 255, 4 steps, fence 2
    × Ends (between linked unlinked) 0 4 (some (0 ∷ 255 ∷ [])) 2
    -- P's charts as old files, old 1 7 1 9 1 7 2 0 1 1 2 1 2 1 0 and new 1 9 1 7 2 0 1 1 0: moved, they are the files above
    × ((move_up (1 ∷ 7 ∷ 1 ∷ 9 ∷ 1 ∷ 7 ∷ 2 ∷ 0 ∷ 1 ∷ 1 ∷ 2 ∷ 1 ∷ 2 ∷ 1 ∷ 0 ∷ []) ≡ moved_to old) × (move_up (1 ∷ 9 ∷ 1 ∷ 7 ∷ 2 ∷ 0 ∷ 1 ∷ 1 ∷ 0 ∷ []) ≡ moved_to new))
    -- bytes 0: empty chart; as an old file it is moved to 4 2 0, which reads to that
    × ((move_up (0 ∷ []) ≡ moved_to (4 ∷ 2 ∷ 0 ∷ [])) × (read_tables empty ≡ record { answer = accepted 0; labels = replicate 64 0; edges = replicate 4096 0 }))
    -- no bytes: 1 at 0, in either edition
    × ((move_up [] ≡ refused_move 1 0) × (read_tables [] ≡ refuse_at 1 0))
    -- 1 7 2 0 1 1 0: 5 at 2; in edition 2, 4 2 3 7 0 2 0 1 1 0: 5 at 5
    × ((move_up (1 ∷ 7 ∷ 2 ∷ 0 ∷ 1 ∷ 1 ∷ 0 ∷ []) ≡ refused_move 5 2) × (read_tables (4 ∷ 2 ∷ 3 ∷ 7 ∷ 0 ∷ 2 ∷ 0 ∷ 1 ∷ 1 ∷ 0 ∷ []) ≡ refuse_at 5 5))
    -- 1 7 2 0 0 1 0: an accepted chart, since 02, U4; moved, it is 4 2 3 7 0 2 0 0 1 0, which reads to that
    × ((move_up (1 ∷ 7 ∷ 2 ∷ 0 ∷ 0 ∷ 1 ∷ 0 ∷ []) ≡ moved_to (held 1))
    × (read_tables (held 1) ≡ record { answer = accepted 1; labels = set (replicate 64 0) 0 7; edges = set (replicate 4096 0) 0 1 }))
    -- 7 against 9, list 7 0 9 0: 0 is good, 3 steps, fence 2
    × ((list_outcome (listing (7 ∷ 0 ∷ 9 ∷ 0 ∷ [])) (0 ∷ []) ≡ outcome.accepted 1) × Ends (listing (7 ∷ 0 ∷ 9 ∷ 0 ∷ [])) 0 3 (some (0 ∷ [])) 2)
    -- 7 against 9, list 9 0 7 0: 21 at row 0, and 255, 2 steps, fence 1: a pair is read old then new
    × ((list_outcome (listing (9 ∷ 0 ∷ 7 ∷ 0 ∷ [])) (0 ∷ []) ≡ outcome.refused_row 21 0) × Ends (listing (9 ∷ 0 ∷ 7 ∷ 0 ∷ [])) 0 2 (some (255 ∷ [])) 1)
    -- 7 against 9, list 7 0 8 0 8 0 9 0: the same, since pairs make no chain
    × ((list_outcome (listing (7 ∷ 0 ∷ 8 ∷ 0 ∷ 8 ∷ 0 ∷ 9 ∷ 0 ∷ [])) (0 ∷ []) ≡ outcome.refused_row 21 0) × Ends (listing (7 ∷ 0 ∷ 8 ∷ 0 ∷ 8 ∷ 0 ∷ 9 ∷ 0 ∷ [])) 0 2 (some (255 ∷ [])) 1)
    -- 7 linked with itself against 7 unlinked, floor 1: none, 1 step, fence 1; floor 0: 255, 2 steps, fence 1
    × (Ends (between (held 1) one) 1 1 none 1 × Ends (between (held 1) one) 0 2 (some (255 ∷ [])) 1)
    -- 7 7, all linked by 5, against 7 linked with itself by 5, floor 0: 0 255, 4 steps, fence 2; a part used on the path is no candidate, whatever links it has
    × Ends (between all_fives (held 5)) 0 4 (some (0 ∷ 255 ∷ [])) 2
unfolding reading reading_edition read_file opens read_at read_from judge moving edition_bytes row_bytes all_below some_below sum_below run_below first_below listed agree substitutes_answer row_fault list_outcome allowed consistent mapped_from candidate candidates upper_bound choices children choices_after later_siblings open_nodes visit_path visit after top_bound ceiling checkpoint_of
marked_examples = (
  ends pair pair_sound 1 6 (some (1 ∷ 0 ∷ 255 ∷ [])) 3 refl refl,
  (ap (incumbent_in pair) (checkpoint_at false pair pair_sound 1 3 (lit< tt) _ refl), answers false pair pair_sound 1 3 (lit< tt) 3 refl),
  (
    ap (incumbent_in pair) (checkpoint_at false pair pair_sound 1 4 (lit< tt) _ refl),
    refl,
    ap (λ (c : Checkpoint). c.finished) (checkpoint_at false pair pair_sound 1 4 (lit< tt) _ refl),
    answers false pair pair_sound 1 4 (lit< tt) 3 refl,
  ),
  answers false pair pair_sound 1 0 (lit< tt) 4 refl,
  ends pair pair_sound 3 3 none 3 refl refl,
  ends pair pair_sound 255 1 none 255 refl refl,
  ends (between empty empty) empty_sound 0 1 (some []) 1 refl refl,
  ends (between empty empty) empty_sound 1 1 none 1 refl refl,
  ends (between one two) one_sound 0 4 (some (0 ∷ [])) 2 refl refl,
  ends (between linked unlinked) linked_sound 0 4 (some (0 ∷ 255 ∷ [])) 2 refl refl,
  (refl, refl),
  (refl, refl),
  (refl, refl),
  (refl, refl),
  (refl, refl),
  (refl, ends (listing (7 ∷ 0 ∷ 9 ∷ 0 ∷ [])) (listing_sound (7 ∷ 0 ∷ 9 ∷ 0 ∷ []) refl) 0 3 (some (0 ∷ [])) 2 refl refl),
  (refl, ends (listing (9 ∷ 0 ∷ 7 ∷ 0 ∷ [])) (listing_sound (9 ∷ 0 ∷ 7 ∷ 0 ∷ []) refl) 0 2 (some (255 ∷ [])) 1 refl refl),
  (refl, ends (listing (7 ∷ 0 ∷ 8 ∷ 0 ∷ 8 ∷ 0 ∷ 9 ∷ 0 ∷ [])) (listing_sound (7 ∷ 0 ∷ 8 ∷ 0 ∷ 8 ∷ 0 ∷ 9 ∷ 0 ∷ []) refl) 0 2 (some (255 ∷ [])) 1 refl refl),
  (ends (between (held 1) one) held_sound 1 1 none 1 refl refl, ends (between (held 1) one) held_sound 0 2 (some (255 ∷ [])) 1 refl refl),
  ends (between all_fives (held 5)) fives_sound 0 4 (some (0 ∷ 255 ∷ [])) 2 refl refl,
)

-- ---- both searches

-- C: three parts of kind 7, the first two linked by 1, against itself
abbrev C : Problem
C = between loose loose

-- the nodes that the connected search visits
abbrev visited : List ℕ → List (List ℕ)
visited ks = map (λ k. (after (search_of true C) 0 k).path) ks

-- the checkpoint that the first search leaves after 4 visits, and the connected one after 5
abbrev first_left : Checkpoint
first_left = checkpoint_of 0 (after (search_of false C) 0 4)

abbrev connected_left : Checkpoint
connected_left = checkpoint_of 0 (after (search_of true C) 0 5)

-- in a sound problem the test of the shape decides
shaped : (connected : Bool) (P : Problem) → SoundProblem P → (c : Checkpoint) (b : Bool) → in_shape connected P c ≡ b
    → checkpoint_answer connected P c ≡ cond b passed (refused 14)
unfolding checkpoint_answer
shaped connected P sound c b e = rw (problem_passes P sound, e)

-- 02, U7, on C: the two searches, and what each makes of the other's checkpoint.
pub connected_examples :
    -- floor 0, the first search: 0 1 2, 9 steps, fence 4
    EndsOf false C 0 9 (some (0 ∷ 1 ∷ 2 ∷ [])) 4
    -- the connected one: 0 1 255, 13 steps, fence 3
    × EndsOf true C 0 13 (some (0 ∷ 1 ∷ 255 ∷ [])) 3
    -- its visits: 0 1 2 is one of them, and not held
    × (visited (0 ∷ 1 ∷ 2 ∷ 3 ∷ 4 ∷ 5 ∷ 6 ∷ 7 ∷ 8 ∷ 9 ∷ 10 ∷ 11 ∷ 12 ∷ [])
    ≡ [] ∷ (0 ∷ []) ∷ (0 ∷ 1 ∷ []) ∷ (0 ∷ 1 ∷ 2 ∷ []) ∷ (0 ∷ 1 ∷ 255 ∷ []) ∷ (0 ∷ 255 ∷ []) ∷ (1 ∷ []) ∷ (1 ∷ 0 ∷ []) ∷ (1 ∷ 0 ∷ 2 ∷ []) ∷ (1 ∷ 0 ∷ 255 ∷ []) ∷ (1 ∷ 255 ∷ []) ∷ (2 ∷ []) ∷ (255 ∷ []) ∷ [])
    -- after 4 visits nothing is held, fence 4
    × ((incumbent_in C (call_of true C 0 4).checkpoint ≡ none) × ((call_of true C 0 4).answer ≡ accepted 4))
    -- floor 3: none, 13 steps, fence 3
    × EndsOf true C 3 13 none 3
    -- what the first search left holds 0 1 2: in shape for it, and 14 for the connected one
    × ((checkpoint_answer false C first_left ≡ passed) × (checkpoint_answer true C first_left ≡ refused 14))
    -- what the connected one left is in shape for the first search, which walks it by its own rule to 1 0 2, 13 steps, fence 4: not what it finds from its own start
    × ((checkpoint_answer false C connected_left ≡ passed)
    × (visits (search_of false C) 0 100 (after (search_of true C) 0 5) ≡ record { steps = 13; path = []; finished = true; incumbent = some (1 ∷ 0 ∷ 2 ∷ []) })
    × (ceiling (rules_of C) 0 (visits (search_of false C) 0 100 (after (search_of true C) 0 5)) ≡ 4))
unfolding reading reading_edition read_file opens read_at read_from judge all_below some_below sum_below run_below first_below listed agree row_fault list_outcome allowed consistent mapped_from candidate candidates upper_bound choices children choices_after later_siblings open_nodes visit_path visit after top_bound ceiling checkpoint_of in_shape member set_of count_below least_below spreads connected_set visits
connected_examples = (
  ends_of false C loose_sound 0 9 (some (0 ∷ 1 ∷ 2 ∷ [])) 4 refl refl,
  ends_of true C loose_sound 0 13 (some (0 ∷ 1 ∷ 255 ∷ [])) 3 refl refl,
  refl,
  (ap (incumbent_in C) (checkpoint_at true C loose_sound 0 4 (lit< tt) _ refl), answers true C loose_sound 0 4 (lit< tt) 4 refl),
  ends_of true C loose_sound 3 13 none 3 refl refl,
  (shaped false C loose_sound first_left true refl, shaped true C loose_sound first_left false refl),
  (shaped false C loose_sound connected_left true refl, refl, refl),
)
