-- Graph bytes that are read give an order, or are refused by one of 01's numbers.
use mathlib.Core.Path.{subst}
use mathlib.Core.Logic.{◌≢◌}
use mathlib.Core.Bool.{◌&&◌}
use mathlib.Core.List.{List}
use Prim.Native.Nat.{ℕ, zero, suc, ◌+◌, max}
use native.Mathlib.Omega.{arith}
use lib.Dec.{leb, eqb}
use lib.ListN.{length, drop}
use Rattle.answers.specs.Answer.{Answer, passed, accepted, refused, refused_at, when_passed, refusal_number}
use Rattle.answers.proofs.Choice.{either}
use Rattle.answers.proofs.RefusalNumbers.{RefusalNumber, Valued}
use Rattle.graph.specs.Graph.{Graph, edge, empty_graph}
use Rattle.graph_reader.specs.declared.Edition.{Edition}
use Rattle.graph_reader.specs.declared.Edition.TheVariants.{Two}
use Rattle.graph_reader.specs.declared.commands.Command.{Command}
use Rattle.graph_reader.specs.declared.commands.Command.TheVariants.{Vertex, Edge, End, Truncated, Unknown}
use Rattle.graph_reader.specs.Commands.{decode, width}
use Rattle.graph_reader.specs.Editions.{opening_width, greatest_label}
use Rattle.graph_reader.specs.Reading.{Verdict, grows, ends, faulty, judge, Reading, refuse, read_from, read_at, read_file, reading_edition, reading}
use Rattle.graph_reader.proofs.Openings.{opens_cases}
use Rattle.graph_reader.proofs.ReadSound.{on_verdict_cases}

abbrev FaultNumber : Verdict → Type 0
FaultNumber (grows g) = Unit {0}
FaultNumber ends = Unit {0}
FaultNumber (faulty number) = RefusalNumber number

judge_number : (to : Edition) (g : Graph) (c : Command) → FaultNumber (judge to g c)
unfolding judge
judge_number to g Truncated = omega arith
judge_number to g Unknown = omega arith
judge_number to g (Vertex x) =
    either FaultNumber (eqb x 0) (omega arith)
    (either FaultNumber (leb 64 g.order) (omega arith) (either FaultNumber (leb x (greatest_label to)) tt (omega arith)))
judge_number to g (Edge a b x) =
    either FaultNumber (leb g.order (max a b)) (omega arith)
    (either FaultNumber (eqb x 0) (omega arith) (either FaultNumber (eqb (edge g a b) 0) tt (omega arith)))
judge_number to g End = tt

-- an answer that accepts with a value, or refuses by such a number with a place
abbrev pub Told : Answer → Type 0
Told passed = ⊥
Told (accepted n) = Unit {0}
Told (refused number) = ⊥
Told (refused_at number at) = RefusalNumber number

told_valued : (a : Answer) → Told a → Valued a
told_valued passed t = t
told_valued (accepted n) t = tt
told_valued (refused number) t = absurd t
told_valued (refused_at number at) t = t

abbrev ReadTold : Reading → Type 0
ReadTold r = Told r.answer

abbrev ReadValued : Reading → Type 0
ReadValued r = Valued r.answer

module _ (from to : Edition) where
  read_from_told : (fuel : ℕ) (g : Graph) (at : ℕ) (rest : List ℕ) → ReadTold (read_from from to fuel g at rest)
  unfolding read_from
  read_from_told zero g at rest = omega arith
  read_from_told (suc fuel) g at rest =
      on_verdict_cases ReadTold _ _ _ (judge to g (decode from rest))
      (λ g' e. read_from_told fuel g' (at + width from (decode from rest)) (drop (width from (decode from rest)) rest))
      (either ReadTold (eqb (length (drop 1 rest)) 0) tt (omega arith))
      (λ number e. subst FaultNumber e (judge_number to g (decode from rest)))

  -- Reading a file gives an order, or refuses by such a number with a place.
  pub file_told : (bytes : List ℕ) → Told (read_file from to bytes).answer
  unfolding read_file read_at
  file_told bytes =
      opens_cases (λ (a : Answer). ReadTold (when_passed a (read_at from to empty_graph (opening_width from) (drop (opening_width from) bytes)) refuse))
      from bytes (read_from_told _ empty_graph (opening_width from) (drop (opening_width from) bytes)) (omega arith) (omega arith)

-- Reading gives an order, or refuses by such a number.
pub reading_valued : (labels edges bytes : List ℕ) → Valued (reading labels edges bytes).answer
unfolding reading reading_edition
reading_valued labels edges bytes =
    either ReadValued (eqb (length labels) 64 && eqb (length edges) 4096) (told_valued (read_file Two Two bytes).answer (file_told Two Two bytes)) (omega arith)

-- "Number 6 never occurs now" (02, U4).
pub never_6 : (labels edges bytes : List ℕ) → refusal_number (reading labels edges bytes).answer ≢ 6
never_6 labels edges bytes = go (reading labels edges bytes).answer (reading_valued labels edges bytes)
  where
    go : (a : Answer) → Valued a → refusal_number a ≢ 6
    go passed v e = elim v [ ]
    go (accepted n) v e = omega (arith, e)
    go (refused number) v e = omega (arith, v.3, e)
    go (refused_at number at) v e = omega (arith, v.3, e)
