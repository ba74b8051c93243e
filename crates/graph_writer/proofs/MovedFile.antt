-- One call of the mover on plain values: what the reader's answer and both tables make of the move.
use mathlib.Core.Path.{◌≡◌, refl, sym, ap, subst}
use mathlib.Core.List.{List}
use Prim.Native.Nat.{ℕ, ◌≤◌}
use lib.ListN.{length, get_or}
use borrow.Author.Tests.{eq-eqb}
use Rattle.answers.specs.Answer.{Answer, accepted, refused, refused_at}
use Rattle.answers.specs.Output.{Writing, fill}
use Rattle.graph.specs.Graph.{graph}
use Rattle.graph_reader.specs.declared.Edition.{Edition}
use Rattle.graph_reader.specs.Reading.{Reading, read_file, reading_edition}
use Rattle.graph_reader.proofs.ReadSound.{Fitting, file_fitting}
use Rattle.graph_reader.proofs.RefusalNumbers.{Told, file_told}
use Rattle.graph_writer.specs.Writing.{edition_bytes}
use Rattle.graph_writer.specs.Moving.{move_read, moving}

-- what is read into tables of the right lengths is what the file reads to
pub reads_file : (from to : Edition) (labels edges bytes : List ℕ) → length labels ≡ 64 → length edges ≡ 4096
    → reading_edition from to labels edges bytes ≡ read_file from to bytes
unfolding reading_edition
reads_file from to labels edges bytes l e = simp (eq-eqb (length labels) 64 l, eq-eqb (length edges) 4096 e)

module _ (from to : Edition) (bytes labels edges : List ℕ) where
  -- the answer and both tables that the reader left
  abbrev left : Answer → Reading
  left answer = record { answer = answer; labels = labels; edges = edges }

  -- An accepted file holds a graph that the writer may write.
  pub read_fitting : (n : ℕ) → left (accepted n) ≡ read_file from to bytes → ((i : ℕ) → get_or bytes i 0 ≤ 255) → Fitting from to (graph n labels edges)
  read_fitting n e small =
      subst (λ (r : Reading). (k : ℕ) → r.answer ≡ accepted k → Fitting from to (graph k r.labels r.edges)) (sym e) (file_fitting from to bytes small) n refl

  -- It is moved as it is written.
  pub moved_accepted : (n : ℕ) (buffer : List ℕ) → left (accepted n) ≡ read_file from to bytes
      → moving from to bytes buffer ≡ fill (edition_bytes to (graph n labels edges)) buffer
  unfolding moving
  moved_accepted n buffer e = ap (λ (r : Reading). move_read to r buffer) (sym e)

  -- A refused one is refused by the same number at the same place, and the buffer stays as it was.
  pub moved_refused : (number at : ℕ) (buffer : List ℕ) → left (refused_at number at) ≡ read_file from to bytes
      → ◌≡◌ {A = Writing} (record { answer = refused_at number at; buffer = buffer }) (moving from to bytes buffer)
  unfolding moving
  moved_refused number at buffer e = ap (λ (r : Reading). move_read to r buffer) e

  -- There is no refusal without a place.
  pub never_placeless : (number : ℕ) → left (refused number) ≡ read_file from to bytes → ⊥
  never_placeless number e = subst (λ (r : Reading). Told r.answer) (sym e) (file_told from to bytes)
