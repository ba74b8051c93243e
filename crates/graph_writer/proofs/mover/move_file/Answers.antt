-- `graph_writer::mover::move_file` meets its contract: what the reader answers is what the move makes of it (`MovedFile`).
-- Assumes nothing.
use mathlib.Core.Path.{◌≡◌, refl, sym, ap, ◌∙◌}
use native.Mathlib.Omega.{arith}
use Rattle.std.specs.Prelude.{Option, Some, None, Result, Err, List, ℕ}
use Rattle.std.specs.Option.{ok_or}
use Rattle.graph_reader.specs.declared.ReadError.{ReadError}
use Rattle.graph_reader.specs.Reading.{reading_of, read_file}
use Rattle.graph_writer.specs.declared.MoveError.TheVariants.{TooShort}
use Rattle.graph_writer.specs.Moving.{moving_of}
use Rattle.graph_writer.specs.Writing.{filled_of}
use Rattle.graph_writer.proofs.MovedFile.{reads_file, read_fitting, moved_accepted, moved_refused, never_placeless}
use Rattle.graph_writer.proofs.mover.move_file.Goals as goal
use Rattle.graph_writer.proofs.mover.move_file.Goals.{After-read_edition}

-- what the file reads to, by what the reader found
left_by : (c : After-read_edition) (found : Result ℕ ReadError) → c.read_edition.result ≡ found
    → let a = c.args in reading_of found c.read_edition.new.labels c.read_edition.new.edges ≡ read_file a.from a.to a.bytes.now
left_by c found e =
    ap (λ (r : Result ℕ ReadError). reading_of r c.read_edition.new.labels c.read_edition.new.edges) (sym e) ∙ c.read_edition.ensures ∙ reads_file _ _ _ _ _ refl refl

pub write_sound-requires : goal.write_sound-requires
write_sound-requires c =
    let fit = read_fitting _ _ _ _ _ _ (left_by (goal.at.write_sound-requires c).After-read_edition _ c.in-Ok.is) (λ i. omega (arith, c.type_inv.bytes i)) in
    (fit.sound.labels_length, fit.sound.edges_length, fit.sound.order_max, fit.to_fits)

pub unreachable-requires : goal.unreachable-requires
unreachable-requires c =
    never_placeless _ _ _ _ _ _ (left_by (goal.at.unreachable-requires c).After-read_edition _ (c.in-Err-Tables.is ∙ ap Err c.in-Err-Tables.field-0-is))

-- what no room becomes
roomless : (o : Option ℕ) (buffer : List ℕ) → moving_of (ok_or o TooShort) buffer ≡ filled_of o buffer
roomless (Some n) buffer = refl
roomless None buffer = refl

pub returns-in-Ok : goal.returns-in-Ok
returns-in-Ok c =
    rw c.ok_or.ensures.value
    (roomless _ _ ∙ c.write_sound.ensures
    ∙ sym (moved_accepted _ _ _ _ _ _ _ (left_by (goal.at.returns-in-Ok c).After-read_edition _ c.in-Ok.is)))

pub returns-in-Err-Faulty : goal.returns-in-Err-Faulty
returns-in-Err-Faulty c =
    rw c.in-Err-Faulty.field-0-is (moved_refused _ _ _ _ _ _ _ _ (left_by (goal.at.returns-in-Err-Faulty c).After-read_edition _ (c.in-Err-Faulty.is ∙ ap Err c.in-Err-Faulty.field-0-is)))
