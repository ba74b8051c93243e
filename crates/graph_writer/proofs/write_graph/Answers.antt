-- `graph_writer::write_graph` meets its contract: what `check` answers is what `soundness` computes to.
-- Assumes nothing.
use mathlib.Core.Path.{◌≡◌, refl, sym, ◌∙◌}
use Rattle.std.specs.Prelude.{Option, Some, None, List, ℕ}
use Rattle.std.specs.Option.{ok_or}
use Rattle.std.proofs.lemmas.Result.{err_from_is_err_and}
use Rattle.graph.proofs.SoundTests.{passes_sound}
use Rattle.graph_writer.specs.declared.WriteError.TheVariants.{TooShort}
use Rattle.graph_writer.specs.Writing.{writing_of, filled_of}
use Rattle.graph_writer.proofs.Written.{passed_writing, refused_writing}
use Rattle.graph_writer.proofs.write_graph.Goals as goal

pub returns-in_err-check : goal.returns-in_err-check
returns-in_err-check c =
    let p = err_from_is_err_and c.from_residual.result c.from_residual.ensures.1 in
    rw (p.1, p.2) (sym (refused_writing _ _ _ (sym c.in_err-check.ensures)))

pub write_sound-requires : goal.write_sound-requires
write_sound-requires c =
    let sound = passes_sound _ (sym c.in_ok-check.ensures) in
    (sound.labels_length, sound.edges_length, sound.order_max, λ v h. (sound.labelled v h).1)

-- what no room becomes
roomless : (o : Option ℕ) (buffer : List ℕ) → writing_of (ok_or o TooShort) buffer ≡ filled_of o buffer
roomless (Some n) buffer = refl
roomless None buffer = refl

pub returns : goal.returns
returns c =
    rw c.ok_or.ensures.value (roomless _ _ ∙ c.write_sound.ensures ∙ sym (passed_writing _ _ (sym c.in_ok-check.ensures)))
