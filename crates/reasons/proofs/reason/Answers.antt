-- `reasons::reason` meets its contract: a text with room is put whole, at the front. Assumes nothing.
use borrow.Author.Rules.{rules}
use mathlib.Core.Path.{ap, ap₂, ◌∙◌}
use borrow.Author.Tests.{le-leb}
use lib.ListN.{length}
use Rattle.std.specs.Prelude.{Ok}
use Rattle.text.proofs.PutTexts.{put_front, writes_front}
use Rattle.reasons.specs.Answers.{writing_of}
use Rattle.reasons.proofs.reason.Goals as goal

pub returns : goal.returns
returns c =
    let text = c.as_bytes-text.result.now in
    let begun = c.new-writer in
    let whole =
    put_front (writes_front c.put.ensures begun.ensures.front begun.ensures.unchanged c.written.ensures) c.if-out-text.false in
    let told = c.as_bytes-text.ensures.value ∙ c.text.ensures in
    rw (← told)
    (simp (le-leb (length text) (length c.args.out.now) c.if-out-text.false) (ap₂ writing_of (ap Ok whole.0) (search rules ∙ whole.1)))
