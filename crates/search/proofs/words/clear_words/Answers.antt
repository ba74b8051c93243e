use lib.Seq.{length-take-le}
use Rattle.search.proofs.words.clear_words.Goals as goal

pub returns : goal.returns
returns c = rw (c.fill.ensures.after (λ y e. e), length-take-le 4160 c.args.workspace.now c.requires)
