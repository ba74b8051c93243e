-- What a writer puts into the buffer that it holds: the text follows what was put before, and the buffer stays the one that was lent (01, "The refit program").
use Rattle.std.specs.Prelude.{◌≡◌, List, ℕ}
use Rattle.text.specs.declared.Writer.{Writer}
use Rattle.text.specs.Put.{Put}

pub record Writes (text : List ℕ) (before after : Writer) : Type 0 where
  pub same_buffer : after.out.ghost_name ≡ before.out.ghost_name
  pub text_put : Put text before.out.now before.at after.at after.out.now
