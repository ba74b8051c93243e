-- `mapping::rows::size` meets its contract: the entries that are not 255 are counted (`size_counts`). Assumes nothing.
use borrow.Author.Rules.{rules}
use Rattle.mapping.proofs.Size.{size_counts}
use Rattle.mapping.proofs.rows.size.Goals as goal

pub returns : goal.returns
returns c = search (rules, size_counts)
