-- `bitset::size` meets its contract: the size of a word is its number of ones. Assumes nothing.
use borrow.Author.Rules.{rules}
use mathlib.Core.Path.{sym}
use Rattle.bitset.proofs.Ones.{size_ones}
use Rattle.bitset.proofs.size.Goals as goal

pub returns : goal.returns
returns c = sym (size_ones (search rules))
