-- `bitset::union` meets its contract: the union of two words is their `|`. Assumes nothing.
use borrow.Author.Rules.{rules}
use mathlib.Core.Path.{sym}
use Rattle.bitset.proofs.SetOf.{union_of_or}
use Rattle.bitset.proofs.union.Goals as goal

pub returns : goal.returns
returns c = sym (union_of_or (search rules) (search rules))
