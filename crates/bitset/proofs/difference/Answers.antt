-- `bitset::difference` meets its contract: a word less its `&` with another has the rest of its members. Assumes nothing.
use borrow.Author.Rules.{rules}
use mathlib.Core.Path.{sym}
use Rattle.bitset.proofs.SetOf.{difference_sub}
use Rattle.bitset.proofs.difference.Goals as goal

pub overflow_sub-result : goal.overflow_sub-result
overflow_sub-result c = (difference_sub {a = c.args.a} {b = c.args.b} (search rules) (search rules)).0

pub returns : goal.returns
returns c = sym (difference_sub (search rules) (search rules)).1
