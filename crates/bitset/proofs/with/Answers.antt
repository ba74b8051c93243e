-- `bitset::with` meets its contract: a word with i added is its `|` with 2 ^ i, and from 64 on the word itself. Assumes nothing.
use borrow.Author.Rules.{rules}
use mathlib.Core.Path.{sym}
use native.Mathlib.Nat.{one-mul, mod-eq_of_lt}
use lib.Pow.{pow-lt}
use Rattle.bitset.proofs.SetOf.{insert_or, insert_above}
use Rattle.bitset.proofs.with.Goals as goal

pub returns-then-i-lt64 : goal.returns-then-i-lt64
returns-then-i-lt64 c =
    simp (one-mul, mod-eq_of_lt (pow-lt c.if-i-lt64.true)) (sym (insert_or (search rules) c.if-i-lt64.true))

pub returns-else-i-lt64 : goal.returns-else-i-lt64
returns-else-i-lt64 c = sym (insert_above (search rules) c.if-i-lt64.false)
