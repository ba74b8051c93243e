-- `little_endian::join` meets its contract: each product and sum is the number of the bytes from one on, which as many bytes hold.
-- Assumes nothing.
use native.Mathlib.Omega.{arith}
use borrow.Author.Rules.{rules}
use Rattle.little_endian.proofs.LittleEndian.{eight_bytes}
use Rattle.little_endian.proofs.join.Goals as goal

pub returns : goal.returns
returns c = omega (arith, eight_bytes c.args.bytes (search rules))
