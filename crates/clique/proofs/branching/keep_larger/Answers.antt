-- `clique::branching::keep_larger` meets its contract (`Carried`).
-- Assumes nothing.
use native.Mathlib.Omega.{arith}
use lib.ListN.{take}
use Rattle.clique.proofs.Carried.{decided_padded, decided_pairs, few_pairs, enough_pairs}
use Rattle.clique.proofs.branching.keep_larger.Goals as goal

pub returns-then-pairs-held : goal.returns-then-pairs-held
returns-then-pairs-held c minimum incumbent e =
    few_pairs minimum incumbent (take c.args.order c.args.path) c.requires.1.counted e c.if-pairs-held.true

pub overflow_add-result : goal.overflow_add-result
overflow_add-result c =
    omega (arith, c.requires.0, decided_pairs c.args.path c.args.order c.args.pairs (omega arith) c.requires.1 c.requires.0)

pub returns : goal.returns
returns c minimum incumbent e =
    enough_pairs minimum incumbent (take c.args.order c.args.path) c.requires.1.counted e c.if-pairs-held.false
    (decided_padded c.args.path c.args.order c.args.pairs (omega arith) c.requires.1 c.requires.0)
