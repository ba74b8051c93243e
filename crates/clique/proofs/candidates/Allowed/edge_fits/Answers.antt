-- `clique::candidates::Allowed::edge_fits` meets its contract: at each return the tests that led there say what the definition computes to.
-- Assumes nothing.
use borrow.Author.Tests.{eq-eqb, ne_eqb}
use native.Mathlib.Omega.{arith}
use Rattle.clique.proofs.candidates.Allowed.edge_fits.Goals as goal

pub returns-then-entry-eq-UNMAPPED : goal.returns-then-entry-eq-UNMAPPED
returns-then-entry-eq-UNMAPPED c = simp (eq-eqb _ _ c.if-entry-eq-UNMAPPED.true)

pub bounds-new-new_from : goal.bounds-new-new_from
bounds-new-new_from c =
    omega (arith, c.requires.3 c.if-entry-eq-UNMAPPED.false)

pub returns : goal.returns
returns c = simp (ne_eqb _ _ c.if-entry-eq-UNMAPPED.false)
