use borrow.Author.Rules.{rules}
use mathlib.Core.Path.{sym, ◌∙◌}
use Rattle.bounded.proofs.AllBelow.{passed_none, passed_more, passed_all, false_all_below}
use Rattle.clique.proofs.candidates.Allowed.edges_fit.Goals as goal

pub loop-i-init : goal.loop-i-init
loop-i-init c = passed_none _ _

pub edge_fits-requires : goal.edge_fits-requires
edge_fits-requires c =
    search (rules, c.requires.2 c.loop-i.i c.loop-i-test.true)

pub returns-then-not-edge_fits : goal.returns-then-not-edge_fits
returns-then-not-edge_fits c =
    sym (false_all_below _ _ c.loop-i.i c.loop-i-test.true (sym c.edge_fits.ensures ∙ c.if-not-edge_fits.true))

pub loop-i-preserved : goal.loop-i-preserved
loop-i-preserved c =
    passed_more _ _ _ c.loop-i-test.true c.loop-i.invariant (sym c.edge_fits.ensures ∙ c.if-not-edge_fits.false)

pub returns : goal.returns
returns c = sym (passed_all _ _ _ c.loop-i-test.false c.loop-i.invariant)
