use mathlib.Core.Path.{refl, sym, ◌∙◌}
use native.Mathlib.Omega.{arith}
use lib.ListN.{length-set}
use borrow.Author.Rules.{rules}
use Rattle.search.proofs.RootTurn.{root_none, root_more, root_skip, root_all}
use Rattle.search.proofs.words.root_words.Goals as goal
use Rattle.search.proofs.words.root_words.Goals.{then-not-is_empty, else-not-is_empty}

pub loop-r-init : goal.loop-r-init
loop-r-init c = (search rules, refl, λ P e s. root_none P c.args.workspace.now)

pub loop-r-preserved : goal.loop-r-preserved
loop-r-preserved c =
    let l = c.loop-r in
    let ws = c.args.workspace.now in
    let tested = c.is_empty.ensures in (
      omega arith,
      simp length-set l.invariant.1,
      λ P e s. elim c.if-not-is_empty.branch [
        | then-not-is_empty w ↦ rw (w.rows-is, w.with-rows.ensures)
            (root_more P ws (l.invariant.2 P e s) (omega arith) (omega arith) (s.word l.r (omega arith)) (sym tested ∙ w.if-not-is_empty.true))
        | else-not-is_empty w ↦ rw w.rows-is
            (root_skip P ws (l.invariant.2 P e s) (omega arith) (omega arith) (s.word l.r (omega arith)) (sym tested ∙ w.if-not-is_empty.false))
      ],
    )

pub returns : goal.returns
returns c P e s =
    let l = c.loop-r in
    root_all P c.args.workspace.now (omega arith) (omega arith) (omega arith) (l.invariant.2 P e s)
