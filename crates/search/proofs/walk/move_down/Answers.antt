use mathlib.Core.Path.{◌∙◌}
use native.Mathlib.Omega.{arith}
use Rattle.search.proofs.MovedPath.{moved_more}
use Rattle.search.proofs.walk.move_down.Goals as goal
use Rattle.search.proofs.walk.move_down.Goals.{else-numbers-i, then-numbers-i}

pub loop-i-preserved : goal.loop-i-preserved
loop-i-preserved c =
    let l = c.loop-i in
    let number = c.requires.0.number l.i (omega arith) in
    moved_more (omega arith) l.invariant
    (λ same.
    elim c.if-numbers-i.branch [
      | then-numbers-i w ↦ record { front = λ h. absurd (omega (arith, w.if-numbers-i.true)); own = λ h. w.path-is; rest = λ h. absurd (omega (arith, w.if-numbers-i.true)) }
      | else-numbers-i w ↦ record {
        front = λ h. w.path-is ∙ same;
        own = λ h. absurd (w.if-numbers-i.false (number ∙ h));
        rest = λ h. w.path-is ∙ same ∙ c.requires.2 l.i (omega arith) (omega arith);
      }
    ])
