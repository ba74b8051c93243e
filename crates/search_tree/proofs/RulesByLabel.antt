-- In sound graphs without edges of vertices with themselves the rules are those before 02, U4. Candidates, hope, the walk and its fence read a problem through its
-- rules alone, so all of them are as before.
use mathlib.Core.Path.{◌≡◌}
use Rattle.problem.specs.Problem.{Problem, SoundProblem, consistent}
use Rattle.problem.specs.OwnEdges.{WithoutOwnEdges}
use Rattle.problem.proofs.OwnEdges.{allowed_by_label_lem}
use Rattle.search_tree.specs.Rules.{rules_of}
use Rattle.search_tree.specs.RulesByLabel.{rules_by_label}

pub rules_by_label_lem : (P : Problem) → SoundProblem P → WithoutOwnEdges P → rules_of P ≡ rules_by_label P
rules_by_label_lem P s none = λ i. record {
  rows = P.old.order;
  values = P.new.order;
  allowed = λ v w. allowed_by_label_lem P s none v w i;
  consistent = consistent P;
}
