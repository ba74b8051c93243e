-- The rules of a problem before 02, U4: 01, "The walk", by which a row may take every value whose label agrees.
use Rattle.problem.specs.Problem.{Problem, consistent}
use Rattle.problem.specs.OwnEdges.{allowed_by_label}
use Rattle.search_tree.specs.Rules.{Rules}

abbrev pub rules_by_label : Problem → Rules
rules_by_label P =
    record {
      rows = P.old.order;
      values = P.new.order;
      allowed = allowed_by_label P;
      consistent = consistent P;
    }
