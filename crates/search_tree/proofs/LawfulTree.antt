-- The walk's tree is lawful: its bound, its weight and its order are what branch and bound asks of a tree.
use Rattle.branch_bound.specs.Tree.{Lawful}
use Rattle.mapping.specs.Order.{Before}
use Rattle.search_tree.specs.Rules.{Regular}
use Rattle.search_tree.specs.Search.{Search}
use Rattle.search_tree.specs.Trees.{tree}
use Rattle.search_tree.proofs.Weight.{weight, weight_one, weight_falls}
use Rattle.search_tree.proofs.BoundFalls.{bound_last, bound_falls}
use Rattle.search_tree.proofs.SiblingOrder.{siblings_in_order}

-- The tree of regular rules is lawful, with the step limit for its weight and the order of mappings.
pub lawful : (S : Search) → Regular S.rules → Lawful (tree S) (weight S.rules) Before
lawful S regular =
    record {
      weight_one = weight_one S.rules;
      weight_falls = weight_falls S regular;
      bound_last = bound_last S.rules;
      bound_falls = bound_falls S.rules;
      siblings = siblings_in_order S regular;
    }
