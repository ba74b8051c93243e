-- `clique::candidates::Allowed::branch` meets its contract: it is the first row, with nothing held. Assumes nothing.
use mathlib.Core.Option.{none}
use mathlib.Core.Path.{refl, ap, ◌∙◌}
use mathlib.Core.List.{[]}
use Prim.Native.Nat.{ℕ, ◌*◌}
use native.Mathlib.Nat.{sub-zero}
use Rattle.clique.specs.Branching.{branch_row}
use Rattle.clique.specs.LentRules.{lent_rules}
use Rattle.clique.specs.Carried.{incumbent_as}
use Rattle.clique.proofs.Carried.{decided_none}
use borrow.Author.Rules.{rules}
use Rattle.clique.proofs.candidates.Allowed.branch.Goals as goal

pub branch_row-requires : goal.branch_row-requires
branch_row-requires c = search (rules, decided_none)

pub returns : goal.returns
returns c =
    let a = c.args in
    c.branch_row.ensures a.minimum none refl
    ∙ ap (λ (n : ℕ). incumbent_as a.minimum (branch_row (lent_rules a.self.now.problem a.self.now.sets.now) a.minimum (2 * n) [] none)) (sub-zero _)
