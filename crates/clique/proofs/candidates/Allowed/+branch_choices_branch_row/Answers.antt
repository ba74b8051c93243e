-- The proof of the cycle of calls {branch_choices, branch_row}, over the measures of `Invariants`. Assumes nothing.
use mathlib.Core.Path.{◌≡◌, sym, ap, ◌∙◌}
use Prim.Native.Nat.{ℕ, ◌<◌}
use native.Mathlib.Omega.{arith}
use Rattle.bitset.specs.Count.{size}
use Rattle.bitset.specs.Members.{member}
use Rattle.bitset.specs.Least.{least_member}
use Rattle.std.specs.Prelude.{Some}
use Rattle.bitset.proofs.CountBelow.{count_below_le}
use Rattle.bitset.proofs.WithoutLeast.{size_without_least}
use Rattle.bitset.proofs.LeastBelow.{least_below_member}
use Rattle.clique.specs.LentRules.{lent_rules}
use Rattle.clique.specs.Carried.{incumbent_as}
use Rattle.clique.proofs.LentCandidates.{lent_candidates}
use Rattle.clique.proofs.Carried.{decided_left_out, decided_mapped, decided_pairs}
use Rattle.clique.proofs.Routines.{row_decided, row_open, no_candidate, least_candidate}
use Rattle.clique.proofs.candidates.Allowed.+branch_choices_branch_row.Goals as goal

-- a member of the word is a place of the tables
place : (s : ℕ) {v : ℕ} → Some v ≡ least_member s → v < 64
place s e = (least_below_member 64 (member s) (sym e)).below

pub branch_choices-branch_row-requires : goal.branch_choices-branch_row-requires
branch_choices-branch_row-requires t c =
    let p = c.requires in
    let next = decided_left_out c.args.path c.args.depth c.args.pairs (omega arith) p.1 (omega (arith, c.args.self.now.small.old_max, p.0)) in
    (omega (arith, c.decreases), (omega (arith, p.0), next))

pub branch_choices-overflow_cast-next : goal.branch_choices-overflow_cast-next
branch_choices-overflow_cast-next t c = omega (arith, place c.args.candidates c.in-Some.ensures)

pub branch_choices-overflow_add-pairs : goal.branch_choices-overflow_add-pairs
branch_choices-overflow_add-pairs t c =
    let p = c.requires in
    omega (
      arith,
      c.args.self.now.small.old_max,
      p.0,
      decided_pairs c.args.path c.args.depth c.args.pairs (omega arith) p.1 (omega (arith, c.args.self.now.small.old_max, p.0)),
    )

pub branch_choices-branch_row-better-requires : goal.branch_choices-branch_row-better-requires
branch_choices-branch_row-better-requires t c =
    let p = c.requires in
    let next = decided_mapped c.args.path c.args.depth c.args.pairs (omega arith) p.1 (omega (arith, c.args.self.now.small.old_max, p.0)) c.in-Some.vertex
    (place c.args.candidates c.in-Some.ensures) in
    (omega (arith, c.decreases), (omega (arith, p.0), next))

pub branch_choices-branch_choices-requires : goal.branch_choices-branch_choices-requires
branch_choices-branch_choices-requires t c = (
  omega (
    arith,
    c.decreases,
    ap size c.without_least-rest.ensures,
    size_without_least c.args.candidates c.in-Some.vertex (sym c.in-Some.ensures),
  ),
  c.requires,
)

pub branch_choices-returns-in-None : goal.branch_choices-returns-in-None
branch_choices-returns-in-None t c minimum incumbent e =
    let R = lent_rules c.args.self.now.problem c.args.self.now.sets.now in
    c.branch_row.ensures minimum incumbent e
    ∙ ap (incumbent_as minimum)
    (no_candidate R minimum c.args.path c.args.depth incumbent (omega (arith, c.args.self.now.small.old_max, c.requires.0)) _ c.args.candidates (sym c.in-None.ensures))

pub branch_choices-returns-in-Some : goal.branch_choices-returns-in-Some
branch_choices-returns-in-Some t c minimum incumbent e =
    let R = lent_rules c.args.self.now.problem c.args.self.now.sets.now in
    c.branch_choices.ensures minimum _ (c.branch_row-better.ensures minimum incumbent e)
    ∙ ap (incumbent_as minimum)
    (least_candidate R minimum c.args.path c.args.depth incumbent (omega (arith, c.args.self.now.small.old_max, c.requires.0)) _ c.args.candidates
    c.in-Some.vertex (sym c.in-Some.ensures) c.without_least-rest.ensures)

pub branch_row-returns-then-depth-self : goal.branch_row-returns-then-depth-self
branch_row-returns-then-depth-self t c minimum incumbent e =
    let R = lent_rules c.args.self.now.problem c.args.self.now.sets.now in
    c.keep_larger.ensures minimum incumbent e
    ∙ ap (incumbent_as minimum) (row_decided R minimum c.args.path c.args.depth incumbent c.if-depth-self.true)

pub branch_row-branch_choices-requires : goal.branch_row-branch_choices-requires
branch_row-branch_choices-requires t c =
    let p = c.requires in (
      omega (arith, c.decreases, count_below_le 64 (member c.candidates-candidates.result)),
      (omega (arith, p.0, c.if-depth-self.false), p.1),
    )

pub branch_row-returns : goal.branch_row-returns
branch_row-returns t c minimum incumbent e =
    let R = lent_rules c.args.self.now.problem c.args.self.now.sets.now in
    let p = c.requires in
    c.branch_choices.ensures minimum incumbent e
    ∙ ap (incumbent_as minimum)
    (row_open R minimum c.args.path c.args.depth incumbent (omega (arith, c.args.self.now.small.old_max, p.0, c.if-depth-self.false))
    (omega (arith, p.0, c.if-depth-self.false)) c.args.self.now.small.new_max
    (c.candidates-candidates.ensures ∙ lent_candidates c.args.self.now.problem c.args.self.now.sets.now c.args.path c.args.depth c.args.self.now.small
    (omega (arith, p.0, c.if-depth-self.false)) (omega (arith, c.args.self.now.small.old_max, p.0))))
