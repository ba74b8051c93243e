-- `checkpoint::Checkpoint::check` meets its contract: the check of two mappings tests the graphs, then the path and what is held (`ShapeByCheck`).
-- Assumes nothing.
use mathlib.Core.Path.{◌≡◌, refl, sym, ap, ◌∙◌}
use mathlib.Core.Bool.{Bool, true, cond, not, ◌&&◌, ◌||◌}
use native.Mathlib.Omega.{arith}
use lib.ListN.{length, take}
use lib.Seq.{length-take-le}
use borrow.Author.Rules.{rules}
use Rattle.std.proofs.lemmas.Result.{err_from_is_err_and}
use Rattle.answers.specs.Answer.{Answer, passed, refused}
use Rattle.problem.specs.Lent.{lent}
use Rattle.mapping.specs.Answers.{mappings_outcome}
use Rattle.search_tree.specs.Search.{admits_of}
use Rattle.checkpoint.specs.Checking.{checkpoint_answer}
use Rattle.checkpoint.proofs.FilledPath.{filled_length}
use Rattle.checkpoint.proofs.ShapeByCheck.{flawed_answer, checked_answer}
use Rattle.checkpoint.proofs.Checkpoint.check.Goals as goal
use Rattle.checkpoint.proofs.Checkpoint.check.Goals.{After-in_shape, Start}

path_long : (s : Start) → length s.args.self.path ≡ 64
path_long s = search rules

incumbent_long : (s : Start) → length s.args.self.incumbent ≡ 64
incumbent_long s = search rules

pub slice_bounds-check_mappings-end : goal.slice_bounds-check_mappings-end
slice_bounds-check_mappings-end c =
    let k = c.args.self in
    let long = filled_length k.path k.depth (path_long (goal.at.slice_bounds-check_mappings-end c).Start) in
    sym (length-take-le _ _ (omega (arith, ap length c.filled-entries.ensures, long, c.rows-rows.ensures.0)))

pub slice_bounds-incumbent-end : goal.slice_bounds-incumbent-end
slice_bounds-incumbent-end c =
    omega (arith, incumbent_long (goal.at.slice_bounds-incumbent-end c).Start, c.rows-rows.ensures.0)

pub slice_bounds-check_mappings-end-2 : goal.slice_bounds-check_mappings-end-2
slice_bounds-check_mappings-end-2 c =
    sym (length-take-le _ _ (omega (arith, incumbent_long (goal.at.slice_bounds-check_mappings-end-2 c).Start, c.rows-rows.ensures.0)))

-- whether this search may hold what is held
abbrev admits : After-in_shape → Bool
admits c =
    let rows = c.rows-rows.result in
    not c.args.self.holds || admits_of c.args.connected (lent c.args.problem) (take rows c.args.self.incumbent)

-- once the two lists are checked, the tests decide
decided : (c : After-in_shape) (admitted : Bool) → admitted ≡ admits c
    → checkpoint_answer c.args.connected (lent c.args.problem) c.args.self
    ≡ cond (c.in_shape.result && admitted) passed (refused 14)
decided c admitted is =
    checked_answer _ _ c.args.self c.rows-rows.result c.filled-entries.result _ _ c.in_shape.result admitted
    (path_long c.before.before.before.before.before.before.before.before.before.before) c.rows-rows.ensures.1 c.filled-entries.ensures
    (sym (ap mappings_outcome c.in_ok-reached.was) ∙ c.check_mappings.ensures) c.in_shape.ensures is

pub returns-then-not-in_shape : goal.returns-then-not-in_shape
returns-then-not-in_shape c =
    sym (decided (goal.at.returns-then-not-in_shape c).After-in_shape _ refl ∙ ap (λ (t : Bool). cond (t && admits (goal.at.returns-then-not-in_shape c).After-in_shape) passed (refused 14)) (c.if-not-in_shape.true))

-- so does what is asked of the incumbent
settled : {answer : Answer} (shaped admitted : Bool) {t : Bool} → answer ≡ cond (shaped && admitted) passed (refused 14) → shaped ≡ true → admitted ≡ t
    → answer ≡ cond t passed (refused 14)
settled shaped admitted told shape is =
    told ∙ ap (λ (b : Bool). cond (b && admitted) passed (refused 14)) shape ∙ ap (λ (b : Bool). cond b passed (refused 14)) is

pub returns-then-not-held_admitted : goal.returns-then-not-held_admitted
returns-then-not-held_admitted c =
    let told = decided (goal.at.returns-then-not-held_admitted c).After-in_shape c.held_admitted.result c.held_admitted.ensures in
    sym (settled c.in_shape.result c.held_admitted.result told c.if-not-in_shape.false c.if-not-held_admitted.true)

pub returns-in_err-reached : goal.returns-in_err-reached
returns-in_err-reached c =
    let told = err_from_is_err_and c.from_residual.result c.from_residual.ensures.1 in
    rw (told.1, told.2) (flawed_answer _ _ c.args.self _ _ _ (sym (ap mappings_outcome c.in_err-reached.was) ∙ c.check_mappings.ensures))

pub returns : goal.returns
returns c =
    let told = decided (goal.at.returns c).After-in_shape c.held_admitted.result c.held_admitted.ensures in
    sym (settled c.in_shape.result c.held_admitted.result told c.if-not-in_shape.false c.if-not-held_admitted.false)
