-- `checkpoint_loader::load_checkpoint` meets its contract: the tests come in the order of a load's refusals (`LoadRefusals`). Assumes nothing.
use mathlib.Core.Path.{sym, ap, ◌∙◌}
use Rattle.problem.specs.Lent.{lent}
use Rattle.problem.proofs.ProblemPasses.{passes_problem}
use Rattle.checkpoint_loader.specs.declared.LoadError.{LoadError}
use Rattle.checkpoint_loader.specs.Answers.{load_refusal}
use Rattle.checkpoint_loader.specs.Loading.{Loading, refuse}
use Rattle.checkpoint_loader.proofs.LoadRefusals.{load_flawed, load_malformed, load_passed, load_refused}
use Rattle.checkpoint_loader.proofs.load_checkpoint.Goals as goal

-- a refused load by its error
abbrev refused : LoadError → Loading
refused e = refuse (load_refusal e)

pub returns-in-Err : goal.returns-in-Err
returns-in-Err c =
    c.refuse.ensures
    ∙ ap refused c.into.ensures
    ∙ load_flawed c.args.connected (lent c.args.problem) c.args.bytes.now _ (sym c.in-Err.ensures)

pub returns-in-Some : goal.returns-in-Some
returns-in-Some c =
    c.refuse-in-Some.ensures
    ∙ load_malformed c.args.connected (lent c.args.problem) c.args.bytes.now (sym c.in_default.ensures) _ (sym c.in-Some.ensures)

pub read_formed-checkpoint-requires : goal.read_formed-checkpoint-requires
read_formed-checkpoint-requires c =
    ((passes_problem (lent c.args.problem) (sym c.in_default.ensures)).old_sound.order_max, sym c.in_default-find_fault.ensures)

pub returns-in-Ok : goal.returns-in-Ok
returns-in-Ok c =
    load_passed c.args.connected (lent c.args.problem) c.args.bytes.now (sym c.in_default.ensures) (sym c.in_default-find_fault.ensures) _
    c.read_formed-checkpoint.ensures (sym c.in-Ok.ensures)

pub returns-in-Err-check : goal.returns-in-Err-check
returns-in-Err-check c =
    c.refuse-in-Err-check.ensures
    ∙ ap refused c.into-in-Err-check.ensures
    ∙ load_refused c.args.connected (lent c.args.problem) c.args.bytes.now (sym c.in_default.ensures) (sym c.in_default-find_fault.ensures) _
    c.read_formed-checkpoint.ensures _ (sym c.in-Err-check.ensures)
