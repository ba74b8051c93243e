-- `checkpoint_loader::form::Stage::next` meets its contract: each arm knows the stage. Assumes nothing.
use borrow.Author.Tests.{lt-ltb, le-ltb}
use Rattle.checkpoint_loader.specs.Form.{next}
use Rattle.checkpoint_loader.proofs.form.Stage.next.Goals as goal

pub returns-in-Header : goal.returns-in-Header
unfolding next
returns-in-Header c = rw c.in-Header.is c.after_header.ensures

pub returns-in-Path : goal.returns-in-Path
unfolding next
returns-in-Path c = rw c.in-Path.is c.after_path.ensures

pub returns-in-PathByte : goal.returns-in-PathByte
unfolding next
returns-in-PathByte c = rw c.in-PathByte.is

pub returns-then-k-order : goal.returns-then-k-order
unfolding next
returns-then-k-order c = rw (c.in-Incumbent.is, lt-ltb _ _ c.if-k-order.true) c.then_some.ensures

pub returns-else-k-order : goal.returns-else-k-order
unfolding next
returns-else-k-order c = rw (c.in-Incumbent.is, le-ltb _ _ c.if-k-order.false) c.then_some-else-k-order.ensures

pub returns-in-IncumbentByte : goal.returns-in-IncumbentByte
unfolding next
returns-in-IncumbentByte c = rw c.in-IncumbentByte.is

pub returns-in-Done : goal.returns-in-Done
unfolding next
returns-in-Done c = rw c.in-Done.is
