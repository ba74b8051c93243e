use Prim.Native.Nat.{◌+◌}
use native.Mathlib.Omega.{arith}
use Rattle.std.specs.Prelude.{Option, Some, None, Result, Ok, Err, ℕ, List}
use denote.Ref.{Bor}
use Rattle.graph_reader.specs.declared.Fault.{Fault}
use lib.ListN.{drop}
use mathlib.Core.Path.{◌≡◌, sym, ap, ◌∙◌}
use Rattle.graph.specs.Graph.{Graph, graph}
use Rattle.graph_reader.specs.Commands.{decode}
use Rattle.graph_reader.specs.Reading.{judge, verdict_of, finish}
use Rattle.graph_reader.proofs.ReadLoop.{head_first, head_more, more_fits, falls, end_reads, end_fits, end_keeps, fault_reads}
use Rattle.graph_reader.proofs.reader.read_commands.Goals as goal
use Rattle.graph_reader.proofs.reader.read_commands.Goals.{After-apply}

pub loop-grown-init : goal.loop-grown-init
loop-grown-init c =
    record {
      same_bytes = ap (λ (b : Bor (List ℕ)). b.now) c.new-reader.ensures.0;
      same_edition = c.new-reader.ensures.2;
      head = rw (c.new-reader.ensures.1, c.opening_width.ensures) (head_first _ _ _ _ _ c.requires.2 c.requires.0 c.requires.1);
    }

-- the decoded command is the one at the front of the bytes from the place on
told : (c : After-apply)
    → c.next-command.result ≡ decode c.args.from (drop c.loop-grown.reader.at c.args.bytes.now)
told c = c.next-command.ensures ∙ rw (c.loop-grown.invariant.same_bytes, c.loop-grown.invariant.same_edition)

-- what the loop's head knew, and how the command was judged
turn : (c : After-apply) (s : Result (Option ℕ) Fault) → c.apply.result ≡ s → verdict_of s c.apply.new.labels c.apply.new.edges ≡ judge c.args.to (graph c.loop-grown.order c.loop-grown.labels c.loop-grown.edges) c.next-command.result
turn c s e = ap (λ (x : Result (Option ℕ) Fault). verdict_of x c.apply.new.labels c.apply.new.edges) (sym e) ∙ c.apply.ensures.verdict

pub moved-reader-requires : goal.moved-reader-requires
moved-reader-requires c =
    let made = turn (goal.at.moved-reader-requires c).After-apply (Ok (Some c.in-Ok-Some.grown)) (c.in-Ok-Some.is ∙ ap Ok c.in-Ok-Some.field-0-is) in
    rw c.loop-grown.invariant.same_edition (omega (arith, (more_fits _ _ _ _ _ _ _ c.loop-grown.invariant.head _ (told (goal.at.moved-reader-requires c).After-apply) _ _ _ made).1))

pub loop-grown-smaller : goal.loop-grown-smaller
loop-grown-smaller c =
    let made = turn (goal.at.loop-grown-smaller c).After-apply (Ok (Some c.in-Ok-Some.grown)) (c.in-Ok-Some.is ∙ ap Ok c.in-Ok-Some.field-0-is) in
    rw (c.moved-reader.ensures.1, c.loop-grown.invariant.same_edition) (falls _ _ _ _ _ _ _ c.loop-grown.invariant.head _ (told (goal.at.loop-grown-smaller c).After-apply) _ _ _ made)

pub loop-grown-preserved : goal.loop-grown-preserved
loop-grown-preserved c =
    let made = turn (goal.at.loop-grown-preserved c).After-apply (Ok (Some c.in-Ok-Some.grown)) (c.in-Ok-Some.is ∙ ap Ok c.in-Ok-Some.field-0-is) in
    record {
      same_bytes = ap (λ (b : Bor (List ℕ)). b.now) c.moved-reader.ensures.0 ∙ c.loop-grown.invariant.same_bytes;
      same_edition = c.moved-reader.ensures.2 ∙ c.loop-grown.invariant.same_edition;
      head = rw (c.moved-reader.ensures.1, c.loop-grown.invariant.same_edition) (head_more _ _ _ _ _ _ _ c.loop-grown.invariant.head _ (told (goal.at.loop-grown-preserved c).After-apply) _ _ _ made c.apply.auto.labels c.apply.auto.edges);
    }

pub overflow_add-reader : goal.overflow_add-reader
overflow_add-reader c =
    let made = turn (goal.at.overflow_add-reader c).After-apply (Ok None) (c.in-Ok-None.is ∙ ap Ok c.in-Ok-None.field-0-is) in
    omega (arith, end_fits _ _ _ _ _ _ _ c.loop-grown.invariant.head _ (told (goal.at.overflow_add-reader c).After-apply) c.apply.new.labels c.apply.new.edges made)

pub finish-requires : goal.finish-requires
finish-requires c =
    let made = turn (goal.at.finish-requires c).After-apply (Ok None) (c.in-Ok-None.is ∙ ap Ok c.in-Ok-None.field-0-is) in
    (c.apply.auto.labels ∙ c.loop-grown.invariant.head.labels_length, c.apply.auto.edges ∙ c.loop-grown.invariant.head.edges_length, end_fits _ _ _ _ _ _ _ c.loop-grown.invariant.head _ (told (goal.at.finish-requires c).After-apply) c.apply.new.labels c.apply.new.edges made)

pub returns-in-Ok-None : goal.returns-in-Ok-None
returns-in-Ok-None c =
    let made = turn (goal.at.returns-in-Ok-None c).After-apply (Ok None) (c.in-Ok-None.is ∙ ap Ok c.in-Ok-None.field-0-is) in
    let at = c.loop-grown.reader.at in
    let bytes = c.args.bytes.now in
    c.finish.ensures
    ∙ ap (λ (g : Graph). finish g (at + 1) (drop (at + 1) bytes)) (end_keeps _ _ _ _ _ _ _ c.loop-grown.invariant.head _ (told (goal.at.returns-in-Ok-None c).After-apply) c.apply.new.labels c.apply.new.edges made c.apply.ensures.labels_after c.apply.ensures.edges_after)
    ∙ sym (end_reads _ _ _ _ _ _ _ c.loop-grown.invariant.head _ (told (goal.at.returns-in-Ok-None c).After-apply) c.apply.new.labels c.apply.new.edges made)

pub returns-in-Err : goal.returns-in-Err
returns-in-Err c =
    let fault = c.in-Err.fault in
    let made = turn (goal.at.returns-in-Err c).After-apply (Err fault) c.in-Err.is in
    c.refuse.ensures ∙ sym (fault_reads _ _ _ _ _ _ _ c.loop-grown.invariant.head _ (told (goal.at.returns-in-Err c).After-apply) c.apply.new.labels c.apply.new.edges fault made)
