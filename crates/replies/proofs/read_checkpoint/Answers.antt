-- `replies::read_checkpoint` meets its contract: what is held fits or is refused, and the ceiling is that of a call that makes no visit
-- (`CallArms`). Assumes nothing.
use mathlib.Core.Path.{◌≡◌, ap, ◌∙◌}
use borrow.Author.Rules.{rules}
use lib.ListN.{length}
use Rattle.problem.specs.Lent.{lent}
use Rattle.replies.specs.ReadOut.{read_out, not_read_out}
use Rattle.replies.specs.declared.Reply.{Reply}
use Rattle.replies.proofs.CallArms.{read_short, read_numbers, search_value}
use Rattle.replies.proofs.read_checkpoint.Goals as goal
use Rattle.replies.proofs.read_checkpoint.Goals.{Start}

incumbent_long : (s : Start) → length s.args.checkpoint.incumbent ≡ 64
incumbent_long s = search rules

pub returns-then-mapping-entries : goal.returns-then-mapping-entries
returns-then-mapping-entries c =
    ap (not_read_out c.args.mapping.now) c.refused.ensures
    ∙ read_short c.args.connected (lent c.args.problem) c.args.checkpoint c.args.mapping.now _ c.entries_held-entries.ensures c.requires (incumbent_long (goal.at.returns-then-mapping-entries c).Start) c.if-mapping-entries.true

pub returns : goal.returns
returns c =
    ap (λ (r : Reply). read_out r c.args.checkpoint.steps c.put_entries-size.result c.unwrap_or-ceiling.result c.put_entries-size.new.out) c.accepted.ensures
    ∙ read_numbers c.args.connected (lent c.args.problem) c.args.checkpoint c.args.mapping.now _ c.entries_held-entries.ensures c.requires (incumbent_long (goal.at.returns c).Start)
    c.if-mapping-entries.false _ _ _ _ c.search-searched.result _ c.state_byte.ensures c.put_entries-size.ensures.size c.put_entries-size.ensures.stored
    c.search-searched.ensures (c.unwrap_or-ceiling.ensures ∙ search_value c.search-searched.result.answer)
