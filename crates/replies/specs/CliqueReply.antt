-- The reply to a call of clique branching: whether a mapping is held, its size, and the mapping in the lent buffer (02, U2; 01, the row "Output" of the
-- refusals).
use Rattle.std.specs.Prelude.{cond, List, ℕ, leb, length}
use Rattle.std.proofs.Math.Option.{Option, none, some}
use Rattle.answers.specs.Answer.{Answer, when_passed}
use Rattle.answers.specs.Output.{overwrite}
use Rattle.problem.specs.Problem.{Problem}
use Rattle.mapping.specs.Common.{size}
use Rattle.clique.specs.Branching.{branch}
use Rattle.clique.specs.Call.{clique_answer}
use Rattle.replies.specs.declared.Reply.{Reply}
use Rattle.replies.specs.Reply.{reply, reply_of, too_short}

-- the reply, the size, and the lent mapping afterwards
pub record CliqueReply : Type 0 where
  pub reply : Reply
  pub size : ℕ
  pub mapping : List ℕ

abbrev pub clique_reply : Reply → ℕ → List ℕ → CliqueReply
clique_reply r size mapping = record { reply = r; size = size; mapping = mapping }

abbrev pub no_mapping : List ℕ → Reply → CliqueReply
no_mapping mapping r = clique_reply r 0 mapping

-- 1 and the mapping, where it fits into the lent one, or 0 where nothing is held
abbrev pub held_reply : Option (List ℕ) → List ℕ → CliqueReply
held_reply none mapping = no_mapping mapping (reply 0 0)
held_reply (some l) mapping =
    cond (leb (length l) (length mapping)) (clique_reply (reply 0 1) (size l) (overwrite l mapping)) (no_mapping mapping too_short)

unfoldable pub branch_reply : Problem → ℕ → List ℕ → CliqueReply
branch_reply P minimum mapping =
    when_passed (clique_answer P) (held_reply (branch P minimum) mapping) (λ (refusal : Answer). no_mapping mapping (reply_of refusal))
