-- The start of a descent as checkpoint bytes, and the reply to a descent call from checkpoint bytes to checkpoint bytes. It is beyond 01 and 02, as the descent
-- is; the bytes are those of 01, "Bookmark and calls".
use Rattle.std.specs.Prelude.{Bool, List, ℕ}
use Rattle.answers.specs.Answer.{Answer, when_passed, when_accepted}
use Rattle.answers.specs.Output.{Writing}
use Rattle.problem.specs.Problem.{Problem}
use Rattle.checkpoint.specs.declared.Checkpoint.{Checkpoint}
use Rattle.checkpoint_saver.specs.Saving.{saving}
use Rattle.checkpoint_loader.specs.Loading.{Loading, loading}
use Rattle.descend.specs.Call.{start_call, Descended, descend_call}
use Rattle.replies.specs.declared.Reply.{Reply}
use Rattle.replies.specs.Reply.{reply, reply_of}

-- the start's checkpoint, saved; saving refuses what the start does, and by the same number
abbrev pub save_start : Bool → Problem → ℕ → List ℕ → Writing
save_start connected P floor buffer = saving connected P (start_call P floor).checkpoint buffer

-- the reply, the ceiling, the visits made, and both lent buffers afterwards
pub record DescentReply : Type 0 where
  pub reply : Reply
  pub ceiling : ℕ
  pub visits : ℕ
  pub workspace : List ℕ
  pub next : List ℕ

abbrev pub descent_reply : Reply → ℕ → ℕ → List ℕ → List ℕ → DescentReply
descent_reply r ceiling visits workspace next = record { reply = r; ceiling = ceiling; visits = visits; workspace = workspace; next = next }

-- a refusal: no ceiling, no visits
abbrev pub not_descended : List ℕ → List ℕ → Answer → DescentReply
not_descended workspace next refusal = descent_reply (reply_of refusal) 0 0 workspace next

-- a descent call on the lent workspace, then its checkpoint saved; where either is refused, 13 for the bytes included, both buffers are as they were
abbrev pub save_descent : Bool → Problem → Descended → List ℕ → List ℕ → DescentReply
save_descent connected P r workspace next =
    let w = saving connected P r.checkpoint next in
    let refusal = not_descended workspace next in
    when_accepted r.answer (λ ceiling.
    when_accepted w.answer (λ count. descent_reply (reply 0 count) ceiling r.visits r.workspace w.buffer) refusal) refusal

unfoldable pub descend_and_save : Bool → Problem → ℕ → Checkpoint → ℕ → List ℕ → List ℕ → DescentReply
descend_and_save connected P floor c budget workspace next = save_descent connected P (descend_call connected P floor c budget workspace) workspace next

abbrev pub descend_loaded : Bool → Problem → ℕ → Loading → ℕ → List ℕ → List ℕ → DescentReply
descend_loaded connected P floor l budget workspace next =
    when_passed l.answer (descend_and_save connected P floor l.checkpoint budget workspace next) (not_descended workspace next)

unfoldable pub descend_bytes : Bool → Problem → ℕ → List ℕ → ℕ → List ℕ → List ℕ → DescentReply
descend_bytes connected P floor bytes budget workspace next = descend_loaded connected P floor (loading connected P bytes) budget workspace next
