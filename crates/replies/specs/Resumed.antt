-- The reply to a search call from checkpoint bytes to checkpoint bytes (01, "Bookmark and calls"; 02, U1 and U7).
use Rattle.std.specs.Prelude.{Bool, List, ℕ}
use Rattle.answers.specs.Answer.{Answer, when_passed, when_accepted}
use Rattle.problem.specs.Problem.{Problem}
use Rattle.checkpoint.specs.declared.Checkpoint.{Checkpoint}
use Rattle.search.specs.Call.{Called, search_call}
use Rattle.checkpoint_saver.specs.Saving.{saving}
use Rattle.checkpoint_loader.specs.Loading.{Loading, loading}
use Rattle.replies.specs.declared.Reply.{Reply}
use Rattle.replies.specs.Reply.{reply, reply_of}

-- the reply, the ceiling, and both lent buffers afterwards
pub record Resumed : Type 0 where
  pub reply : Reply
  pub ceiling : ℕ
  pub workspace : List ℕ
  pub next : List ℕ

abbrev pub resumed : Reply → ℕ → List ℕ → List ℕ → Resumed
resumed r ceiling workspace next = record { reply = r; ceiling = ceiling; workspace = workspace; next = next }

-- a refusal: no ceiling
abbrev pub not_resumed : List ℕ → List ℕ → Answer → Resumed
not_resumed workspace next refusal = resumed (reply_of refusal) 0 workspace next

-- a search call on the lent workspace, then its checkpoint saved; where either is refused, 13 for the bytes included, both buffers are as they were
abbrev pub save_on : Bool → Problem → Called → List ℕ → List ℕ → Resumed
save_on connected P r workspace next =
    let w = saving connected P r.checkpoint next in
    let refusal = not_resumed workspace next in
    when_accepted r.answer (λ ceiling.
    when_accepted w.answer (λ count. resumed (reply 0 count) ceiling r.workspace w.buffer) refusal) refusal

unfoldable pub search_from : Bool → Problem → Checkpoint → ℕ → List ℕ → List ℕ → Resumed
search_from connected P c budget workspace next = save_on connected P (search_call connected P c budget workspace) workspace next

abbrev pub load_on : Bool → Problem → Loading → ℕ → List ℕ → List ℕ → Resumed
load_on connected P l budget workspace next =
    when_passed l.answer (search_from connected P l.checkpoint budget workspace next) (not_resumed workspace next)

unfoldable pub resume_from : Bool → Problem → List ℕ → ℕ → List ℕ → List ℕ → Resumed
resume_from connected P bytes budget workspace next = load_on connected P (loading connected P bytes) budget workspace next
