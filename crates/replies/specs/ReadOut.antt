-- The reply to a reading out of checkpoint bytes: its state, steps and ceiling, and the mapping that it holds (01, "Bookmark and calls"; 02, U1 and U7).
use Rattle.std.specs.Prelude.{Bool, cond, List, ℕ, leb, length, take, replicate}
use Rattle.answers.specs.Answer.{Answer, value_of, when_passed}
use Rattle.answers.specs.Output.{overwrite}
use Rattle.problem.specs.Problem.{Problem}
use Rattle.mapping.specs.Common.{size}
use Rattle.checkpoint.specs.declared.Checkpoint.{Checkpoint}
use Rattle.search.specs.Call.{words_needed, search_call}
use Rattle.checkpoint_saver.specs.Saving.{state_byte}
use Rattle.checkpoint_loader.specs.Loading.{Loading, loading}
use Rattle.replies.specs.declared.Reply.{Reply}
use Rattle.replies.specs.Reply.{reply, reply_of, too_short}

-- the reply, the numbers, and the lent mapping afterwards
pub record ReadOut : Type 0 where
  pub reply : Reply
  pub steps : ℕ
  pub size : ℕ
  pub ceiling : ℕ
  pub mapping : List ℕ

abbrev pub read_out : Reply → ℕ → ℕ → ℕ → List ℕ → ReadOut
read_out r steps size ceiling mapping = record { reply = r; steps = steps; size = size; ceiling = ceiling; mapping = mapping }

abbrev pub not_read_out : List ℕ → Reply → ReadOut
not_read_out mapping r = read_out r 0 0 0 mapping

-- the mapping that is held, or nothing
abbrev pub held_in : Problem → Checkpoint → List ℕ
held_in P c = take (cond c.holds P.old.order 0) c.incumbent

-- state, steps, and what is held, where it fits into the lent mapping; the ceiling is that of a call that makes no visit
unfoldable pub read_checkpoint : Bool → Problem → Checkpoint → List ℕ → ReadOut
read_checkpoint connected P c mapping =
    let held = held_in P c in
    cond (leb (length held) (length mapping))
    (read_out (reply 0 (state_byte c.finished c.holds)) c.steps (size held)
    (value_of (search_call connected P c 0 (replicate words_needed 0)).answer) (overwrite held mapping))
    (not_read_out mapping too_short)

abbrev pub read_loaded : Bool → Problem → Loading → List ℕ → ReadOut
read_loaded connected P l mapping = when_passed l.answer (read_checkpoint connected P l.checkpoint mapping) (λ (refusal : Answer). not_read_out mapping (reply_of refusal))

unfoldable pub read_bytes : Bool → Problem → List ℕ → List ℕ → ReadOut
read_bytes connected P bytes mapping = read_loaded connected P (loading connected P bytes) mapping
