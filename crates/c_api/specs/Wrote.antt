-- The reply to a call that writes to the front of a lent buffer, and the buffer afterwards (01, "Refusals by place of checking", the row "Output").
use Rattle.std.specs.Prelude.{List, ℕ}
use Rattle.answers.specs.Output.{Writing}
use Rattle.replies.specs.declared.Reply.{Reply}
use Rattle.replies.specs.Reply.{reply_of}

pub record Wrote : Type 0 where
  pub reply : Reply
  pub buffer : List ℕ

abbrev pub wrote : Reply → List ℕ → Wrote
wrote r buffer = record { reply = r; buffer = buffer }

abbrev pub wrote_by : Writing → Wrote
wrote_by w = wrote (reply_of w.answer) w.buffer
