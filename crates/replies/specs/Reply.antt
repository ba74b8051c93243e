-- A reply: 01's number of a refusal, or 0, and the value that goes with it (01, "Refusals by place of checking").
use Rattle.std.specs.Prelude.{ℕ}
use Rattle.answers.specs.Answer.{Answer, refusal_number, value_of}
use Rattle.replies.specs.declared.Reply.{Reply}

abbrev pub reply : ℕ → ℕ → Reply
reply number value = record { number = number; value = value }

-- the value is the count, order or size of an accepted call, or the place of a refused one, and 0 where neither is given
abbrev pub reply_of : Answer → Reply
reply_of answer = reply (refusal_number answer) (value_of answer)

-- a lent buffer is too short
abbrev pub too_short : Reply
too_short = reply 13 0
