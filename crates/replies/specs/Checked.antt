-- The reply to the check of a mapping (01, "Refusals by place of checking", the row "Partner list", and 02, U4).
use Rattle.std.specs.Prelude.{ℕ}
use Rattle.mapping.specs.Answers.{Outcome, accepted, refused, refused_row, refused_rows, outcome_number}
use Rattle.replies.specs.declared.Reply.{Reply}
use Rattle.replies.specs.Reply.{reply}

-- the reply, and the earlier row
pub record CheckedMapping : Type 0 where
  pub reply : Reply
  pub earlier : ℕ

abbrev pub checked : Reply → ℕ → CheckedMapping
checked r earlier = record { reply = r; earlier = earlier }

-- "19 to 22 give the row, 20 and 22 also the earlier row", or that row twice (02, U4); an accepted mapping gives its size
abbrev pub outcome_value : Outcome → ℕ
outcome_value (accepted size) = size
outcome_value (refused number) = 0
outcome_value (refused_row number row) = row
outcome_value (refused_rows number row earlier) = row

abbrev pub earlier_row : Outcome → ℕ
earlier_row (accepted size) = 0
earlier_row (refused number) = 0
earlier_row (refused_row number row) = 0
earlier_row (refused_rows number row earlier) = earlier

abbrev pub checked_by : Outcome → CheckedMapping
checked_by outcome = checked (reply (outcome_number outcome) (outcome_value outcome)) (earlier_row outcome)
