-- What a call on two graphs and a list of substitutes tests first, and which of the three a refusal is about (01, "The refit program": "the old file being read
-- first"; 02, U1: "both after the charts are found sound").
use Rattle.std.specs.Prelude.{List, ℕ}
use Rattle.answers.specs.Answer.{Answer, passed, when_passed, when_accepted}
use Rattle.graph_reader.specs.Reading.{read_graph}
use Rattle.substitutes.specs.Soundness.{substitutes_answer}
use Rattle.problem.specs.Problem.{Problem, substituting, problem_answer}
use Rattle.problem_reader.specs.ProblemReading.{ReadOutcome, on_outcome}
use Rattle.replies.specs.declared.Reply.{Reply}
use Rattle.replies.specs.Reply.{reply_of}
use Rattle.inputs.specs.declared.Judgement.{Judgement}

-- 1 is the old graph, 2 the new one, 3 the list; 0 is none
abbrev pub judged : ℕ → Reply → Judgement
judged about reply = record { reply = reply; about = about }

abbrev pub judgement : ℕ → Answer → Judgement
judgement about answer = judged about (reply_of answer)

-- of what reading the old graph, reading the new one and testing the list answer
abbrev pub first_at_fault : Answer → Answer → Answer → Judgement
first_at_fault old new list =
    when_accepted old (λ n. when_accepted new (λ m. when_passed list (judgement 0 passed) (judgement 3)) (judgement 2)) (judgement 1)

unfoldable pub judging : List ℕ → List ℕ → List ℕ → Judgement
judging old new list = first_at_fault (read_graph old).answer (read_graph new).answer (substitutes_answer list)

-- what every call on two graphs and a list answers before all else: the refusal of the first graph that is refused, or what the test of both graphs and the list says
abbrev pub first_test : ReadOutcome → List ℕ → Answer
first_test outcome list = on_outcome (λ (P : Problem). problem_answer (substituting list P)) (λ (refusal : Answer). refusal) outcome
