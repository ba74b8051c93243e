-- The call of clique branching: 02, U2, "It takes no allowance and so admits at most eight old parts", "25 more than eight old parts, after the charts and
-- the substitutes".
use Rattle.std.specs.Prelude.{cond, List, [], ◌++◌, ℕ, ◌-◌, leb, length, replicate}
use Rattle.std.proofs.Math.Option.{Option, none, some}
use Rattle.answers.specs.Answer.{Answer, passed, accepted, refused, first_refusal, when_passed}
use Rattle.problem.specs.Problem.{Problem, problem_answer}
use Rattle.clique.specs.Branching.{branch}

-- eight bytes: the mapping, and 0 after it
abbrev pub padded : List ℕ → List ℕ
padded l = l ++ replicate (8 - length l) 0

-- what a call returns: 1 and the mapping, 0 where nothing is held, or a refusal; the bytes are 0 where there is no mapping
pub record Called : Type 0 where
  pub answer : Answer
  pub mapping : List ℕ

abbrev pub called_with : Option (List ℕ) → Called
called_with none = record { answer = accepted 0; mapping = padded [] }
called_with (some l) = record { answer = accepted 1; mapping = padded l }

-- 10, 11, 12, 23, 24, then 25
unfoldable pub clique_answer : Problem → Answer
clique_answer P = first_refusal (problem_answer P) (cond (leb P.old.order 8) passed (refused 25))

unfoldable pub clique_call : Problem → ℕ → Called
clique_call P minimum = when_passed (clique_answer P) (called_with (branch P minimum)) (λ refusal. record { answer = refusal; mapping = padded [] })
