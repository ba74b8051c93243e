-- What the check of two lists says: the graphs' refusal, or that they pass and what each list's check says.
use mathlib.Core.Path.{◌≡◌, refl}
use mathlib.Core.Bool.{true≢false}
use mathlib.Core.List.{List}
use Prim.Native.Nat.{ℕ}
use Rattle.answers.specs.Answer.{Answer, passed, accepted, refused, refused_at, when_passed}
use Rattle.problem.specs.Problem.{Problem, problem_answer}
use Rattle.mapping.specs.Answers.{Outcome, flawed, checked}
use Rattle.mapping.specs.Check.{list_outcome, both_outcomes}

module _ (P : Problem) (l m : List ℕ) where
  -- What refuses both lists refuses the graphs.
  pub both_flawed : (a : Answer) → both_outcomes P l m ≡ flawed a → problem_answer P ≡ a
  unfolding both_outcomes
  both_flawed a e = go (problem_answer P) e
    where
      go : (b : Answer) → when_passed b (checked (list_outcome P l) (list_outcome P m)) flawed ≡ flawed a → b ≡ a
      go passed e = absurd (true≢false (cc))
      go (accepted n) e = cc
      go (refused n) e = cc
      go (refused_at n at) e = cc

  -- Where the lists are checked the graphs pass, and each list has its own outcome.
  pub both_checked : (a b : Outcome) → both_outcomes P l m ≡ checked a b → (problem_answer P ≡ passed) × (list_outcome P l ≡ a) × (list_outcome P m ≡ b)
  unfolding both_outcomes
  both_checked a b e = go (problem_answer P) e
    where
      go : (c : Answer) → when_passed c (checked (list_outcome P l) (list_outcome P m)) flawed ≡ checked a b
          → (c ≡ passed) × (list_outcome P l ≡ a) × (list_outcome P m ≡ b)
      go passed e = (refl, cc, cc)
      go (accepted n) e = absurd (true≢false (cc))
      go (refused n) e = absurd (true≢false (cc))
      go (refused_at n at) e = absurd (true≢false (cc))
