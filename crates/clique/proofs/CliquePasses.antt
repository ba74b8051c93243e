-- The tests before clique branching pass exactly where the problem is sound and its old graph has at most eight vertices, and 25 is given after all else.
use mathlib.Core.Path.{◌≡◌, refl}
use mathlib.Core.Bool.{Bool, true, false, cond, true≢false}
use Prim.Native.Nat.{◌≤◌, ◌<◌}
use native.Mathlib.Omega.{arith}
use lib.Dec.{leb}
use borrow.Author.Tests.{leb-true, le-leb, lt-leb}
use Rattle.answers.specs.Answer.{Answer, passed, accepted, refused, refused_at, first_refusal}
use Rattle.answers.proofs.Choice.{either}
use Rattle.answers.proofs.RefusalNumbers.{Plain}
use Rattle.answers.proofs.FirstRefusal.{both_passed, first_plain}
use Rattle.problem.specs.Problem.{Problem, SoundProblem, problem_answer}
use Rattle.problem.proofs.ProblemPasses.{problem_passes, passes_problem, problem_plain}
use Rattle.clique.specs.Call.{clique_answer}

-- They pass, or refuse by one of the documents' numbers.
pub clique_plain : (P : Problem) → Plain (clique_answer P)
unfolding clique_answer
clique_plain P = first_plain (problem_answer P) _ (problem_plain P) (either Plain (leb P.old.order 8) tt (omega arith))

-- Where they pass, the problem is sound and its old graph has at most eight vertices.
pub passes_clique : (P : Problem) → clique_answer P ≡ passed → SoundProblem P × (P.old.order ≤ 8)
unfolding clique_answer
passes_clique P e =
    let both = both_passed (problem_answer P) _ e in
    (passes_problem P both.0, leb-true P.old.order 8 (small (leb P.old.order 8) both.1))
  where
    small : (t : Bool) → cond t passed (refused 25) ≡ passed → t ≡ true
    small true h = refl
    small false h = absurd (true≢false (cc))

-- They pass there.
pub clique_passes : (P : Problem) → SoundProblem P → P.old.order ≤ 8 → clique_answer P ≡ passed
unfolding clique_answer
clique_passes P sound few = simp (problem_passes P sound, le-leb P.old.order 8 few)

-- Where there are more, a sound problem is refused with 25,
pub many_refused : (P : Problem) → SoundProblem P → 8 < P.old.order → clique_answer P ≡ refused 25
unfolding clique_answer
many_refused P sound many = simp (problem_passes P sound, lt-leb P.old.order 8 many)

-- and one that is not sound as it always is.
pub flawed_first : (P : Problem) → (problem_answer P ≡ passed → ⊥) → clique_answer P ≡ problem_answer P
unfolding clique_answer
flawed_first P flawed = go (problem_answer P) flawed
  where
    go : (a : Answer) → (a ≡ passed → ⊥) → first_refusal a (cond (leb P.old.order 8) passed (refused 25)) ≡ a
    go passed n = absurd (n refl)
    go (accepted k) n = refl
    go (refused k) n = refl
    go (refused_at k at) n = refl
