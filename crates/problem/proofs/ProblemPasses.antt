-- Two graphs and a list pass exactly when all three are sound, and others are refused by one of the documents' numbers.
use mathlib.Core.Path.{◌≡◌, refl, subst}
use mathlib.Core.Bool.{Bool, true, false, cond, true≢false}
use mathlib.Core.List.{[]}
use Prim.Native.Nat.{ℕ}
use native.Mathlib.Omega.{arith}
use lib.ListN.{length}
use borrow.Author.Tests.{eq-eqb, le-leb}
use Rattle.bounded.specs.Below.{all_below}
use Rattle.answers.specs.Answer.{Answer, passed, accepted, refused, refused_at, first_refusal}
use Rattle.answers.proofs.Choice.{either}
use Rattle.answers.proofs.RefusalNumbers.{Plain}
use Rattle.answers.proofs.FirstRefusal.{both_passed, first_plain}
use Rattle.graph.specs.Graph.{Graph, Sound}
use Rattle.graph.specs.Soundness.{tables_fit, soundness}
use Rattle.graph.proofs.RefusalNumbers.{soundness_plain}
use Rattle.graph.proofs.SoundTests.{sound_passes, passes_sound}
use Rattle.substitutes.specs.Soundness.{substitutes_answer}
use Rattle.substitutes.proofs.SoundList.{sound_list_passes, passes_sound_list, list_plain}
use Rattle.problem.specs.Problem.{Problem, SoundProblem, substituting, both_fit, problem_answer}

-- 23 and 24 come "after the charts are found sound": what is refused without a list is refused so with any, and else the list's own test decides.
pub list_last : (P : Problem) → problem_answer P ≡ first_refusal (problem_answer (substituting [] P)) (substitutes_answer P.substitutes)
unfolding problem_answer substitutes_answer all_below
list_last P = go (both_fit P) (soundness P.old) (soundness P.new) (substitutes_answer P.substitutes)
  where
    go : (fit : Bool) (old new list : Answer)
        → cond fit (first_refusal old (first_refusal new list)) (refused 10)
        ≡ first_refusal (cond fit (first_refusal old (first_refusal new passed)) (refused 10)) list
    go true passed passed list = refl
    go true passed (accepted n) list = refl
    go true passed (refused n) list = refl
    go true passed (refused_at n at) list = refl
    go true (accepted n) new list = refl
    go true (refused n) new list = refl
    go true (refused_at n at) new list = refl
    go false old new list = refl

sound_fits : (g : Graph) → Sound g → tables_fit g.order g.labels g.edges ≡ true
sound_fits g s =
    simp (
      eq-eqb (length g.labels) 64 s.labels_length,
      eq-eqb (length g.edges) 4096 s.edges_length,
      le-leb g.order 64 s.order_max,
    )

-- Two sound graphs and a sound list pass.
pub problem_passes : (P : Problem) → SoundProblem P → problem_answer P ≡ passed
unfolding problem_answer
problem_passes P s =
    simp (
      sound_fits P.old s.old_sound,
      sound_fits P.new s.new_sound,
      sound_passes P.old s.old_sound,
      sound_passes P.new s.new_sound,
      sound_list_passes P.substitutes s.substitutes_sound,
    )

fits_passed : (t : Bool) (a : Answer) → cond t a (refused 10) ≡ passed → a ≡ passed
fits_passed true a e = e
fits_passed false a e = absurd (true≢false (cc))

-- Two graphs and a list that pass are sound.
pub passes_problem : (P : Problem) → problem_answer P ≡ passed → SoundProblem P
unfolding problem_answer
passes_problem P e =
    let old = both_passed (soundness P.old) (first_refusal (soundness P.new) (substitutes_answer P.substitutes)) (fits_passed (both_fit P) _ e) in
    let new = both_passed (soundness P.new) (substitutes_answer P.substitutes) old.1 in record {
      old_sound = passes_sound P.old old.0;
      new_sound = passes_sound P.new new.0;
      substitutes_sound = passes_sound_list P.substitutes new.1;
    }

-- What is lent passes, or is refused by one of the documents' numbers.
pub problem_plain : (P : Problem) → Plain (problem_answer P)
unfolding problem_answer
problem_plain P =
    either Plain (both_fit P)
    (first_plain (soundness P.old) _ (soundness_plain P.old) (first_plain (soundness P.new) _ (soundness_plain P.new) (list_plain P.substitutes)))
    (omega arith)

-- So they are never accepted with a number.
pub problem_number : (P : Problem) (n : ℕ) → problem_answer P ≡ accepted n → ⊥
problem_number P n e = subst Plain e (problem_plain P)
