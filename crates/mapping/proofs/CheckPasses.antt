-- The check passes exactly on common subgraphs of a sound problem, and then answers with the mapping's size.
use mathlib.Core.Path.{◌≡◌, refl}
use mathlib.Core.Bool.{Bool, true, false, cond, true≢false}
use mathlib.Core.List.{List}
use mathlib.Core.Option.{Option, none, some}
use Prim.Native.Nat.{ℕ, ◌<◌}
use lib.Dec.{eqb}
use lib.ListN.{length}
use borrow.Author.Tests.{eqb-true, eq-eqb}
use Rattle.bounded.specs.First.{first_below}
use Rattle.bounded.proofs.First.{first_below_none, none_first_below, first_below_some}
use Rattle.answers.specs.Answer as answer
use Rattle.problem.specs.Problem.{Problem, SoundProblem, problem_answer}
use Rattle.mapping.specs.Common.{Common, Pairwise, size}
use Rattle.mapping.specs.Answers.{Outcome, accepted, refused}
use Rattle.mapping.specs.Check.{row_fault, on_fault, list_outcome, on_problem, check_outcome}
use Rattle.mapping.proofs.Pairwise.{common_pairwise, pairwise_common}
use Rattle.problem.proofs.ProblemPasses.{problem_passes, passes_problem, problem_number}
use Rattle.mapping.proofs.RowFault.{RowPasses, row_none, none_row, row_refuses}

module _ (P : Problem) (l : List ℕ) where
  -- no row has a fault exactly where the rows are allowed and consistent
  pairwise_clear : Pairwise P l → first_below (length l) (row_fault P l) ≡ none
  pairwise_clear p = none_first_below (length l) (row_fault P l)
      (λ v h. none_row P l v (λ m. (p.alone v h m, λ u k mu. p.together u v k h mu m)))

  clear_pairwise : length l ≡ P.old.order → first_below (length l) (row_fault P l) ≡ none → Pairwise P l
  clear_pairwise q e =
      record { entries = q; alone = λ v h m. (row v h m).0; together = λ u v k h mu mv. (row v h mv).1 u k mu }
    where
      row : (v : ℕ) → v < length l → RowPasses P l v
      row v h = row_none P l v (first_below_none (length l) (row_fault P l) e v h)

  -- what is accepted has the right length and no fault
  list_accepted : (n : ℕ) → list_outcome P l ≡ accepted n → Pairwise P l × (n ≡ size l)
  unfolding list_outcome
  list_accepted n e = go (eqb (length l) P.old.order) (first_below (length l) (row_fault P l)) refl refl e
    where
      go : (t : Bool) (o : Option Outcome) → eqb (length l) P.old.order ≡ t → first_below (length l) (row_fault P l) ≡ o
          → cond t (on_fault o (accepted (size l))) (refused 18) ≡ accepted n → Pairwise P l × (n ≡ size l)
      go true none q c e = (clear_pairwise (eqb-true (length l) P.old.order q) c, cc)
      go true (some fault) q c e =
          let first = first_below_some (length l) (row_fault P l) (accepted n) (rw e at c) in absurd (row_refuses P l first.0 n first.2)
      go false o q c e = absurd (true≢false (cc))

  -- A common subgraph of a sound problem passes, and the answer is its size.
  pub common_passes : SoundProblem P → Common P l → check_outcome P l ≡ accepted (size l)
  unfolding check_outcome list_outcome
  common_passes s c =
      simp (problem_passes P s, eq-eqb (length l) P.old.order c.entries, pairwise_clear (common_pairwise P l c))

  -- A mapping that passes is a common subgraph of a sound problem, and the answer is its size.
  pub passes_only_common : (n : ℕ) → check_outcome P l ≡ accepted n → SoundProblem P × Common P l × (n ≡ size l)
  unfolding check_outcome
  passes_only_common n e = go (problem_answer P) refl e
    where
      go : (a : answer.Answer) → problem_answer P ≡ a → on_problem a (list_outcome P l) ≡ accepted n
          → SoundProblem P × Common P l × (n ≡ size l)
      go answer.passed q e =
          let s = passes_problem P q in
          let r = list_accepted n e in
          (s, pairwise_common P l s r.0, r.1)
      go (answer.accepted m) q e = absurd (problem_number P m q)
      go (answer.refused m) q e = absurd (true≢false (cc))
      go (answer.refused_at m at) q e = absurd (true≢false (cc))

  -- In a sound problem a mapping that passes is a common subgraph, and the answer is its size.
  pub passes_common : SoundProblem P → (n : ℕ) → check_outcome P l ≡ accepted n → Common P l × (n ≡ size l)
  passes_common s n e = let r = passes_only_common n e in (r.1, r.2)
