-- The start of a descent, by a search call that makes no visit: refused for the graphs or the list, or with a ceiling one above the root's upper bound.
use mathlib.Core.Path.{◌≡◌, refl, sym, ap, ◌∙◌}
use mathlib.Core.Bool.{false, true≢false}
use mathlib.Core.List.{List, []}
use mathlib.Core.Option.{none}
use Prim.Native.Nat.{ℕ, ◌+◌, ◌-◌, ◌≤◌, min, max}
use native.Mathlib.Omega.{arith}
use lib.Dec.{lit<}
use lib.ListN.{length}
use Rattle.answers.specs.Answer.{Answer, passed, accepted, refused, refused_at, is_refused, value_of}
use Rattle.problem.specs.Problem.{Problem, SoundProblem, problem_answer}
use Rattle.problem.proofs.ProblemPasses.{passes_problem}
use Rattle.search_tree.specs.Rules.{Rules, rules_of}
use Rattle.search_tree.specs.Node.{upper_bound, later_siblings, open_nodes}
use Rattle.search_tree.specs.Walk.{fresh, after}
use Rattle.search_tree.specs.Ceiling.{top_bound, ceiling}
use Rattle.checkpoint.specs.declared.Checkpoint.{Checkpoint}
use Rattle.checkpoint.specs.Checkpoints.{fresh_checkpoint, checkpoint_of, state_of}
use Rattle.checkpoint.specs.Checking.{checkpoint_answer}
use Rattle.search.specs.declared.Searched.{Searched}
use Rattle.std.specs.Prelude.{Ok, Err}
use Rattle.search.specs.declared.SearchError.{SearchError}
use Rattle.search.proofs.SearchErrors.{no_ceiling}
use Rattle.search.specs.Answers.{search_answer, called_of}
use Rattle.search.specs.Call.{Called, words_needed, search_call}
use Rattle.search.proofs.WalkCall.{fresh_call}
use Rattle.descend.specs.Descent.{fresh_at, start_of, lowered, descent_ceiling}
use Rattle.descend.specs.Call.{refuse_start, start_call}
use Rattle.descend.specs.Answers.{started_of}

-- The ceiling of a search that has not begun: the root is its only open node.
pub fresh_ceiling : (R : Rules) (minimum : ℕ) → ceiling R minimum fresh ≡ max minimum (1 + upper_bound R [])
unfolding ceiling open_nodes later_siblings top_bound
fresh_ceiling R minimum = omega arith

module _ (P : Problem) (floor : ℕ) (words : List ℕ) (room : words_needed ≤ length words) where
  -- the search call
  abbrev root : Called
  root = search_call false P (fresh_checkpoint 0) 0 words

  data Ways : Type 0 where
    refuses : (number : ℕ) → root.answer ≡ refused number → start_call P floor ≡ refuse_start floor number → Ways
    accepts : SoundProblem P → root.answer ≡ accepted (1 + upper_bound (rules_of P) [])
        → start_call P floor
        ≡ record { answer = accepted (descent_ceiling (rules_of P) (fresh_at (start_of (rules_of P) floor))); checkpoint = fresh_checkpoint (start_of (rules_of P) floor) }
        → Ways

  ways : Ways
  unfolding start_call search_call checkpoint_answer after
  ways = go (problem_answer P) refl
    where
      go : (a : Answer) → problem_answer P ≡ a → Ways
      go passed e =
          let sound = passes_problem P e in
          let there = ap (λ (r : Called). r.answer) (fresh_call false P sound 0 0 words room (lit< tt)) in
          accepts sound (there ∙ ap accepted (fresh_ceiling (rules_of P) 0 ∙ omega arith)) (rw e)
      go (accepted n) e = refuses n (rw e) (rw e)
      go (refused n) e = refuses n (rw e) (rw e)
      go (refused_at n at) e = refuses n (rw e) (rw e)

  module _ (r : Searched) (after : List ℕ) (begins : Checkpoint) (fresh-is : begins ≡ fresh_checkpoint 0)
      (made : called_of r after ≡ search_call false P begins 0 words)
    where
      called : called_of r after ≡ root
      called = rw fresh-is at made

      -- A refusal is the start's.
      pub start_refused : (e : SearchError) → r.answer ≡ Err e → (c : Checkpoint) → c ≡ fresh_checkpoint floor
          → started_of (record { answer = Err e; checkpoint = c }) ≡ start_call P floor
      start_refused e arm c same = go ways
        where
          go : Ways → started_of (record { answer = Err e; checkpoint = c }) ≡ start_call P floor
          go (refuses number told is) = (λ i. record { answer = (ap search_answer (sym arm) ∙ ap (λ (q : Called). q.answer) called ∙ told) i; checkpoint = same i }) ∙ sym is
          go (accepts sound told is) = absurd (no_ceiling e _ arm (ap (λ (q : Called). q.answer) called ∙ told))

      module _ (top : ℕ) (arm : r.answer ≡ Ok top) where
        answered : root.answer ≡ accepted top
        answered = sym (ap (λ (q : Called). q.answer) called) ∙ ap search_answer arm

        -- A ceiling is one above the root's upper bound, and comes of a sound problem.
        pub start_sound : SoundProblem P × (top ≡ 1 + upper_bound (rules_of P) [])
        start_sound = go ways
          where
            go : Ways → SoundProblem P × (top ≡ 1 + upper_bound (rules_of P) [])
            go (refuses number e is) = absurd (true≢false (ap is_refused (sym e ∙ answered)))
            go (accepts sound e is) = (sound, ap value_of (sym answered ∙ e))

        -- With it go the start's minimum, its fresh checkpoint, and the ceiling there.
        pub start_accepted : (minimum own low : ℕ) (c : Checkpoint)
            → minimum ≡ max floor (min (min P.old.order P.new.order) (top - 1)) → c ≡ fresh_checkpoint minimum → own ≡ max minimum top
            → low ≡ lowered c.minimum (state_of P.old.order c).incumbent own
            → started_of (record { answer = Ok low; checkpoint = c }) ≡ start_call P floor
        unfolding start_of descent_ceiling state_of checkpoint_of
        start_accepted minimum own low c first same most low-is = go ways
          where
            go : Ways → started_of (record { answer = Ok low; checkpoint = c }) ≡ start_call P floor
            go (refuses number e is) = absurd (true≢false (ap is_refused (sym e ∙ answered)))
            go (accepts sound e is) =
                let bound : top ≡ 1 + upper_bound (rules_of P) [] = ap value_of (sym answered ∙ e) in
                let less : top - 1 ≡ upper_bound (rules_of P) [] = omega (arith, bound) in
                let start : minimum ≡ start_of (rules_of P) floor = first ∙ ap (λ (b : ℕ). max floor (min (min P.old.order P.new.order) b)) less in
                let ceiling_is : own ≡ ceiling (rules_of P) minimum fresh = most ∙ ap (max minimum) bound ∙ sym (fresh_ceiling (rules_of P) minimum) in
                let lowest : low ≡ descent_ceiling (rules_of P) (fresh_at minimum) =
                low-is
                ∙ ap (λ (k : Checkpoint). lowered k.minimum (state_of P.old.order k).incumbent own) same
                ∙ ap (lowered minimum none) ceiling_is in
                (λ i. record { answer = accepted (lowest i); checkpoint = same i })
                ∙ ap (λ (m : ℕ). record { answer = accepted (descent_ceiling (rules_of P) (fresh_at m)); checkpoint = fresh_checkpoint m }) start
                ∙ sym is
