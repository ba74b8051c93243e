-- "A finished search takes any allowance and is unchanged" (01, "Bookmark and calls"), and allowance 0 changes no checkpoint.
use mathlib.Core.Path.{◌≡◌, ap, ◌∙◌}
use mathlib.Core.Bool.{Bool, true, cond, ◌||◌}
use mathlib.Core.List.{List, ◌++◌}
use Prim.Native.Nat.{ℕ, zero-le, ◌≤◌}
use native.Mathlib.Omega.{arith}
use lib.ListN.{length, drop, replicate}
use borrow.Author.Tests.{le-leb}
use Rattle.answers.specs.Answer.{Answer, passed, accepted}
use Rattle.problem.specs.Problem.{Problem, SoundProblem}
use Rattle.search_tree.specs.Rules.{Rules, rules_of}
use Rattle.search_tree.specs.Search.{Search, search_of}
use Rattle.search_tree.specs.Walk.{State, cutoff}
use Rattle.search_tree.specs.Ceiling.{ceiling}
use Rattle.checkpoint.specs.declared.Checkpoint.{Checkpoint}
use Rattle.checkpoint.specs.Checkpoints.{checkpoint_of, state_of, InShape}
use Rattle.search.specs.Call.{Called, visits, words_needed, arrive, advance, on_passed, search_call}
use Rattle.search.specs.ThirdProperty.{incumbent_in}
use Rattle.search.proofs.RunTurn.{visits_finished as visits_stay}
use Rattle.checkpoint.proofs.CheckpointPasses.{shape_passes}
use Rattle.checkpoint.proofs.CheckpointState.{checkpoint_of_state}

-- Visits leave a finished search as it is.
pub visits_finished : (S : Search) (minimum k : ℕ) (s : State) → s.finished ≡ true → visits S minimum k s ≡ s
unfolding visits
visits_finished S minimum k s end = visits_stay S minimum s 0 k end zero-le

-- A finished state's ceiling is its cutoff.
pub ceiling_finished : (R : Rules) (minimum : ℕ) (s : State) → s.finished ≡ true → ceiling R minimum s ≡ cutoff minimum s.incumbent
unfolding ceiling
ceiling_finished R minimum s end = rw end

-- what a call does once all tests are passed
past_tests : (a : Answer) (enough finished fits : Bool) (step full few : Called) (refusal : ℕ → Called)
    → a ≡ passed → enough ≡ true → finished ≡ true → on_passed a (cond enough (cond (finished || fits) step full) few) refusal ≡ step
past_tests a enough finished fits step full few refusal p r e = rw (p, r, e)

module _ (connected : Bool) (P : Problem) (sound : SoundProblem P) (c : Checkpoint) (path_long : length c.path ≡ 64) (incumbent_long : length c.incumbent ≡ 64)
    (shape : InShape connected P c) where
  back : checkpoint_of c.minimum (state_of P.old.order c) ≡ c
  back = checkpoint_of_state connected P c (omega (arith, sound.old_sound.order_max)) path_long incumbent_long shape

  -- Budget 0 makes no visit: the checkpoint stays.
  pub no_visit : (workspace : List ℕ) → (advance connected P c 0 workspace).checkpoint ≡ c
  unfolding advance visits
  no_visit workspace = back

  -- A finished search accepts any budget, answers with its cutoff and leaves its checkpoint as it is.
  pub finished_call : c.finished ≡ true → (budget : ℕ) (workspace : List ℕ) → words_needed ≤ length workspace
      → search_call connected P c budget workspace
      ≡ record {
        answer = accepted (cutoff c.minimum (incumbent_in P c));
        checkpoint = c;
        workspace = replicate words_needed 0 ++ drop words_needed workspace;
      }
  unfolding search_call advance state_of
  finished_call end budget workspace enough =
      past_tests _ _ c.finished _ _ _ _ _ (shape_passes connected P c sound shape) (le-leb _ _ enough) end
      ∙ ap (arrive c.minimum (rules_of P) workspace) (visits_finished (search_of connected P) c.minimum budget (state_of P.old.order c) end)
      ∙ (λ i. record {
        answer = accepted (ceiling_finished (rules_of P) c.minimum (state_of P.old.order c) end i);
        checkpoint = back i;
        workspace = replicate words_needed 0 ++ drop words_needed workspace;
      })
