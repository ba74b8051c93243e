-- One search call on the walk's checkpoint: refused with 15 or 16 as the table says, or arriving at the walk's later checkpoint.
use mathlib.Core.Path.{◌≡◌, refl, ap, ◌∙◌}
use mathlib.Core.Logic.{◌⊎◌, inl, inr}
use mathlib.Core.Bool.{Bool, true, false, cond, ◌||◌}
use mathlib.Core.List.{List}
use Prim.Native.Nat.{ℕ, zero, suc, ◌+◌, ◌^◌, ◌≤◌, ◌<◌}
use native.Mathlib.Nat.{zero-add, add-zero, add-suc}
use native.Mathlib.Omega.{arith}
use lib.Dec.{leb, ltb}
use lib.ListN.{length}
use borrow.Author.Tests.{leb-true, leb-false, ltb-true, ltb-false}
use Rattle.answers.specs.Answer.{Answer, passed}
use Rattle.problem.specs.Problem.{Problem, SoundProblem}
use Rattle.search_tree.specs.Rules.{rules_of}
use Rattle.search_tree.specs.Search.{Search, search_of}
use Rattle.search_tree.specs.Walk.{after}
use Rattle.checkpoint.specs.declared.Checkpoint.{Checkpoint}
use Rattle.checkpoint.specs.Checkpoints.{checkpoint_of, fresh_checkpoint}
use Rattle.search.specs.Call.{Called, visits, words_needed, refuse, arrive, advance, on_passed, search_call}
use Rattle.checkpoint.proofs.CheckpointPasses.{shape_passes}
use Rattle.checkpoint.proofs.ShapeTest.{shape_test}
use Rattle.checkpoint.proofs.StateShape.{walk_in_shape, walk_state}

-- b visits from the state after k visits lead to the state after k + b visits.
pub visits_after : (S : Search) (minimum b k : ℕ) → visits S minimum b (after S minimum k) ≡ after S minimum (k + b)
unfolding visits after
visits_after S minimum zero k = rw add-zero
visits_after S minimum (suc b) k = rw (add-suc k b, visits_after S minimum b k)

-- the walk's checkpoint after k visits
abbrev pub walk_at : Bool → Problem → ℕ → ℕ → Checkpoint
walk_at connected P minimum k = checkpoint_of minimum (after (search_of connected P) minimum k)

-- the three ways that a call on the walk's checkpoint after k visits can go
pub data Course (connected : Bool) (P : Problem) (minimum k budget : ℕ) (workspace : List ℕ) (r : Called) : Type 0 where
  few : length workspace < words_needed → r ≡ refuse (walk_at connected P minimum k) workspace 15 → Course connected P minimum k budget workspace r
  full : words_needed ≤ length workspace → (walk_at connected P minimum k).finished ≡ false → 2 ^ 64 ≤ (walk_at connected P minimum k).steps + budget
      → r ≡ refuse (walk_at connected P minimum k) workspace 16 → Course connected P minimum k budget workspace r
  done : words_needed ≤ length workspace
      → ((walk_at connected P minimum k).finished ≡ true) ⊎ ((walk_at connected P minimum k).steps + budget < 2 ^ 64)
      → r ≡ arrive minimum (rules_of P) workspace (after (search_of connected P) minimum (k + budget)) → Course connected P minimum k budget workspace r

-- what is left of a call on sound graphs and a checkpoint in shape
past_check : (a : Answer) (rest : Called) (refusal : ℕ → Called) → a ≡ passed → on_passed a rest refusal ≡ rest
past_check a rest refusal p = rw p

module _ (connected : Bool) (P : Problem) (sound : SoundProblem P) (minimum k budget : ℕ) (workspace : List ℕ) where
  -- From the walk's checkpoint the visits go on with the walk.
  pub walk_advance :
      advance connected P (walk_at connected P minimum k) budget workspace ≡ arrive minimum (rules_of P) workspace (after (search_of connected P) minimum (k + budget))
  unfolding advance checkpoint_of
  walk_advance =
      ap (arrive minimum (rules_of P) workspace)
      (ap (visits (search_of connected P) minimum budget) (walk_state connected P sound minimum k) ∙ visits_after (search_of connected P) minimum budget k)

  -- A call on the walk's checkpoint goes one of the three ways, by the table's conditions in their order.
  pub walk_course : Course connected P minimum k budget workspace (search_call connected P (walk_at connected P minimum k) budget workspace)
  unfolding search_call
  walk_course =
      go (leb words_needed (length workspace)) (walk_at connected P minimum k).finished (ltb ((walk_at connected P minimum k).steps + budget) (2 ^ 64)) refl refl refl _
      (past_check _ _ _ (shape_passes connected P c sound ((shape_test P sound connected c).0 (walk_in_shape connected P sound minimum k))))
    where
      c : Checkpoint
      c = walk_at connected P minimum k

      go : (enough finished fits : Bool) → leb words_needed (length workspace) ≡ enough → c.finished ≡ finished
          → ltb (c.steps + budget) (2 ^ 64) ≡ fits
          → (r : Called) → r ≡ cond enough (cond (finished || fits) (advance connected P c budget workspace) (refuse c workspace 16)) (refuse c workspace 15)
          → Course connected P minimum k budget workspace r
      go true true fits e f g r same = done (leb-true _ _ e) (inl f) (same ∙ walk_advance)
      go true false true e f g r same = done (leb-true _ _ e) (inr (ltb-true _ _ g)) (same ∙ walk_advance)
      go true false false e f g r same = full (leb-true _ _ e) f (ltb-false _ _ g) same
      go false finished fits e f g r same = few (leb-false _ _ e) same

-- A call on a fresh checkpoint with enough words makes as many visits as its budget says.
pub fresh_call : (connected : Bool) (P : Problem) → SoundProblem P → (minimum budget : ℕ) (workspace : List ℕ) → words_needed ≤ length workspace → budget < 2 ^ 64
    → search_call connected P (fresh_checkpoint minimum) budget workspace ≡ arrive minimum (rules_of P) workspace (after (search_of connected P) minimum budget)
unfolding after checkpoint_of
fresh_call connected P sound minimum budget workspace enough fits = go _ (walk_course connected P sound minimum 0 budget workspace)
  where
    go : (r : Called) → Course connected P minimum 0 budget workspace r → r ≡ arrive minimum (rules_of P) workspace (after (search_of connected P) minimum budget)
    go r (few l e) = absurd (omega arith)
    go r (full l f m e) = absurd (omega arith)
    go r (done l ok e) = e ∙ ap (λ (k : ℕ). arrive minimum (rules_of P) workspace (after (search_of connected P) minimum k)) (zero-add budget)
