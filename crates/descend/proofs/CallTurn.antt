-- One turn of a descent call: a search call on the checkpoint. Refused, it refuses the whole call; accepted, it stays in its search, or exhausts it, and the rest
-- is a call on the fresh checkpoint one lower.
use mathlib.Core.Path.{◌≡◌, refl, sym, ap, ◌∙◌}
use mathlib.Core.Bool.{Bool, true, false, true≢false}
use mathlib.Core.List.{List, ◌++◌}
use Prim.Native.Nat.{ℕ, ◌+◌, ◌-◌, ◌^◌, ◌≤◌, ◌<◌}
use native.Mathlib.Omega.{arith}
use lib.ListN.{length, drop, replicate, length-append, length-drop, length-replicate}
use lib.Seq.{drop_at}
use Rattle.answers.specs.Answer.{accepted, refused}
use Rattle.problem.specs.Problem.{Problem, SoundProblem}
use Rattle.search_tree.specs.Rules.{rules_of}
use Rattle.search_tree.specs.Search.{Search, search_of}
use Rattle.search_tree.specs.Walk.{State}
use Rattle.checkpoint.specs.declared.Checkpoint.{Checkpoint}
use Rattle.checkpoint.specs.Checkpoints.{has_incumbent, fresh_checkpoint, checkpoint_of, state_of}
use Rattle.checkpoint.proofs.CheckpointState.{state_of_checkpoint}
use Rattle.checkpoint.proofs.StateShape.{state_in_shape}
use Rattle.search.specs.Call as SearchCall
use Rattle.search.specs.Call.{visits, words_needed, cleared, refuse, advance, search_call}
use Rattle.search.proofs.CallRefusals.{Taken}
use Rattle.search.proofs.ShapeKept.{visits_shape}
use Rattle.search.proofs.WalkCall.{fresh_call}
use Rattle.descend.specs.Descent.{Descent, fresh_at, is_exhausted, descents, made, descent_ceiling}
use Rattle.descend.specs.Call.{Descended, standing, arrive, descend_from, descend_call}
use Rattle.descend.proofs.OneSearch.{Goes, stays, renews, goes, counted}

-- a call after so many visits of this one
abbrev pub plus : ℕ → Descended → Descended
plus visits r = record { answer = r.answer; visits = visits + r.visits; checkpoint = r.checkpoint; workspace = r.workspace }

-- words cleared twice are cleared once
cleared_again : (n : ℕ) (l : List ℕ) → replicate n 0 ++ drop n (replicate n 0 ++ drop n l) ≡ replicate n 0 ++ drop n l
cleared_again n l = ap (◌++◌ (replicate n 0)) (drop_at (replicate n 0) (drop n l) n (length-replicate {A = ℕ} n 0))

pub cleared_length : (l : List ℕ) → words_needed ≤ length l → length (cleared l) ≡ length l
cleared_length l room =
    omega (arith, length-append (replicate words_needed 0) (drop words_needed l), length-replicate {A = ℕ} words_needed 0, length-drop words_needed l)

-- a fresh checkpoint stands for a search that has not begun
fresh_standing : (n minimum : ℕ) → standing n (fresh_checkpoint minimum) ≡ fresh_at minimum
unfolding state_of checkpoint_of
fresh_standing n minimum = refl

-- A call on a fresh checkpoint with enough words makes the descent's visits from there.
pub fresh_descends : (connected : Bool) (P : Problem) → SoundProblem P → (floor minimum budget : ℕ) (workspace : List ℕ) → words_needed ≤ length workspace
    → budget < 2 ^ 64
    → descend_call connected P floor (fresh_checkpoint minimum) budget workspace
    ≡ arrive (rules_of P) workspace (made (search_of connected P) floor budget (fresh_at minimum)) (descents (search_of connected P) floor budget (fresh_at minimum))
unfolding descend_call descend_from
fresh_descends connected P sound floor minimum budget workspace room fits =
    rw (fresh_call connected P sound minimum budget workspace room fits, fresh_standing P.old.order minimum)

module _ (connected : Bool) (P : Problem) (c : Checkpoint) (budget : ℕ) (workspace : List ℕ) where
  -- Refused, it refuses the descent's call, with the same number.
  pub call_refuses : (number : ℕ) → search_call connected P c budget workspace ≡ refuse c workspace number → (floor : ℕ)
      → descend_call connected P floor c budget workspace ≡ record { answer = refused number; visits = 0; checkpoint = c; workspace = workspace }
  unfolding descend_call
  call_refuses number e floor = rw e

  -- the search that the call goes on with, its state after so many visits, the descent there, and the visits that it makes
  abbrev S : Search
  S = search_of connected P

  abbrev pub state : State
  state = visits S c.minimum budget (state_of P.old.order c)

  abbrev reached : Descent
  reached = record { minimum = c.minimum; state = state }

  abbrev pub spent : ℕ
  spent = state.steps - c.steps

  module _ (call : Taken connected P c budget workspace) where
    -- An accepted search call leaves the checkpoint of that state, and returns its ceiling.
    pub call_arrives : search_call connected P c budget workspace ≡ SearchCall.arrive c.minimum (rules_of P) workspace state
    unfolding advance
    call_arrives = call.advances

    -- Accepted, it is an accepted call of the descent.
    call_descends : (floor : ℕ) → descend_call connected P floor c budget workspace ≡ descend_from connected P floor c budget workspace
    unfolding descend_call
    call_descends floor = rw call_arrives

    -- What the checkpoint holds is what the state holds.
    pub state_back : length c.path ≡ 64 → state_of P.old.order (checkpoint_of c.minimum state) ≡ state
    state_back long =
        state_of_checkpoint P.old.order c.minimum state
        (λ h e. ((visits_shape S c.minimum budget (state_of P.old.order c) (state_in_shape connected P call.sound c long call.shape)).incumbent_shape h e).full)

    -- It makes at most as many visits as the budget says, and steps never fall.
    pub spent_within : (c.steps ≤ state.steps) × (state.steps ≤ c.steps + budget)
    unfolding state_of
    spent_within = let k = counted S 0 c.minimum (state_of P.old.order c) budget in (k.forward, k.within)

    -- Where it does not exhaust its search, the descent's call ends there.
    pub call_stays : (floor : ℕ) → is_exhausted floor c.minimum state.finished (has_incumbent state.incumbent) ≡ false
        → descend_call connected P floor c budget workspace ≡ arrive (rules_of P) workspace spent reached
    unfolding descend_from state_of
    call_stays floor off = call_descends floor ∙ go (goes S floor c.minimum (state_of P.old.order c) budget)
      where
        go : Goes S floor c.minimum (state_of P.old.order c) budget → descend_from connected P floor c budget workspace ≡ arrive (rules_of P) workspace spent reached
        go (stays e same count) = rw (same, count)
        go (renews e left sum same count) = absurd (true≢false (sym e ∙ off))

    -- Where it does, the rest is a call on the fresh checkpoint one lower, with the budget that is left and the words cleared.
    pub call_renews : budget < 2 ^ 64 → (floor : ℕ) → is_exhausted floor c.minimum state.finished (has_incumbent state.incumbent) ≡ true
        → descend_call connected P floor c budget workspace
        ≡ plus spent (descend_call connected P floor (fresh_checkpoint (c.minimum - 1)) (budget - spent) (cleared workspace))
    unfolding descend_from state_of
    call_renews fits floor on = call_descends floor ∙ go (goes S floor c.minimum (state_of P.old.order c) budget)
      where
        lower : ℕ → Descended
        lower left = descend_call connected P floor (fresh_checkpoint (c.minimum - 1)) left (cleared workspace)

        go : Goes S floor c.minimum (state_of P.old.order c) budget → descend_from connected P floor c budget workspace ≡ plus spent (lower (budget - spent))
        go (stays e same count) = absurd (true≢false (sym on ∙ e))
        go (renews e left sum same count) =
            let rest : budget - spent ≡ left = omega (arith, sum) in
            let anew = fresh_descends connected P call.sound floor (c.minimum - 1) left (cleared workspace) (omega (arith, call.room, cleared_length workspace call.room)) (omega (arith, sum)) in
            rw (same, count, rest, anew) (ap (arriving left) (sym (cleared_again words_needed workspace)))
          where
            arriving : ℕ → List ℕ → Descended
            arriving left ws =
                let d = fresh_at (c.minimum - 1) in
                record {
                  answer = accepted (descent_ceiling (rules_of P) (descents S floor left d));
                  visits = spent + made S floor left d;
                  checkpoint = checkpoint_of (descents S floor left d).minimum (descents S floor left d).state;
                  workspace = ws;
                }
