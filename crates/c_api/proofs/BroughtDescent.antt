-- The checkpoint to which calls brought a descent from its start is in shape and fits the code's types; so is the one that a call on it leaves.
use mathlib.Core.Path.{◌≡◌, refl, sym, ap}
use mathlib.Core.Logic.{⊎_elim}
use mathlib.Core.Bool.{Bool, true, false}
use Prim.Native.Nat.{ℕ, zero, suc, ◌+◌, ◌^◌, ◌≤◌, ◌<◌}
use native.Mathlib.Omega.{arith}
use Rattle.bounded.proofs.Endings.{done_stays}
use Rattle.problem.specs.Problem.{Problem, SoundProblem}
use Rattle.search_tree.specs.Rules.{rules_of}
use Rattle.search_tree.specs.Search.{Search, search_of}
use Rattle.search_tree.specs.Shape.{Shape}
use Rattle.search_tree.proofs.Shape.{after_shape}
use Rattle.checkpoint.specs.declared.Checkpoint.{Checkpoint}
use Rattle.checkpoint.specs.Checkpoints.{checkpoint_of, InShape}
use Rattle.checkpoint.proofs.StateShape.{checkpoint_in_shape}
use Rattle.search.specs.Calls.{Call}
use Rattle.checkpoint_loader.specs.Between.{Sized}
use Rattle.checkpoint_loader.proofs.CalledSized.{visit_step_max, checkpoint_sized}
use Rattle.descend.specs.Descent.{Descent, fresh_at, start_of, exhausted, renewed, visited, descents, is_done, descent_after}
use Rattle.descend.specs.Call.{Descended}
use Rattle.descend.specs.Calls.{called}
use Rattle.descend.specs.DescentProperty.{checkpoint_at}
use Rattle.descend.proofs.OneSearch.{renewed_same, renewed_anew}
use Rattle.descend.proofs.DescentLaws.{descents_add, descents_stay}
use Rattle.descend.proofs.DescentCourse.{Course, few, full, gone, descent_course}
use Rattle.descend.proofs.Standing.{Walks, stands_start, stands_after}

renewed_steps : (floor : ℕ) (d : Descent) → (renewed floor d).state.steps ≤ d.state.steps
renewed_steps floor d = go (exhausted floor d) refl
  where
    go : (b : Bool) → exhausted floor d ≡ b → (renewed floor d).state.steps ≤ d.state.steps
    go true on = rw (renewed_anew floor d on) (omega arith)
    go false off = rw (renewed_same floor d off) (omega arith)

-- k visits of a descent make k steps at most in the search that it is in
descents_steps : (S : Search) (floor k : ℕ) (d : Descent) → (descents S floor k d).state.steps ≤ d.state.steps + k
unfolding descents
descents_steps S floor zero d = omega (arith, renewed_steps floor d)
descents_steps S floor (suc k) d =
    let e = descents S floor k d in
    omega (arith, renewed_steps floor (visited S e), visit_step_max S e.minimum e.state, descents_steps S floor k d)

module _ (connected : Bool) (P : Problem) (sound : SoundProblem P) (floor : ℕ) where
  abbrev S : Search
  S = search_of connected P

  -- the descent after so many visits, with steps of 64 bits
  pub record Brought (c : Checkpoint) : Type 0 where
    pub visits : ℕ
    pub is : c ≡ checkpoint_at (descent_after S floor visits)
    pub steps_fit : (descent_after S floor visits).state.steps < 2 ^ 64

  walks_at : (k : ℕ) → Walks connected P sound floor (descent_after S floor k)
  walks_at k = (stands_after connected P sound floor (stands_start connected P sound floor) k).walks

  shape_at : (k : ℕ) → Shape S (descent_after S floor k).minimum (descent_after S floor k).state
  shape_at k = rw (walks_at k).walk (after_shape S (descent_after S floor k).minimum (walks_at k).visits)

  -- It is in shape,
  pub brought_in_shape : {c : Checkpoint} → Brought c → InShape connected P c
  brought_in_shape brought =
      let d = descent_after S floor brought.visits in
      rw brought.is (checkpoint_in_shape connected P sound d.minimum d.state (shape_at brought.visits))

  -- and fits the code's types.
  pub brought_sized : {c : Checkpoint} → Brought c → Sized c
  brought_sized brought =
      let d = descent_after S floor brought.visits in
      let shape = shape_at brought.visits in
      let order_max = sound.old_sound.order_max in
      rw brought.is
      (checkpoint_sized d.minimum d.state (omega (arith, shape.reached.depth)) (λ h e. omega (arith, (shape.incumbent_shape h e).full)) brought.steps_fit)

  -- A call brings it on.
  pub brought_on : {c : Checkpoint} → Brought c → (call : Call) → Brought (called connected P floor c call).checkpoint
  unfolding checkpoint_of
  brought_on {c} brought call =
      rw brought.is (go _ (descent_course connected P sound floor call.budget call.workspace (walks_at k)))
    where
      k : ℕ
      k = brought.visits

      d : Descent
      d = descent_after S floor k

      stays : is_done d ≡ true → descent_after S floor (k + call.budget) ≡ d
      stays end =
          done_stays (descent_after S floor) is_done (descents_stay S floor (fresh_at (start_of (rules_of P) floor))) k (k + call.budget) end (omega arith)

      go : (r : Descended) → Course connected P floor d call.budget call.workspace r → Brought r.checkpoint
      go r (few l e) = rw e (record { visits = k; is = refl; steps_fit = brought.steps_fit })
      go r (full l f m e) = rw e (record { visits = k; is = refl; steps_fit = brought.steps_fit })
      go r (gone l fits e) =
          let more = descents_add S floor k call.budget (fresh_at (start_of (rules_of P) floor)) in
          rw e (record {
            visits = k + call.budget;
            is = ap checkpoint_at (sym more);
            steps_fit =
                ⊎_elim
                (λ end. rw (stays end) brought.steps_fit)
                (λ fit. rw more (omega (arith, fit, descents_steps S floor call.budget d)))
                fits;
          })
