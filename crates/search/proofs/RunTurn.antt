-- A run of visits, one a turn: the code's checkpoint is the walk's after as many visits, and a finished walk stays as it is.
use mathlib.Core.Path.{◌≡◌, refl, sym, ap, ap₂, ◌∙◌}
use mathlib.Core.Bool.{true, false, Bool}
use mathlib.Core.List.{List}
use Prim.Native.Nat.{ℕ, suc, ◌+◌, ◌-◌, ◌≤◌, ◌<◌, ◌^◌}
use native.Mathlib.Nat.{le_refl}
use native.Mathlib.Decide.{le_ind}
use native.Mathlib.Omega.{arith}
use lib.ListN.{length}
use Rattle.problem.specs.Problem.{Problem}
use Rattle.search_tree.specs.Search.{Search, search_of}
use Rattle.search_tree.specs.Walk.{State, visit}
use Rattle.search_tree.proofs.Steps.{visit_steps, visit_finished}
use Rattle.checkpoint.specs.declared.Checkpoint.{Checkpoint}
use Rattle.search.specs.declared.tables.Tables.{Tables}
use Rattle.search.specs.declared.walk.Walk.{Walk}
use Rattle.checkpoint.specs.Checkpoints.{checkpoint_of, state_of}
use Rattle.search.specs.Walking.{Setting, Lends, Ready, Arrives, Resumes}
use Rattle.search.specs.Call.{visits}
use Rattle.checkpoint.proofs.CheckpointState.{state_of_checkpoint, checkpoint_of_state}
use Rattle.checkpoint.proofs.StateShape.{state_in_shape}
use Rattle.search.proofs.ShapeKept.{visits_shape}
use Rattle.search.proofs.VisitTurn.{Visits}

-- Once k visits finish the walk, more visits change nothing.
pub visits_finished : (S : Search) (minimum : ℕ) (s : State) (k j : ℕ) → (visits S minimum k s).finished ≡ true → k ≤ j
    → visits S minimum j s ≡ visits S minimum k s
unfolding visits
visits_finished S minimum s k j end =
    le_ind (λ j. visits S minimum j s ≡ visits S minimum k s) refl
    (λ j h same. ap (visit S minimum) same ∙ visit_finished S minimum (visits S minimum k s) end) j

-- What a walk that made so many visits holds stands for the state after them.
pub arrived_state : {connected : Bool} {P : Problem} {n : ℕ} {edges masks ws ws' : List ℕ} {w w' : Walk} (k : ℕ) → Setting P n edges masks → Ready connected P w ws
    → Arrives connected P w.checkpoint.minimum (visits (search_of connected P) w.checkpoint.minimum k (state_of P.old.order w.checkpoint)) w' ws'
    → state_of P.old.order w'.checkpoint ≡ visits (search_of connected P) w.checkpoint.minimum k (state_of P.old.order w.checkpoint)
arrived_state {connected} {P} {w = w} k setting ready there =
    let c = w.checkpoint in
    ap (state_of P.old.order) there.checkpoint_is
    ∙ state_of_checkpoint P.old.order c.minimum _
    (λ h e. ((visits_shape (search_of connected P) c.minimum k (state_of P.old.order c)
    (state_in_shape connected P setting.sound c ready.node.path_length ready.shape)).incumbent_shape h e).full)

-- The walk's visits keep the minimum.
pub arrived_minimum : {connected : Bool} {P : Problem} {minimum : ℕ} {s : State} {w : Walk} {ws : List ℕ} → Arrives connected P minimum s w ws → w.checkpoint.minimum ≡ minimum
unfolding checkpoint_of
arrived_minimum there = ap (λ (c : Checkpoint). c.minimum) there.checkpoint_is

-- One visit is one step.
pub visited_steps : {t : Tables} {ws ws' : List ℕ} {w w' : Walk} → w.checkpoint.finished ≡ false → Resumes t w ws
    → Visits t.connected t.order t.edges.now t.masks.now w ws w' ws' → w'.checkpoint.steps ≡ w.checkpoint.steps + 1
unfolding checkpoint_of state_of
visited_steps {t} {w = w} busy resumes visited =
    ap (λ (c : Checkpoint). c.steps) (visited resumes.problem resumes.setting resumes.ready).checkpoint_is
    ∙ visit_steps (search_of t.connected resumes.problem) w.checkpoint.minimum (state_of resumes.problem.old.order w.checkpoint) busy

-- The invariant: as many visits are made as steps, whatever the problem, and the walk is ready for another.
pub record RanTo (t : Tables) (budget : ℕ) (ws : List ℕ) (w : Walk) (ws' : List ℕ) (w' : Walk) : Type 0 where
  pub forward : w.checkpoint.steps ≤ w'.checkpoint.steps
  pub within : w'.checkpoint.steps ≤ w.checkpoint.steps + budget
  pub kept_length : length ws' ≡ length ws
  pub resumes : Resumes t w' ws'
  pub arrives : (P : Problem) → Lends P t → Ready t.connected P w ws
      → Arrives t.connected P w.checkpoint.minimum
      (visits (search_of t.connected P) w.checkpoint.minimum (w'.checkpoint.steps - w.checkpoint.steps) (state_of P.old.order w.checkpoint)) w' ws'

module _ {t : Tables} {budget : ℕ} {ws : List ℕ} {w : Walk} where
  -- At first no visit is made.
  pub ran_none : Resumes t w ws → RanTo t budget ws w ws w
  unfolding visits
  ran_none resumes = record {
    forward = le_refl _;
    within = omega arith;
    kept_length = refl;
    resumes = resumes;
    arrives = λ P setting ready.
        let none : w.checkpoint.steps - w.checkpoint.steps ≡ 0 = omega arith in
        let own = checkpoint_of_state t.connected P w.checkpoint setting.sound.old_sound.order_max ready.node.path_length ready.incumbent_length
        ready.shape in
        rw none (record { checkpoint_is = sym own; ready = ready });
  }

  module _ {ws' : List ℕ} {w' : Walk} (ran : RanTo t budget ws w ws' w') where
    -- One visit more.
    pub ran_more : {ws'' : List ℕ} {w'' : Walk} → w'.checkpoint.steps < w.checkpoint.steps + budget → w'.checkpoint.finished ≡ false
        → length ws'' ≡ length ws' → Visits t.connected t.order t.edges.now t.masks.now w' ws' w'' ws'' → RanTo t budget ws w ws'' w''
    unfolding visits
    ran_more {ws''} {w''} h busy same visited =
        let one = visited_steps busy ran.resumes visited in
        record {
          forward = omega (arith, ran.forward);
          within = omega arith;
          kept_length = same ∙ ran.kept_length;
          resumes = record {
            problem = ran.resumes.problem;
            setting = ran.resumes.setting;
            ready = (visited ran.resumes.problem ran.resumes.setting ran.resumes.ready).ready;
          };
          arrives = λ P setting ready.
              let made : ℕ = w'.checkpoint.steps - w.checkpoint.steps in
              let here = ran.arrives P setting ready in
              let there = visited P setting here.ready in
              let more : w''.checkpoint.steps - w.checkpoint.steps ≡ suc made = omega (arith, ran.forward) in
              rw more (record {
                checkpoint_is = there.checkpoint_is
                    ∙ ap₂ (λ (m : ℕ) (s : State). checkpoint_of m (visit (search_of t.connected P) m s)) (arrived_minimum here) (arrived_state made setting ready here);
                ready = there.ready;
              });
        }

    -- A finished walk has made all visits of the budget.
    pub ran_finished : w'.checkpoint.finished ≡ true → (P : Problem) → Lends P t → Ready t.connected P w ws
        → Arrives t.connected P w.checkpoint.minimum (visits (search_of t.connected P) w.checkpoint.minimum budget (state_of P.old.order w.checkpoint)) w' ws'
    unfolding checkpoint_of
    ran_finished end P setting ready =
        let here = ran.arrives P setting ready in
        let stays = visits_finished (search_of t.connected P) w.checkpoint.minimum (state_of P.old.order w.checkpoint)
        (w'.checkpoint.steps - w.checkpoint.steps) budget (ap (λ (c : Checkpoint). c.finished) (sym here.checkpoint_is) ∙ end)
        (omega (arith, ran.within, ran.forward)) in
        record { checkpoint_is = rw stays here.checkpoint_is; ready = here.ready }

    -- At the end all visits are made.
    ran_all : w.checkpoint.steps + budget ≤ w'.checkpoint.steps → (P : Problem) → Lends P t → Ready t.connected P w ws
        → Arrives t.connected P w.checkpoint.minimum (visits (search_of t.connected P) w.checkpoint.minimum budget (state_of P.old.order w.checkpoint)) w' ws'
    ran_all h P setting ready =
        let all : w'.checkpoint.steps - w.checkpoint.steps ≡ budget = omega (arith, ran.within) in
        rw all at (ran.arrives P setting ready)

-- a walk that is not finished has made so many visits, and its steps and the budget count
abbrev pub Counts : ℕ → Walk → Walk → ℕ → Type 0
Counts budget w w' made = w'.checkpoint.finished ≡ false → (w'.checkpoint.steps ≡ w.checkpoint.steps + made) × (w.checkpoint.steps + budget < 2 ^ 64)

-- At the end, finished or not, all visits are made.
pub ran_out : {t : Tables} {budget made : ℕ} {ws ws' : List ℕ} {w w' : Walk} → RanTo t budget ws w ws' w'
    → Counts budget w w' made → budget ≤ made → (P : Problem) → Lends P t → Ready t.connected P w ws
    → Arrives t.connected P w.checkpoint.minimum (visits (search_of t.connected P) w.checkpoint.minimum budget (state_of P.old.order w.checkpoint)) w' ws'
ran_out {t} {budget} {made} {ws} {ws'} {w} {w'} ran counts all P setting ready = go w'.checkpoint.finished refl
  where
    go : (b : Bool) → w'.checkpoint.finished ≡ b
        → Arrives t.connected P w.checkpoint.minimum (visits (search_of t.connected P) w.checkpoint.minimum budget (state_of P.old.order w.checkpoint)) w' ws'
    go true e = ran_finished ran e P setting ready
    go false e = ran_all ran (omega (arith, (counts e).0)) P setting ready
