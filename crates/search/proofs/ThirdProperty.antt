-- The mission's third property, proved for every list of calls by recursion over the list.
use mathlib.Core.Path.{◌≡◌, refl, sym, ap, ◌∙◌}
use mathlib.Core.Logic.{◌↔◌, ◌⊎◌, inl, inr, ⊎_elim}
use mathlib.Core.Bool.{Bool, true, false, true≢false, false≢true}
use mathlib.Core.List.{List, [], ◌∷◌, ◌++◌}
use Prim.Native.Nat.{ℕ, ◌+◌, ◌^◌, ◌≤◌, ◌<◌, min}
use native.Mathlib.Nat.{add-zero, zero-add, add_assoc}
use native.Mathlib.Omega.{arith}
use lib.ListN.{length, drop, replicate}
use Rattle.answers.specs.Answer.{Answer, accepted, refused, is_refused}
use Rattle.problem.specs.Problem.{Problem, SoundProblem}
use Rattle.search_tree.specs.Rules.{rules_of}
use Rattle.search_tree.specs.Search.{search_of, Good}
use Rattle.search_tree.specs.StepLimit.{step_limit}
use Rattle.search_tree.specs.Walk.{State, after, IsTotal}
use Rattle.search_tree.specs.Ceiling.{ceiling}
use Rattle.search_tree.specs.Best.{Best}
use Rattle.search_tree.proofs.Steps.{finished_from, unchanged_after, capped_after, steps_total, total_unique}
use Rattle.search_tree.proofs.WalkTheorems.{incumbent_good, good_below, good_best, walk_ends}
use Rattle.checkpoint.specs.declared.Checkpoint.{Checkpoint}
use Rattle.checkpoint.specs.Checkpoints.{fresh_checkpoint, checkpoint_of, state_of}
use Rattle.search.specs.Call.{Called, words_needed}
use Rattle.search.specs.Calls.{Call, called, leaves, counted, summed, CallIn, up_to, reached, spent, result_of}
use Rattle.search.specs.ThirdProperty.{Judged, Unchanged, incumbent_in, ThirdProperty}
use Rattle.checkpoint.proofs.StateShape.{walk_state}
use Rattle.search.proofs.WalkCall.{walk_at, Course, few, full, done, walk_course}
use Rattle.search.proofs.CallLists.{summed_snoc}

-- An answer is judged by the condition that gives it.
module _ (c : Checkpoint) (call : Call) (answer : Answer) where
  pub judged_few : length call.workspace < words_needed → answer ≡ refused 15 → Judged c call answer
  judged_few l a = record {
    words = (λ b. l, λ b. a);
    count = (λ b. let z : ◌≡◌ {A = ℕ} 15 16 = cc in absurd (omega arith), λ h. absurd (omega (arith, h.0)));
    others = inl a;
  }

  pub judged_full : words_needed ≤ length call.workspace → c.finished ≡ false → 2 ^ 64 ≤ c.steps + call.budget → answer ≡ refused 16
      → Judged c call answer
  judged_full l f m a = record {
    words = (λ b. let z : ◌≡◌ {A = ℕ} 15 16 = cc in absurd (omega arith), λ h. absurd (omega arith));
    count = (λ b. (l, f, omega arith), λ h. a);
    others = inr (inl a);
  }

  pub judged_done : words_needed ≤ length call.workspace → (c.finished ≡ true) ⊎ (c.steps + call.budget < 2 ^ 64)
      → (n : ℕ) → answer ≡ accepted n → Judged c call answer
  judged_done l fits n a = record {
    words = (λ b. absurd (true≢false (cc)), λ h. absurd (omega arith));
    count = (λ b. absurd (true≢false (cc)), λ h. absurd (⊎_elim (λ f. true≢false (sym f ∙ h.1)) (λ m. omega (arith, h.2)) fits));
    others = inr (inr (n, a));
  }

module _ (connected : Bool) (P : Problem) (sound : SoundProblem P) (minimum : ℕ) where
  module _ (k : ℕ) (call : Call) (r : Called) where
    -- what a call on the walk's checkpoint after k visits gives
    abbrev Went : Type 0
    Went = Course connected P minimum k call.budget call.workspace r

    course_judged : Went → Judged (walk_at connected P minimum k) call r.answer
    course_judged (few l e) = rw e (judged_few _ _ _ l refl)
    course_judged (full l f m e) = rw e (judged_full _ _ _ l f m refl)
    course_judged (done l fits e) = rw e (judged_done _ _ _ l fits _ refl)

    course_checkpoint : Went → r.checkpoint ≡ walk_at connected P minimum (k + counted r call.budget)
    course_checkpoint (few l e) = rw (e, add-zero)
    course_checkpoint (full l f m e) = rw (e, add-zero)
    course_checkpoint (done l fits e) = rw e

    refused_unchanged : Went → is_refused r.answer ≡ true → Unchanged (walk_at connected P minimum k) call.workspace r.checkpoint r.workspace
    refused_unchanged (few l e) b = rw e (record { same_checkpoint = refl; same_workspace = refl })
    refused_unchanged (full l f m e) b = rw e (record { same_checkpoint = refl; same_workspace = refl })
    refused_unchanged (done l fits e) b = absurd (false≢true (rw e at b))

    accepted_ceiling : Went → is_refused r.answer ≡ false
        → r.answer ≡ accepted (ceiling (rules_of P) minimum (after (search_of connected P) minimum (k + call.budget)))
    accepted_ceiling (few l e) b = absurd (true≢false (rw e at b))
    accepted_ceiling (full l f m e) b = absurd (true≢false (rw e at b))
    accepted_ceiling (done l fits e) b = rw e

    accepted_cleared : Went → is_refused r.answer ≡ false → r.workspace ≡ replicate words_needed 0 ++ drop words_needed call.workspace
    accepted_cleared (few l e) b = absurd (true≢false (rw e at b))
    accepted_cleared (full l f m e) b = absurd (true≢false (rw e at b))
    accepted_cleared (done l fits e) b = ap (λ (x : Called). x.workspace) e

  -- Calls on the walk's checkpoint leave the walk's checkpoint, as many visits later as the budgets of the calls not refused add up to.
  pub leaves_walk : (calls : List Call) (k : ℕ) → leaves connected P (walk_at connected P minimum k) calls ≡ walk_at connected P minimum (k + summed connected P (walk_at connected P minimum k) calls)
  unfolding leaves summed
  leaves_walk [] k = rw add-zero
  leaves_walk (call ∷ later) k =
      let r = called connected P (walk_at connected P minimum k) call in
      let more = counted r call.budget in
      let step = course_checkpoint k call r (walk_course connected P sound minimum k call.budget call.workspace) in
      rw (step, leaves_walk later (k + more), add_assoc k more _)

  -- From a fresh checkpoint the calls leave the walk's checkpoint after their summed budgets.
  pub reached_walk : (calls : List Call) → reached connected P minimum calls ≡ walk_at connected P minimum (spent connected P minimum calls)
  unfolding after
  reached_walk calls = leaves_walk calls 0 ∙ ap (walk_at connected P minimum) (zero-add (spent connected P minimum calls))

  -- what the walk's checkpoint holds is what the walk holds
  walk_incumbent : (k : ℕ) → incumbent_in P (walk_at connected P minimum k) ≡ (after (search_of connected P) minimum k).incumbent
  unfolding state_of
  walk_incumbent k = ap (λ (s : State). s.incumbent) (walk_state connected P sound minimum k)

  -- how a call of a list goes
  course : {calls : List Call} (x : CallIn calls)
      → Course connected P minimum (spent connected P minimum x.before) x.call.budget x.call.workspace (result_of connected P minimum x)
  course x =
      rw (reached_walk x.before) (walk_course connected P sound minimum (spent connected P minimum x.before) x.call.budget x.call.workspace)

  uncounted : {calls : List Call} (x : CallIn calls) → is_refused (result_of connected P minimum x).answer ≡ true
      → spent connected P minimum (up_to x) ≡ spent connected P minimum x.before
  uncounted x b = summed_snoc connected P (fresh_checkpoint minimum) x.before x.call ∙ rw (b, add-zero)

  counted_budget : {calls : List Call} (x : CallIn calls) → is_refused (result_of connected P minimum x).answer ≡ false
      → spent connected P minimum (up_to x) ≡ spent connected P minimum x.before + x.call.budget
  counted_budget x b = summed_snoc connected P (fresh_checkpoint minimum) x.before x.call ∙ rw b

  module _ {t : ℕ} (total : IsTotal (search_of connected P) minimum t) where
    walk_steps : (k : ℕ) → (walk_at connected P minimum k).steps ≡ min t k
    unfolding checkpoint_of
    walk_steps k = omega (arith, steps_total (search_of connected P) minimum total k)

    walk_finished : (k : ℕ) → ((walk_at connected P minimum k).finished ≡ true) ↔ ((walk_at connected P minimum k).steps ≡ t)
    unfolding checkpoint_of
    walk_finished k = (
      λ e. let late : t ≤ k = (finished_from (search_of connected P) minimum total k).0 e in omega (arith, walk_steps k),
      λ e. (finished_from (search_of connected P) minimum total k).1 (omega (arith, walk_steps k)),
    )

    walk_best : (k : ℕ) → (walk_at connected P minimum k).finished ≡ true → Best (Good connected P) minimum (incumbent_in P (walk_at connected P minimum k))
    unfolding checkpoint_of
    walk_best k e =
        let late : t ≤ k = (finished_from (search_of connected P) minimum total k).0 e in
        rw (walk_incumbent k, unchanged_after (search_of connected P) minimum total k late) (good_best connected P sound minimum total)

-- what is judged by that row is not refused with 14
pub no_14 : {answer : Answer} → (answer ≡ refused 15) ⊎ ((answer ≡ refused 16) ⊎ ((n : ℕ) × (answer ≡ accepted n))) → answer ≡ refused 14 → ⊥
no_14 (inl e) a = let z : ◌≡◌ {A = ℕ} 14 15 = cc in omega arith
no_14 (inr (inl e)) a = let z : ◌≡◌ {A = ℕ} 14 16 = cc in omega arith
no_14 (inr (inr (n, e))) a = true≢false (cc)

-- The third property holds of both searches, every sound problem, every minimum, the walk's total and every list of calls, with any budgets and workspaces.
pub third_property : (connected : Bool) (P : Problem) → SoundProblem P → (minimum t : ℕ) → IsTotal (search_of connected P) minimum t
    → (calls : List Call) → ThirdProperty connected P minimum t calls
third_property connected P sound minimum t total calls = record {
  judged = λ x. rw (capped_after (search_of connected P) minimum total (spent connected P minimum x.before)) (judged x);
  never_14 = λ x. no_14 (judged x).others;
  unchanged = λ x b.
      let same = refused_unchanged connected P sound minimum _ _ _ (course connected P sound minimum x) b in
      record { same_checkpoint = same.same_checkpoint ∙ sym (reached_walk connected P sound minimum x.before); same_workspace = same.same_workspace };
  uncounted = uncounted connected P sound minimum;
  counted = counted_budget connected P sound minimum;
  steps = rw (reached_walk connected P sound minimum calls) (walk_steps connected P sound minimum total sum);
  checkpoint = reached_walk connected P sound minimum calls ∙ ap (checkpoint_of minimum) (sym (capped_after (search_of connected P) minimum total sum));
  incumbent = λ h e. incumbent_good connected P sound minimum sum h
      (sym (walk_incumbent connected P sound minimum sum) ∙ sym (ap (incumbent_in P) (reached_walk connected P sound minimum calls)) ∙ e);
  ceilings = λ x b. rw (capped_after (search_of connected P) minimum total (spent connected P minimum (up_to x)), counted_budget connected P sound minimum x b) (top_of x b);
  above = λ x top a l good.
      let same = top_of x (ap is_refused a) in
      let e : top ≡ ceiling (rules_of P) minimum (after (search_of connected P) minimum (spent connected P minimum x.before + x.call.budget)) = cc in
      rw e (good_below connected P sound minimum (spent connected P minimum x.before + x.call.budget) l good);
  finished = rw (reached_walk connected P sound minimum calls) (walk_finished connected P sound minimum total sum);
  best = rw (reached_walk connected P sound minimum calls) (walk_best connected P sound minimum total sum);
  cleared = λ x b. accepted_cleared connected P sound minimum _ _ _ (course connected P sound minimum x) b;
}
  where
    sum : ℕ
    sum = spent connected P minimum calls

    judged : (x : CallIn calls) → Judged (walk_at connected P minimum (spent connected P minimum x.before)) x.call (result_of connected P minimum x).answer
    judged x = course_judged connected P sound minimum _ _ _ (course connected P sound minimum x)

    top_of : (x : CallIn calls) → is_refused (result_of connected P minimum x).answer ≡ false
        → (result_of connected P minimum x).answer
        ≡ accepted (ceiling (rules_of P) minimum (after (search_of connected P) minimum (spent connected P minimum x.before + x.call.budget)))
    top_of x b = accepted_ceiling connected P sound minimum _ _ _ (course connected P sound minimum x) b

-- The walk has one total, and with it the third property holds of every list of calls.
pub third_property_total : (connected : Bool) (P : Problem) → SoundProblem P → (minimum : ℕ)
    → (t : ℕ) × IsTotal (search_of connected P) minimum t × ((u : ℕ) → IsTotal (search_of connected P) minimum u → u ≡ t)
    × ((calls : List Call) → ThirdProperty connected P minimum t calls)
third_property_total connected P sound minimum =
    let end = walk_ends connected P sound minimum in (
      end.0,
      end.1,
      λ u total. total_unique (search_of connected P) minimum total end.1,
      third_property connected P sound minimum end.0 end.1,
    )

-- Once the budgets of the calls that are not refused add up to the step limit of the two orders, the search is finished (02, U5).
pub limit_spent : (connected : Bool) (P : Problem) → SoundProblem P → (minimum : ℕ) (calls : List Call)
    → step_limit P.new.order P.old.order ≤ spent connected P minimum calls → (reached connected P minimum calls).finished ≡ true
limit_spent connected P sound minimum calls enough =
    let end = walk_ends connected P sound minimum in
    let property = third_property connected P sound minimum end.0 end.1 calls in
    property.finished.1 (omega (arith, property.steps, end.2))
