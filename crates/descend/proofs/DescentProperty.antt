-- What is promised of a descent, proved for every list of calls by recursion over the list.
use mathlib.Core.Path.{◌≡◌, refl, sym, ap, subst, ◌∙◌}
use mathlib.Core.Logic.{◌↔◌}
use mathlib.Core.Bool.{Bool, true, false, cond, true≢false, false≢true}
use mathlib.Core.List.{List, [], ◌∷◌, ◌++◌}
use Prim.Native.Nat.{ℕ, ◌<◌, ◌+◌, ◌≤◌, min}
use native.Mathlib.Nat.{add-zero}
use native.Mathlib.Omega.{arith}
use lib.ListN.{drop, replicate}
use Rattle.answers.specs.Answer.{accepted, is_refused, value_of}
use Rattle.problem.specs.Problem.{Problem, SoundProblem}
use Rattle.problem.proofs.ProblemPasses.{problem_passes}
use Rattle.mapping.specs.Common.{size}
use Rattle.search_tree.specs.Rules.{rules_of}
use Rattle.search_tree.specs.Search.{Search, search_of, Good}
use Rattle.search_tree.specs.Walk as Walk
use Rattle.search_tree.specs.Walk.{State}
use Rattle.search_tree.specs.Best.{Best}
use Rattle.search_tree.proofs.WalkTheorems.{good_best_unique}
use Rattle.checkpoint.specs.declared.Checkpoint.{Checkpoint}
use Rattle.checkpoint.specs.Checkpoints.{checkpoint_of, state_of}
use Rattle.checkpoint.proofs.StateShape.{walk_state}
use Rattle.search.specs.Call.{words_needed}
use Rattle.search.specs.Calls.{Call, CallIn, up_to}
use Rattle.search.specs.ThirdProperty.{Judged, Unchanged, incumbent_in}
use Rattle.search.proofs.WalkCall.{walk_at}
use Rattle.search.proofs.ThirdProperty.{judged_few, judged_full, judged_done, no_14}
use Rattle.descend.specs.Descent.{Descent, fresh_at, start_of, descents, is_done, made, descent_ceiling, descent_after, IsTotal}
use Rattle.descend.specs.Call.{Descended, start_call}
use Rattle.descend.specs.Calls.{called, Left, left_by, left_from, at_start, left_after, result_of}
use Rattle.descend.specs.DescentProperty.{checkpoint_at, DescentProperty}
use Rattle.bounded.proofs.Endings.{Ends, done_from, capped, counts}
use Rattle.descend.proofs.OneSearch.{fresh_at_none, made_none}
use Rattle.descend.proofs.DescentCalls.{left_from_append, left_after_up_to, left_from_spent}
use Rattle.descend.proofs.DescentLaws.{descents_settled, descents_add, made_add, descents_stay, total_ends}
use Rattle.descend.proofs.DescentEnds.{descent_ends, descent_total_unique}
use Rattle.descend.proofs.DescentCourse.{Course, few, full, gone, descent_course}
use Rattle.descend.proofs.Standing.{Walks, walks_after, handed_over, Stands, stands_start, stands_after, stands_above, ceiling_held, ceiling_none, descents_fall, done_best}
use Rattle.descend.proofs.HeldBest.{held_best}

-- what a call is judged by, where it went
course_judged : {connected : Bool} {P : Problem} {floor : ℕ} {d : Descent} (call : Call) {r : Descended}
    → Course connected P floor d call.budget call.workspace r → Judged (checkpoint_at d) call r.answer
course_judged call (few l e) = rw e (judged_few _ _ _ l refl)
course_judged call (full l f m e) = rw e (judged_full _ _ _ l f m refl)
course_judged call (gone l fits e) = rw e (judged_done _ _ _ l fits _ refl)

module _ (connected : Bool) (P : Problem) (sound : SoundProblem P) (floor : ℕ) where
  abbrev S : Search
  S = search_of connected P

  abbrev start : Descent
  start = fresh_at (start_of (rules_of P) floor)

  -- where the descent stands after k visits
  stands_at : (k : ℕ) → Stands connected P sound floor (descent_after S floor k)
  stands_at k = stands_after connected P sound floor (stands_start connected P sound floor) k

  -- what calls leave is the descent after the visits of their summed budgets
  record Arrived (a : Left) : Type 0 where
    checkpoint_is : a.checkpoint ≡ checkpoint_at (descent_after S floor a.spent)
    visits_are : a.visits ≡ made S floor a.spent start

  arrived_start : Arrived (at_start P floor)
  unfolding start_call
  arrived_start = record {
    checkpoint_is = rw (problem_passes P sound) (ap checkpoint_at (sym (fresh_at_none S floor (start_of (rules_of P) floor))));
    visits_are = sym (made_none S floor start);
  }

  -- how a call goes on what calls left
  course_on : {a : Left} → Arrived a → (call : Call)
      → Course connected P floor (descent_after S floor a.spent) call.budget call.workspace (called connected P floor a.checkpoint call)
  course_on {a} arrived call = rw arrived.checkpoint_is (descent_course connected P sound floor call.budget call.workspace (stands_at a.spent).walks)

  arrived_by : {a : Left} → Arrived a → (call : Call) → Arrived (left_by connected P floor a call)
  arrived_by {a} arrived call = go (called connected P floor a.checkpoint call) (course_on arrived call)
    where
      by : Descended → Left
      by r = record { checkpoint = r.checkpoint; spent = a.spent + cond (is_refused r.answer) 0 call.budget; visits = a.visits + r.visits }

      kept : Arrived (record { checkpoint = checkpoint_at (descent_after S floor a.spent); spent = a.spent + 0; visits = a.visits + 0 })
      kept = rw (add-zero a.spent, add-zero a.visits) (record { checkpoint_is = refl; visits_are = arrived.visits_are })

      go : (r : Descended) → Course connected P floor (descent_after S floor a.spent) call.budget call.workspace r → Arrived (by r)
      go r (few l e) = rw e kept
      go r (full l f m e) = rw e kept
      go r (gone l fits e) = rw e (record {
        checkpoint_is = ap checkpoint_at (sym (descents_add S floor a.spent call.budget start));
        visits_are = omega (arith, arrived.visits_are, made_add S floor a.spent call.budget start);
      })

  arrived_from : {a : Left} → Arrived a → (calls : List Call) → Arrived (left_from connected P floor a calls)
  unfolding left_from
  arrived_from {a = a} arrived [] = arrived
  arrived_from {a = a} arrived (call ∷ later) = arrived_from {a = left_by connected P floor a call} (arrived_by arrived call) later

  -- From the start, the calls leave the descent after their summed budgets.
  arrived_after : (calls : List Call) → Arrived (left_after connected P floor calls)
  arrived_after calls = arrived_from arrived_start calls

  -- how a call of a list goes
  course : {calls : List Call} (x : CallIn calls)
      → Course connected P floor (descent_after S floor (left_after connected P floor x.before).spent) x.call.budget x.call.workspace (result_of connected P floor x)
  course x = course_on (arrived_after x.before) x.call

  -- the ceiling that an accepted call returns
  course_ceiling : {d : Descent} {budget : ℕ} {workspace : List ℕ} {r : Descended} → Course connected P floor d budget workspace r → is_refused r.answer ≡ false
      → r.answer ≡ accepted (descent_ceiling (rules_of P) (descents S floor budget d))
  course_ceiling (few l e) b = absurd (true≢false (rw e at b))
  course_ceiling (full l f m e) b = absurd (true≢false (rw e at b))
  course_ceiling (gone l fits e) b = ap (λ (r : Descended). r.answer) e

  ceiling_after : (before : List Call) (call : Call) (top : ℕ)
      → (called connected P floor (left_after connected P floor before).checkpoint call).answer ≡ accepted top
      → top ≡ descent_ceiling (rules_of P) (descent_after S floor ((left_after connected P floor before).spent + call.budget))
  ceiling_after before call top a =
      ap value_of (sym a ∙ course_ceiling (course_on (arrived_after before) call) (ap is_refused a))
      ∙ ap (descent_ceiling (rules_of P)) (sym (descents_add S floor (left_after connected P floor before).spent call.budget start))

  -- the state of the descent's checkpoint
  state_at : (d : Descent) → Walks connected P sound floor d → state_of P.old.order (checkpoint_at d) ≡ d.state
  state_at d walks =
      subst (λ (s : State). state_of P.old.order (checkpoint_of d.minimum s) ≡ s) (sym walks.walk) (walk_state connected P sound d.minimum walks.visits)

  held_in : (d : Descent) → Walks connected P sound floor d → incumbent_in P (checkpoint_at d) ≡ d.state.incumbent
  unfolding state_of
  held_in d walks = ap (λ (s : State). s.incumbent) (state_at d walks)

  held_at : (k : ℕ) → incumbent_in P (checkpoint_at (descent_after S floor k)) ≡ (descent_after S floor k).state.incumbent
  held_at k = held_in (descent_after S floor k) (stands_at k).walks

  finished_at : (d : Descent) → (checkpoint_at d).finished ≡ is_done d
  unfolding checkpoint_of
  finished_at d = refl

  -- the ceiling at the start
  start_top : {top : ℕ} → (start_call P floor).answer ≡ accepted top → top ≡ descent_ceiling (rules_of P) start
  unfolding start_call
  start_top {top} a = ap value_of (sym a ∙ told)
    where
      told : (start_call P floor).answer ≡ accepted (descent_ceiling (rules_of P) start)
      told = rw (problem_passes P sound)

  -- two calls, one after the other
  later_spent : {calls : List Call} (x : CallIn calls) (y : CallIn x.later)
      → (left_after connected P floor (up_to x)).spent ≤ (left_after connected P floor (up_to x ++ y.before)).spent
  later_spent x y = rw (left_from_append connected P floor (at_start P floor) (up_to x) y.before) (left_from_spent connected P floor (left_after connected P floor (up_to x)) y.before)

  spent_up_to : {calls : List Call} (x : CallIn calls) (b : Bool) → is_refused (result_of connected P floor x).answer ≡ b
      → (left_after connected P floor (up_to x)).spent ≡ (left_after connected P floor x.before).spent + cond b 0 x.call.budget
  spent_up_to x b e =
      ap (λ (a : Left). a.spent) (left_after_up_to connected P floor x)
      ∙ ap (λ (t : Bool). (left_after connected P floor x.before).spent + cond t 0 x.call.budget) e

  module _ {t : ℕ} (total : IsTotal S floor t) where
    ends : Ends (descent_after S floor) is_done (descents_stay S floor start) t
    ends = total_ends S floor total

    -- from the total on nothing changes, so that visits above it need not be counted
    capped_at : (k : ℕ) → descent_after S floor (min t k) ≡ descent_after S floor k
    capped_at k = capped (descent_after S floor) is_done (descents_stay S floor start) ends k

    made_total : (k : ℕ) → made S floor k start ≡ min t k
    unfolding made
    made_total k = counts (descent_after S floor) is_done (descents_stay S floor start) ends (λ k. made S floor k start) refl (λ k. refl) k

    done_total : (k : ℕ) → (is_done (descent_after S floor k) ≡ true) ↔ (min t k ≡ t)
    done_total k =
        let from = done_from (descent_after S floor) is_done (descents_stay S floor start) ends k in
        (λ e. let late = from.0 e in omega arith, λ e. from.1 (omega arith))

-- The promise holds of both searches, every sound problem, every floor, the descent's total and every list of calls, with any budgets and workspaces.
pub descent_property : (connected : Bool) (P : Problem) → SoundProblem P → (floor t : ℕ) → IsTotal (search_of connected P) floor t
    → (calls : List Call) → DescentProperty connected P floor t calls
descent_property connected P sound floor t total calls = record {
  judged = λ x. rw (capped_at connected P sound floor total (left_after connected P floor x.before).spent) (course_judged x.call (course connected P sound floor x));
  never_14 = λ x. no_14 (course_judged x.call (course connected P sound floor x)).others;
  unchanged = λ x b. unchanged x b (course connected P sound floor x);
  unvisited = λ x b. unvisited x b (course connected P sound floor x);
  uncounted = λ x b. spent_up_to connected P sound floor x true b ∙ add-zero _;
  counted = λ x b. spent_up_to connected P sound floor x false b;
  visits = made_sum;
  checkpoint = at_sum ∙ ap checkpoint_at (sym (capped_at connected P sound floor total sum));
  ceilings = λ x b.
      course_ceiling connected P sound floor (course connected P sound floor x) b
      ∙ ap (λ (d : Descent). accepted (descent_ceiling (rules_of P) d))
      (sym (descents_add S floor (left_after connected P floor x.before).spent x.call.budget (fresh_at (start_of (rules_of P) floor)))
      ∙ ap (descent_after S floor) (sym (spent_up_to connected P sound floor x false b))
      ∙ sym (capped_at connected P sound floor total (left_after connected P floor (up_to x)).spent));
  above = λ x top a l good.
      rw (ceiling_after connected P sound floor x.before x.call top a) (stands_above connected P sound floor (stands_at connected P sound floor _) l good);
  falls = λ x y top next a b.
      let first = spent_up_to connected P sound floor x false (ap is_refused a) in
      let more = later_spent connected P sound floor x y in
      rw (ceiling_after connected P sound floor x.before x.call top a, ceiling_after connected P sound floor (up_to x ++ y.before) y.call next b)
      (descents_fall connected P sound floor (stands_start connected P sound floor) _ _ (omega arith));
  start_above = λ top a l good. rw (start_top connected P sound floor a) (stands_above connected P sound floor (stands_start connected P sound floor) l good);
  start_falls = λ x top next a b.
      let none = fresh_at_none S floor (start_of (rules_of P) floor) in
      let k : ℕ = (left_after connected P floor x.before).spent + x.call.budget in
      rw (start_top connected P sound floor a, ceiling_after connected P sound floor x.before x.call next b)
      (subst (λ (d : Descent). descent_ceiling (rules_of P) (descent_after S floor k) ≤ descent_ceiling (rules_of P) d) none
      (descents_fall connected P sound floor (stands_start connected P sound floor) 0 k (omega arith)));
  held_ceiling = λ x top h a e.
      rw (ceiling_after connected P sound floor x.before x.call top a)
      (ceiling_held connected P sound floor (stands_at connected P sound floor _) h (sym (held_up_to x top a) ∙ e));
  none_ceiling = λ x top a end e.
      rw (ceiling_after connected P sound floor x.before x.call top a)
      (ceiling_none connected P sound floor (stands_at connected P sound floor _) (sym (finished_up_to x top a) ∙ end)
      (descents_settled S floor _ (fresh_at (start_of (rules_of P) floor))) (sym (held_up_to x top a) ∙ e));
  held = λ h e. held_best connected P sound floor (stands_at connected P sound floor sum) h (sym held_sum ∙ e);
  finished =
      let done = done_total connected P sound floor total sum in (
        λ e. made_sum ∙ done.0 (sym finished_sum ∙ e),
        λ e. finished_sum ∙ done.1 (sym made_sum ∙ e),
      );
  best = best;
  same = λ e u finished. good_best_unique connected P sound floor finished _ (best e);
  cleared = λ x b. clear x b (course connected P sound floor x);
}
  where
    S : Search
    S = search_of connected P

    sum : ℕ
    sum = (left_after connected P floor calls).spent

    there : Arrived connected P sound floor (left_after connected P floor calls)
    there = arrived_after connected P sound floor calls

    at_sum : (left_after connected P floor calls).checkpoint ≡ checkpoint_at (descent_after (search_of connected P) floor sum)
    at_sum = there.checkpoint_is

    made_sum : (left_after connected P floor calls).visits ≡ min t sum
    made_sum = there.visits_are ∙ made_total connected P sound floor total sum

    held_sum : incumbent_in P (left_after connected P floor calls).checkpoint ≡ (descent_after S floor sum).state.incumbent
    held_sum = ap (incumbent_in P) at_sum ∙ held_at connected P sound floor sum

    finished_sum : (left_after connected P floor calls).checkpoint.finished ≡ is_done (descent_after S floor sum)
    finished_sum = ap (λ (c : Checkpoint). c.finished) at_sum ∙ finished_at connected P sound floor (descent_after S floor sum)

    best : (left_after connected P floor calls).checkpoint.finished ≡ true
        → Best (Good connected P) floor (incumbent_in P (left_after connected P floor calls).checkpoint)
    best e =
        rw held_sum
        (done_best connected P sound floor (stands_at connected P sound floor sum).walks (sym finished_sum ∙ e) (descents_settled S floor sum (fresh_at (start_of (rules_of P) floor))))

    -- the checkpoint after an accepted call
    at_up_to : (x : CallIn calls) (top : ℕ) → (result_of connected P floor x).answer ≡ accepted top
        → (left_after connected P floor (up_to x)).checkpoint ≡ checkpoint_at (descent_after S floor ((left_after connected P floor x.before).spent + x.call.budget))
    at_up_to x top a =
        (arrived_after connected P sound floor (up_to x)).checkpoint_is
        ∙ ap (λ (k : ℕ). checkpoint_at (descent_after S floor k)) (spent_up_to connected P sound floor x false (ap is_refused a))

    held_up_to : (x : CallIn calls) (top : ℕ) → (result_of connected P floor x).answer ≡ accepted top
        → incumbent_in P (left_after connected P floor (up_to x)).checkpoint
        ≡ (descent_after S floor ((left_after connected P floor x.before).spent + x.call.budget)).state.incumbent
    held_up_to x top a = ap (incumbent_in P) (at_up_to x top a) ∙ held_at connected P sound floor _

    finished_up_to : (x : CallIn calls) (top : ℕ) → (result_of connected P floor x).answer ≡ accepted top
        → (left_after connected P floor (up_to x)).checkpoint.finished
        ≡ is_done (descent_after S floor ((left_after connected P floor x.before).spent + x.call.budget))
    finished_up_to x top a = ap (λ (c : Checkpoint). c.finished) (at_up_to x top a) ∙ finished_at connected P sound floor _

    before_is : (x : CallIn calls) → checkpoint_at (descent_after (search_of connected P) floor (left_after connected P floor x.before).spent) ≡ (left_after connected P floor x.before).checkpoint
    before_is x = sym (arrived_after connected P sound floor x.before).checkpoint_is

    unchanged : (x : CallIn calls) → is_refused (result_of connected P floor x).answer ≡ true
        → Course connected P floor (descent_after (search_of connected P) floor (left_after connected P floor x.before).spent) x.call.budget x.call.workspace (result_of connected P floor x)
        → Unchanged (left_after connected P floor x.before).checkpoint x.call.workspace (result_of connected P floor x).checkpoint (result_of connected P floor x).workspace
    unchanged x b (few l e) = record { same_checkpoint = ap (λ (r : Descended). r.checkpoint) e ∙ before_is x; same_workspace = ap (λ (r : Descended). r.workspace) e }
    unchanged x b (full l f m e) = record { same_checkpoint = ap (λ (r : Descended). r.checkpoint) e ∙ before_is x; same_workspace = ap (λ (r : Descended). r.workspace) e }
    unchanged x b (gone l fits e) = absurd (false≢true (rw e at b))

    unvisited : (x : CallIn calls) → is_refused (result_of connected P floor x).answer ≡ true
        → Course connected P floor (descent_after (search_of connected P) floor (left_after connected P floor x.before).spent) x.call.budget x.call.workspace (result_of connected P floor x)
        → (result_of connected P floor x).visits ≡ 0
    unvisited x b (few l e) = ap (λ (r : Descended). r.visits) e
    unvisited x b (full l f m e) = ap (λ (r : Descended). r.visits) e
    unvisited x b (gone l fits e) = absurd (false≢true (rw e at b))

    clear : (x : CallIn calls) → is_refused (result_of connected P floor x).answer ≡ false
        → Course connected P floor (descent_after (search_of connected P) floor (left_after connected P floor x.before).spent) x.call.budget x.call.workspace (result_of connected P floor x)
        → (result_of connected P floor x).workspace ≡ replicate words_needed 0 ++ drop words_needed x.call.workspace
    clear x b (few l e) = absurd (true≢false (rw e at b))
    clear x b (full l f m e) = absurd (true≢false (rw e at b))
    clear x b (gone l fits e) = ap (λ (r : Descended). r.workspace) e

-- The descent has one total, and with it the promise holds of every list of calls.
pub descent_property_total : (connected : Bool) (P : Problem) → SoundProblem P → (floor : ℕ)
    → (t : ℕ) × IsTotal (search_of connected P) floor t × ((u : ℕ) → IsTotal (search_of connected P) floor u → u ≡ t)
    × ((calls : List Call) → DescentProperty connected P floor t calls)
descent_property_total connected P sound floor =
    let end = descent_ends connected P sound floor in (
      end.0,
      end.1,
      λ u total. descent_total_unique connected P sound floor total end.1,
      descent_property connected P sound floor end.0 end.1,
    )

-- An accepted call on a checkpoint that calls of the search left, from any minimum that the floor is not above, and that leaves a finished one: it holds the best
-- from the floor on, and the ceiling is above every good mapping.
pub handed_call : (connected : Bool) (P : Problem) (sound : SoundProblem P) (floor minimum k : ℕ) → floor ≤ minimum → (call : Call)
    → let r = called connected P floor (walk_at connected P minimum k) call in
    (top : ℕ) → r.answer ≡ accepted top → r.checkpoint.finished ≡ true
    → Best (Good connected P) floor (incumbent_in P r.checkpoint) × ((l : List ℕ) → Good connected P l → size l < top)
handed_call connected P sound floor minimum k low call top a end =
    go _ (descent_course connected P sound floor call.budget call.workspace walks) a end
  where
    S : Search
    S = search_of connected P

    from : Descent
    from = record { minimum = minimum; state = Walk.after S minimum k }

    walks : Walks connected P sound floor from
    walks = record { visits = k; walk = refl; low = low }

    there : Descent
    there = descents S floor call.budget from

    go : (r : Descended) → Course connected P floor from call.budget call.workspace r → r.answer ≡ accepted top → r.checkpoint.finished ≡ true
        → Best (Good connected P) floor (incumbent_in P r.checkpoint) × ((l : List ℕ) → Good connected P l → size l < top)
    go r (few l e) a end = absurd (true≢false (ap is_refused (sym (ap (λ (x : Descended). x.answer) e) ∙ a)))
    go r (full l f m e) a end = absurd (true≢false (ap is_refused (sym (ap (λ (x : Descended). x.answer) e) ∙ a)))
    go r (gone l fits e) a end =
        let left = ap (λ (x : Descended). x.checkpoint) e in
        let done : is_done there ≡ true = sym (finished_at connected P sound floor there) ∙ sym (ap (λ (c : Checkpoint). c.finished) left) ∙ end in
        let both = handed_over connected P sound floor minimum k low call.budget done in
        let top_is : top ≡ descent_ceiling (rules_of P) there = ap value_of (sym a ∙ ap (λ (x : Descended). x.answer) e) in
        let held : incumbent_in P r.checkpoint ≡ there.state.incumbent =
        ap (incumbent_in P) left ∙ held_in connected P sound floor there (walks_after connected P sound floor walks call.budget) in
        (rw held both.0, λ l good. rw top_is (both.1 l good))
