-- The loop of a descent call, a search call a turn: what is left to do from here, after the visits made, is the whole call (`CallTurn`).
use mathlib.Core.Path.{◌≡◌, refl, sym, ap, ◌∙◌}
use mathlib.Core.Bool.{Bool, true, false, true≢false}
use mathlib.Core.List.{List, []}
use Prim.Native.Nat.{ℕ, ◌+◌, ◌-◌, ◌^◌, ◌≤◌, ◌<◌}
use native.Mathlib.Omega.{arith}
use native.Mathlib.Nat.{zero-add, add_assoc}
use lib.ListN.{length}
use Rattle.answers.specs.Answer.{Answer, accepted, refused, is_refused, value_of}
use Rattle.problem.specs.Problem.{Problem}
use Rattle.search_tree.specs.Rules.{rules_of}
use Rattle.search_tree.specs.Walk.{State}
use Rattle.search_tree.specs.Ceiling.{ceiling}
use Rattle.checkpoint.specs.declared.Checkpoint.{Checkpoint}
use Rattle.checkpoint.specs.Checkpoints.{fresh_checkpoint, checkpoint_of, state_of}
use Rattle.checkpoint.proofs.Padding.{padded_length}
use Rattle.search.specs.declared.Searched.{Searched}
use Rattle.std.specs.Prelude.{Ok, Err}
use Rattle.search.specs.declared.SearchError.{SearchError}
use Rattle.search.proofs.SearchErrors.{no_ceiling}
use Rattle.search.specs.Answers.{search_refusal, search_answer, called_of}
use Rattle.search.specs.Call as SearchCall
use Rattle.search.specs.Call.{Called, cleared, refuse, search_call}
use Rattle.search.proofs.CallRefusals.{Taken, CallWays, refuses, accepts, call_ways}
use Rattle.descend.specs.Descent.{is_exhausted, lowered, descent_ceiling}
use Rattle.descend.specs.Call.{Descended, descend_call}
use Rattle.descend.proofs.CallTurn as CallTurn
use Rattle.descend.proofs.CallTurn.{
  plus,
  cleared_length,
  call_refuses,
  call_arrives,
  state,
  state_back,
  spent_within,
  call_stays,
  call_renews,
}

-- a fresh checkpoint's path fills 64 bytes
fresh_long : (minimum : ℕ) → length (fresh_checkpoint minimum).path ≡ 64
unfolding checkpoint_of
fresh_long minimum = padded_length [] (omega arith)

-- it has the minimum that it is made with
pub fresh_minimum : {c : Checkpoint} (minimum : ℕ) → c ≡ fresh_checkpoint minimum → c.minimum ≡ minimum
unfolding checkpoint_of
fresh_minimum minimum e = ap (λ (c : Checkpoint). c.minimum) e

-- what goes on: the rest of a call from checkpoint c with a budget
pub record Going (connected : Bool) (P : Problem) (floor : ℕ) (c : Checkpoint) (budget : ℕ) (workspace : List ℕ) (at : Checkpoint) (left visits : ℕ) (words : List ℕ) : Type 0 where
  pub rest : plus visits (descend_call connected P floor at left words) ≡ descend_call connected P floor c budget workspace
  pub counted : visits + left ≡ budget
  pub fits : budget < 2 ^ 64
  pub kept : length words ≡ length workspace
  pub path_long : length at.path ≡ 64

-- At first all is left.
pub going_all : (connected : Bool) (P : Problem) (floor : ℕ) (c : Checkpoint) (budget : ℕ) (workspace : List ℕ) → budget < 2 ^ 64 → length c.path ≡ 64
    → Going connected P floor c budget workspace c budget 0 workspace
going_all connected P floor c budget workspace fits long = record {
  rest = λ i. record {
    answer = (descend_call connected P floor c budget workspace).answer;
    visits = zero-add (descend_call connected P floor c budget workspace).visits i;
    checkpoint = (descend_call connected P floor c budget workspace).checkpoint;
    workspace = (descend_call connected P floor c budget workspace).workspace;
  };
  counted = omega arith;
  fits = fits;
  kept = refl;
  path_long = long;
}

module _ {connected : Bool} {P : Problem} {floor : ℕ} {c : Checkpoint} {budget : ℕ} {workspace : List ℕ} {at : Checkpoint} {left visits : ℕ} {words : List ℕ}
    (going : Going connected P floor c budget workspace at left visits words)
    (r : Searched) (words' : List ℕ) (called : called_of r words' ≡ search_call connected P at left words)
  where
    -- the visits of the search call
    abbrev pub spent : ℕ
    spent = r.checkpoint.steps - at.steps

    -- an accepted call's checkpoint
    arrived : Taken connected P at left words → called_of r words' ≡ SearchCall.arrive at.minimum (rules_of P) words (state connected P at left words)
    arrived call = called ∙ call_arrives connected P at left words call

    stopped : (number : ℕ) → search_call connected P at left words ≡ refuse at words number → called_of r words' ≡ refuse at words number
    stopped number e = called ∙ e

    -- Steps do not fall, and rise by no more than is left.
    pub turn_steps : (at.steps ≤ r.checkpoint.steps) × (r.checkpoint.steps ≤ at.steps + left)
    unfolding checkpoint_of
    turn_steps = go (call_ways connected P at left words)
      where
        go : CallWays connected P at left words → (at.steps ≤ r.checkpoint.steps) × (r.checkpoint.steps ≤ at.steps + left)
        go (refuses number e) =
            let same : r.checkpoint ≡ at = ap (λ (q : Called). q.checkpoint) (stopped number e) in
            rw same (omega arith, omega arith)
        go (accepts call) =
            let same : r.checkpoint ≡ checkpoint_of at.minimum (state connected P at left words) = ap (λ (q : Called). q.checkpoint) (arrived call) in
            rw same (spent_within connected P at left words call)

    -- what the turn gives beside an answer, of a search call
    abbrev ending : Answer → Called → Descended
    ending answer q = record { answer = answer; visits = visits + (q.checkpoint.steps - at.steps); checkpoint = q.checkpoint; workspace = q.workspace }

    abbrev ended : Answer → Descended
    ended answer = ending answer (called_of r words')

    -- A refusal is the whole call's.
    pub turn_refused : (e : SearchError) → r.answer ≡ Err e → ended (search_refusal e) ≡ descend_call connected P floor c budget workspace
    turn_refused error arm = ap (λ (a : Answer). ended a) (ap search_answer (sym arm)) ∙ go (call_ways connected P at left words)
      where
        go : CallWays connected P at left words → ended (search_answer r.answer) ≡ descend_call connected P floor c budget workspace
        go (refuses number e) =
            let none : at.steps - at.steps ≡ 0 = omega arith in
            ap (λ (q : Called). ending q.answer q) (stopped number e)
            ∙ ap (λ (n : ℕ). record { answer = refused number; visits = visits + n; checkpoint = at; workspace = words }) none
            ∙ ap (plus visits) (sym (call_refuses connected P at left words number e floor))
            ∙ going.rest
        go (accepts call) = absurd (no_ceiling error _ arm (ap (λ (q : Called). q.answer) (arrived call)))

    module _ (top : ℕ) (arm : r.answer ≡ Ok top) where
      -- A ceiling comes of an accepted call.
      pub turn_accepted : Taken connected P at left words
      turn_accepted = go (call_ways connected P at left words)
        where
          go : CallWays connected P at left words → Taken connected P at left words
          go (refuses number e) = absurd (true≢false (ap is_refused (sym (ap (λ (q : Called). q.answer) (stopped number e)) ∙ ap search_answer arm)))
          go (accepts call) = call

      -- its state, whose checkpoint is the call's
      abbrev pub there : State
      there = state connected P at left words

      turn_checkpoint : r.checkpoint ≡ checkpoint_of at.minimum there
      turn_checkpoint = ap (λ (q : Called). q.checkpoint) (arrived turn_accepted)

      turn_top : top ≡ ceiling (rules_of P) at.minimum there
      turn_top = ap value_of (ap search_answer (sym arm) ∙ ap (λ (q : Called). q.answer) (arrived turn_accepted))

      -- It keeps the minimum.
      pub turn_minimum : r.checkpoint.minimum ≡ at.minimum
      unfolding checkpoint_of
      turn_minimum = ap (λ (k : Checkpoint). k.minimum) turn_checkpoint

      -- Where the search is not exhausted, its ceiling, lowered, ends the call.
      pub turn_ends : is_exhausted floor r.checkpoint.minimum r.checkpoint.finished r.checkpoint.holds ≡ false
          → (low : ℕ) → low ≡ lowered r.checkpoint.minimum (state_of P.old.order r.checkpoint).incumbent top
          → ended (accepted low) ≡ descend_call connected P floor c budget workspace
      unfolding checkpoint_of descent_ceiling
      turn_ends off low low-is =
          ap (λ (q : Called). ending (accepted low) q) (arrived turn_accepted)
          ∙ ap (λ (n : ℕ). ending (accepted n) (SearchCall.arrive at.minimum (rules_of P) words there)) low_there
          ∙ ap (plus visits) (sym (call_stays connected P at left words turn_accepted floor (rw turn_checkpoint at off)))
          ∙ going.rest
        where
          low_there : low ≡ lowered at.minimum there.incumbent (ceiling (rules_of P) at.minimum there)
          low_there =
              low-is
              ∙ ap (λ (k : Checkpoint). lowered k.minimum (state_of P.old.order k).incumbent top) turn_checkpoint
              ∙ ap (λ (s : State). lowered at.minimum s.incumbent top) (state_back connected P at left words turn_accepted going.path_long)
              ∙ ap (lowered at.minimum there.incumbent) turn_top

      -- Where it is, the rest is a call on the fresh checkpoint one lower.
      pub turn_renews : is_exhausted floor r.checkpoint.minimum r.checkpoint.finished r.checkpoint.holds ≡ true
          → Going connected P floor c budget workspace (fresh_checkpoint (r.checkpoint.minimum - 1)) (left - spent) (visits + spent) words'
      unfolding checkpoint_of
      turn_renews on = record {
        rest =
            ap lower (arrived turn_accepted)
            ∙ ap (λ (n : ℕ). record { answer = below.answer; visits = n; checkpoint = below.checkpoint; workspace = below.workspace })
            (add_assoc visits (CallTurn.spent connected P at left words) below.visits)
            ∙ ap (plus visits) (sym (call_renews connected P at left words turn_accepted (omega (arith, going.fits, going.counted)) floor (rw turn_checkpoint at on)))
            ∙ going.rest;
        counted = omega (arith, going.counted, turn_steps);
        fits = going.fits;
        kept =
            ap length (ap (λ (q : Called). q.workspace) (arrived turn_accepted)) ∙ cleared_length words turn_accepted.room ∙ going.kept;
        path_long = fresh_long (r.checkpoint.minimum - 1);
      }
        where
          -- the rest of the call after a search call, and after this one
          lower : Called → Descended
          lower q =
              plus (visits + (q.checkpoint.steps - at.steps))
              (descend_call connected P floor (fresh_checkpoint (q.checkpoint.minimum - 1)) (left - (q.checkpoint.steps - at.steps)) q.workspace)

          below : Descended
          below = descend_call connected P floor (fresh_checkpoint (at.minimum - 1)) (left - CallTurn.spent connected P at left words) (cleared words)
