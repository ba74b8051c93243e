-- A search call by its tests in their order: the refusals, and the accepted call on the words that it needs.
use mathlib.Core.Path.{◌≡◌, refl, sym, ap, ◌∙◌}
use mathlib.Core.Bool.{Bool, true, false}
use mathlib.Core.List.{List, ◌++◌, append-nil}
use Prim.Native.Nat.{ℕ, ◌≤◌, ◌<◌}
use native.Mathlib.Omega.{arith}
use lib.ListN.{length, take, drop, replicate, drop_of_length-le, length-take}
use lib.Dec.{leb}
use borrow.Author.Tests.{le-leb, lt-leb, leb-true, leb-false}
use Rattle.answers.specs.Answer.{Answer, passed, accepted, refused, refused_at}
use Rattle.problem.specs.Problem.{Problem, SoundProblem}
use Rattle.checkpoint.specs.declared.Checkpoint.{Checkpoint}
use Rattle.checkpoint.specs.Checkpoints.{InShape}
use Rattle.checkpoint.specs.Checking.{checkpoint_answer}
use Rattle.checkpoint.proofs.CheckpointPasses.{passes_shape}
use Rattle.search.specs.Call.{Called, words_needed, refuse, advance, count_fits, search_call}

-- what is changed of a list's first m entries, with its later ones put back
front_put_back : (m : ℕ) (zeros l : List ℕ) → (zeros ++ drop m (take m l)) ++ drop m l ≡ zeros ++ drop m l
front_put_back m zeros l =
    ap (λ (t : List ℕ). (zeros ++ t) ++ drop m l) (drop_of_length-le (take m l) {i = m} (omega (arith, length-take m l)))
    ∙ ap (λ (t : List ℕ). t ++ drop m l) (append-nil zeros)

module _ (connected : Bool) (P : Problem) (c : Checkpoint) (budget : ℕ) (workspace : List ℕ) where
  -- Unsound graphs, and then a checkpoint out of shape, are refused first.
  pub call_refused : (number : ℕ) → checkpoint_answer connected P c ≡ refused number → refuse c workspace number ≡ search_call connected P c budget workspace
  unfolding search_call
  call_refused number e = rw e

  module _ (fits : checkpoint_answer connected P c ≡ passed) where
    -- Then too few words.
    pub call_words : length workspace < words_needed → refuse c workspace 15 ≡ search_call connected P c budget workspace
    unfolding search_call
    call_words few = rw (fits, lt-leb words_needed (length workspace) few)

    module _ (room : words_needed ≤ length workspace) where
      -- Then steps that would not count in 64 bits.
      pub call_count : count_fits c budget ≡ false → refuse c workspace 16 ≡ search_call connected P c budget workspace
      unfolding search_call
      call_count off = rw (fits, le-leb words_needed (length workspace) room, off)

      -- What is not refused is accepted.
      pub call_accepted : count_fits c budget ≡ true → advance connected P c budget workspace ≡ search_call connected P c budget workspace
      unfolding search_call
      call_accepted counts = rw (fits, le-leb words_needed (length workspace) room, counts)

  -- An accepted call on the words that it needs is one on all of them, with the later ones put back.
  pub front_advanced : (r : Called) → r ≡ advance connected P c budget (take words_needed workspace)
      → ◌≡◌ {A = Called}
      (record { answer = r.answer; checkpoint = r.checkpoint; workspace = r.workspace ++ drop words_needed workspace })
      (advance connected P c budget workspace)
  unfolding advance
  front_advanced r e = λ i. record {
    answer = (e i).answer;
    checkpoint = (e i).checkpoint;
    workspace = put_back i;
  }
    where
      put_back : r.workspace ++ drop words_needed workspace ≡ replicate words_needed 0 ++ drop words_needed workspace
      put_back =
          ap (λ (x : Called). x.workspace ++ drop words_needed workspace) e ∙ front_put_back words_needed (replicate words_needed 0) workspace

  -- what a call that is accepted had before it, and what it does
  pub record Taken : Type 0 where
    pub sound : SoundProblem P
    pub shape : InShape connected P c
    pub room : words_needed ≤ length workspace
    pub counts : count_fits c budget ≡ true
    pub advances : search_call connected P c budget workspace ≡ advance connected P c budget workspace

  pub data CallWays : Type 0 where
    refuses : (number : ℕ) → search_call connected P c budget workspace ≡ refuse c workspace number → CallWays
    accepts : Taken → CallWays

  -- A call is refused, and changes nothing, or accepted.
  pub call_ways : CallWays
  unfolding search_call
  call_ways = go (checkpoint_answer connected P c) (leb words_needed (length workspace)) (count_fits c budget) refl refl refl
    where
      go : (a : Answer) (enough fits : Bool) → checkpoint_answer connected P c ≡ a → leb words_needed (length workspace) ≡ enough → count_fits c budget ≡ fits → CallWays
      go passed true true e l f =
          let both = passes_shape connected P c e in
          let room = leb-true _ _ l in
          accepts (record { sound = both.0; shape = both.1; room = room; counts = f; advances = sym (call_accepted e room f) })
      go passed true false e l f = refuses 16 (sym (call_count e (leb-true _ _ l) f))
      go passed false fits e l f = refuses 15 (sym (call_words e (leb-false _ _ l)))
      go (accepted n) enough fits e l f = refuses n (rw e)
      go (refused n) enough fits e l f = refuses n (rw e)
      go (refused_at n at) enough fits e l f = refuses n (rw e)
