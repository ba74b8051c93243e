-- How a call goes whose checkpoint is saved, whichever call it is: refused, too short a buffer, or saved.
use mathlib.Core.Bool.{Bool}
use mathlib.Core.Path.{◌≡◌, refl, sym, subst}
use mathlib.Core.List.{List}
use Prim.Native.Nat.{ℕ, ◌<◌}
use lib.Dec.{leb}
use lib.ListN.{length, take, drop}
use lib.Seq.{take_at}
use borrow.Author.Tests.{leb-false}
use Rattle.answers.specs.Answer.{Answer, passed, accepted, refused, refused_at, refusal_number, when_accepted}
use Rattle.answers.specs.Output.{Writing, overwrite, fill}
use Rattle.answers.proofs.Choice.{cond_cases}
use Rattle.answers.proofs.RefusalNumbers.{RefusalNumber, Valued}
use Rattle.problem.specs.Problem.{Problem, SoundProblem}
use Rattle.checkpoint.specs.declared.Checkpoint.{Checkpoint}
use Rattle.checkpoint.specs.Checkpoints.{InShape}
use Rattle.checkpoint.proofs.CheckpointPasses.{shape_passes}
use Rattle.checkpoint_loader.specs.Between.{Sized}
use Rattle.checkpoint_saver.specs.Saving.{checkpoint_bytes, saving}
use Rattle.checkpoint_loader.specs.Loading.{loading}
use Rattle.checkpoint_loader.proofs.SaveLoad.{save_load}
use Rattle.c_api.specs.ResumedCall.{loads_to}
use Rattle.c_api.specs.ByteCalls.{ceiling_of}

-- c is the checkpoint that the call leaves, `ok` what is replied once it is saved, by the ceiling, the count of bytes and the buffer
module _ {R : Type 0} (connected : Bool) (P : Problem) (c : Checkpoint) (answer : Answer) (next : List ℕ) (ok : ℕ → ℕ → List ℕ → R) (refusal : Answer → R) where
  -- the bytes to be saved
  abbrev pub to_save : List ℕ
  to_save = checkpoint_bytes P.old.order c

  -- the reply to an accepted call, by what became of its save
  abbrev on_save : ℕ → Writing → R
  on_save ceiling w = when_accepted w.answer (λ count. ok ceiling count w.buffer) refusal

  abbrev by_answer : Answer → R
  by_answer a = when_accepted a (λ ceiling. on_save ceiling (saving connected P c next)) refusal

  pub data SavedWays (r : R) : Type 0 where
    -- the call is refused
    kept : RefusalNumber (refusal_number answer) → ceiling_of answer ≡ 0 → r ≡ refusal answer → SavedWays r
    -- it is accepted, and the buffer is too short
    short : (ceiling : ℕ) → answer ≡ accepted ceiling → length next < length to_save → r ≡ refusal (refused 13) → SavedWays r
    -- it is accepted and saved
    saved : (ceiling count : ℕ) (buffer : List ℕ) → answer ≡ accepted ceiling → r ≡ ok ceiling count buffer
        → loading connected P (take count buffer) ≡ loads_to c → SavedWays r

  module _ (sound : SoundProblem P) (sized : Sized c) (shape : InShape connected P c) where
    -- what the call leaves is in shape, so that only the room is tested
    filled : saving connected P c next ≡ fill to_save next
    unfolding saving
    filled = rw (shape_passes connected P c sound shape)

    -- the buffer's front loads back
    loads_back : loading connected P (take (length to_save) (overwrite to_save next)) ≡ loads_to c
    loads_back = rw (take_at to_save (drop (length to_save) next) (length to_save) refl) (save_load connected P sound c sized shape)

    -- The call goes one of the three ways.
    pub saved_ways : Valued answer → SavedWays (by_answer answer)
    saved_ways = go answer refl
      where
        go : (a : Answer) → answer ≡ a → Valued a → SavedWays (by_answer a)
        go passed e h = absurd h
        go (accepted n) e h =
            subst (λ (w : Writing). SavedWays (on_save n w)) (sym filled)
            (cond_cases (λ (w : Writing). SavedWays (on_save n w)) (leb (length to_save) (length next))
            (λ fits. saved n (length to_save) (overwrite to_save next) e refl loads_back)
            (λ few. short n e (leb-false _ _ few) refl))
        go (refused n) e h = kept (rw e h) (rw e) (rw e)
        go (refused_at n at) e h = kept (rw e h) (rw e) (rw e)
