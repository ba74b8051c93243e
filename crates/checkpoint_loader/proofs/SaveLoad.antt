-- "Saved and loaded, it is the same bookmark" (01, "Bookmark and calls").
use mathlib.Core.Path.{◌≡◌, refl, ap}
use mathlib.Core.Bool.{Bool, true≢false}
use mathlib.Core.List.{List}
use Prim.Native.Nat.{ℕ}
use lib.ListN.{take}
use Rattle.answers.specs.Answer.{Answer, passed, accepted, refused, refused_at}
use Rattle.answers.specs.Output.{fill, write_if}
use Rattle.answers.proofs.Filled.{filled_bytes}
use Rattle.answers.proofs.RefusalNumbers.{Plain}
use Rattle.problem.specs.Problem.{Problem, SoundProblem}
use Rattle.problem.proofs.ProblemPasses.{problem_passes}
use Rattle.checkpoint.specs.declared.Checkpoint.{Checkpoint}
use Rattle.checkpoint.specs.Checkpoints.{InShape}
use Rattle.checkpoint.specs.Checking.{checkpoint_answer}
use Rattle.checkpoint.proofs.ShapeTest.{shape_test}
use Rattle.checkpoint.proofs.CheckpointPasses.{passes_shape, checkpoint_plain}
use Rattle.checkpoint_saver.specs.Saving.{checkpoint_bytes, saving}
use Rattle.checkpoint_loader.specs.Loading.{Loading, loading}
use Rattle.checkpoint_loader.specs.Between.{Sized, loaded_back, reloaded}
use Rattle.checkpoint_loader.proofs.SavedBytes.{save_formed}
use Rattle.checkpoint_loader.proofs.FormedSays.{save_said}

-- a load that passes all tests
abbrev pub loads : Checkpoint → Loading
loads c = record { answer = passed; checkpoint = c }

-- The bytes of a checkpoint in shape, loaded, give that checkpoint.
pub save_load : (connected : Bool) (P : Problem) → SoundProblem P → (c : Checkpoint) → Sized c → InShape connected P c → loading connected P (checkpoint_bytes P.old.order c) ≡ loads c
unfolding loading
save_load connected P sound c sized shape =
    rw (
      problem_passes P sound,
      save_formed P.old.order c shape.depth_max,
      save_said connected P c sound.old_sound.order_max sized shape,
      (shape_test P sound connected c).1 shape,
    )

module _ (connected : Bool) (P : Problem) (c : Checkpoint) (buffer : List ℕ) (k : ℕ) where
  -- An accepted save is of a checkpoint that passes.
  pub saved_passed : (saving connected P c buffer).answer ≡ accepted k → checkpoint_answer connected P c ≡ passed
  unfolding saving
  saved_passed = go (checkpoint_answer connected P c) (checkpoint_plain connected P c)
    where
      go : (a : Answer) → Plain a → (write_if a (checkpoint_bytes P.old.order c) buffer).answer ≡ accepted k → a ≡ passed
      go passed plain e = refl
      go (accepted n) plain e = absurd plain
      go (refused n) plain e = absurd (true≢false (cc))
      go (refused_at n at) plain e = absurd (true≢false (cc))

  -- It leaves the checkpoint's bytes in the first k of the buffer.
  pub saved_front : (saving connected P c buffer).answer ≡ accepted k → take k (saving connected P c buffer).buffer ≡ checkpoint_bytes P.old.order c
  unfolding saving
  saved_front e =
      let w : saving connected P c buffer ≡ fill (checkpoint_bytes P.old.order c) buffer = rw (saved_passed e) in
      rw w (filled_bytes (checkpoint_bytes P.old.order c) buffer k (rw w at e))

  -- What an accepted save wrote, loaded, gives the checkpoint that was saved.
  pub save_load_buffer : Sized c → (saving connected P c buffer).answer ≡ accepted k → loading connected P (take k (saving connected P c buffer).buffer) ≡ loads c
  save_load_buffer sized e =
      let found = passes_shape connected P c (saved_passed e) in
      rw (saved_front e) (save_load connected P found.0 c sized found.1)

-- Saved into any buffer and loaded from it, it is the same checkpoint.
pub reloaded_same : (connected : Bool) (P : Problem) (c : Checkpoint) → Sized c → (buffer : List ℕ) → reloaded connected P c buffer ≡ c
reloaded_same connected P c sized buffer = go (saving connected P c buffer).answer refl
  where
    go : (a : Answer) → (saving connected P c buffer).answer ≡ a → loaded_back connected P c a (saving connected P c buffer).buffer ≡ c
    go passed e = refl
    go (accepted k) e = ap (λ (l : Loading). l.checkpoint) (save_load_buffer connected P c buffer k sized e)
    go (refused n) e = refl
    go (refused_at n at) e = refl
