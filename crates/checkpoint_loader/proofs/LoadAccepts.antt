-- What loading accepts: bytes in the form that say a checkpoint in shape, which saved again gives the same bytes; and what it leaves otherwise.
use mathlib.Core.Path.{◌≡◌, refl, sym, ap, ◌∙◌}
use mathlib.Core.Bool.{Bool, true, false, true≢false}
use mathlib.Core.List.{List}
use Rattle.std.specs.Prelude.{Option, None, Some}
use Prim.Native.Nat.{ℕ}
use Rattle.answers.specs.Answer.{Answer, passed, accepted, refused, refused_at, when_passed}
use Rattle.problem.specs.Problem.{Problem, SoundProblem, problem_answer}
use Rattle.problem.proofs.ProblemPasses.{passes_problem}
use Rattle.checkpoint.specs.Checkpoints.{fresh_checkpoint, InShape, in_shape}
use Rattle.checkpoint.proofs.ShapeTest.{shape_test}
use Rattle.checkpoint_loader.specs.Form.{form_fault}
use Rattle.checkpoint_saver.specs.Saving.{checkpoint_bytes}
use Rattle.checkpoint_loader.specs.Loading.{Loading, said, refuse, on_form, loading}
use Rattle.checkpoint_loader.specs.FaultPlace.{Bytes}
use Rattle.checkpoint_loader.proofs.FormedSays.{load_save}
use Rattle.checkpoint_loader.proofs.SaveLoad.{loads}

-- the two ways that a load can go
data LoadedOrRefused (connected : Bool) (P : Problem) (bytes : List ℕ) (l : Loading) : Type 0 where
  said_loaded : problem_answer P ≡ passed → form_fault P.old.order bytes ≡ None → in_shape connected P (said P.old.order bytes) ≡ true
      → l ≡ loads (said P.old.order bytes) → LoadedOrRefused connected P bytes l
  fresh_refused : (a : Answer) → (a ≡ passed → ⊥) → l ≡ refuse a → LoadedOrRefused connected P bytes l

-- what an accepted load says of its bytes
pub record Accepted (connected : Bool) (P : Problem) (bytes : List ℕ) : Type 0 where
  pub sound : SoundProblem P
  pub whole : form_fault P.old.order bytes ≡ None
  pub loaded : (loading connected P bytes).checkpoint ≡ said P.old.order bytes
  pub shape : InShape connected P (loading connected P bytes).checkpoint

module _ (connected : Bool) (P : Problem) (bytes : List ℕ) where
  -- a load goes one of the two ways
  loaded_or_refused : LoadedOrRefused connected P bytes (loading connected P bytes)
  unfolding loading
  loaded_or_refused = go (problem_answer P) refl (form_fault P.old.order bytes) refl (in_shape connected P (said P.old.order bytes)) refl
    where
      go : (a : Answer) → problem_answer P ≡ a → (fault : Option ℕ) → form_fault P.old.order bytes ≡ fault
          → (t : Bool) → in_shape connected P (said P.old.order bytes) ≡ t → LoadedOrRefused connected P bytes (when_passed a (on_form connected P bytes fault) refuse)
      go passed p None q true r = said_loaded p q r (rw r)
      go passed p None q false r = fresh_refused (refused 14) (λ e. true≢false (cc)) (rw r)
      go passed p (Some at) q t r = fresh_refused (refused_at 17 at) (λ e. true≢false (cc)) refl
      go (accepted n) p fault q t r = fresh_refused (accepted n) (λ e. true≢false (cc)) refl
      go (refused n) p fault q t r = fresh_refused (refused n) (λ e. true≢false (cc)) refl
      go (refused_at n at) p fault q t r = fresh_refused (refused_at n at) (λ e. true≢false (cc)) refl

  -- An accepted load is of bytes in the form, for a sound problem, and gives what they say, in shape.
  pub load_accepted : (loading connected P bytes).answer ≡ passed → Accepted connected P bytes
  load_accepted e = go (loading connected P bytes) refl loaded_or_refused
    where
      go : (l : Loading) → loading connected P bytes ≡ l → LoadedOrRefused connected P bytes l → Accepted connected P bytes
      go l same (said_loaded p q r d) =
          let sound = passes_problem P p in
          let loaded : (loading connected P bytes).checkpoint ≡ said P.old.order bytes = ap (λ (l : Loading). l.checkpoint) (same ∙ d) in
          record { sound = sound; whole = q; loaded = loaded; shape = rw loaded ((shape_test P sound connected _).0 r) }
      go l same (fresh_refused a never d) = absurd (never (sym (ap (λ (l : Loading). l.answer) (same ∙ d)) ∙ e))

  -- Loading accepts only checkpoints in shape.
  pub load_in_shape : (loading connected P bytes).answer ≡ passed → SoundProblem P × InShape connected P (loading connected P bytes).checkpoint
  load_in_shape e = let found = load_accepted e in (found.sound, found.shape)

  -- An accepted load, saved again, gives the same bytes.
  pub load_save_same : (loading connected P bytes).answer ≡ passed → Bytes bytes → checkpoint_bytes P.old.order (loading connected P bytes).checkpoint ≡ bytes
  load_save_same e small =
      let found = load_accepted e in
      ap (checkpoint_bytes P.old.order) found.loaded ∙ load_save P.old.order bytes small found.whole

  -- "a refused load returns a fresh bookmark of floor 0"
  pub load_refused : ((loading connected P bytes).answer ≡ passed → ⊥) → (loading connected P bytes).checkpoint ≡ fresh_checkpoint 0
  load_refused never = go (loading connected P bytes) refl loaded_or_refused
    where
      go : (l : Loading) → loading connected P bytes ≡ l → LoadedOrRefused connected P bytes l → l.checkpoint ≡ fresh_checkpoint 0
      go l same (said_loaded p q r d) = absurd (never (ap (λ (l : Loading). l.answer) (same ∙ d)))
      go l same (fresh_refused a no-pass d) = ap (λ (l : Loading). l.checkpoint) d
