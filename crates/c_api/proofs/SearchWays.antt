-- How a search call from a checkpoint in shape goes, with its checkpoint saved (`SavedWays`); a refused one changes nothing.
use mathlib.Core.Bool.{Bool}
use mathlib.Core.Path.{◌≡◌}
use mathlib.Core.List.{List}
use Prim.Native.Nat.{ℕ, ◌≤◌}
use native.Mathlib.Omega.{arith}
use Rattle.answers.specs.Answer.{Answer, passed, accepted, refused, refused_at, refusal_number}
use Rattle.answers.proofs.RefusalNumbers.{RefusalNumber, Valued}
use Rattle.problem.specs.Problem.{Problem, SoundProblem}
use Rattle.checkpoint.specs.declared.Checkpoint.{Checkpoint}
use Rattle.checkpoint.specs.Checkpoints.{InShape}
use Rattle.search.specs.Call.{Called}
use Rattle.search.specs.Calls.{Call, called}
use Rattle.checkpoint_loader.specs.Between.{Sized}
use Rattle.checkpoint_loader.proofs.CalledSized.{called_sized, called_in_shape}
use Rattle.replies.specs.Reply.{reply}
use Rattle.replies.specs.Resumed.{Resumed, resumed, not_resumed, search_from}
use Rattle.replies.proofs.CallKept.{Ways, search_kept}
use Rattle.c_api.proofs.SavedWays.{SavedWays, saved_ways}

-- a way of a call by its answer: it has a value, or a number, and then B holds
pub valued_ways : (A B : Type 0) (a : Answer) → Ways RefusalNumber A B a → Valued a
valued_ways A B passed h = absurd h
valued_ways A B (accepted n) h = tt
valued_ways A B (refused n) h = h.0
valued_ways A B (refused_at n at) h = h.0

pub refused_ways : (A B : Type 0) (a : Answer) → Ways RefusalNumber A B a → 1 ≤ refusal_number a → B
refused_ways A B passed h some = absurd h
refused_ways A B (accepted n) h some = absurd (omega arith)
refused_ways A B (refused n) h some = h.1
refused_ways A B (refused_at n at) h some = h.1

module _ (connected : Bool) (P : Problem) (c : Checkpoint) (call : Call) (next : List ℕ) where
  abbrev q : Called
  q = called connected P c call

  -- what is replied once its checkpoint is saved
  abbrev pub saved_reply : ℕ → ℕ → List ℕ → Resumed
  saved_reply ceiling count buffer = resumed (reply 0 count) ceiling q.workspace buffer

  abbrev pub SearchWays : Resumed → Type 0
  SearchWays r = SavedWays connected P q.checkpoint q.answer next saved_reply (not_resumed call.workspace next) r

  -- A refused call changes nothing.
  pub search_same : 1 ≤ refusal_number q.answer → (q.workspace ≡ call.workspace) × (q.checkpoint ≡ c)
  search_same some = refused_ways _ _ q.answer (search_kept connected P c call.budget call.workspace) some

  -- The call goes one of the three ways.
  pub search_ways : SoundProblem P → Sized c → InShape connected P c → SearchWays (search_from connected P c call.budget call.workspace next)
  unfolding search_from
  search_ways sound sized shape =
      saved_ways connected P q.checkpoint q.answer next saved_reply (not_resumed call.workspace next) sound
      (called_sized connected P c sized call) (called_in_shape connected P c sized call shape)
      (valued_ways _ _ q.answer (search_kept connected P c call.budget call.workspace))
