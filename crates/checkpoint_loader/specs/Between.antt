-- A list of search calls with the checkpoint saved and loaded between them: 01, "Bookmark and calls", "Between two calls the bookmark's value stays the same"
-- and "Saved and loaded, it is the same bookmark".
use Rattle.std.specs.Prelude.{Bool, ◌≡◌, List, [], ◌∷◌, ℕ, ◌^◌, ◌<◌, length, take}
use Rattle.answers.specs.Answer.{Answer, on_answer}
use Rattle.problem.specs.Problem.{Problem}
use Rattle.checkpoint.specs.declared.Checkpoint.{Checkpoint}
use Rattle.search.specs.Call.{Called}
use Rattle.search.specs.Calls.{Call, called, results, leaves}
use Rattle.checkpoint_saver.specs.Saving.{saving}
use Rattle.checkpoint_loader.specs.Loading.{loading}

-- what the code's types say of every checkpoint
pub record Sized (c : Checkpoint) : Type 0 where
  pub path_long : length c.path ≡ 64
  pub incumbent_long : length c.incumbent ≡ 64
  pub steps_fit : c.steps < 2 ^ 64

-- what is loaded from the bytes that a save wrote; the checkpoint itself where it wrote none
abbrev pub loaded_back : Bool → Problem → Checkpoint → Answer → List ℕ → Checkpoint
loaded_back connected P c answer buffer = on_answer c (λ count. (loading connected P (take count buffer)).checkpoint) (λ n. c) (λ n at. c) answer

-- the checkpoint, saved into this buffer and loaded from it
abbrev pub reloaded : Bool → Problem → Checkpoint → List ℕ → Checkpoint
reloaded connected P c buffer = let w = saving connected P c buffer in loaded_back connected P c w.answer w.buffer

-- a call, and the buffer that the checkpoint is saved into after it (too short a one: it is not saved)
pub record SavedCall : Type 0 where
  pub call : Call
  pub buffer : List ℕ

-- the calls alone
unfoldable pub calls_of : List SavedCall → List Call
calls_of [] = []
calls_of (x ∷ later) = x.call ∷ calls_of later

-- what each call gives, on the checkpoint as it was loaded
unfoldable pub saved_results : Bool → Problem → Checkpoint → List SavedCall → List Called
saved_results connected P c [] = []
saved_results connected P c (x ∷ later) =
    called connected P c x.call ∷ saved_results connected P (reloaded connected P (called connected P c x.call).checkpoint x.buffer) later

-- the checkpoint that is loaded after the last call
unfoldable pub saved_leaves : Bool → Problem → Checkpoint → List SavedCall → Checkpoint
saved_leaves connected P c [] = c
saved_leaves connected P c (x ∷ later) = saved_leaves connected P (reloaded connected P (called connected P c x.call).checkpoint x.buffer) later

-- calls with the checkpoint saved and loaded between them give, and leave, what the calls alone do
abbrev pub SameAsCalls : Bool → Problem → Checkpoint → List SavedCall → Type 0
SameAsCalls connected P c calls = (saved_results connected P c calls ≡ results connected P c (calls_of calls)) × (saved_leaves connected P c calls ≡ leaves connected P c (calls_of calls))
