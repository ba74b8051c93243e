-- How a resumed search goes: refused, 13 last and only where the bytes do not fit, or saved.
use mathlib.Core.Path.{◌≡◌, refl}
use mathlib.Core.Bool.{Bool}
use mathlib.Core.List.{List}
use Prim.Native.Nat.{ℕ}
use native.Mathlib.Omega.{arith}
use Rattle.answers.specs.Answer.{Answer, passed, accepted, refused, refused_at, refusal_number}
use Rattle.answers.proofs.RefusalNumbers.{RefusalNumber, Plain}
use Rattle.problem.specs.Problem.{Problem, substituting}
use Rattle.problem_reader.specs.ProblemReading.{ReadOutcome, read, refusal, read_problem}
use Rattle.problem_reader.proofs.ReadProblem.{Refusing, outcome_refusing}
use Rattle.checkpoint.specs.declared.Checkpoint.{Checkpoint}
use Rattle.search.specs.Calls.{Call, called}
use Rattle.checkpoint_loader.specs.Loading.{loading}
use Rattle.checkpoint_loader.specs.FaultPlace.{Bytes}
use Rattle.checkpoint_loader.proofs.LoadAccepts.{load_in_shape}
use Rattle.checkpoint_loader.proofs.LoadedSized.{load_sized}
use Rattle.replies.specs.Resumed.{Resumed, not_resumed, search_from, load_on, resume_from}
use Rattle.c_api.specs.Calls.{resume_on, resuming}
use Rattle.c_api.specs.ResumedCall.{ResumedCall, refused as turned, short, advanced}
use Rattle.c_api.proofs.SavedWays.{kept, short as unsaved, saved}
use Rattle.c_api.proofs.SearchWays.{SearchWays, search_ways}
use Rattle.c_api.proofs.RefusalNumbers.{loading_plain}

module _ (old new substitutes : List ℕ) (connected : Bool) (bytes : List ℕ) (budget : ℕ) (workspace next : List ℕ) where
  -- how this call goes
  abbrev Goes : Resumed → Type 0
  Goes = ResumedCall old new substitutes connected bytes budget workspace next

  -- a refusal that is handed on
  turned_away : (a : Answer) → RefusalNumber (refusal_number a) → Goes (not_resumed workspace next a)
  turned_away a h = turned h.0 (λ e. omega (arith, h.2))

  module _ (small : Bytes bytes) (G : Problem) (graphs_read : read_problem old new ≡ read G) where
    -- the problem that is searched: the graphs that were read, with the list
    abbrev P : Problem
    P = substituting substitutes G

    search_goes : (loading connected P bytes).answer ≡ passed → Goes (search_from connected P (loading connected P bytes).checkpoint budget workspace next)
    search_goes loaded =
        let found = load_in_shape connected P bytes loaded in
        go (search_from connected P c budget workspace next) (search_ways connected P c call next found.0 (load_sized connected P bytes small loaded) found.1)
      where
        c : Checkpoint
        c = (loading connected P bytes).checkpoint

        call : Call
        call = record { budget = budget; workspace = workspace }

        go : (r : Resumed) → SearchWays connected P c call next r → Goes r
        go r (kept h z e) = rw e (turned_away (called connected P c call).answer h)
        go r (unsaved n a few e) =
            rw e
            (short (record {
              searched = record { graphs = G; graphs_read = graphs_read; loaded = loaded; ceiling = n; ceiling_is = a };
              number = refl;
              too_short = few;
            }))
        go r (saved n count buffer a e back) =
            rw e
            (advanced (record {
              searched = record { graphs = G; graphs_read = graphs_read; loaded = loaded; ceiling = n; ceiling_is = a };
              number = refl;
              ceiling_is = refl;
              workspace_is = refl;
              saved = back;
            }))

    load_goes : Goes (resume_from connected P bytes budget workspace next)
    unfolding resume_from
    load_goes = go (loading connected P bytes).answer refl (loading_plain connected P bytes)
      where
        go : (a : Answer) → (loading connected P bytes).answer ≡ a → Plain a
            → Goes (load_on connected P (record { answer = a; checkpoint = (loading connected P bytes).checkpoint }) budget workspace next)
        go passed e h = search_goes e
        go (accepted n) e h = absurd h
        go (refused n) e h = turned_away (refused n) h
        go (refused_at n at) e h = turned_away (refused_at n at) h

  -- 13 is told only where the bytes do not fit, and the bytes of an accepted resume load back to the checkpoint that its search call left.
  pub resume_goes : Bytes bytes → ResumedCall old new substitutes connected bytes budget workspace next (resuming old new substitutes connected bytes budget workspace next)
  unfolding resuming
  resume_goes small = go (read_problem old new) refl (outcome_refusing old new)
    where
      go : (g : ReadOutcome) → read_problem old new ≡ g → Refusing g → Goes (resume_on g substitutes connected bytes budget workspace next)
      go (read G) e h = load_goes small G e
      go (refusal a) e h = turned_away a h
