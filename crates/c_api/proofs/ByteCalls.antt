-- The mission's third property of a search that is started and resumed through bytes, by recursion over the list of calls.
use mathlib.Core.Path.{◌≡◌, refl, sym, ap, ◌∙◌}
use mathlib.Core.Bool.{Bool, true, false}
use mathlib.Core.List.{List, [], ◌∷◌, map}
use Prim.Native.Nat.{ℕ, ◌≤◌, ◌<◌}
use native.Mathlib.Omega.{arith}
use lib.Dec.{eqb}
use lib.ListN.{take}
use borrow.Author.Tests.{ne_eqb}
use Rattle.answers.specs.Answer.{Answer, passed, accepted, refused, refused_at, refusal_number, value_of}
use Rattle.problem.specs.Problem.{Problem, SoundProblem, substituting}
use Rattle.problem_reader.specs.ProblemReading.{ReadOutcome, read, refusal, read_problem}
use Rattle.problem_reader.proofs.ReadProblem.{Refusing, outcome_refusing}
use Rattle.step_limit.specs.StepLimits.{cap, foretold}
use Rattle.step_limit.proofs.Foretold.{below_cap}
use Rattle.checkpoint.specs.declared.Checkpoint.{Checkpoint}
use Rattle.checkpoint.specs.Checkpoints.{fresh_checkpoint, InShape}
use Rattle.search.specs.Call.{Called}
use Rattle.search.specs.Calls.{Call, called, results, leaves, reached, spent}
use Rattle.checkpoint.proofs.CheckpointPasses.{passes_shape}
use Rattle.search.proofs.ThirdProperty.{third_property_total, limit_spent}
use Rattle.checkpoint_loader.specs.Between.{Sized}
use Rattle.checkpoint_saver.specs.Saving.{saving}
use Rattle.checkpoint_loader.specs.Loading.{Loading, loading}
use Rattle.checkpoint_loader.proofs.CalledSized.{fresh_sized, called_sized}
use Rattle.checkpoint_loader.proofs.LoadAccepts.{load_in_shape}
use Rattle.checkpoint_loader.proofs.SaveLoad.{saved_passed, save_load_buffer}
use Rattle.replies.specs.Resumed.{Resumed, search_from, load_on, resume_from}
use Rattle.replies.proofs.CallKept.{Ways, Positive, save_kept}
use Rattle.c_api.specs.Calls.{start_on, starting, resume_on, resuming}
use Rattle.c_api.specs.ResumedCall.{loads_to}
use Rattle.c_api.specs.ByteRuns.{ByteCall, call_of, bytes_left, returned}
use Rattle.c_api.specs.ByteCalls.{resume, writes, written_by, search_calls, Seen, ceiling_of, seen_of, seen_by, start_bytes, ThroughBytes}
use Rattle.c_api.proofs.ByteRuns.{shown, left, Step, dropped, made, follows}
use Rattle.c_api.proofs.SavedWays.{kept, short, saved}
use Rattle.c_api.proofs.SearchWays.{SearchWays, search_same, search_ways}

module _ (old new substitutes : List ℕ) (connected : Bool) (G : Problem) (graphs_read : read_problem old new ≡ read G) where
  -- the problem that is searched: the graphs that were read, with the list
  abbrev P : Problem
  P = substituting substitutes G

  module _ (bytes : List ℕ) (c : Checkpoint) (loads : loading connected P bytes ≡ loads_to c) where
    -- a call on bytes that load c is the search from c
    resume_loaded : (x : ByteCall) → resume old new substitutes connected bytes x ≡ search_from connected P c x.budget x.workspace x.next
    unfolding resuming resume_from
    resume_loaded x =
        ap (λ (o : ReadOutcome). resume_on o substitutes connected bytes x.budget x.workspace x.next) graphs_read
        ∙ ap (λ (l : Loading). load_on connected P l x.budget x.workspace x.next) loads

  -- bytes that load c, a checkpoint as the code's types say
  abbrev Loads : List ℕ → Checkpoint → Type 0
  Loads bytes c = (loading connected P bytes ≡ loads_to c) × Sized c

  -- a search call on c: what a caller sees of it, and the checkpoint that it leaves
  abbrev shows : Checkpoint → Call → Seen
  shows c call = seen_of (called connected P c call)

  abbrev leaves_one : Checkpoint → Call → Checkpoint
  leaves_one c call = (called connected P c call).checkpoint

  abbrev seen : List ℕ → ByteCall → Seen
  seen bytes x = seen_by (resume old new substitutes connected bytes x)

  -- one call by its reply
  abbrev OneCall : List ℕ → Checkpoint → ByteCall → Resumed → Type 0
  OneCall bytes c x r = Step shows leaves_one (writes old new substitutes connected) seen Loads bytes c x (written_by r) (seen_by r)

  -- it is refused with 13, or it is a search call on c
  step : SoundProblem P → (bytes : List ℕ) (c : Checkpoint) → Loads bytes c → (x : ByteCall) → OneCall bytes c x (resume old new substitutes connected bytes x)
  step sound bytes c loads x = rw (resume_loaded bytes c loads.0 x) (go _ (search_ways connected P c (call_of x) x.next sound loads.1 shape))
    where
      shape : InShape connected P c
      shape = rw loads.0 at (load_in_shape connected P bytes (ap (λ (l : Loading). l.answer) loads.0)).1

      q : Called
      q = called connected P c (call_of x)

      sized : Sized q.checkpoint
      sized = called_sized connected P c loads.1 (call_of x)

      go : (r : Resumed) → SearchWays connected P c (call_of x) x.next r → OneCall bytes c x r
      go r (kept h z e) =
          let same = search_same connected P c (call_of x) x.next h.0 in
          let on : eqb (refusal_number q.answer) 0 ≡ false = ne_eqb (refusal_number q.answer) 0 (λ n. omega (arith, n, h.0)) in
          let off : eqb (refusal_number q.answer) 13 ≡ false = ne_eqb (refusal_number q.answer) 13 (λ n. omega (arith, n, h.2)) in
          rw e
          (made off
          (λ i. record { number = refusal_number q.answer; ceiling = sym z i; workspace = sym same.0 i })
          (rw (on, same.1) loads.0, sized))
      go r (short n a few e) = rw e (dropped refl refl)
      go r (saved n count buffer a e back) =
          rw e
          (made refl
          (λ i. record { number = sym (ap refusal_number a) i; ceiling = sym (ap ceiling_of a) i; workspace = q.workspace })
          (back, sized))

  -- what calls show and leave, one after the other, are a list of search calls
  shown_results : (c : Checkpoint) (calls : List Call) → shown shows leaves_one c calls ≡ map seen_of (results connected P c calls)
  unfolding shown results
  shown_results c [] = refl
  shown_results c (call ∷ later) = ap (◌∷◌ (seen_of (called connected P c call))) (shown_results (leaves_one c call) later)

  left_leaves : (c : Checkpoint) (calls : List Call) → left shows leaves_one c calls ≡ leaves connected P c calls
  unfolding left leaves
  left_leaves c [] = refl
  left_leaves c (call ∷ later) = left_leaves (leaves_one c call) later

  -- So the calls return what the search calls made give, and the bytes left load the checkpoint that these leave.
  through : SoundProblem P → (bytes : List ℕ) (c : Checkpoint) → Loads bytes c → (calls : List ByteCall)
      → let made = search_calls old new substitutes connected bytes calls in
      (returned (writes old new substitutes connected) seen bytes calls ≡ map seen_of (results connected P c made))
      × (loading connected P (bytes_left (writes old new substitutes connected) bytes calls) ≡ loads_to (leaves connected P c made))
  through sound bytes c loads calls =
      let made = search_calls old new substitutes connected bytes calls in
      let both = follows shows leaves_one (writes old new substitutes connected) seen Loads (step sound) bytes c loads calls in
      (both.0 ∙ shown_results c made, both.1.0 ∙ ap loads_to (left_leaves c made))

module _ (old new substitutes : List ℕ) (connected : Bool) (minimum : ℕ) (buffer : List ℕ) where
  -- Once a search is started, whatever calls follow obey the third property.
  pub third_property_bytes : (starting old new substitutes connected minimum buffer).reply.number ≡ 0
      → ThroughBytes old new substitutes connected minimum (start_bytes (starting old new substitutes connected minimum buffer))
  unfolding starting
  third_property_bytes = go (read_problem old new) refl (outcome_refusing old new)
    where
      fresh : Checkpoint
      fresh = fresh_checkpoint minimum

      -- an accepted save shows that the list is sound, as the graphs are
      on_save : (G : Problem) → read_problem old new ≡ read G
          → let P = substituting substitutes G in
          (a : Answer) → (saving connected P fresh buffer).answer ≡ a
          → Ways Positive (Unit {0}) ((saving connected P fresh buffer).buffer ≡ buffer) a → refusal_number a ≡ 0
          → ThroughBytes old new substitutes connected minimum (take (value_of a) (saving connected P fresh buffer).buffer)
      on_save G e passed s h z = absurd h
      on_save G e (accepted k) s h z =
          let P = substituting substitutes G in
          let sound = (passes_shape connected P fresh (saved_passed connected P fresh buffer k s)).0 in
          let end = third_property_total connected P sound minimum in
          let back = save_load_buffer connected P fresh buffer k (fresh_sized minimum) s in
          record {
            graphs = G;
            graphs_read = e;
            sound = sound;
            total = end.0;
            is_total = end.1;
            property = λ calls. end.3 (search_calls old new substitutes connected (take k (saving connected P fresh buffer).buffer) calls);
            returns = λ calls. (through old new substitutes connected G e sound _ fresh (back, fresh_sized minimum) calls).0;
            loads = λ calls. (through old new substitutes connected G e sound _ fresh (back, fresh_sized minimum) calls).1;
          }
      on_save G e (refused n) s h z = absurd (omega (arith, h.0))
      on_save G e (refused_at n at) s h z = absurd (omega (arith, h.0))

      go : (g : ReadOutcome) → read_problem old new ≡ g → Refusing g → (start_on g substitutes connected minimum buffer).reply.number ≡ 0
          → ThroughBytes old new substitutes connected minimum (start_bytes (start_on g substitutes connected minimum buffer))
      go (read G) e h z = let P = substituting substitutes G in on_save G e (saving connected P fresh buffer).answer refl (save_kept connected P fresh buffer) z
      go (refusal a) e h z = absurd (omega (arith, h.0))

-- Below the cap, once the budgets of the calls that are not refused add up to the step limit that is told of the two orders, the search is finished (02, U5).
module _ {old new substitutes : List ℕ} {connected : Bool} {bytes : List ℕ} {minimum : ℕ} (through : ThroughBytes old new substitutes connected minimum bytes) where
  pub limit_through_bytes : (v : ℕ) → foretold through.graphs.new.order through.graphs.old.order ≡ accepted v → v < cap
      → (calls : List ByteCall)
      → let P = substituting substitutes through.graphs in
      let made = search_calls old new substitutes connected bytes calls in
      v ≤ spent connected P minimum made → (reached connected P minimum made).finished ≡ true
  limit_through_bytes v told below calls enough =
      let P = substituting substitutes through.graphs in
      limit_spent connected P through.sound minimum (search_calls old new substitutes connected bytes calls)
      (rw (below_cap through.graphs.new.order through.graphs.old.order v told below) enough)
