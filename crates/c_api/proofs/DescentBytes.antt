-- What is promised of a descent, of one that is started and resumed through bytes (`ByteRuns`).
use mathlib.Core.Path.{◌≡◌, refl, sym, ap, ◌∙◌}
use mathlib.Core.Bool.{Bool, false}
use mathlib.Core.List.{List, [], ◌∷◌, map}
use Prim.Native.Nat.{ℕ}
use native.Mathlib.Omega.{arith}
use lib.Dec.{eqb, lit<}
use lib.ListN.{take}
use borrow.Author.Tests.{ne_eqb}
use Rattle.answers.specs.Answer.{Answer, passed, accepted, refused, refused_at, refusal_number, value_of}
use Rattle.problem.specs.Problem.{Problem, SoundProblem, substituting}
use Rattle.problem.proofs.ProblemPasses.{problem_passes}
use Rattle.problem_reader.specs.ProblemReading.{ReadOutcome, read, refusal, read_problem}
use Rattle.problem_reader.proofs.ReadProblem.{Refusing, outcome_refusing}
use Rattle.search_tree.specs.Rules.{rules_of}
use Rattle.search_tree.specs.Search.{search_of}
use Rattle.checkpoint.specs.declared.Checkpoint.{Checkpoint}
use Rattle.checkpoint.proofs.CheckpointPasses.{passes_shape}
use Rattle.search.specs.Calls.{Call}
use Rattle.checkpoint_saver.specs.Saving.{saving}
use Rattle.checkpoint_loader.specs.Loading.{Loading, loading}
use Rattle.checkpoint_loader.proofs.SaveLoad.{saved_passed, save_load_buffer}
use Rattle.descend.specs.Descent.{start_of}
use Rattle.descend.specs.Call.{Descended, start_call}
use Rattle.descend.specs.Calls.{called, Left, left_by, left_from, at_start, results_from}
use Rattle.descend.specs.DescentProperty.{checkpoint_at}
use Rattle.descend.proofs.OneSearch.{fresh_at_none}
use Rattle.descend.proofs.DescentProperty.{descent_property_total}
use Rattle.replies.specs.Reply.{reply}
use Rattle.replies.proofs.CallKept.{Ways, Positive, save_kept}
use Rattle.descent_replies.specs.DescentReply.{DescentReply, descent_reply, not_descended, descend_and_save, descend_loaded, descend_bytes}
use Rattle.descent_replies.proofs.DescentKept.{descend_kept}
use Rattle.c_api.specs.Calls.{begin_on}
use Rattle.c_api.specs.Descents.{descend_starting, descend_on, descend_resuming}
use Rattle.c_api.specs.ResumedCall.{loads_to}
use Rattle.c_api.specs.ByteRuns.{ByteCall, call_of, bytes_left, returned}
use Rattle.c_api.specs.ByteCalls.{ceiling_of, start_bytes}
use Rattle.c_api.specs.DescentBytes.{SeenDescent, seen_of, seen_by, written_by, resume, writes, descent_calls, DescentThroughBytes}
use Rattle.c_api.proofs.SavedWays.{SavedWays, kept, short, saved, saved_ways}
use Rattle.c_api.proofs.SearchWays.{valued_ways, refused_ways}
use Rattle.c_api.proofs.ByteRuns.{shown, left, Step, dropped, made, follows}
use Rattle.c_api.proofs.BroughtDescent.{Brought, brought_in_shape, brought_sized, brought_on}

module _ (old new substitutes : List ℕ) (connected : Bool) (floor : ℕ) (G : Problem) (graphs_read : read_problem old new ≡ read G) where
  -- the problem that is searched: the graphs that were read, with the list
  abbrev P : Problem
  P = substituting substitutes G

  -- a call on bytes that load c is the descent from c
  resume_loaded : (bytes : List ℕ) (c : Checkpoint) → loading connected P bytes ≡ loads_to c → (x : ByteCall)
      → resume old new substitutes connected floor bytes x ≡ descend_and_save connected P floor c x.budget x.workspace x.next
  unfolding descend_resuming descend_bytes
  resume_loaded bytes c loads x =
      ap (λ (o : ReadOutcome). descend_on o substitutes connected floor bytes x.budget x.workspace x.next) graphs_read
      ∙ ap (λ (l : Loading). descend_loaded connected P floor l x.budget x.workspace x.next) loads

  -- a descent call on c: what a caller sees of it, and the checkpoint that it leaves
  abbrev shows : Checkpoint → Call → SeenDescent
  shows c call = seen_of (called connected P floor c call)

  abbrev leaves_one : Checkpoint → Call → Checkpoint
  leaves_one c call = (called connected P floor c call).checkpoint

  abbrev seen : List ℕ → ByteCall → SeenDescent
  seen bytes x = seen_by (resume old new substitutes connected floor bytes x)

  -- what calls show and leave, one after the other, are a list of descent calls
  shown_results : (a : Left) (calls : List Call) → shown shows leaves_one a.checkpoint calls ≡ map seen_of (results_from connected P floor a.checkpoint calls)
  unfolding shown results_from
  shown_results a [] = refl
  shown_results a (call ∷ later) = ap (◌∷◌ (seen_of (called connected P floor a.checkpoint call))) (shown_results (left_by connected P floor a call) later)

  left_leaves : (a : Left) (calls : List Call) → left shows leaves_one a.checkpoint calls ≡ (left_from connected P floor a calls).checkpoint
  unfolding left left_from
  left_leaves a [] = refl
  left_leaves a (call ∷ later) = left_leaves (left_by connected P floor a call) later

  module _ (sound : SoundProblem P) where
    -- bytes that load a checkpoint of the descent
    abbrev Loads : List ℕ → Checkpoint → Type 0
    Loads bytes c = (loading connected P bytes ≡ loads_to c) × Brought connected P sound floor c

    -- one call by its reply
    abbrev OneCall : List ℕ → Checkpoint → ByteCall → DescentReply → Type 0
    OneCall bytes c x r = Step shows leaves_one (writes old new substitutes connected floor) seen Loads bytes c x (written_by r) (seen_by r)

    -- it is refused with 13, or it is a descent call on c
    step : (bytes : List ℕ) (c : Checkpoint) → Loads bytes c → (x : ByteCall) → OneCall bytes c x (resume old new substitutes connected floor bytes x)
    unfolding descend_and_save
    step bytes c loads x =
        rw (resume_loaded bytes c loads.0 x)
        (go _
        (saved_ways connected P q.checkpoint q.answer x.next ok (not_descended x.workspace x.next) sound
        (brought_sized connected P sound floor later) (brought_in_shape connected P sound floor later)
        (valued_ways _ _ q.answer (descend_kept connected P floor c x.budget x.workspace))))
      where
        q : Descended
        q = called connected P floor c (call_of x)

        ok : ℕ → ℕ → List ℕ → DescentReply
        ok ceiling count buffer = descent_reply (reply 0 count) ceiling q.visits q.workspace buffer

        later : Brought connected P sound floor q.checkpoint
        later = brought_on connected P sound floor loads.1 (call_of x)

        go : (r : DescentReply) → SavedWays connected P q.checkpoint q.answer x.next ok (not_descended x.workspace x.next) r → OneCall bytes c x r
        go r (kept h z e) =
            let same = refused_ways _ _ q.answer (descend_kept connected P floor c x.budget x.workspace) h.0 in
            let on : eqb (refusal_number q.answer) 0 ≡ false = ne_eqb (refusal_number q.answer) 0 (λ n. omega (arith, n, h.0)) in
            let off : eqb (refusal_number q.answer) 13 ≡ false = ne_eqb (refusal_number q.answer) 13 (λ n. omega (arith, n, h.2)) in
            rw e
            (made off
            (λ i. record { number = refusal_number q.answer; ceiling = sym z i; visits = sym same.2 i; workspace = sym same.0 i })
            (rw (on, same.1) loads.0, later))
        go r (short n a few e) = rw e (dropped refl refl)
        go r (saved n count buffer a e back) =
            rw e
            (made refl
            (λ i. record { number = sym (ap refusal_number a) i; ceiling = sym (ap ceiling_of a) i; visits = q.visits; workspace = q.workspace })
            (back, later))

    -- So the calls return what the descent calls made give, and the bytes left load the checkpoint that these leave.
    through : (bytes : List ℕ) (a : Left) → Loads bytes a.checkpoint → (calls : List ByteCall)
        → let made = descent_calls old new substitutes connected floor bytes calls in
        (returned (writes old new substitutes connected floor) seen bytes calls ≡ map seen_of (results_from connected P floor a.checkpoint made))
        × (loading connected P (bytes_left (writes old new substitutes connected floor) bytes calls) ≡ loads_to (left_from connected P floor a made).checkpoint)
    through bytes a loads calls =
        let made = descent_calls old new substitutes connected floor bytes calls in
        let both = follows shows leaves_one (writes old new substitutes connected floor) seen Loads step bytes a.checkpoint loads calls in
        (both.0 ∙ shown_results a made, both.1.0 ∙ ap loads_to (left_leaves a made))

-- The start of a sound problem is a checkpoint of the descent.
start_brought : (connected : Bool) (P : Problem) (sound : SoundProblem P) (floor : ℕ) → Brought connected P sound floor (start_call P floor).checkpoint
unfolding start_call
start_brought connected P sound floor =
    let none = fresh_at_none (search_of connected P) floor (start_of (rules_of P) floor) in
    rw (problem_passes P sound) (record { visits = 0; is = ap checkpoint_at (sym none); steps_fit = rw none (lit< tt) })

module _ (old new substitutes : List ℕ) (connected : Bool) (floor : ℕ) (buffer : List ℕ) where
  -- Once a descent is started, whatever calls follow obey what is promised of it.
  pub descent_property_bytes : (descend_starting old new substitutes connected floor buffer).reply.number ≡ 0
      → DescentThroughBytes old new substitutes connected floor (start_bytes (descend_starting old new substitutes connected floor buffer))
  unfolding descend_starting
  descent_property_bytes = go (read_problem old new) refl (outcome_refusing old new)
    where
      first : Problem → Checkpoint
      first P = (start_call P floor).checkpoint

      -- an accepted save shows that the list is sound, as the graphs are
      on_save : (G : Problem) → read_problem old new ≡ read G
          → let P = substituting substitutes G in
          (a : Answer) → (saving connected P (first P) buffer).answer ≡ a
          → Ways Positive (Unit {0}) ((saving connected P (first P) buffer).buffer ≡ buffer) a → refusal_number a ≡ 0
          → DescentThroughBytes old new substitutes connected floor (take (value_of a) (saving connected P (first P) buffer).buffer)
      on_save G e passed s h z = absurd h
      on_save G e (accepted k) s h z =
          let P = substituting substitutes G in
          let sound = (passes_shape connected P (first P) (saved_passed connected P (first P) buffer k s)).0 in
          let end = descent_property_total connected P sound floor in
          let brought = start_brought connected P sound floor in
          let back = save_load_buffer connected P (first P) buffer k (brought_sized connected P sound floor brought) s in
          record {
            graphs = G;
            graphs_read = e;
            sound = sound;
            total = end.0;
            is_total = end.1;
            property = λ calls. end.3 (descent_calls old new substitutes connected floor (take k (saving connected P (first P) buffer).buffer) calls);
            returns = λ calls. (through old new substitutes connected floor G e sound _ (at_start P floor) (back, brought) calls).0;
            loads = λ calls. (through old new substitutes connected floor G e sound _ (at_start P floor) (back, brought) calls).1;
          }
      on_save G e (refused n) s h z = absurd (omega (arith, h.0))
      on_save G e (refused_at n at) s h z = absurd (omega (arith, h.0))

      go : (g : ReadOutcome) → read_problem old new ≡ g → Refusing g → (begin_on first g substitutes connected buffer).reply.number ≡ 0
          → DescentThroughBytes old new substitutes connected floor (start_bytes (begin_on first g substitutes connected buffer))
      go (read G) e h z =
          let P = substituting substitutes G in
          on_save G e (saving connected P (first P) buffer).answer refl (save_kept connected P (first P) buffer) z
      go (refusal a) e h z = absurd (omega (arith, h.0))
