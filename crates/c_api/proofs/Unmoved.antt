-- A refused call leaves what was lent as it was, whatever its length and whatever else was lent.
use mathlib.Core.Bool.{Bool}
use mathlib.Core.Path.{◌≡◌, refl}
use mathlib.Core.List.{List}
use mathlib.Core.Option.{Option, none, some}
use Prim.Native.Nat.{ℕ, ◌≤◌}
use native.Mathlib.Omega.{arith}
use lib.Dec.{leb}
use lib.ListN.{length}
use Rattle.answers.specs.Answer.{Answer, passed, accepted, refused, refused_at, refusal_number, when_passed}
use Rattle.answers.proofs.Choice.{either}
use Rattle.problem.specs.Problem.{Problem, substituting}
use Rattle.problem_reader.specs.ProblemReading.{ReadOutcome, read, refusal, read_problem}
use Rattle.clique.specs.Branching.{branch}
use Rattle.clique.specs.Call.{clique_answer}
use Rattle.checkpoint.specs.declared.Checkpoint.{Checkpoint}
use Rattle.checkpoint.specs.Checkpoints.{fresh_checkpoint}
use Rattle.search.specs.Call.{search_call}
use Rattle.checkpoint_saver.specs.Saving.{saving}
use Rattle.checkpoint_loader.specs.Loading.{loading}
use Rattle.descend.specs.Call.{start_call, descend_call}
use Rattle.replies.specs.Reply.{reply_of}
use Rattle.replies.specs.Resumed.{Resumed, not_resumed, search_from, resume_from}
use Rattle.replies.specs.ReadOut.{ReadOut, not_read_out, held_in, read_checkpoint, read_bytes}
use Rattle.replies.specs.CliqueReply.{CliqueReply, no_mapping, held_reply, branch_reply}
use Rattle.replies.proofs.CallKept.{Ways, Positive, save_kept}
use Rattle.descent_replies.specs.DescentReply.{DescentReply, not_descended, descend_and_save, descend_bytes}
use Rattle.c_api.specs.Calls.{begin_on, starting, resume_on, resuming}
use Rattle.c_api.specs.Descents.{descend_starting, descend_on, descend_resuming}
use Rattle.c_api.specs.ReadOut.{read_out_on, reading_out}
use Rattle.c_api.specs.Branching.{branch_on, branching}
use Rattle.c_api.proofs.AnswerCases.{passed_cases, saved_cases}

-- nothing need be known of an answer
abbrev Any : Answer → Type 0
Any a = Unit {0}

module _ (old new substitutes : List ℕ) where
  -- whatever checkpoint is saved to begin with
  begin_unmoved : (first : Problem → Checkpoint) (connected : Bool) (buffer : List ℕ)
      → let w = begin_on first (read_problem old new) substitutes connected buffer in 1 ≤ w.reply.number → w.buffer ≡ buffer
  begin_unmoved first connected buffer = go (read_problem old new)
    where
      on_save : (P : Problem) (c : Checkpoint) (a : Answer) → Ways Positive (Unit {0}) ((saving connected P c buffer).buffer ≡ buffer) a
          → 1 ≤ refusal_number a → (saving connected P c buffer).buffer ≡ buffer
      on_save P c passed h z = absurd h
      on_save P c (accepted n) h z = absurd (omega arith)
      on_save P c (refused n) h z = h.1
      on_save P c (refused_at n at) h z = h.1

      go : (g : ReadOutcome) → 1 ≤ (begin_on first g substitutes connected buffer).reply.number → (begin_on first g substitutes connected buffer).buffer ≡ buffer
      go (read G) z =
          let P = substituting substitutes G in
          on_save P (first P) (saving connected P (first P) buffer).answer (save_kept connected P (first P) buffer) z
      go (refusal a) z = refl

  pub start_unmoved : (connected : Bool) (minimum : ℕ) (buffer : List ℕ) → 1 ≤ (starting old new substitutes connected minimum buffer).reply.number
      → (starting old new substitutes connected minimum buffer).buffer ≡ buffer
  unfolding starting
  start_unmoved connected minimum buffer = begin_unmoved (λ (P : Problem). fresh_checkpoint minimum) connected buffer

  pub descend_start_unmoved : (connected : Bool) (floor : ℕ) (buffer : List ℕ) → 1 ≤ (descend_starting old new substitutes connected floor buffer).reply.number
      → (descend_starting old new substitutes connected floor buffer).buffer ≡ buffer
  unfolding descend_starting
  descend_start_unmoved connected floor buffer = begin_unmoved (λ (P : Problem). (start_call P floor).checkpoint) connected buffer

  pub resume_unmoved : (connected : Bool) (bytes : List ℕ) (budget : ℕ) (workspace next : List ℕ)
      → let r = resuming old new substitutes connected bytes budget workspace next in 1 ≤ r.reply.number → (r.workspace ≡ workspace) × (r.next ≡ next)
  unfolding resuming resume_from search_from
  resume_unmoved connected bytes budget workspace next = on_graphs (read_problem old new)
    where
      Keeps : Resumed → Type 0
      Keeps r = 1 ≤ r.reply.number → (r.workspace ≡ workspace) × (r.next ≡ next)

      on_graphs : (g : ReadOutcome) → Keeps (resume_on g substitutes connected bytes budget workspace next)
      on_graphs (read G) =
          let P = substituting substitutes G in
          let l = loading connected P bytes in
          let q = search_call connected P l.checkpoint budget workspace in
          saved_cases Keeps Any (not_resumed workspace next) (λ a r z. (refl, refl)) l.answer q.answer (saving connected P q.checkpoint next).answer tt tt tt
          (λ ceiling count (z : 1 ≤ 0). absurd (omega arith))
      on_graphs (refusal a) = λ z. (refl, refl)

  pub descend_unmoved : (connected : Bool) (floor : ℕ) (bytes : List ℕ) (budget : ℕ) (workspace next : List ℕ)
      → let r = descend_resuming old new substitutes connected floor bytes budget workspace next in
      1 ≤ r.reply.number → (r.workspace ≡ workspace) × (r.next ≡ next)
  unfolding descend_resuming descend_bytes descend_and_save
  descend_unmoved connected floor bytes budget workspace next = on_graphs (read_problem old new)
    where
      Keeps : DescentReply → Type 0
      Keeps r = 1 ≤ r.reply.number → (r.workspace ≡ workspace) × (r.next ≡ next)

      on_graphs : (g : ReadOutcome) → Keeps (descend_on g substitutes connected floor bytes budget workspace next)
      on_graphs (read G) =
          let P = substituting substitutes G in
          let l = loading connected P bytes in
          let q = descend_call connected P floor l.checkpoint budget workspace in
          saved_cases Keeps Any (not_descended workspace next) (λ a r z. (refl, refl)) l.answer q.answer (saving connected P q.checkpoint next).answer tt tt tt
          (λ ceiling count (z : 1 ≤ 0). absurd (omega arith))
      on_graphs (refusal a) = λ z. (refl, refl)

  pub read_out_unmoved : (connected : Bool) (bytes mapping : List ℕ) → 1 ≤ (reading_out old new substitutes connected bytes mapping).reply.number
      → (reading_out old new substitutes connected bytes mapping).mapping ≡ mapping
  unfolding reading_out read_bytes read_checkpoint
  read_out_unmoved connected bytes mapping = on_graphs (read_problem old new)
    where
      Keeps : ReadOut → Type 0
      Keeps r = 1 ≤ r.reply.number → r.mapping ≡ mapping

      on_graphs : (g : ReadOutcome) → Keeps (read_out_on g substitutes connected bytes mapping)
      on_graphs (read G) =
          let P = substituting substitutes G in
          let l = loading connected P bytes in
          passed_cases Keeps Any (λ (a : Answer). not_read_out mapping (reply_of a)) (λ a r z. refl) l.answer tt
          (either Keeps (leb (length (held_in P l.checkpoint)) (length mapping)) (λ z. absurd (omega arith)) (λ z. refl))
      on_graphs (refusal a) = λ z. refl

  pub clique_unmoved : (minimum : ℕ) (mapping : List ℕ) → 1 ≤ (branching old new substitutes minimum mapping).reply.number
      → (branching old new substitutes minimum mapping).mapping ≡ mapping
  unfolding branching branch_reply
  clique_unmoved minimum mapping = on_graphs (read_problem old new)
    where
      Keeps : CliqueReply → Type 0
      Keeps r = 1 ≤ r.reply.number → r.mapping ≡ mapping

      on_answer : (a : Answer) (held : Option (List ℕ))
          → Keeps (when_passed a (held_reply held mapping) (λ (refusal : Answer). no_mapping mapping (reply_of refusal)))
      on_answer passed none z = refl
      on_answer passed (some l) z = either Keeps (leb (length l) (length mapping)) (λ y. absurd (omega arith)) (λ y. refl) z
      on_answer (accepted n) held z = refl
      on_answer (refused n) held z = refl
      on_answer (refused_at n at) held z = refl

      on_graphs : (g : ReadOutcome) → Keeps (branch_on g substitutes minimum mapping)
      on_graphs (read G) z = let P = substituting substitutes G in on_answer (clique_answer P) (branch P minimum) z
      on_graphs (refusal a) z = refl
