-- With room for 270 bytes, or for the 64 of a mapping, or for the eight of one that clique branching holds, the number 13 does not occur, so that no visit
-- is lost for want of it.
use mathlib.Core.Path.{◌≡◌, refl}
use mathlib.Core.Bool.{Bool, cond}
use mathlib.Core.List.{List}
use mathlib.Core.Option.{Option, none, some}
use Prim.Native.Nat.{ℕ, ◌≤◌}
use native.Mathlib.Omega.{arith}
use lib.Dec.{leb}
use lib.ListN.{length, length-take}
use borrow.Author.Tests.{le-leb, leb-false}
use Rattle.answers.specs.Answer.{Answer, passed, accepted, refused, refused_at, refusal_number, when_passed}
use Rattle.answers.specs.Output.{write_if}
use Rattle.answers.proofs.Choice.{cond_cases}
use Rattle.answers.proofs.RefusalNumbers.{RefusalNumber, Plain}
use Rattle.problem.specs.Problem.{Problem, substituting}
use Rattle.problem_reader.specs.ProblemReading.{ReadOutcome, read, refusal, read_problem}
use Rattle.problem_reader.proofs.ReadProblem.{Refusing, outcome_refusing}
use Rattle.clique.specs.Branching.{branch}
use Rattle.clique.specs.Call.{clique_answer}
use Rattle.clique.proofs.BranchBest.{branch_length}
use Rattle.checkpoint.specs.declared.Checkpoint.{Checkpoint}
use Rattle.checkpoint.specs.Checkpoints.{fresh_checkpoint}
use Rattle.checkpoint.specs.Checking.{checkpoint_answer}
use Rattle.search.specs.Call.{search_call}
use Rattle.checkpoint.proofs.CheckpointPasses.{passes_shape, checkpoint_plain}
use Rattle.checkpoint_saver.specs.Saving.{checkpoint_bytes, max_bytes, saving}
use Rattle.checkpoint_loader.specs.Loading.{loading}
use Rattle.checkpoint_loader.proofs.LoadAccepts.{load_in_shape}
use Rattle.checkpoint_saver.proofs.SavedLength.{incumbent_few, saved_max}
use Rattle.descend.specs.Call.{start_call, descend_call}
use Rattle.replies.specs.Reply.{reply_of}
use Rattle.replies.specs.Resumed.{Resumed, not_resumed, search_from, resume_from}
use Rattle.replies.specs.ReadOut.{held_in, read_checkpoint, read_loaded, read_bytes}
use Rattle.replies.specs.CliqueReply.{CliqueReply, no_mapping, held_reply, branch_reply}
use Rattle.replies.proofs.CallKept.{Ways, search_kept}
use Rattle.descent_replies.specs.DescentReply.{DescentReply, not_descended, descend_and_save, descend_bytes}
use Rattle.descent_replies.proofs.DescentKept.{descend_kept}
use Rattle.clique.proofs.CliquePasses.{clique_plain, passes_clique}
use Rattle.c_api.specs.Calls.{begin_on, starting, resume_on, resuming}
use Rattle.c_api.specs.Descents.{descend_starting, descend_on, descend_resuming}
use Rattle.c_api.specs.ReadOut.{read_out_on, reading_out}
use Rattle.c_api.specs.Branching.{branch_on, branching, HeldShort}
use Rattle.c_api.proofs.RefusalNumbers.{loading_plain}
use Rattle.c_api.proofs.AnswerCases.{saved_cases}

-- a save is not refused with 13 where there is room for 270 bytes
save_fits : (connected : Bool) (P : Problem) (c : Checkpoint) (buffer : List ℕ) → max_bytes ≤ length buffer → refusal_number (saving connected P c buffer).answer ≡ 13 → ⊥
unfolding saving
save_fits connected P c buffer room = go (checkpoint_answer connected P c) refl (checkpoint_plain connected P c)
  where
    go : (a : Answer) → checkpoint_answer connected P c ≡ a → Plain a
        → refusal_number (write_if a (checkpoint_bytes P.old.order c) buffer).answer ≡ 13 → ⊥
    go passed e h z =
        let fine = passes_shape connected P c e in
        let fits : length (checkpoint_bytes P.old.order c) ≤ length buffer = omega (arith, saved_max connected P fine.0 c fine.1, room) in
        let none : ◌≡◌ {A = ℕ} 0 13 = simp (le-leb _ _ fits) at z in
        omega arith
    go (accepted n) e h z = absurd h
    go (refused n) e h z = omega (arith, h.2)
    go (refused_at n at) e h z = omega (arith, h.2)

-- the answer is no refusal with 13
abbrev Fits : Answer → Type 0
Fits a = refusal_number a ≡ 13 → ⊥

-- the refusals that come before the output's are not
plain_fits : (a : Answer) → Plain a → Fits a
plain_fits passed h z = omega arith
plain_fits (accepted n) h z = h
plain_fits (refused n) h z = omega (arith, h.2)
plain_fits (refused_at n at) h z = omega (arith, h.2)

ways_fit : (A B : Type 0) (a : Answer) → Ways RefusalNumber A B a → Fits a
ways_fit A B passed h z = h
ways_fit A B (accepted n) h z = omega arith
ways_fit A B (refused n) h z = omega (arith, h.0.2)
ways_fit A B (refused_at n at) h z = omega (arith, h.0.2)

module _ (old new substitutes : List ℕ) where
  -- whatever checkpoint is saved to begin with
  begin_fits : (first : Problem → Checkpoint) (connected : Bool) (buffer : List ℕ) → max_bytes ≤ length buffer
      → (begin_on first (read_problem old new) substitutes connected buffer).reply.number ≡ 13 → ⊥
  begin_fits first connected buffer room = go (read_problem old new) (outcome_refusing old new)
    where
      go : (g : ReadOutcome) → Refusing g → (begin_on first g substitutes connected buffer).reply.number ≡ 13 → ⊥
      go (read G) h z = let P = substituting substitutes G in save_fits connected P (first P) buffer room z
      go (refusal a) h z = omega (arith, h.2)

  -- A search is started in any buffer of 270 bytes.
  pub start_fits : (connected : Bool) (minimum : ℕ) (buffer : List ℕ) → max_bytes ≤ length buffer
      → (starting old new substitutes connected minimum buffer).reply.number ≡ 13 → ⊥
  unfolding starting
  start_fits connected minimum = begin_fits (λ (P : Problem). fresh_checkpoint minimum) connected

  -- So is a descent.
  pub descend_start_fits : (connected : Bool) (floor : ℕ) (buffer : List ℕ) → max_bytes ≤ length buffer
      → (descend_starting old new substitutes connected floor buffer).reply.number ≡ 13 → ⊥
  unfolding descend_starting
  descend_start_fits connected floor = begin_fits (λ (P : Problem). (start_call P floor).checkpoint) connected

  -- The visits of a resumed search are always saved into a buffer of 270 bytes.
  pub no_visit_lost : (connected : Bool) (bytes : List ℕ) (budget : ℕ) (workspace next : List ℕ) → max_bytes ≤ length next
      → (resuming old new substitutes connected bytes budget workspace next).reply.number ≡ 13 → ⊥
  unfolding resuming resume_from search_from
  no_visit_lost connected bytes budget workspace next room = on_graphs (read_problem old new) (outcome_refusing old new)
    where
      Saves : Resumed → Type 0
      Saves r = r.reply.number ≡ 13 → ⊥

      on_graphs : (g : ReadOutcome) → Refusing g → Saves (resume_on g substitutes connected bytes budget workspace next)
      on_graphs (read G) h =
          let P = substituting substitutes G in
          let l = loading connected P bytes in
          let q = search_call connected P l.checkpoint budget workspace in
          saved_cases Saves Fits (not_resumed workspace next) (λ a fits. fits) l.answer q.answer (saving connected P q.checkpoint next).answer
          (plain_fits l.answer (loading_plain connected P bytes)) (ways_fit _ _ q.answer (search_kept connected P l.checkpoint budget workspace))
          (save_fits connected P q.checkpoint next room) (λ ceiling count (z : 0 ≡ 13). omega arith)
      on_graphs (refusal a) h = λ z. omega (arith, h.2)

  -- So are those of a resumed descent.
  pub no_descent_visit_lost : (connected : Bool) (floor : ℕ) (bytes : List ℕ) (budget : ℕ) (workspace next : List ℕ) → max_bytes ≤ length next
      → (descend_resuming old new substitutes connected floor bytes budget workspace next).reply.number ≡ 13 → ⊥
  unfolding descend_resuming descend_bytes descend_and_save
  no_descent_visit_lost connected floor bytes budget workspace next room = on_graphs (read_problem old new) (outcome_refusing old new)
    where
      Saves : DescentReply → Type 0
      Saves r = r.reply.number ≡ 13 → ⊥

      on_graphs : (g : ReadOutcome) → Refusing g → Saves (descend_on g substitutes connected floor bytes budget workspace next)
      on_graphs (read G) h =
          let P = substituting substitutes G in
          let l = loading connected P bytes in
          let q = descend_call connected P floor l.checkpoint budget workspace in
          saved_cases Saves Fits (not_descended workspace next) (λ a fits. fits) l.answer q.answer (saving connected P q.checkpoint next).answer
          (plain_fits l.answer (loading_plain connected P bytes)) (ways_fit _ _ q.answer (descend_kept connected P floor l.checkpoint budget workspace))
          (save_fits connected P q.checkpoint next room) (λ ceiling count (z : 0 ≡ 13). omega arith)
      on_graphs (refusal a) h = λ z. omega (arith, h.2)

  -- A held mapping always fits into 64 bytes.
  pub read_out_fits : (connected : Bool) (bytes mapping : List ℕ) → 64 ≤ length mapping → (reading_out old new substitutes connected bytes mapping).reply.number ≡ 13 → ⊥
  unfolding reading_out read_bytes read_checkpoint
  read_out_fits connected bytes mapping room = go (read_problem old new) (outcome_refusing old new)
    where
      read_fits : (connected : Bool) (P : Problem) (a : Answer) → (loading connected P bytes).answer ≡ a → Plain a
          → (read_loaded connected P (record { answer = a; checkpoint = (loading connected P bytes).checkpoint }) mapping).reply.number ≡ 13 → ⊥
      read_fits connected P passed e h z =
          let c = (loading connected P bytes).checkpoint in
          let sound = (load_in_shape connected P bytes e).0 in
          let fits : length (held_in P c) ≤ length mapping =
          omega (
            arith,
            length-take (cond c.holds P.old.order 0) c.incumbent,
            incumbent_few P.old.order c.holds,
            sound.old_sound.order_max,
            room,
          ) in
          let none : ◌≡◌ {A = ℕ} 0 13 = simp (le-leb _ _ fits) at z in
          omega arith
      read_fits connected P (accepted n) e h z = absurd h
      read_fits connected P (refused n) e h z = omega (arith, h.2)
      read_fits connected P (refused_at n at) e h z = omega (arith, h.2)

      go : (g : ReadOutcome) → Refusing g → (read_out_on g substitutes connected bytes mapping).reply.number ≡ 13 → ⊥
      go (read G) h z = let P = substituting substitutes G in read_fits connected P (loading connected P bytes).answer refl (loading_plain connected P bytes) z
      go (refusal a) h z = omega (arith, h.2)

  module _ (minimum : ℕ) (mapping : List ℕ) where
    -- Clique branching gives 13 only where it holds a mapping that does not fit.
    pub clique_short : (branching old new substitutes minimum mapping).reply.number ≡ 13 → HeldShort old new substitutes minimum mapping
    unfolding branching branch_reply
    clique_short = on_graphs (read_problem old new) refl (outcome_refusing old new)
      where
        Shorts : CliqueReply → Type 0
        Shorts r = r.reply.number ≡ 13 → HeldShort old new substitutes minimum mapping

        on_answer : (G : Problem) → read_problem old new ≡ read G
            → (a : Answer) → clique_answer (substituting substitutes G) ≡ a → Plain a
            → (held : Option (List ℕ)) → branch (substituting substitutes G) minimum ≡ held
            → Shorts (when_passed a (held_reply held mapping) (λ (refusal : Answer). no_mapping mapping (reply_of refusal)))
        on_answer G e passed p h none b z = absurd (omega arith)
        on_answer G e passed p h (some l) b z =
            cond_cases Shorts (leb (length l) (length mapping)) (λ fits y. absurd (omega arith))
            (λ few y. record { graphs = G; graphs_read = e; tested = p; held = l; is_held = b; too_short = leb-false _ _ few }) z
        on_answer G e (accepted n) p h held b z = absurd h
        on_answer G e (refused n) p h held b z = absurd (omega (arith, h.2))
        on_answer G e (refused_at n at) p h held b z = absurd (omega (arith, h.2))

        on_graphs : (g : ReadOutcome) → read_problem old new ≡ g → Refusing g → Shorts (branch_on g substitutes minimum mapping)
        on_graphs (read G) e h z =
            let P = substituting substitutes G in on_answer G e (clique_answer P) refl (clique_plain P) (branch P minimum) refl z
        on_graphs (refusal a) e h z = absurd (omega (arith, h.2))

    -- What it holds always fits into eight bytes.
    pub clique_fits : 8 ≤ length mapping → (branching old new substitutes minimum mapping).reply.number ≡ 13 → ⊥
    clique_fits room z =
        let s = clique_short z in
        let P = substituting substitutes s.graphs in
        let fine = passes_clique P s.tested in
        omega (arith, s.too_short, branch_length P fine.0 minimum s.held s.is_held, fine.1)
