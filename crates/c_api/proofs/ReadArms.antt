-- What each exported function on two graphs returns, arm by arm: two graphs of which one is refused, two graphs that are read.
use mathlib.Core.Path.{◌≡◌, ap, ◌∙◌}
use mathlib.Core.Bool.{Bool}
use mathlib.Core.List.{List}
use Prim.Native.Nat.{ℕ}
use Rattle.answers.specs.Answer.{Answer}
use Rattle.problem.specs.Problem.{Problem, substituting}
use Rattle.mapping.specs.Answers.{Outcome}
use Rattle.mapping.specs.Check.{check_outcome}
use Rattle.problem_reader.specs.ProblemReading.{ReadOutcome, read, refusal, read_problem}
use Rattle.checkpoint.specs.declared.Checkpoint.{Checkpoint}
use Rattle.checkpoint.specs.Checkpoints.{fresh_checkpoint}
use Rattle.std.specs.Prelude.{Result}
use Rattle.checkpoint_saver.specs.declared.SaveError.{SaveError}
use Rattle.checkpoint_saver.specs.Answers.{save_answer}
use Rattle.checkpoint_saver.specs.Saving.{saving_of, saving}
use Rattle.descend.specs.Call.{start_call}
use Rattle.replies.specs.declared.Reply.{Reply}
use Rattle.replies.specs.declared.ResumeReply.{ResumeReply}
use Rattle.replies.specs.Reply.{reply_of}
use Rattle.replies.specs.Checked.{CheckedMapping, checked, checked_by}
use Rattle.replies.specs.Resumed.{resumed, resume_from}
use Rattle.replies.specs.ReadOut.{ReadOut, not_read_out, read_bytes}
use Rattle.replies.specs.CliqueReply.{CliqueReply, no_mapping, branch_reply}
use Rattle.descent_replies.specs.DescentReply.{save_start, DescentReply, descent_reply, descend_bytes}
use Rattle.c_api.specs.Checks.{check_on, checking_mapping}
use Rattle.c_api.specs.Wrote.{wrote, wrote_by}
use Rattle.c_api.specs.Calls.{begin_on, starting, resume_on, resuming}
use Rattle.c_api.specs.Descents.{descend_starting, descend_on, descend_resuming}
use Rattle.c_api.specs.ReadOut.{read_out_on, reading_out}
use Rattle.c_api.specs.Branching.{branch_on, branching}

module _ (old new substitutes : List ℕ) where
  module _ (l : List ℕ) where
    pub check_refused : (t : Reply) (a : Answer) → t ≡ reply_of a → refusal a ≡ read_problem old new
        → checked t 0 ≡ checking_mapping old new substitutes l
    unfolding checking_mapping
    check_refused t a p e = ap (λ (x : Reply). checked x 0) p ∙ ap (λ (o : ReadOutcome). check_on o substitutes l) e

    pub check_read : (P : Problem) → read P ≡ read_problem old new → (x : CheckedMapping) (o : Outcome) → x ≡ checked_by o
        → o ≡ check_outcome (substituting substitutes P) l → x ≡ checking_mapping old new substitutes l
    unfolding checking_mapping
    check_read P e x o p q = p ∙ ap checked_by q ∙ ap (λ (r : ReadOutcome). check_on r substitutes l) e

  -- whatever checkpoint is saved to begin with
  module _ (connected : Bool) (first : Problem → Checkpoint) (buffer : List ℕ) where
    begin_refused : (t : Reply) (a : Answer) → t ≡ reply_of a → refusal a ≡ read_problem old new
        → wrote t buffer ≡ begin_on first (read_problem old new) substitutes connected buffer
    begin_refused t a p e = ap (λ (x : Reply). wrote x buffer) p ∙ ap (λ (o : ReadOutcome). begin_on first o substitutes connected buffer) e

    begin_read : (P : Problem) → read P ≡ read_problem old new → (t : Reply) (s : Result ℕ SaveError) (after : List ℕ)
        → t ≡ reply_of (save_answer s) → saving_of s after ≡ saving connected (substituting substitutes P) (first (substituting substitutes P)) buffer
        → wrote t after ≡ begin_on first (read_problem old new) substitutes connected buffer
    begin_read P e t s after p q =
        ap (λ (x : Reply). wrote x after) p ∙ ap wrote_by q ∙ ap (λ (o : ReadOutcome). begin_on first o substitutes connected buffer) e

  module _ (connected : Bool) (minimum : ℕ) (buffer : List ℕ) where
    pub start_refused : (t : Reply) (a : Answer) → t ≡ reply_of a → refusal a ≡ read_problem old new
        → wrote t buffer ≡ starting old new substitutes connected minimum buffer
    unfolding starting
    start_refused = begin_refused connected (λ (P : Problem). fresh_checkpoint minimum) buffer

    pub start_read : (P : Problem) → read P ≡ read_problem old new → (t : Reply) (s : Result ℕ SaveError) (after : List ℕ) (c : Checkpoint)
        → t ≡ reply_of (save_answer s) → saving_of s after ≡ saving connected (substituting substitutes P) c buffer → c ≡ fresh_checkpoint minimum
        → wrote t after ≡ starting old new substitutes connected minimum buffer
    unfolding starting
    start_read P e t s after c p q f =
        begin_read connected (λ (Q : Problem). fresh_checkpoint minimum) buffer P e t s after p
        (q ∙ ap (λ (x : Checkpoint). saving connected (substituting substitutes P) x buffer) f)

  module _ (connected : Bool) (floor : ℕ) (buffer : List ℕ) where
    pub descend_start_refused : (t : Reply) (a : Answer) → t ≡ reply_of a → refusal a ≡ read_problem old new
        → wrote t buffer ≡ descend_starting old new substitutes connected floor buffer
    unfolding descend_starting
    descend_start_refused = begin_refused connected (λ (P : Problem). (start_call P floor).checkpoint) buffer

    pub descend_start_read : (P : Problem) → read P ≡ read_problem old new → (t : Reply) (s : Result ℕ SaveError) (after : List ℕ)
        → t ≡ reply_of (save_answer s) → saving_of s after ≡ save_start connected (substituting substitutes P) floor buffer
        → wrote t after ≡ descend_starting old new substitutes connected floor buffer
    unfolding descend_starting
    descend_start_read = begin_read connected (λ (P : Problem). (start_call P floor).checkpoint) buffer

  module _ (connected : Bool) (bytes : List ℕ) (budget : ℕ) (workspace next : List ℕ) where
    pub resume_refused : (t : Reply) (a : Answer) → t ≡ reply_of a → refusal a ≡ read_problem old new
        → resumed t 0 workspace next ≡ resuming old new substitutes connected bytes budget workspace next
    unfolding resuming
    resume_refused t a p e =
        ap (λ (x : Reply). resumed x 0 workspace next) p ∙ ap (λ (o : ReadOutcome). resume_on o substitutes connected bytes budget workspace next) e

    pub resume_read : (P : Problem) → read P ≡ read_problem old new → (r : ResumeReply) (words after : List ℕ)
        → resumed r.reply r.ceiling words after ≡ resume_from connected (substituting substitutes P) bytes budget workspace next
        → resumed r.reply r.ceiling words after ≡ resuming old new substitutes connected bytes budget workspace next
    unfolding resuming
    resume_read P e r words after p = p ∙ ap (λ (o : ReadOutcome). resume_on o substitutes connected bytes budget workspace next) e

  module _ (connected : Bool) (floor : ℕ) (bytes : List ℕ) (budget : ℕ) (workspace next : List ℕ) where
    pub descend_refused : (t : Reply) (a : Answer) → t ≡ reply_of a → refusal a ≡ read_problem old new
        → descent_reply t 0 0 workspace next ≡ descend_resuming old new substitutes connected floor bytes budget workspace next
    unfolding descend_resuming
    descend_refused t a p e =
        ap (λ (x : Reply). descent_reply x 0 0 workspace next) p ∙ ap (λ (o : ReadOutcome). descend_on o substitutes connected floor bytes budget workspace next) e

    pub descend_read : (P : Problem) → read P ≡ read_problem old new
        → (x : DescentReply) → x ≡ descend_bytes connected (substituting substitutes P) floor bytes budget workspace next
        → x ≡ descend_resuming old new substitutes connected floor bytes budget workspace next
    unfolding descend_resuming
    descend_read P e x p = p ∙ ap (λ (o : ReadOutcome). descend_on o substitutes connected floor bytes budget workspace next) e

  module _ (connected : Bool) (bytes mapping : List ℕ) where
    pub read_out_refused : (t : Reply) (a : Answer) → t ≡ reply_of a → refusal a ≡ read_problem old new
        → not_read_out mapping t ≡ reading_out old new substitutes connected bytes mapping
    unfolding reading_out
    read_out_refused t a p e = ap (not_read_out mapping) p ∙ ap (λ (o : ReadOutcome). read_out_on o substitutes connected bytes mapping) e

    pub read_out_read : (P : Problem) → read P ≡ read_problem old new → (x : ReadOut) → x ≡ read_bytes connected (substituting substitutes P) bytes mapping
        → x ≡ reading_out old new substitutes connected bytes mapping
    unfolding reading_out
    read_out_read P e x p = p ∙ ap (λ (o : ReadOutcome). read_out_on o substitutes connected bytes mapping) e

  module _ (minimum : ℕ) (mapping : List ℕ) where
    pub clique_refused : (t : Reply) (a : Answer) → t ≡ reply_of a → refusal a ≡ read_problem old new
        → no_mapping mapping t ≡ branching old new substitutes minimum mapping
    unfolding branching
    clique_refused t a p e = ap (no_mapping mapping) p ∙ ap (λ (o : ReadOutcome). branch_on o substitutes minimum mapping) e

    pub clique_read : (P : Problem) → read P ≡ read_problem old new → (x : CliqueReply) → x ≡ branch_reply (substituting substitutes P) minimum mapping
        → x ≡ branching old new substitutes minimum mapping
    unfolding branching
    clique_read P e x p = p ∙ ap (λ (o : ReadOutcome). branch_on o substitutes minimum mapping) e
