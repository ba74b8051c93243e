-- All that refit prints fits into the 8,192 bytes of the program's buffer: the lines of an accepted call, and the line of every refusal.
use mathlib.Core.Path.{◌≡◌, refl, sym, ap₂, ◌∙◌}
use mathlib.Core.Logic.{inl, inr, ⊎_elim}
use mathlib.Core.Bool.{cond, ◌&&◌, false≢true, false}
use mathlib.Core.List.{List, []}
use mathlib.Core.Option.{Option, none, some}
use Prim.Native.Nat.{ℕ, ◌+◌, ◌-◌, ◌^◌, ◌≤◌, ◌<◌}
use native.Mathlib.Decide.{dec_lt}
use native.Mathlib.Nat.{le_trans}
use native.Mathlib.Omega.{arith}
use lib.Dec.{leb, eqb}
use borrow.Author.Tests.{le-leb}
use lib.ListN.{length, get_or, take, replicate, length-take, get_or-eq_default}
use lib.Seq.{get_or-take, take_at}
use Rattle.bounded.proofs.Below.{sum_below_le, sum_below_same}
use Rattle.answers.specs.Answer.{Answer, passed, accepted, refused, refused_at, refusal_number}
use Rattle.answers.specs.Output.{overwrite, fill}
use Rattle.answers.proofs.Choice.{either}
use Rattle.answers.proofs.RefusalNumbers.{RefusalNumber, Plain}
use Rattle.text.specs.Put.{Put}
use Rattle.text.proofs.PutTexts.{put_front}
use Rattle.problem.specs.Problem.{Problem, SoundProblem}
use Rattle.mapping.proofs.Size.{size_nil}
use Rattle.problem_reader.specs.ProblemReading.{ReadOutcome, read, refusal, on_outcome, read_problem}
use Rattle.problem_reader.proofs.ReadProblem.{Refusing, outcome_refusing}
use Rattle.search_tree.specs.Rules.{rules_of}
use Rattle.search_tree.specs.Search.{search_of}
use Rattle.search_tree.specs.Node.{candidates, non_empty, upper_bound, later_siblings, open_nodes}
use Rattle.search_tree.specs.Walk.{after}
use Rattle.search_tree.specs.Ceiling.{top_bound, ceiling}
use Rattle.search_tree.proofs.Candidates.{candidate_value}
use Rattle.search_tree.proofs.LawfulTree.{lawful}
use Rattle.search_tree.specs.Shape.{EachIncumbent}
use Rattle.search_tree.proofs.Shape.{after_shape}
use Rattle.search_tree.proofs.Solutions.{ceiling_falls}
use Rattle.search_tree.proofs.Steps.{steps_total}
use Rattle.search_tree.proofs.WalkTheorems.{rules_regular, walk_ends}
use Rattle.checkpoint.specs.Checkpoints.{has_incumbent, incumbent_bytes, checkpoint_of, fresh_checkpoint}
use Rattle.checkpoint.specs.Checking.{checkpoint_answer}
use Rattle.search.specs.Call.{Called, words_needed, search_call}
use Rattle.checkpoint.proofs.CheckpointPasses.{passes_shape, checkpoint_plain}
use Rattle.checkpoint.proofs.Padding.{padded_rest}
use Rattle.search.proofs.WalkCall.{Course, few, full, done, walk_course}
use Rattle.refit_text.specs.Lines.{refused_word}
use Rattle.refit_text.specs.Report.{accepted_text, refused_text, report_text}
use Rattle.refit_text.specs.Program.{minimum_of, budget_of, search_text, refit_text, written}
use Rattle.refit_text.proofs.TextLengths.{length_number_line, length_accepted}

-- the line of a refusal is short
refused_short : (number : ℕ) → RefusalNumber number → length (refused_text number) ≤ 8192
refused_short number h = omega (arith, length_number_line refused_word number (omega arith))

module _ (P : Problem) (sound : SoundProblem P) (minimum : ℕ) where
  -- the root's bound counts each row at most once
  root_bound : upper_bound (rules_of P) [] ≤ 64
  unfolding upper_bound
  root_bound =
      omega (
        arith,
        size_nil,
        sound.old_sound.order_max,
        sum_below_same P.old.order 1,
        sum_below_le P.old.order (λ r. cond (leb 0 r && non_empty (candidates (rules_of P) [] r)) 1 0) (λ r. 1)
            (λ r h. either (λ (k : ℕ). k ≤ 1) (leb 0 r && non_empty (candidates (rules_of P) [] r)) (omega arith) (omega arith)),
      )

  -- the ceiling never rises above that of a fresh search
  ceiling_max : (k : ℕ) → ceiling (rules_of P) minimum (after (search_of false P) minimum k) ≤ minimum + 65
  unfolding ceiling after open_nodes later_siblings top_bound
  ceiling_max k =
      omega (
        arith,
        root_bound,
        ceiling_falls (search_of false P) (rules_regular P sound).few minimum (lawful (search_of false P) (rules_regular P sound)) 0 k (omega arith),
      )

  -- the entries of what is held are new vertices or 255
  entry_word : (held : Option (List ℕ)) → EachIncumbent (search_of false P) minimum held → (i : ℕ) → get_or (take P.old.order (incumbent_bytes held)) i 0 < 2 ^ 64
  entry_word none each i = go (dec_lt i P.old.order)
    where
      go : Dec (i < P.old.order) → get_or (take P.old.order (incumbent_bytes none)) i 0 < 2 ^ 64
      go (yes h) =
          omega (arith, get_or-take P.old.order (incumbent_bytes none) i 0 h, padded_rest [] i (omega arith) (omega (arith, sound.old_sound.order_max)))
      go (no h) =
          omega (arith, get_or-eq_default (take P.old.order (incumbent_bytes none)) 0 {n = i} (omega (arith, length-take P.old.order (incumbent_bytes none))))
  entry_word (some l) each i = rw (take_at l (replicate (64 - length l) 0) P.old.order (each l refl).full) (go (dec_lt i (length l)))
    where
      go : Dec (i < length l) → get_or l i 0 < 2 ^ 64
      go (yes h) =
          ⊎_elim (λ out. omega arith)
          (λ c. omega (arith, sound.new_sound.order_max, candidate_value (rules_of P) (take i l) i (get_or l i 0) c))
          ((each l refl).reached.entry i h)
      go (no h) = omega (arith, get_or-eq_default l 0 {n = i} (omega arith))

  accepted_short : (k : ℕ) → minimum ≤ 255 → k < 2 ^ 64
      → length (accepted_text P.old.order P.new.order (ceiling (rules_of P) minimum (after (search_of false P) minimum k)) (checkpoint_of minimum (after (search_of false P) minimum k))) ≤ 8192
  unfolding accepted_text checkpoint_of
  accepted_short k byte fits =
      let s = after (search_of false P) minimum k in
      let end = walk_ends false P sound minimum in
      length_accepted (take P.old.order (incumbent_bytes s.incumbent))
      (omega (arith, sound.old_sound.order_max, length-take P.old.order (incumbent_bytes s.incumbent)))
      (entry_word s.incumbent (after_shape (search_of false P) minimum k).incumbent_shape)
      s.finished (has_incumbent s.incumbent) s.steps (ceiling (rules_of P) minimum s) P.new.order
      (omega (arith, steps_total (search_of false P) minimum end.1 k))
      (omega (arith, ceiling_max k))
      sound.new_sound.order_max

module _ (P : Problem) (minimum budget : ℕ) (byte : minimum ≤ 255) where
  abbrev words : List ℕ
  words = replicate words_needed 0

  abbrev printed : Called → List ℕ
  printed r = report_text P.old.order P.new.order r.answer r.checkpoint

  sound_short : SoundProblem P → length (search_text P minimum budget) ≤ 8192
  unfolding search_text after checkpoint_of
  sound_short sound = go (search_call false P (fresh_checkpoint minimum) budget words) (walk_course false P sound minimum 0 budget words)
    where
      go : (r : Called) → Course false P minimum 0 budget words r → length (printed r) ≤ 8192
      go r (few l e) = rw e (refused_short 15 (omega arith))
      go r (full l busy above e) = rw e (refused_short 16 (omega arith))
      go r (done l (inl end) e) = absurd (false≢true end)
      go r (done l (inr fits) e) = rw e (accepted_short P sound minimum (0 + budget) byte (omega arith))

  search_short : length (search_text P minimum budget) ≤ 8192
  unfolding search_text search_call
  search_short = go (checkpoint_answer false P (fresh_checkpoint minimum)) refl (checkpoint_plain false P (fresh_checkpoint minimum))
    where
      go : (a : Answer) → checkpoint_answer false P (fresh_checkpoint minimum) ≡ a → Plain a → length (search_text P minimum budget) ≤ 8192
      go passed e h = sound_short (passes_shape false P (fresh_checkpoint minimum) e).0
      go (accepted n) e h = absurd h
      go (refused n) e h = rw e (refused_short n h)
      go (refused_at n at) e h = rw e (refused_short n h)

outcome_short : (outcome : ReadOutcome) → Refusing outcome → (f : Problem → List ℕ) → ((P : Problem) → length (f P) ≤ 8192)
    → length (on_outcome f (λ refusal. refused_text (refusal_number refusal)) outcome) ≤ 8192
outcome_short (read P) h f each = each P
outcome_short (refusal a) h f each = refused_short (refusal_number a) h

-- Whatever the files and standard input hold, at most 8,192 bytes are printed.
pub refit_max : (old new input : List ℕ) → ((i : ℕ) → get_or input i 0 ≤ 255) → length (refit_text old new input) ≤ 8192
unfolding refit_text
refit_max old new input bytes =
    either (λ (l : List ℕ). length l ≤ 8192) (eqb (length input) 9)
    (outcome_short (read_problem old new) (outcome_refusing old new) _ (λ P. search_short P (minimum_of input) (budget_of input) (bytes 0)))
    (omega arith)

-- So a buffer of as many bytes, as the program's, always has room for it.
pub refit_written : (old new input out : List ℕ) → ((i : ℕ) → get_or input i 0 ≤ 255) → 8192 ≤ length out
    → fill (refit_text old new input) out ≡ written (length (refit_text old new input)) (overwrite (refit_text old new input) out)
refit_written old new input out bytes room = simp (le-leb _ (length out) (le_trans (refit_max old new input bytes) room))

-- What is put at its front is therefore written whole.
pub refit_put : (old new input : List ℕ) → ((i : ℕ) → get_or input i 0 ≤ 255) → {before after : List ℕ} {count : ℕ}
    → Put (refit_text old new input) before 0 count after → 8192 ≤ length before → written count after ≡ fill (refit_text old new input) before
refit_put old new input bytes {before} put room =
    let front = put_front put (le_trans (refit_max old new input bytes) room) in
    ap₂ written front.0 front.1 ∙ sym (refit_written old new input before bytes room)
