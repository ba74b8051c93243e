-- A search call and a save by their ways: accepted, or refused with what was lent as it was; and a search call over words of its own.
use mathlib.Core.Path.{◌≡◌, refl, sym, ap, ◌∙◌}
use mathlib.Core.Bool.{Bool, true, false, cond, true≢false}
use mathlib.Core.List.{List, ◌++◌}
use Prim.Native.Nat.{ℕ, ◌≤◌}
use native.Mathlib.Omega.{arith}
use lib.Dec.{leb}
use lib.ListN.{length, take, drop, replicate, length-replicate}
use lib.Seq.{length-take-le}
use borrow.Author.Tests.{le-leb, lt-leb, leb-true, leb-false}
use Rattle.answers.specs.Answer.{Answer, passed, accepted, refused, refused_at}
use Rattle.answers.specs.Output.{Writing, write_if}
use Rattle.answers.proofs.Choice.{either, cond_cases}
use Rattle.answers.proofs.RefusalNumbers.{RefusalNumber, Plain}
use Rattle.problem.specs.Problem.{Problem}
use Rattle.checkpoint.specs.declared.Checkpoint.{Checkpoint}
use Rattle.search.specs.declared.Searched.{Searched}
use Rattle.search.specs.Answers.{called_of}
use Rattle.checkpoint.specs.Checking.{checkpoint_answer}
use Rattle.search.specs.Call.{Called, words_needed, cleared, refuse, advance, count_fits, on_passed, search_call}
use Rattle.checkpoint.proofs.CheckpointPasses.{checkpoint_plain}
use Rattle.checkpoint_saver.specs.Saving.{checkpoint_bytes, saving}
use Rattle.replies.specs.Apart.{FoundBy, words_used, used_cleared}

-- an answer's ways: a value, and then A holds, or a refusal by a number that is R, and then B holds
abbrev pub Ways : (ℕ → Type 0) → Type 0 → Type 0 → Answer → Type 0
Ways R A B passed = ⊥
Ways R A B (accepted n) = A
Ways R A B (refused number) = R number × B
Ways R A B (refused_at number at) = R number × B

-- a number above 0
abbrev pub Positive : ℕ → Type 0
Positive number = 1 ≤ number

-- the words of a call's own, before it
abbrev own_words : List ℕ
own_words = replicate words_needed 0

-- A save gives a count, or refuses with the buffer as it was.
pub save_kept : (connected : Bool) (P : Problem) (c : Checkpoint) (buffer : List ℕ) → let w = saving connected P c buffer in Ways Positive (Unit {0}) (w.buffer ≡ buffer) w.answer
unfolding saving
save_kept connected P c buffer = go (checkpoint_answer connected P c) (checkpoint_plain connected P c)
  where
    Keeps : Writing → Type 0
    Keeps w = Ways Positive (Unit {0}) (w.buffer ≡ buffer) w.answer

    go : (a : Answer) → Plain a → Keeps (write_if a (checkpoint_bytes P.old.order c) buffer)
    go passed h = either Keeps (leb (length (checkpoint_bytes P.old.order c)) (length buffer)) tt (omega arith, refl)
    go (accepted n) h = absurd h
    go (refused n) h = (h.0, refl)
    go (refused_at n at) h = (h.0, refl)

-- A call's own words are as many as it uses of the lent ones.
pub own_length : (used words : ℕ) → used ≡ words_used words → length (take used own_words) ≡ used
own_length used words e = length-take-le used own_words (omega (arith, e, length-replicate {A = ℕ} words_needed 0))

-- They have the words needed exactly where the lent ones have.
pub own_test : (used words : ℕ) → used ≡ words_used words → leb words_needed (length (take used own_words)) ≡ leb words_needed words
own_test used words e = ap (leb words_needed) (own_length used words e) ∙ go (leb words_needed words) refl
  where
    go : (t : Bool) → leb words_needed words ≡ t → leb words_needed used ≡ t
    go true enough = le-leb words_needed used (omega (arith, e, leb-true words_needed words enough))
    go false few = lt-leb words_needed used (omega (arith, e, leb-false words_needed words few))

-- With the words needed, those that a call uses are cleared as an accepted call clears them.
pub enough_cleared : (workspace : List ℕ) → words_needed ≤ length workspace → used_cleared workspace ≡ cleared workspace
enough_cleared workspace enough =
    let all : words_used (length workspace) ≡ words_needed = omega arith in
    ap (λ (n : ℕ). replicate n 0 ++ drop n workspace) all

module _ (connected : Bool) (P : Problem) (c : Checkpoint) (budget : ℕ) where
  -- what a call of so many words, and of steps that count or do not, gives
  abbrev by_tests : Answer → Bool → Bool → List ℕ → Called
  by_tests a words counts workspace =
      on_passed a
      (cond words (cond counts (advance connected P c budget workspace) (refuse c workspace 16)) (refuse c workspace 15))
      (refuse c workspace)

  -- A search call gives a ceiling and clears the words that it needs, or refuses with the checkpoint and the workspace as they were.
  pub search_kept : (workspace : List ℕ)
      → let r = search_call connected P c budget workspace in
      Ways RefusalNumber ((words_needed ≤ length workspace) × (r.workspace ≡ cleared workspace))
      ((r.workspace ≡ workspace) × (r.checkpoint ≡ c)) r.answer
  unfolding search_call advance
  search_kept workspace = go (checkpoint_answer connected P c) (checkpoint_plain connected P c)
    where
      Keeps : Called → Type 0
      Keeps r =
          Ways RefusalNumber ((words_needed ≤ length workspace) × (r.workspace ≡ cleared workspace))
          ((r.workspace ≡ workspace) × (r.checkpoint ≡ c)) r.answer

      go : (a : Answer) → Plain a → Keeps (by_tests a (leb words_needed (length workspace)) (count_fits c budget) workspace)
      go passed h =
          cond_cases Keeps (leb words_needed (length workspace))
          (λ enough. either Keeps (count_fits c budget) (leb-true _ _ enough, refl) (omega arith, (refl, refl)))
          (λ few. (omega arith, (refl, refl)))
      go (accepted n) h = absurd h
      go (refused n) h = (h, (refl, refl))
      go (refused_at n at) h = (h, (refl, refl))

  -- Two calls whose workspaces both have the words needed, or both lack them, give the same answer and the same checkpoint.
  pub same_call : (v w : List ℕ) → leb words_needed (length v) ≡ leb words_needed (length w)
      → let r = search_call connected P c budget v in
      let q = search_call connected P c budget w in
      ◌≡◌ {A = Called} (record { answer = r.answer; checkpoint = r.checkpoint; workspace = q.workspace }) q
  unfolding search_call advance
  same_call v w = go (checkpoint_answer connected P c) (leb words_needed (length v)) (leb words_needed (length w)) (count_fits c budget)
    where
      Same : Called → Called → Type 0
      Same r q = ◌≡◌ {A = Called} (record { answer = r.answer; checkpoint = r.checkpoint; workspace = q.workspace }) q

      go : (a : Answer) (t s u : Bool) → t ≡ s → Same (by_tests a t u v) (by_tests a s u w)
      go passed true true true e = refl
      go passed true true false e = refl
      go passed true false u e = absurd (true≢false e)
      go passed false true u e = absurd (true≢false (sym e))
      go passed false false u e = refl
      go (accepted n) t s u e = refl
      go (refused n) t s u e = refl
      go (refused_at n at) t s u e = refl

  -- A call over other words than those lent finds what the call over the lent ones does, where both have the words needed or both lack them.
  pub found_apart : (r : Searched) (later own : List ℕ) → called_of r later ≡ search_call connected P c budget own
      → (words : ℕ) → leb words_needed (length own) ≡ leb words_needed words
      → (workspace : List ℕ) → length workspace ≡ words → FoundBy r (search_call connected P c budget workspace)
  found_apart r later own called words test workspace count =
      let q = search_call connected P c budget workspace in
      ap (λ (x : Called). record { answer = x.answer; checkpoint = x.checkpoint; workspace = q.workspace }) called
      ∙ same_call own workspace (test ∙ ap (leb words_needed) (sym count))
