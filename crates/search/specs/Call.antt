-- One call of either search, by 01's table in its order: 01, "Bookmark and calls", second paragraph, and the rows "Bookmark" and "Search call" of the refusals;
-- 02, U1, puts the list's before them, and U7 adds the connected search.
use Rattle.std.specs.Prelude.{Bool, cond, ◌||◌, List, ◌++◌, ℕ, zero, suc, ◌+◌, ◌^◌, leb, ltb, length, drop, replicate}
use Rattle.answers.specs.Answer.{Answer, accepted, refused, on_answer}
use Rattle.problem.specs.Problem.{Problem}
use Rattle.search_tree.specs.Rules.{Rules, rules_of}
use Rattle.search_tree.specs.Search.{Search, search_of}
use Rattle.search_tree.specs.Walk.{State, visit}
use Rattle.search_tree.specs.Ceiling.{ceiling}
use Rattle.checkpoint.specs.declared.Checkpoint.{Checkpoint}
use Rattle.checkpoint.specs.Checkpoints.{checkpoint_of, state_of}
use Rattle.checkpoint.specs.Checking.{checkpoint_answer}

-- the answer, the checkpoint and the workspace after a call
pub record Called : Type 0 where
  pub answer : Answer
  pub checkpoint : Checkpoint
  pub workspace : List ℕ

-- k visits from a state
unfoldable pub visits : Search → ℕ → ℕ → State → State
visits S minimum zero s = s
visits S minimum (suc k) s = visit S minimum (visits S minimum k s)

-- "A call needs 4,160 work words of 64 bits"
abbrev pub words_needed : ℕ
words_needed = 4160

-- "an accepted one leaves these 0 and later words untouched"
abbrev pub cleared : List ℕ → List ℕ
cleared workspace = replicate words_needed 0 ++ drop words_needed workspace

-- "Other refusals change no lent memory"
abbrev pub refuse : Checkpoint → List ℕ → ℕ → Called
refuse c workspace number = record { answer = refused number; checkpoint = c; workspace = workspace }

-- "A call makes as many visits as its allowance says, fewer only if it finishes", clears these words "and returns the fence"
abbrev pub arrive : ℕ → Rules → List ℕ → State → Called
arrive minimum R workspace s =
    record {
      answer = accepted (ceiling R minimum s);
      checkpoint = checkpoint_of minimum s;
      workspace = cleared workspace;
    }

unfoldable pub advance : Bool → Problem → Checkpoint → ℕ → List ℕ → Called
advance connected P c budget workspace =
    arrive c.minimum (rules_of P) workspace (visits (search_of connected P) c.minimum budget (state_of P.old.order c))

-- 16: "unfinished and steps + allowance above 2^64 - 1"
abbrev pub count_fits : Checkpoint → ℕ → Bool
count_fits c budget = c.finished || ltb (c.steps + budget) (2 ^ 64)

-- what follows on a checkpoint that passed, or its refusal's number
abbrev pub on_passed : Answer → Called → (ℕ → Called) → Called
on_passed answer done refusal = on_answer done refusal refusal (λ number at. refusal number) answer

-- 10, 11, 12, 23 and 24; then 14; then 15; then 16
unfoldable pub search_call : Bool → Problem → Checkpoint → ℕ → List ℕ → Called
search_call connected P c budget workspace =
    on_passed (checkpoint_answer connected P c)
    (cond (leb words_needed (length workspace))
    (cond (count_fits c budget) (advance connected P c budget workspace) (refuse c workspace 16))
    (refuse c workspace 15))
    (refuse c workspace)
