-- The numbers that a call counts of its checkpoint: the cutoff, and the steps with the budget.
use mathlib.Core.Path.{◌≡◌, ◌∙◌}
use mathlib.Core.Logic.{◌⊎◌, ⊎_elim}
use mathlib.Core.Bool.{Bool, true, false, ◌||◌, true≢false}
use Prim.Native.Nat.{ℕ, ◌+◌, ◌^◌, ◌<◌}
use lib.Dec.{T, ltb}
use lib.ListN.{take}
use borrow.Author.Tests.{ltb-true}
use denote.Floats.{is_true}
use Rattle.mapping.specs.Common.{size}
use Rattle.search_tree.specs.Walk.{cutoff}
use Rattle.checkpoint.specs.declared.Checkpoint.{Checkpoint}
use Rattle.checkpoint.specs.Checkpoints.{state_of}
use Rattle.search.specs.Call.{count_fits}
use Rattle.search.specs.Walking.{CountFits}

-- The cutoff that is counted where something is held, and the minimum elsewhere, is the state's.
pub cutoff_counted : (n number : ℕ) (c : Checkpoint)
    → ((c.holds ≡ true) × (number ≡ size (take n c.incumbent) + 1)) ⊎ ((c.holds ≡ false) × (number ≡ c.minimum))
    → number ≡ cutoff c.minimum (state_of n c).incumbent
unfolding state_of
cutoff_counted n number c =
    ⊎_elim (λ taken. taken.1 ∙ rw taken.0) (λ left. left.1 ∙ rw left.0)

-- the test of the count, as a fact
count_fits_lem : (finished : Bool) (count limit : ℕ) → T (finished || ltb count limit) → finished ≡ false → count < limit
count_fits_lem true count limit fits e = absurd (true≢false e)
count_fits_lem false count limit fits e = ltb-true count limit (is_true (ltb count limit) fits)

-- The steps of a checkpoint count with the budget.
pub start_count : (c : Checkpoint) (budget : ℕ) → T (count_fits c budget) → CountFits c budget
start_count c budget fits = count_fits_lem c.finished (c.steps + budget) (2 ^ 64) fits
