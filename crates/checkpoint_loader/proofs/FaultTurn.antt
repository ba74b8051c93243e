-- One turn of the loop that walks checkpoint bytes, on plain values: what a byte that stands, one that does not, and the end make of the fault.
use mathlib.Core.Path.{◌≡◌, refl}
use mathlib.Core.Bool.{Bool, true, false, cond, not, ◌&&◌}
use mathlib.Core.List.{List}
use Rattle.std.specs.Prelude.{Option, None, Some}
use Prim.Native.Nat.{ℕ, ◌+◌, ◌≤◌, ◌<◌}
use native.Mathlib.Numerals.{add-one}
use native.Mathlib.Omega.{arith}
use borrow.Author.Tests.{eqb-true}
use lib.Dec.{eqb, leb, ltb}
use lib.ListN.{length, get_or, drop, drop_of_length-le}
use lib.Seq.{drop-cons}
use Rattle.checkpoint_loader.specs.declared.form.Stage.{Stage}
use Rattle.checkpoint_loader.specs.declared.form.Stage.TheVariants.{Header, Path, PathByte, Incumbent, IncumbentByte, Done}
use Rattle.checkpoint_loader.specs.Form.{stage_if, or_stage, next, holds_of, is_done, fault_from, form_fault, count}

-- the number that a stage carries, where there is one
abbrev count_of : Option Stage → ℕ
count_of None = 0
count_of (Some s) = count s

if_count : (m : ℕ) (t : Bool) (s : Stage) → count s ≤ m → count_of (stage_if t s) ≤ m
if_count m true s h = h
if_count m false s h = omega arith

or_count : (m : ℕ) (t : Bool) (s : Stage) (x : Option Stage) → count s ≤ m → count_of x ≤ m → count_of (or_stage (stage_if t s) x) ≤ m
or_count m true s x h k = h
or_count m false s x h k = k

cond_count : (m : ℕ) (a t : Bool) (s : Stage) (x : Option Stage) → (a ≡ true → count s ≤ m) → count_of x ≤ m → count_of (cond a (stage_if t s) x) ≤ m
cond_count m true t s x h k = if_count m t s (h refl)
cond_count m false t s x h k = k

-- a byte adds at most one to the number that a stage carries
next_count : (n : ℕ) (s : Stage) (b : ℕ) → count_of (next n s b) ≤ count s + 1
unfolding next
next_count n (Header i) b =
    cond_count _ (eqb i 0) (eqb b 16) (Header 1) _ (λ e. omega arith) (
    cond_count _ (eqb i 2) (eqb b 17) (Header 3) _ (λ e. omega (arith, eqb-true i 2 e)) (
    cond_count _ (eqb i 11) (eqb b 18) (Header 12) _ (λ e. omega (arith, eqb-true i 11 e)) (
    cond_count _ (eqb i 12) (leb b 3) (Path (holds_of b) 0) (Some (Header (i + 1))) (λ e. omega arith) (omega arith))))
next_count n (Path holds k) b =
    or_count _ (eqb b 19 && ltb k n) (PathByte holds k) _ (omega arith) (
    or_count _ (eqb b 20 && holds && ltb 0 n) (IncumbentByte 0) _ (omega arith) (
    if_count _ (eqb b 0 && not (holds && ltb 0 n)) Done (omega arith)))
next_count n (PathByte holds k) b = omega arith
next_count n (Incumbent k) b =
    cond_count _ (ltb k n) (eqb b 20) (IncumbentByte k) _ (λ e. omega arith) (
    if_count _ (eqb b 0) Done (omega arith))
next_count n (IncumbentByte k) b = omega arith
next_count n Done b = omega arith

-- a stage that is not the last
not_done : (s : Stage) → (s ≡ Done → ⊥) → is_done s ≡ false
not_done (Header i) k = refl
not_done (Path holds i) k = refl
not_done (PathByte holds i) k = refl
not_done (Incumbent i) k = refl
not_done (IncumbentByte i) k = refl
not_done Done k = absurd (k refl)

-- The invariant: from the stage and the place reached, the rest has the fault that the whole has.
pub record FaultTurn (order : ℕ) (bytes : List ℕ) (stage : Stage) (at : ℕ) : Type 0 where
  pub same : fault_from order stage at (drop at bytes) ≡ form_fault order bytes
  pub within : at ≤ length bytes
  pub counted : count stage ≤ at

pub turn_first : (order : ℕ) (bytes : List ℕ) → FaultTurn order bytes (Header 0) 0
turn_first order bytes = record { same = refl; within = omega arith; counted = omega arith }

module _ (order : ℕ) (bytes : List ℕ) (stage : Stage) (at : ℕ) (turn : FaultTurn order bytes stage at) where
  -- a byte that stands
  pub turn_more : (later : Stage) → at < length bytes → next order stage (get_or bytes at 0) ≡ Some later → FaultTurn order bytes later (at + 1)
  unfolding fault_from
  turn_more later h e =
      record {
        same = rw add-one (rw (drop-cons bytes at 0, fault_from, e) at turn.same);
        within = omega arith;
        counted = omega (arith, rw e at (next_count order stage (get_or bytes at 0)), turn.counted);
      }

  -- a byte that does not
  pub turn_stuck : at < length bytes → next order stage (get_or bytes at 0) ≡ None → Some at ≡ form_fault order bytes
  unfolding fault_from
  turn_stuck h e = rw (drop-cons bytes at 0, fault_from, e) at turn.same

  -- the end, after the last of the six stages
  pub turn_done : length bytes ≤ at → stage ≡ Done → None ≡ form_fault order bytes
  unfolding fault_from
  turn_done h e = rw (drop_of_length-le bytes h, e) at turn.same

  -- and after another
  pub turn_cut : length bytes ≤ at → (stage ≡ Done → ⊥) → Some (length bytes) ≡ form_fault order bytes
  unfolding fault_from
  turn_cut h k =
      let end : length bytes ≡ at = omega (arith, turn.within) in
      rw end (rw (drop_of_length-le bytes h, not_done stage k) at turn.same)
