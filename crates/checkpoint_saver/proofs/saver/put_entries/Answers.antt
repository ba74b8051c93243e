use mathlib.Core.List.{List, [], ◌∷◌}
use Prim.Native.Nat.{ℕ, ◌+◌, ◌*◌, ◌≤◌, ◌<◌}
use native.Mathlib.Numerals.{add-one}
use native.Mathlib.Omega.{arith}
use lib.ListN.{get_or, length, length-set}
use Rattle.answers.proofs.Stores.{StoredTo, stored_none, stored_more, stored_room, stored_all}
use Rattle.checkpoint_saver.proofs.SavedLength.{length_entry_bytes}
use Rattle.checkpoint_saver.proofs.saver.put_entries.Goals as goal

pub loop-entry-init : goal.loop-entry-init
loop-entry-init c = stored_none _ _ _ _

-- the turn's two bytes have room
room : (mark k start i at : ℕ) (entries before now : List ℕ)
    → StoredTo k (λ j. mark ∷ get_or entries j 0 ∷ []) start before i at now → i < k → start + 2 * k ≤ length before → at + 2 ≤ length now
room mark k start i at entries before now stored h fits =
    let all = length_entry_bytes mark entries k in
    stored_room _ _ _ _ _ _ _ stored h (omega (arith, all))

pub bounds-out-at : goal.bounds-out-at
bounds-out-at c = omega (arith, room _ _ _ _ _ _ _ _ c.loop-entry.invariant c.loop-entry-test.true c.requires)

pub overflow_add-out : goal.overflow_add-out
overflow_add-out c = omega (arith, room _ _ _ _ _ _ _ _ c.loop-entry.invariant c.loop-entry-test.true c.requires)

pub bounds-out-at-in-loop-entry : goal.bounds-out-at-in-loop-entry
bounds-out-at-in-loop-entry c = simp length-set (omega (arith, room _ _ _ _ _ _ _ _ c.loop-entry.invariant c.loop-entry-test.true c.requires))

pub overflow_add-at : goal.overflow_add-at
overflow_add-at c = omega (arith, room _ _ _ _ _ _ _ _ c.loop-entry.invariant c.loop-entry-test.true c.requires)

pub loop-entry-preserved : goal.loop-entry-preserved
loop-entry-preserved c =
    stored_more _ _ _ _ _ _ _ c.loop-entry.invariant c.loop-entry-test.true _ _ (omega arith) (rw add-one)

pub returns : goal.returns
returns c = (stored_all _ _ _ _ _ _ _ c.loop-entry.invariant c.loop-entry-test.false).1
