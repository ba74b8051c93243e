-- 17's place is the first byte that cannot stand there: the walk over the form stops at it, and not before.
use mathlib.Core.Path.{◌≡◌, refl, ap, subst, ◌∙◌}
use mathlib.Core.Bool.{Bool, true, false, cond, true≢false}
use mathlib.Core.List.{List, [], ◌∷◌, ◌++◌}
use Rattle.std.specs.Prelude.{Option, None, Some}
use Rattle.std.proofs.lemmas.Option.{same_Some}
use Prim.Native.Nat.{ℕ, suc, ◌+◌, ◌≤◌, ◌<◌}
use native.Mathlib.Numerals.{add-one}
use native.Mathlib.Omega.{arith}
use lib.ListN.{length, take}
use Rattle.checkpoint_loader.specs.declared.form.Stage.{Stage}
use Rattle.checkpoint_loader.specs.declared.form.Stage.TheVariants.{Header}
use Rattle.checkpoint_loader.specs.Form.{next, is_done, fault_from, form_fault}
use Rattle.checkpoint_loader.specs.FaultPlace.{Bytes, FaultPlace}
use Rattle.checkpoint_loader.proofs.FormWalk.{Ends, byte, ends_faultless}
use Rattle.checkpoint_loader.proofs.FormCompletes.{Started, StartedIf, complete, started_next}

-- after k bytes that stand, the bytes are cut, or there is one that cannot stand
data Stuck (n : ℕ) : Stage → List ℕ → ℕ → Type 0 where
  cut : (stage : Stage) → Stuck n stage [] 0
  wrong : (stage : Stage) (b : ℕ) {rest : List ℕ} → next n stage b ≡ None → Stuck n stage (b ∷ rest) 0
  onward : (stage : Stage) (b : ℕ) (later : Stage) {rest : List ℕ} {k : ℕ} → next n stage b ≡ Some later → Stuck n later rest k
      → Stuck n stage (b ∷ rest) (suc k)

-- a fault tells where that is
fault_stuck : (n : ℕ) (stage : Stage) (from : ℕ) (bytes : List ℕ) (at : ℕ) → fault_from n stage from bytes ≡ Some at
    → (k : ℕ) × (at ≡ from + k) × Stuck n stage bytes k
unfolding fault_from
fault_stuck n stage from [] at e = (0, at_end (is_done stage) e, cut stage)
  where
    at_end : (t : Bool) → ◌≡◌ {A = Option ℕ} (cond t None (Some from)) (Some at) → at ≡ from + 0
    at_end true e = absurd (true≢false (cc))
    at_end false e = let same : from ≡ at = same_Some _ _ e in omega arith
fault_stuck n stage from (b ∷ rest) at e = go (next n stage b) refl (λ later. fault_stuck n later (suc from) rest at) e
  where
    go : (o : Option Stage) → next n stage b ≡ o
        → ((later : Stage) → fault_from n later (suc from) rest ≡ Some at → (k : ℕ) × (at ≡ suc from + k) × Stuck n later rest k)
        → ◌≡◌ {A = Option ℕ} (elim o [ None ↦ Some from | Some later ↦ fault_from n later (suc from) rest ]) (Some at)
        → (k : ℕ) × (at ≡ from + k) × Stuck n stage (b ∷ rest) k
    go None q more f = let same : from ≡ at = same_Some _ _ f in (0, omega arith, wrong stage b q)
    go (Some later) q more f =
        let found = more later f in
        (suc found.0, omega (arith, found.1), onward stage b later q found.2)

stuck_within : {n : ℕ} {stage : Stage} {bytes : List ℕ} {k : ℕ} → Stuck n stage bytes k → k ≤ length bytes
stuck_within (cut stage) = omega arith
stuck_within (wrong stage b e) = omega arith
stuck_within (onward stage b later e more) = omega (arith, stuck_within more)

-- the fault is told by the bytes up to its place, with the one at it
stuck_fault : {n : ℕ} {stage : Stage} {bytes : List ℕ} {k : ℕ} → Stuck n stage bytes k → k < length bytes → (from : ℕ) (more : List ℕ)
    → fault_from n stage from (take (suc k) bytes ++ more) ≡ Some (from + k)
unfolding fault_from
stuck_fault (cut stage) h from more = absurd (omega arith)
stuck_fault (wrong stage b e) h from more = rw (e, fault_from) (ap Some (omega arith))
stuck_fault (onward stage b later {rest = rest} {k = k} e stuck) h from more =
    rw (e, fault_from) (stuck_fault stuck (omega arith) (suc from) more ∙ ap Some (omega arith))

-- the bytes that stand can be completed
stuck_completed : {n : ℕ} {stage : Stage} {bytes : List ℕ} {k : ℕ} → Started stage → Stuck n stage bytes k
    → (rest : List ℕ) × Bytes rest × Ends n stage (take k bytes ++ rest)
stuck_completed h (cut stage) = let c = complete stage h in (c.rest, c.rest_bytes, c.leads)
stuck_completed h (wrong stage b e) = let c = complete stage h in (c.rest, c.rest_bytes, c.leads)
stuck_completed {n} h (onward stage b later e more) =
    let found = stuck_completed (subst StartedIf e (started_next n stage b h)) more in
    (found.0, found.1, byte stage b later e found.2)

-- 17's place is the first after which no bytes of the form are possible.
pub fault_place : (n : ℕ) (bytes : List ℕ) (at : ℕ) → form_fault n bytes ≡ Some at → FaultPlace n bytes at
fault_place n bytes at e =
    let found = fault_stuck n (Header 0) 0 bytes at e in
    let same : found.0 ≡ at = omega (arith, found.1) in
    go found.0 same found.2
  where
    go : (k : ℕ) → k ≡ at → Stuck n (Header 0) bytes k → FaultPlace n bytes at
    go k same stuck =
        let c = stuck_completed (omega arith) stuck in
        rw (← same) (record {
          within = stuck_within stuck;
          rest = c.0;
          rest_bytes = c.1;
          completed = ends_faultless c.2 0;
          spoilt = λ h more. rw add-one (stuck_fault stuck h 0 more ∙ ap Some (omega arith));
        })
