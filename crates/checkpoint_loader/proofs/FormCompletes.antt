-- From every stage that the walk over checkpoint bytes comes to, some bytes lead to the end.
use mathlib.Core.Path.{◌≡◌, refl}
use mathlib.Core.Bool.{Bool, true, false, cond, not, ◌&&◌, true≢false}
use mathlib.Core.List.{List, [], ◌∷◌}
use Rattle.std.specs.Prelude.{Option, None, Some}
use Prim.Native.Nat.{ℕ, zero, suc, ◌+◌, ◌-◌, ◌≤◌, ◌<◌}
use native.Mathlib.Decide.{dec_lt}
use native.Mathlib.Omega.{arith}
use lib.Dec.{eqb, leb, ltb}
use lib.ListN.{get_or, drop, length-drop}
use lib.Seq.{get_or-drop}
use borrow.Author.Tests.{eqb-false, lt-ltb, le-ltb, ltb-true}
use Rattle.bounded.specs.Below.{all_below}
use Rattle.bounded.proofs.AllBelow.{all_below_true}
use Rattle.checkpoint_loader.specs.declared.form.Stage.{Stage}
use Rattle.checkpoint_loader.specs.declared.form.Stage.TheVariants.{Header, Path, PathByte, Incumbent, IncumbentByte, Done}
use Rattle.checkpoint_loader.specs.Form.{stage_if, or_stage, holds_of, next, fault_from}
use Rattle.checkpoint_loader.specs.FaultPlace.{Bytes}
use Rattle.checkpoint_loader.proofs.FormWalk.{Ends, ended, byte, faultless_ends}

-- bytes that lead from the stage to the end
pub record Completion (n : ℕ) (stage : Stage) : Type 0 where
  pub rest : List ℕ
  pub rest_bytes : Bytes rest
  pub leads : Ends n stage rest

cons_bytes : (b : ℕ) (l : List ℕ) → b < 256 → Bytes l → Bytes (b ∷ l)
cons_bytes b l h each zero k = h
cons_bytes b l h each (suc i) k = each i (omega arith)

-- the bytes of a fresh checkpoint: from the header's byte i on they lead to the end
abbrev blank : List ℕ
blank = 16 ∷ 0 ∷ 17 ∷ 0 ∷ 0 ∷ 0 ∷ 0 ∷ 0 ∷ 0 ∷ 0 ∷ 0 ∷ 18 ∷ 0 ∷ 0 ∷ []

abbrev faultless : Option ℕ → Bool
faultless None = true
faultless (Some at) = false

is_faultless : (o : Option ℕ) → faultless o ≡ true → o ≡ None
is_faultless None e = refl
is_faultless (Some at) e = absurd (true≢false (cc))

module _ {n : ℕ} where
  -- a byte more in front
  in_front : (stage : Stage) (b : ℕ) (later : Stage) → b < 256 → next n stage b ≡ Some later → Completion n later → Completion n stage
  in_front stage b later h e c = record {
    rest = b ∷ c.rest;
    rest_bytes = cons_bytes b c.rest h c.rest_bytes;
    leads = byte stage b later e c.leads;
  }

  done : Completion n Done
  done = record { rest = []; rest_bytes = λ i h. absurd (omega arith); leads = ended }

  -- the entries of a mapping that are left, all 0, and the end
  complete_incumbent : (m k : ℕ) → m ≡ n - k → Completion n (Incumbent k)
  unfolding next
  complete_incumbent zero k e = in_front (Incumbent k) 0 Done (omega arith) (rw (le-ltb k n (omega arith))) done
  complete_incumbent (suc m) k e =
      in_front (Incumbent k) 20 (IncumbentByte k) (omega arith) (rw (lt-ltb k n (omega arith)))
      (in_front (IncumbentByte k) 0 (Incumbent (k + 1)) (omega arith) refl (complete_incumbent m (k + 1) (omega arith)))

  incumbent_byte : (k : ℕ) → Completion n (IncumbentByte k)
  unfolding next
  incumbent_byte k = in_front (IncumbentByte k) 0 (Incumbent (k + 1)) (omega arith) refl (complete_incumbent (n - (k + 1)) (k + 1) refl)

  -- no entry of a path more, a mapping if one is held, and the end
  complete_path : (holds : Bool) (k : ℕ) → Completion n (Path holds k)
  unfolding next
  complete_path false k = in_front (Path false k) 0 Done (omega arith) refl done
  complete_path true k = go (dec_lt 0 n)
    where
      go : Dec (0 < n) → Completion n (Path true k)
      go (yes h) = in_front (Path true k) 20 (IncumbentByte 0) (omega arith) (rw (lt-ltb 0 n h)) (incumbent_byte 0)
      go (no h) = in_front (Path true k) 0 Done (omega arith) (rw (le-ltb 0 n (omega arith))) done

  complete_header : (i : ℕ) → i ≤ 12 → Completion n (Header i)
  unfolding all_below fault_from next
  complete_header i h = record {
    rest = drop i blank;
    rest_bytes = λ j k.
        rw get_or-drop (ltb-true _ 256 (all_below_true 14 (λ j. ltb (get_or blank j 0) 256) refl (i + j) (omega (arith, length-drop i blank))));
    leads =
        faultless_ends n (Header i) 0 (drop i blank)
        (is_faultless _ (all_below_true 13 (λ i. faultless (fault_from n (Header i) 0 (drop i blank))) refl i (omega arith)));
  }

-- the stages that the walk comes to: the header has 13 bytes
abbrev pub Started : Stage → Type 0
Started (Header i) = i ≤ 12
Started (Path holds k) = Unit {0}
Started (PathByte holds k) = Unit {0}
Started (Incumbent k) = Unit {0}
Started (IncumbentByte k) = Unit {0}
Started Done = Unit {0}

-- Each of them can be completed.
pub complete : {n : ℕ} (stage : Stage) → Started stage → Completion n stage
unfolding next
complete (Header i) h = complete_header i h
complete (Path holds k) h = complete_path holds k
complete (PathByte holds k) h = in_front (PathByte holds k) 0 (Path holds (k + 1)) (omega arith) refl (complete_path holds (k + 1))
complete {n} (Incumbent k) h = complete_incumbent (n - k) k refl
complete (IncumbentByte k) h = incumbent_byte k
complete Done h = done

abbrev pub StartedIf : Option Stage → Type 0
StartedIf None = Unit {0}
StartedIf (Some stage) = Started stage

started_if : (t : Bool) (stage : Stage) → Started stage → StartedIf (stage_if t stage)
started_if true stage h = h
started_if false stage h = tt

started_or : (t : Bool) (stage : Stage) (o : Option Stage) → Started stage → StartedIf o → StartedIf (or_stage (stage_if t stage) o)
started_or true stage o h k = h
started_or false stage o h k = k

started_cond : (a t : Bool) (stage : Stage) (o : Option Stage) → Started stage → (a ≡ false → StartedIf o)
    → StartedIf (cond a (stage_if t stage) o)
started_cond true t stage o h k = started_if t stage h
started_cond false t stage o h k = k refl

-- The walk never leaves them.
pub started_next : (n : ℕ) (stage : Stage) (b : ℕ) → Started stage → StartedIf (next n stage b)
unfolding next
started_next n (Header i) b h =
    started_cond (eqb i 0) (eqb b 16) (Header 1) _ (omega arith) (λ e.
    started_cond (eqb i 2) (eqb b 17) (Header 3) _ (omega arith) (λ e.
    started_cond (eqb i 11) (eqb b 18) (Header 12) _ (omega arith) (λ e.
    started_cond (eqb i 12) (leb b 3) (Path (holds_of b) 0) _ tt (λ e.
    let other = eqb-false i 12 e in omega arith))))
started_next n (Path holds k) b h =
    started_or (eqb b 19 && ltb k n) (PathByte holds k) _ tt (
    started_or (eqb b 20 && holds && ltb 0 n) (IncumbentByte 0) _ tt (started_if (eqb b 0 && not (holds && ltb 0 n)) Done tt))
started_next n (PathByte holds k) b h = tt
started_next n (Incumbent k) b h = started_cond (ltb k n) (eqb b 20) (IncumbentByte k) _ tt (λ e. started_if (eqb b 0) Done tt)
started_next n (IncumbentByte k) b h = tt
started_next n Done b h = tt
