-- Bytes in the form: the stages that they lead through, from one to the end.
use mathlib.Core.Path.{◌≡◌, refl, sym, ap, ◌∙◌}
use mathlib.Core.Bool.{Bool, true, false, cond, true≢false}
use mathlib.Core.List.{List, [], ◌∷◌}
use Rattle.std.specs.Prelude.{Option, None, Some}
use Rattle.std.proofs.lemmas.Option.{same_Some}
use Prim.Native.Nat.{ℕ, suc}
use lib.Dec.{eqb}
use borrow.Author.Tests.{eqb-true}
use Rattle.checkpoint_loader.specs.declared.form.Stage.{Stage}
use Rattle.checkpoint_loader.specs.declared.form.Stage.TheVariants.{Header, Path, PathByte, Incumbent, IncumbentByte, Done}
use Rattle.checkpoint_loader.specs.Form.{stage_if, is_done, next, fault_from}

-- the bytes lead from the stage to the end
pub data Ends (n : ℕ) : Stage → List ℕ → Type 0 where
  ended : Ends n Done []
  byte : (stage : Stage) (b : ℕ) (later : Stage) {rest : List ℕ} → next n stage b ≡ Some later → Ends n later rest → Ends n stage (b ∷ rest)

-- of no bytes at all: the stage is the last one
done_ends : (n : ℕ) (stage : Stage) (at : ℕ) → cond (is_done stage) None (Some at) ≡ None → Ends n stage []
done_ends n (Header i) at e = absurd (true≢false (cc))
done_ends n (Path holds k) at e = absurd (true≢false (cc))
done_ends n (PathByte holds k) at e = absurd (true≢false (cc))
done_ends n (Incumbent k) at e = absurd (true≢false (cc))
done_ends n (IncumbentByte k) at e = absurd (true≢false (cc))
done_ends n Done at e = ended

-- Bytes with no fault lead to the end.
pub faultless_ends : (n : ℕ) (stage : Stage) (at : ℕ) (bytes : List ℕ) → fault_from n stage at bytes ≡ None → Ends n stage bytes
unfolding fault_from
faultless_ends n stage at [] e = done_ends n stage at e
faultless_ends n stage at (b ∷ rest) e = go (next n stage b) refl (λ later. faultless_ends n later (suc at) rest) e
  where
    go : (o : Option Stage) → next n stage b ≡ o → ((later : Stage) → fault_from n later (suc at) rest ≡ None → Ends n later rest)
        → ◌≡◌ {A = Option ℕ} (elim o [ None ↦ Some at | Some later ↦ fault_from n later (suc at) rest ]) None → Ends n stage (b ∷ rest)
    go None q onward f = absurd (true≢false (cc))
    go (Some later) q onward f = byte stage b later q (onward later f)

-- Bytes that lead to the end have no fault.
pub ends_faultless : {n : ℕ} {stage : Stage} {bytes : List ℕ} → Ends n stage bytes → (at : ℕ) → fault_from n stage at bytes ≡ None
unfolding fault_from
ends_faultless ended at = refl
ends_faultless (byte stage b later e more) at = rw (e, fault_from) (ends_faultless more (suc at))

-- Before the end there is a byte, and those after it lead on.
pub first_byte : {n : ℕ} {stage : Stage} {bytes : List ℕ} → is_done stage ≡ false → Ends n stage bytes
    → (b : ℕ) × (rest : List ℕ) × (later : Stage) × (bytes ≡ b ∷ rest) × (next n stage b ≡ Some later) × Ends n later rest
first_byte busy ended = absurd (true≢false busy)
first_byte busy (byte stage b later {rest = rest} e more) = (b, rest, later, refl, e, more)

module _ {n : ℕ} {stage : Stage} {bytes : List ℕ} (busy : is_done stage ≡ false) (ends : Ends n stage bytes) where
  -- Where those bytes may stand that pass a test, there is one, and the bytes after it lead on from the later stage.
  pub tested_byte : (test : ℕ → Bool) (later : ℕ → Stage) → ((b : ℕ) → next n stage b ≡ stage_if (test b) (later b))
      → (b : ℕ) × (rest : List ℕ) × (bytes ≡ b ∷ rest) × (test b ≡ true) × Ends n (later b) rest
  tested_byte test later step =
      let (b, rest, after, whole, e, more) = first_byte busy ends in
      go b rest after whole more (test b) refl (sym (step b) ∙ e)
    where
      go : (b : ℕ) (rest : List ℕ) (after : Stage) → bytes ≡ b ∷ rest → Ends n after rest
          → (t : Bool) → test b ≡ t → stage_if t (later b) ≡ Some after
          → (b : ℕ) × (rest : List ℕ) × (bytes ≡ b ∷ rest) × (test b ≡ true) × Ends n (later b) rest
      go b rest after whole more true q f = (b, rest, whole, q, rw (same_Some _ _ f) more)
      go b rest after whole more false q f = absurd (true≢false (cc))

  -- Where any byte may stand, there is one.
  pub any_byte : (later : Stage) → ((b : ℕ) → next n stage b ≡ Some later) → (b : ℕ) × (rest : List ℕ) × (bytes ≡ b ∷ rest) × Ends n later rest
  any_byte later step = let found = tested_byte (λ b. true) (λ b. later) step in (found.0, found.1, found.2, found.4)

  -- Where one byte only may stand, it does.
  pub one_byte : (later : Stage) (mark : ℕ) → ((b : ℕ) → next n stage b ≡ stage_if (eqb b mark) later)
      → (rest : List ℕ) × (bytes ≡ mark ∷ rest) × Ends n later rest
  one_byte later mark step =
      let found = tested_byte (λ b. eqb b mark) (λ b. later) step in
      (found.1, found.2 ∙ ap (λ (b : ℕ). b ∷ found.1) (eqb-true found.0 mark found.3), found.4)
