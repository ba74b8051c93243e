-- The bytes of a checkpoint are in the form.
use mathlib.Core.Path.{◌≡◌, refl, sym, ap, ap₂, ◌∙◌}
use mathlib.Core.Bool.{Bool, true, false, cond}
use mathlib.Core.List.{List, [], ◌∷◌, ◌++◌, append_assoc}
use Rattle.std.specs.Prelude.{None}
use Prim.Native.Nat.{ℕ, ◌≤◌}
use native.Mathlib.Omega.{arith}
use lib.ListN.{get_or}
use Rattle.little_endian.specs.LittleEndian.{little_endian}
use Rattle.little_endian.proofs.LittleEndian.{length_little}
use Rattle.checkpoint.specs.declared.Checkpoint.{Checkpoint}
use Rattle.checkpoint_loader.specs.Form.{holds_of, finished_of, form_fault}
use Rattle.checkpoint_saver.specs.Saving.{state_byte, header_bytes, checkpoint_bytes}
use Rattle.checkpoint_loader.specs.Formed.{form_bytes, Formed}
use Rattle.checkpoint_loader.proofs.Pairs.{values_below, length_values, entry_pairs}
use Rattle.checkpoint_loader.proofs.FormedBytes.{formed_faultless}

-- The state's byte says whether a mapping is held and whether the search is finished, and is at most 3.
pub state_says : (finished holds : Bool)
    → (holds_of (state_byte finished holds) ≡ holds) × (finished_of (state_byte finished holds) ≡ finished) × (state_byte finished holds ≤ 3)
state_says true true = (refl, refl, omega arith)
state_says true false = (refl, refl, omega arith)
state_says false true = (refl, refl, omega arith)
state_says false false = (refl, refl, omega arith)

-- the entries that are saved
abbrev pub saved_path : Checkpoint → List ℕ
saved_path c = values_below c.depth (λ i. get_or c.path i 0)

abbrev pub saved_incumbent : ℕ → Checkpoint → List ℕ
saved_incumbent n c = values_below (cond c.holds n 0) (λ i. get_or c.incumbent i 0)

module _ (n : ℕ) (c : Checkpoint) where
  -- The bytes of a checkpoint, section by section.
  pub saved_bytes :
      checkpoint_bytes n c
      ≡ form_bytes c.minimum (little_endian 8 c.steps) (state_byte c.finished c.holds) (saved_path c) (saved_incumbent n c)
  unfolding checkpoint_bytes header_bytes
  saved_bytes =
      ap₂ (λ (p h : List ℕ). header_bytes c ++ p ++ h ++ (0 ∷ []))
      (entry_pairs 19 c.path c.depth) (entry_pairs 20 c.incumbent (cond c.holds n 0))
      ∙ simp append_assoc

  -- They are in the form.
  unfoldable pub saved_formed : c.depth ≤ n → Formed n (checkpoint_bytes n c)
  saved_formed deep = record {
    minimum = c.minimum;
    steps = little_endian 8 c.steps;
    state = state_byte c.finished c.holds;
    path = saved_path c;
    incumbent = saved_incumbent n c;
    steps_length = length_little 8 c.steps;
    state_max = (state_says c.finished c.holds).2;
    path_max = omega (arith, length_values c.depth (λ i. get_or c.path i 0));
    incumbent_length =
        length_values (cond c.holds n 0) (λ i. get_or c.incumbent i 0)
        ∙ ap (λ (b : Bool). cond b n 0) (sym (state_says c.finished c.holds).0);
    whole = saved_bytes;
  }

  -- No byte of a saved checkpoint stands where it cannot.
  pub save_formed : c.depth ≤ n → form_fault n (checkpoint_bytes n c) ≡ None
  save_formed deep = formed_faultless (saved_formed deep)
