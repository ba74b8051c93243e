-- Bytes are in the form exactly where they are a header of 13 bytes, at most n pairs of a path, n pairs of a mapping if one is held, and 0.
use mathlib.Core.Path.{◌≡◌, refl, sym, ap, ◌∙◌}
use mathlib.Core.Bool.{cond}
use mathlib.Core.List.{List, [], ◌∷◌, ◌++◌}
use Rattle.std.specs.Prelude.{None, Some}
use Prim.Native.Nat.{ℕ, zero, suc, ◌+◌, ◌*◌, ◌≤◌, ◌<◌}
use native.Mathlib.Omega.{arith}
use lib.Dec.{leb}
use lib.ListN.{length, get_or, length-append}
use lib.Seq.{get_or-append-add}
use borrow.Author.Tests.{leb-true, le-leb, ne_eqb}
use Rattle.checkpoint_loader.specs.declared.form.Stage.TheVariants.{Header, Path}
use Rattle.checkpoint_loader.specs.Form.{holds_of, header_stage, next, form_fault}
use Rattle.checkpoint_loader.specs.Loading.{incumbent_entries, path_entries}
use Rattle.checkpoint_loader.specs.Formed.{pairs, form_bytes, Formed}
use Rattle.checkpoint_loader.proofs.FormWalk.{Ends, byte, tested_byte, any_byte, one_byte, faultless_ends, ends_faultless}
use Rattle.checkpoint_loader.proofs.FormEntries.{path_section, path_ends}
use Rattle.checkpoint_loader.proofs.Pairs.{length_pairs}

-- The header has 13 bytes, the end 1, and each entry 2.
form_length : (minimum : ℕ) (steps : List ℕ) (state : ℕ) (path incumbent : List ℕ) → length steps ≡ 8
    → length (form_bytes minimum steps state path incumbent) ≡ 14 + 2 * length path + 2 * length incumbent
form_length minimum steps state path incumbent eight = simp (length-append, length_pairs) (omega arith)

-- between the marks at 2 and 11 any byte may stand
plain_stage : (i b : ℕ) → 3 ≤ i → i < 11 → header_stage i b ≡ Some (Header (i + 1))
plain_stage i b low high =
    rw (ne_eqb i 0 (λ e. omega arith), ne_eqb i 2 (λ e. omega arith), ne_eqb i 11 (λ e. omega arith), ne_eqb i 12 (λ e. omega arith))

-- m bytes there
plain_bytes : {n : ℕ} (m i : ℕ) (bytes : List ℕ) → 3 ≤ i → i + m ≡ 11 → Ends n (Header i) bytes
    → (steps rest : List ℕ) × (length steps ≡ m) × (bytes ≡ steps ++ rest) × Ends n (Header 11) rest
unfolding next
plain_bytes zero i bytes low e ends =
    let last : i ≡ 11 = omega arith in
    ([], bytes, refl, refl, rw last at ends)
plain_bytes (suc m) i bytes low e ends =
    let first = any_byte refl ends (Header (i + 1)) (λ b. plain_stage i b low (omega arith)) in
    let later = plain_bytes m (i + 1) first.1 (omega arith) (omega arith) first.3 in
    (first.0 ∷ later.0, later.1, ap suc later.2, first.2 ∙ ap (◌∷◌ first.0) later.3, later.4)

-- Bytes in the form say these things.
pub formed : (n : ℕ) (bytes : List ℕ) → form_fault n bytes ≡ None → Formed n bytes
unfolding next
formed n bytes e =
    let a = one_byte refl (faultless_ends n (Header 0) 0 bytes e) (Header 1) 16 (λ b. refl) in
    let minimum = any_byte refl a.2 (Header 2) (λ b. refl) in
    let b = one_byte refl minimum.3 (Header 3) 17 (λ b. refl) in
    let steps = plain_bytes 8 3 b.0 (omega arith) (omega arith) b.2 in
    let c = one_byte refl steps.4 (Header 12) 18 (λ b. refl) in
    let state = tested_byte refl c.2 (λ b. leb b 3) (λ b. Path (holds_of b) 0) (λ b. refl) in
    let section = path_section n (holds_of state.0) n 0 state.1 (omega arith) state.4 in
    record {
      minimum = minimum.0;
      steps = steps.0;
      state = state.0;
      path = section.path;
      incumbent = section.incumbent;
      steps_length = steps.2;
      state_max = leb-true state.0 3 state.3;
      path_max = section.path_max;
      incumbent_length = section.incumbent_length;
      whole = cc (a.1, minimum.2, b.1, steps.3, c.1, state.2, section.whole);
    }

-- any bytes lead from the one to the other
plain_ends : {n : ℕ} (i : ℕ) (steps rest : List ℕ) → 3 ≤ i → i + length steps ≡ 11 → Ends n (Header 11) rest → Ends n (Header i) (steps ++ rest)
unfolding next
plain_ends i [] rest low e ends =
    let last : i ≡ 11 = omega arith in
    rw last ends
plain_ends i (b ∷ steps) rest low e ends =
    byte (Header i) b (Header (i + 1)) (plain_stage i b low (omega arith)) (plain_ends (i + 1) steps rest (omega arith) (omega arith) ends)

-- Bytes that say these things are in the form.
pub formed_faultless : {n : ℕ} {bytes : List ℕ} → Formed n bytes → form_fault n bytes ≡ None
unfolding next
formed_faultless {n} f =
    rw f.whole
    (ends_faultless (byte (Header 0) 16 (Header 1) refl (byte (Header 1) f.minimum (Header 2) refl (byte (Header 2) 17 (Header 3) refl
    (plain_ends 3 f.steps _ (omega arith) (omega (arith, f.steps_length))
    (byte (Header 11) 18 (Header 12) refl
    (byte (Header 12) f.state (Path (holds_of f.state) 0) (rw (le-leb f.state 3 f.state_max))
    (path_ends n (holds_of f.state) 0 f.path f.incumbent (omega (arith, f.path_max)) f.incumbent_length)))))))
    0)

module _ {n : ℕ} {bytes : List ℕ} (f : Formed n bytes) where
  -- what comes after the header's steps
  abbrev pub after_steps : List ℕ
  after_steps = 18 ∷ f.state ∷ (pairs 19 f.path ++ (pairs 20 f.incumbent ++ (0 ∷ [])))

  -- The state's byte is at 12.
  pub state_at : get_or bytes 12 0 ≡ f.state
  state_at =
      let place : 9 ≡ length f.steps + 1 = omega (arith, f.steps_length) in
      ap (λ (l : List ℕ). get_or l 12 0) f.whole ∙ ap (λ (i : ℕ). get_or (f.steps ++ after_steps) i 0) place
      ∙ get_or-append-add f.steps after_steps 1 0

  -- The entries of the mapping are as many as said.
  pub incumbent_count : incumbent_entries n bytes ≡ length f.incumbent
  incumbent_count = ap (λ (state : ℕ). cond (holds_of state) n 0) state_at ∙ sym f.incumbent_length

  -- There is no byte besides the header, the entries and the end.
  pub whole_length : length bytes ≡ 14 + 2 * length f.path + 2 * length f.incumbent
  whole_length = ap length f.whole ∙ form_length f.minimum f.steps f.state f.path f.incumbent f.steps_length

  -- The entries of the path are as many as said.
  pub path_count : path_entries n bytes ≡ length f.path
  path_count = rw (incumbent_count, whole_length) (omega arith)

-- Bytes in the form have at most n path entries, and no byte besides the header, the entries and the end.
pub formed_lengths : (n : ℕ) (bytes : List ℕ) → form_fault n bytes ≡ None
    → (path_entries n bytes ≤ n) × (length bytes ≡ 14 + 2 * path_entries n bytes + 2 * incumbent_entries n bytes)
formed_lengths n bytes e =
    let f = formed n bytes e in
    (rw (path_count f) f.path_max, rw (path_count f, incumbent_count f) (whole_length f))
