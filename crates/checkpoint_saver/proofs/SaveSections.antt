-- A checkpoint's bytes, saved section by section: the header, the path, the mapping that is held and the end.
use mathlib.Core.Path.{◌≡◌, refl, sym, ap, ap₂, ◌∙◌}
use mathlib.Core.Bool.{cond}
use mathlib.Core.List.{List, [], ◌∷◌, ◌++◌, append_assoc}
use Prim.Native.Nat.{ℕ, ◌+◌, ◌*◌, ◌≤◌, ◌<◌}
use native.Mathlib.Omega.{arith}
use borrow.Author.Tests.{le-leb, lt-leb}
use lib.ListN.{length, take, drop, set, length-append, length-set}
use lib.Seq.{sets, sets-eq, drop-drop}
use borrow.Rule.Slice.PartMut.{put_mid}
use Rattle.little_endian.specs.LittleEndian.{little_endian}
use Rattle.little_endian.proofs.LittleEndian.{length_little}
use Rattle.answers.specs.Answer.{accepted, refused}
use Rattle.answers.specs.Output.{Writing, fill}
use Rattle.answers.proofs.Stores.{sets_append, sets_front}
use Rattle.checkpoint.specs.declared.Checkpoint.{Checkpoint}
use Rattle.checkpoint_saver.specs.Saving.{state_byte, header_bytes, entry_bytes, checkpoint_bytes}
use Rattle.checkpoint_saver.proofs.SavedLength.{length_header_bytes, length_entry_bytes, saved_length}

-- bytes stored after those at the front
then_stored : (vs ws buffer l k : List ℕ) (at : ℕ) → l ≡ sets buffer 0 vs → at ≡ length vs → k ≡ sets l at ws → k ≡ sets buffer 0 (vs ++ ws)
then_stored vs ws buffer l k at p e q =
    let place : at ≡ 0 + length vs = omega arith in
    q ∙ ap₂ (λ (m : List ℕ) (i : ℕ). sets m i ws) p place ∙ sym (sets_append vs ws buffer 0)

-- bytes copied into a part of a buffer
copied : (l bytes : List ℕ) (i k : ℕ) → length bytes ≡ k → i + k ≤ length l → put_mid i k l bytes ≡ sets l i bytes
copied l bytes i k e room =
    rw (drop-drop k i l, ← e) (sym (sets-eq bytes l i (omega arith) ∙ append_assoc (take i l) bytes (drop (i + length bytes) l)))

-- The header stored byte by byte, with the steps copied into their place.
pub header_stored : (c : Checkpoint) (buffer steps : List ℕ) → 13 ≤ length buffer → steps ≡ little_endian 8 c.steps
    → let marked = set (set (set buffer 0 16) 1 c.minimum) 2 17 in
    set (set (put_mid 3 8 marked steps) 11 18) 12 (state_byte c.finished c.holds) ≡ sets buffer 0 (header_bytes c)
unfolding header_bytes little_endian
header_stored c buffer steps room e =
    let marked = set (set (set buffer 0 16) 1 c.minimum) 2 17 in
    rw e (ap (λ (l : List ℕ). set (set l 11 18) 12 (state_byte c.finished c.holds))
    (copied marked (little_endian 8 c.steps) 3 8 (length_little 8 c.steps) (simp length-set (omega arith))))

-- an accepted writing
written : ℕ → List ℕ → Writing
written k buffer = record { answer = accepted k; buffer = buffer }

module _ (n : ℕ) (c : Checkpoint) (entries : ℕ) (counted : entries ≡ cond c.holds n 0) where
  -- where each section ends, and all of them
  path_end : length (header_bytes c ++ entry_bytes 19 c.path c.depth) ≡ 13 + 2 * c.depth
  path_end =
      let path = entry_bytes 19 c.path c.depth in
      omega (arith, length-append (header_bytes c) path, length_header_bytes c, length_entry_bytes 19 c.path c.depth)

  incumbent_end : length (header_bytes c ++ entry_bytes 19 c.path c.depth ++ entry_bytes 20 c.incumbent entries) ≡ 13 + 2 * c.depth + 2 * entries
  incumbent_end =
      let path = entry_bytes 19 c.path c.depth in
      let rest = entry_bytes 20 c.incumbent entries in
      omega (arith, length-append (header_bytes c ++ path) rest, path_end, length_entry_bytes 20 c.incumbent entries)

  -- the bytes, with the number of the mapping's entries
  all_bytes : checkpoint_bytes n c ≡ header_bytes c ++ entry_bytes 19 c.path c.depth ++ entry_bytes 20 c.incumbent entries ++ (0 ∷ [])
  unfolding checkpoint_bytes
  all_bytes =
      ap (λ (k : ℕ). header_bytes c ++ entry_bytes 19 c.path c.depth ++ entry_bytes 20 c.incumbent k ++ (0 ∷ [])) (sym counted)

  total : length (checkpoint_bytes n c) ≡ 13 + 2 * c.depth + 2 * entries + 1
  total = omega (arith, saved_length n c, counted)

  -- A buffer that is too short for them is refused, and stays as it was.
  pub short_refused : (buffer : List ℕ) → length buffer < 13 + 2 * c.depth + 2 * entries + 1
      → ◌≡◌ {A = Writing} (record { answer = refused 13; buffer = buffer }) (fill (checkpoint_bytes n c) buffer)
  short_refused buffer h =
      simp (lt-leb (length (checkpoint_bytes n c)) (length buffer) (omega (arith, total)))

  -- In any other, the sections stored one after the other are the bytes at the front.
  pub sections_fill : (buffer header path both : List ℕ) → 13 + 2 * c.depth + 2 * entries + 1 ≤ length buffer
      → header ≡ sets buffer 0 (header_bytes c)
      → path ≡ sets header 13 (entry_bytes 19 c.path c.depth)
      → both ≡ sets path (13 + 2 * c.depth) (entry_bytes 20 c.incumbent entries)
      → ◌≡◌ {A = Writing}
      (record { answer = accepted (13 + 2 * c.depth + 2 * entries + 1); buffer = set both (13 + 2 * c.depth + 2 * entries) 0 })
      (fill (checkpoint_bytes n c) buffer)
  unfolding written
  sections_fill buffer header path both room p q r =
      let hs = header_bytes c in
      let ps = entry_bytes 19 c.path c.depth in
      let ms = entry_bytes 20 c.incumbent entries in
      let bytes = checkpoint_bytes n c in
      let fits : length bytes ≤ length buffer = omega (arith, total) in
      let two : path ≡ sets buffer 0 (hs ++ ps) = then_stored hs ps buffer header path _ p (sym (length_header_bytes c)) q in
      let three : both ≡ sets buffer 0 (hs ++ ps ++ ms) = then_stored (hs ++ ps) ms buffer path both _ two (sym path_end) r in
      let whole = then_stored (hs ++ ps ++ ms) (0 ∷ []) buffer both _ _ three (sym incumbent_end) refl in
      let front = whole ∙ ap (sets buffer 0) (sym all_bytes) ∙ sets_front bytes buffer fits in
      simp (le-leb (length bytes) (length buffer) fits) (ap₂ written (sym total) front)
