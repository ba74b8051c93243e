-- A part of a buffer that other bytes are copied into.
use Rattle.std.proofs.Common.{◌≡◌, ℕ, ◌+◌, ◌≤◌, List, length, append_assoc, sym, take, drop}
use Rattle.std.proofs.lemmas.List.Edits.{sets, sets-eq}
use lib.Seq.{drop-drop}
use borrow.Rule.Slice.PartMut.{put_mid}

-- Bytes copied into the part of a buffer from the place a on are stored there.
pub part_sets : (a k : ℕ) (buffer part bytes : List ℕ) → part ≡ bytes → k ≡ length bytes → a + length bytes ≤ length buffer
    → put_mid a k buffer part ≡ sets buffer a bytes
part_sets a k buffer part bytes e l fits = rw (e, l, sets-eq bytes buffer a fits, drop-drop) (sym (append_assoc (take a buffer) bytes (drop (a + length bytes) buffer)))
