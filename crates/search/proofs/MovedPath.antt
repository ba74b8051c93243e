-- The path that a move leads to, entry by entry: the loops that make it, and what it is beside the path before.
use mathlib.Core.Path.{◌≡◌, refl, sym, ◌∙◌}
use mathlib.Core.List.{List}
use Prim.Native.Nat.{ℕ, ◌+◌, ◌-◌, ◌≤◌, ◌<◌}
use native.Mathlib.Nat.{le_refl}
use native.Mathlib.Decide.{ℕ_discrete}
use native.Mathlib.Omega.{arith}
use lib.ListN.{length, get_or, take, set, length-set}
use lib.Seq.{get_or-take, get_or-set_same, get_or-set_other, length-take-le, ext_get_or}
use Rattle.mapping.specs.Common.{unmapped}
use Rattle.search.specs.Walking.{Moved, LastIs}

-- Entries before i that pass a test, and an entry stored at i that passes it.
pub stored_more : (Q : ℕ → ℕ → Type 0) (next : List ℕ) (i v : ℕ) → i < length next → ((k : ℕ) → k < i → Q k (get_or next k 0)) → Q i v
    → (k : ℕ) → k < i + 1 → Q k (get_or (set next i v) k 0)
stored_more Q next i v inside before own k h = go (ℕ_discrete k i)
  where
    go : Dec (k ≡ i) → Q k (get_or (set next i v) k 0)
    go (yes e) = rw (e, get_or-set_same next i v 0 inside) own
    go (no n) = rw (get_or-set_other next i k v 0 n) (before k (omega arith))

-- what an entry of the moved path is, by its row
pub record EntryIs (path : List ℕ) (depth last k entry : ℕ) : Type 0 where
  pub front : k + 1 < depth → entry ≡ get_or path k 0
  pub own : k + 1 ≡ depth → entry ≡ last
  pub rest : depth < k + 1 → entry ≡ 0

-- The invariant: the entries before i are the moved path's, and the others stand.
pub record MovedTo (path : List ℕ) (depth last : ℕ) (path' : List ℕ) (i : ℕ) : Type 0 where
  pub within : i ≤ 64
  pub path_length : length path' ≡ 64
  pub made : (k : ℕ) → k < i → EntryIs path depth last k (get_or path' k 0)
  pub others : (k : ℕ) → i ≤ k → get_or path' k 0 ≡ get_or path k 0

-- At first all stand.
pub moved_none : {path : List ℕ} {depth last : ℕ} → length path ≡ 64 → MovedTo path depth last path 0
moved_none long = record { within = omega arith; path_length = long; made = λ k h. absurd (omega arith); others = λ k h. refl }

-- One entry more is made.
pub moved_more : {path path' : List ℕ} {depth last i v : ℕ} → i < 64 → MovedTo path depth last path' i
    → (get_or path' i 0 ≡ get_or path i 0 → EntryIs path depth last i v) → MovedTo path depth last (set path' i v) (i + 1)
moved_more {path} {path'} {depth} {last} {i} {v} h t own = record {
  within = omega arith;
  path_length = length-set path' i v ∙ t.path_length;
  made = stored_more (EntryIs path depth last) path' i v (omega (arith, t.path_length)) t.made (own (t.others i (le_refl i)));
  others = λ k l. get_or-set_other path' i k v 0 (λ e. omega arith) ∙ t.others k (omega arith);
}

-- At the end the path is the moved one.
pub moved_all : {path path' : List ℕ} {depth last i : ℕ} → 64 ≤ i → MovedTo path depth last path' i → Moved path depth last path'
moved_all h t = record {
  path_length = t.path_length;
  front = λ k l b. (t.made k (omega arith)).front l;
  entry = λ k l b. (t.made k (omega arith)).own l;
  rest = λ k l b. (t.made k (omega arith)).rest (omega arith);
}

-- The moved path ends in its last entry.
pub moved_last_is : {path path' : List ℕ} {depth last : ℕ} → Moved path depth last path' → depth ≤ 64 → (depth ≡ 0 → last ≡ unmapped)
    → LastIs path' depth last
moved_last_is {depth = depth} moved deep root = (λ h. moved.entry (depth - 1) (omega arith) (omega arith), root)

module _ {path path' : List ℕ} {row v : ℕ} (long : length path ≡ 64) (inside : row < 64) (moved : Moved path (row + 1) v path') where
  -- The entries before the last stand,
  pub moved_front : take row path' ≡ take row path
  moved_front =
      let sized = length-take-le row path' (omega (arith, moved.path_length)) in
      ext_get_or 0 (take row path') (take row path) (sized ∙ sym (length-take-le row path (omega arith)))
      (λ i h.
      let below : i < row = omega arith in
      get_or-take row path' i 0 below ∙ moved.front i (omega arith) (omega arith) ∙ sym (get_or-take row path i 0 below))

  -- and the last is stored.
  pub moved_last : get_or path' row 0 ≡ v
  moved_last = moved.entry row (omega arith) inside

  -- To store it again changes nothing.
  pub moved_stored : set path' row v ≡ path'
  moved_stored = ext_get_or 0 (set path' row v) path' (length-set path' row v) (λ i h. go i (ℕ_discrete i row))
    where
      go : (i : ℕ) → Dec (i ≡ row) → get_or (set path' row v) i 0 ≡ get_or path' i 0
      go i (yes e) = rw e (get_or-set_same path' row v 0 (omega (arith, moved.path_length)) ∙ sym moved_last)
      go i (no n) = get_or-set_other path' row i v 0 n
