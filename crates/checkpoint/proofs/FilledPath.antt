-- A path filled up with 255 to 64 entries: the loop that stores it, and its first n entries, which are a mapping.
use mathlib.Core.Path.{◌≡◌, sym, ap, ◌∙◌}
use mathlib.Core.List.{List, ◌++◌, append_assoc, append-nil}
use Prim.Native.Nat.{ℕ, suc, ◌+◌, ◌-◌, ◌≤◌, ◌<◌}
use native.Mathlib.Numerals.{add-one}
use native.Mathlib.Omega.{arith}
use lib.ListN.{length, get_or, take, drop, set, replicate, length-append, length-take, length-replicate, replicate-append-replicate, take-append-drop, drop_of_length-le}
use lib.Seq.{length-take-le, drop-cons, take_at, set_at, append_snoc}
use Rattle.mapping.specs.Common.{unmapped}

-- 64 entries: the path's first i, and 255 after them
abbrev pub filled_to : List ℕ → ℕ → List ℕ
filled_to path i = take i path ++ replicate (64 - i) unmapped

-- A path's array of 64 entries, filled up, has 64 again.
pub filled_length : (path : List ℕ) (d : ℕ) → length path ≡ 64 → length (filled_to path d) ≡ 64
filled_length path d long =
    omega (
      arith,
      length-append (take d path) (replicate (64 - d) unmapped),
      length-take d path,
      length-replicate {A = ℕ} (64 - d) unmapped,
    )

-- the path's first d entries, 255 from there to the i-th, and the path's again from it on
abbrev pub filled_until : List ℕ → ℕ → ℕ → List ℕ
filled_until path d i = take d path ++ replicate (i - d) unmapped ++ drop i path

-- At first nothing is stored.
pub filled_none : (path : List ℕ) (d : ℕ) → path ≡ filled_until path d d
filled_none path d = let none : d - d ≡ 0 = omega arith in rw (none, append-nil) (sym (take-append-drop d path))

-- Storing 255 in the next place fills one entry more.
pub filled_more : (path : List ℕ) (d i : ℕ) → length path ≡ 64 → d ≤ i → i < 64
    → set (filled_until path d i) i unmapped ≡ filled_until path d (i + 1)
filled_more path d i long late inside =
    rw (
      drop-cons path i 0 (omega arith),
      set_at (take d path ++ replicate (i - d) unmapped) (get_or path i 0) (drop (suc i) path) unmapped i front,
      ← append_snoc (take d path ++ replicate (i - d) unmapped) unmapped (drop (suc i) path),
      append_assoc (take d path),
      replicate-append-replicate (i - d) 1 unmapped,
      one_more,
      add-one i,
    )
  where
    front : length (take d path ++ replicate (i - d) unmapped) ≡ i
    front =
        omega (arith, length-append (take d path) (replicate (i - d) unmapped), length-take d path, length-replicate {A = ℕ} (i - d) unmapped)

    one_more : (i - d) + 1 ≡ suc i - d
    one_more = omega arith

-- At the end the path is filled up.
pub filled_all : (path : List ℕ) (d i : ℕ) → length path ≡ 64 → 64 ≤ i → i - d ≡ 64 - d → filled_until path d i ≡ filled_to path d
filled_all path d i long done full = rw (full, drop_of_length-le path {i = i} (omega arith)) (append-nil _)

-- Of those 64 entries the first n are the decided rows' and 255 for each other row of n.
pub take_filled : (n : ℕ) (path : List ℕ) (d : ℕ) → length path ≡ 64 → d ≤ n → n ≤ 64
    → take n (filled_to path d) ≡ take d path ++ replicate (n - length (take d path)) unmapped
take_filled n path d long deep small =
    rw (apart, ← replicate-append-replicate (n - d) (64 - n) unmapped, ← append_assoc)
    (take_at (take d path ++ replicate (n - d) unmapped) (replicate (64 - n) unmapped) n rows
    ∙ ap (λ (k : ℕ). take d path ++ replicate (n - k) unmapped) (sym decided))
  where
    apart : 64 - d ≡ (n - d) + (64 - n)
    apart = omega arith

    decided : length (take d path) ≡ d
    decided = length-take-le d path (omega arith)

    rows : length (take d path ++ replicate (n - d) unmapped) ≡ n
    rows = omega (arith, decided, length-append (take d path) (replicate (n - d) unmapped), length-replicate {A = ℕ} (n - d) unmapped)
