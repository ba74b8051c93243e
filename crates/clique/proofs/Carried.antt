-- What the code carries: a path grows by one decided row, and a path that decides every row is held where it has enough pairs.
use mathlib.Core.Path.{◌≡◌, refl, sym, ap, ◌∙◌}
use mathlib.Core.Logic.{◌≢◌, ⊎_elim}
use mathlib.Core.List.{List, [], ◌∷◌, ◌++◌}
use mathlib.Core.Option.{Option, none, some}
use Prim.Native.Nat.{ℕ, suc, ◌+◌, ◌-◌, ◌≤◌, ◌<◌}
use native.Mathlib.Nat.{eq-or-lt_of_le, not-suc-le-zero}
use native.Mathlib.Numerals.{add-one}
use native.Mathlib.Omega.{arith}
use lib.ListN.{length, set, take, drop, replicate, take-append-drop}
use lib.Seq.{length-take-le, drop-drop, drop-set-lt, get_or-set_other, get_or-set_same, take-suc-set}
use borrow.Author.Tests.{lt-leb, le-leb}
use Rattle.mapping.specs.Common.{unmapped, size}
use Rattle.mapping.specs.Check.{EntriesBelow}
use Rattle.mapping.proofs.Size.{size_nil, size_cons, size_append, size_max, size_none, counted_mapped}
use Rattle.search_tree.specs.Walk.{cutoff}
use Rattle.std.specs.Prelude.{Some, Ok}
use Rattle.clique.specs.declared.branching.Incumbent.{Incumbent}
use Rattle.clique.specs.Answers.{called_of}
use Rattle.clique.specs.Branching.{keep_larger}
use Rattle.clique.specs.Call.{padded, called_with}
use Rattle.clique.specs.Carried.{Decided, incumbent_as}

module _ (path : List ℕ) (depth pairs : ℕ) (all : length path ≡ 8) (d : Decided path depth pairs) where
  -- A path that decides so many rows is these, and 0 after them.
  pub decided_padded : depth ≤ 8 → path ≡ padded (take depth path)
  decided_padded h =
      sym (take-append-drop depth path)
      ∙ ap (λ (r : List ℕ). take depth path ++ r) (d.rest ∙ ap (λ (k : ℕ). replicate (8 - k) 0) (sym (length-take-le depth path (omega arith))))

  -- There are at most as many pairs as rows.
  pub decided_pairs : depth ≤ 8 → pairs ≤ depth
  decided_pairs h = omega (arith, d.counted, size_max (take depth path), length-take-le depth path (omega arith))

  module _ (h : depth < 8) where
    -- the next row is decided by a vertex that is a place of the tables or by 255
    next_entries : (v : ℕ) → (v ≢ unmapped → v < 64) → EntriesBelow (set path depth v) (depth + 1)
    next_entries v place u l =
        ⊎_elim
        (λ (e : u ≡ depth). rw (e, get_or-set_same path depth v 0 (omega arith)) place)
        (λ earlier. rw (get_or-set_other path depth u v 0 (λ e. omega arith)) (d.entries u earlier))
        (eq-or-lt_of_le (omega arith))

    next_rest : (v : ℕ) → drop (depth + 1) (set path depth v) ≡ replicate (8 - (depth + 1)) 0
    next_rest v =
        drop-set-lt (depth + 1) path depth v (omega arith) ∙ sym (drop-drop 1 depth path) ∙ ap (drop 1) d.rest
        ∙ ap (λ (k : ℕ). drop 1 (replicate k 0)) less
      where
        less : 8 - depth ≡ suc (8 - (depth + 1))
        less = omega arith

    next_size : (v : ℕ) → size (take (depth + 1) (set path depth v)) ≡ size (take depth path) + size (v ∷ [])
    next_size v = rw (add-one, take-suc-set path depth v (omega arith)) (size_append (take depth path) (v ∷ []))

    -- A row that is left out adds no pair,
    pub decided_left_out : Decided (set path depth unmapped) (depth + 1) pairs
    decided_left_out = record {
      entries = next_entries unmapped (λ ne. absurd (ne refl));
      counted = omega (arith, d.counted, next_size unmapped, size_none 1);
      rest = next_rest unmapped;
    }

    -- and one that is mapped adds one.
    pub decided_mapped : (v : ℕ) → v < 64 → Decided (set path depth v) (depth + 1) (pairs + 1)
    decided_mapped v place = record {
      entries = next_entries v (λ ne. place);
      counted = omega (arith, d.counted, next_size v, size_cons v [], counted_mapped v (λ e. omega arith), size_nil);
      rest = next_rest v;
    }

-- No row is decided yet.
pub decided_none : Decided (replicate 8 0) 0 0
decided_none = record { entries = λ u h. absurd (not-suc-le-zero h); counted = sym size_nil; rest = refl }

module _ (minimum : ℕ) (incumbent : Option (List ℕ)) (l : List ℕ) {pairs : ℕ} (counted : pairs ≡ size l) where
  -- what is carried with it is the cutoff
  held_cutoff : {held : Incumbent} → held ≡ incumbent_as minimum incumbent → held.cutoff ≡ cutoff minimum incumbent
  held_cutoff e = ap (λ (h : Incumbent). h.cutoff) e ∙ go incumbent
    where
      go : (i : Option (List ℕ)) → (incumbent_as minimum i).cutoff ≡ cutoff minimum i
      go none = refl
      go (some m) = refl

  -- A path with too few pairs changes nothing.
  pub few_pairs : {held : Incumbent} → held ≡ incumbent_as minimum incumbent → pairs < held.cutoff
      → held ≡ incumbent_as minimum (keep_larger minimum l incumbent)
  unfolding keep_larger
  few_pairs e h = e ∙ (rw (lt-leb (cutoff minimum incumbent) (size l) (omega (arith, held_cutoff e))) refl)

  -- One with enough is held.
  pub enough_pairs : {held : Incumbent} → held ≡ incumbent_as minimum incumbent → held.cutoff ≤ pairs → {path : List ℕ} → path ≡ padded l
      → record { cutoff = pairs + 1; mapping = Some path } ≡ incumbent_as minimum (keep_larger minimum l incumbent)
  unfolding keep_larger
  enough_pairs e h same = rw (le-leb (cutoff minimum incumbent) (size l) (omega (arith, held_cutoff e)), same, counted) refl

-- What is held is what the call returns.
pub held_called : (minimum : ℕ) (incumbent : Option (List ℕ)) {held : Incumbent} → held ≡ incumbent_as minimum incumbent
    → called_of (Ok held.mapping) ≡ called_with incumbent
held_called minimum none e = rw e
held_called minimum (some l) e = rw e
