-- The last pair of a path, from its trail, and the trails of the nodes that a move leads to.
use mathlib.Core.Path.{◌≡◌, refl, sym, ap, ◌∙◌}
use mathlib.Core.Logic.{◌≢◌, ⊎_elim}
use mathlib.Core.Bool.{true≢false}
use mathlib.Core.List.{List}
use Prim.Native.Nat.{ℕ, ◌+◌, ◌-◌, ◌^◌, ◌≤◌, ◌<◌}
use native.Mathlib.Omega.{arith}
use lib.ListN.{length, get_or, take, set}
use Rattle.bitset.specs.Members.{member}
use Rattle.bitset.specs.Least.{least_member}
use Rattle.std.specs.Prelude.{Some, None}
use Rattle.bitset.proofs.Membership.{member_zero}
use Rattle.bitset.proofs.SetOf.{no_member}
use Rattle.bitset.proofs.LeastBelow.{least_below_member, least_below_empty}
use Rattle.mapping.specs.Common.{unmapped, size}
use Rattle.mapping.proofs.Size.{size_nil}
use Rattle.search.specs.declared.tables.Pair.{Pair}
use Rattle.search.specs.Words.{open_rows}
use Rattle.search.specs.Walking.{Moved, Says, OnTrail, OpenIs}
use Rattle.search.proofs.MovedPath.{moved_front, moved_last}
use Rattle.search.proofs.NextSibling.{Passed, passed_to, pairs_before}
use Rattle.search.proofs.Trails.{trail_shorter, trail_same, trail_left_out, trail_taken}

-- the last pair: its row, its value and the open rows after it are read from the trail
pub record Found (path : List ℕ) (depth pairs : ℕ) (trail : List Pair) (ws : List ℕ) : Type 0 where
  pub row : ℕ
  pub passed : Passed path depth pairs (row + 1)
  pub mapped : get_or path row 0 ≢ unmapped
  pub inside : row < 64
  pub below : row < depth
  pub before : pairs - 1 ≡ size (take row path)
  pub says : (d : Pair) → Says (get_or trail (pairs - 1) d) (open_rows (row + 1) (pairs - 1) ws) row (get_or path row 0)

module _ {path ws : List ℕ} {trail : List Pair} {depth pairs : ℕ} (long : length path ≡ 64) (deep : depth ≤ 64) (count : pairs ≡ size (take depth path))
    (t : OnTrail path depth trail ws) where
  -- Where there is a pair, the last is found;
  pub found : 0 < pairs → Found path depth pairs trail ws
  found some =
      ⊎_elim (λ passed. absurd (omega (arith, passed.pairs_are, size_nil)))
      (λ last.
      let row = last.0 in
      let passed = last.1 in
      let mapped = last.2 in
      let below : row < depth = omega (arith, passed.within) in
      let before = pairs_before passed refl (omega arith) mapped in
      let level : pairs - 1 ≡ size (take row path) = omega arith in
      record {
        row = row;
        passed = passed;
        mapped = mapped;
        inside = omega arith;
        below = below;
        before = level;
        says = rw level (t.pair row below mapped);
      })
      (passed_to count)

  -- where there is none, all rows are passed.
  pub none_found : pairs ≡ 0 → Passed path depth pairs 0
  none_found none =
      ⊎_elim (λ passed. passed)
      (λ last. absurd (omega (arith, last.1.within, pairs_before last.1 refl (omega (arith, last.1.within)) last.2)))
      (passed_to count)

  module _ (f : Found path depth pairs trail ws) where
    -- the trail of the rows before the pair, on the path that the walk moves to
    front : {v : ℕ} {path' : List ℕ} → Moved path (f.row + 1) v path' → OnTrail path' f.row trail ws
    front {v} {path'} moved =
        trail_same path path' f.row (sym (moved_front long f.inside moved)) (trail_shorter (omega (arith, f.below)) t)

    -- The pair takes another value.
    pub trail_next : {v : ℕ} {p : Pair} {path' : List ℕ} → v < 64 → Moved path (f.row + 1) v path'
        → Says p (open_rows (f.row + 1) (pairs - 1) ws) f.row v → OnTrail path' (f.row + 1) (set trail (pairs - 1) p) ws
    trail_next {v} {p} {path'} small moved says =
        let own : get_or path' f.row 0 ≡ v = moved_last long f.inside moved in
        trail_taken moved.path_length f.inside (f.before ∙ ap size (sym (moved_front long f.inside moved))) (omega arith)
        (rw own says) (front moved)

    -- The pair is left out.
    pub trail_out : {path' : List ℕ} → Moved path (f.row + 1) unmapped path' → OnTrail path' (f.row + 1) trail ws
    trail_out moved = trail_left_out (moved_last long f.inside moved) (front moved)

-- What is known of the rows after a pair,
pub open_after : {depth pairs last later : ℕ} {ws : List ℕ} → last < 64 → later ≡ open_rows depth (pairs - 1) ws → OpenIs depth pairs last later ws
open_after small is = record { left_out = λ e. absurd (omega arith); taken = λ _. is }

-- and after a row that is left out.
pub open_out : {depth pairs later : ℕ} {ws : List ℕ} → later ≡ open_rows depth pairs ws → OpenIs depth pairs unmapped later ws
open_out is = record { left_out = λ _. is; taken = λ n. absurd (n refl) }

module _ {path ws : List ℕ} {trail : List Pair} {depth pairs : ℕ} (long : length path ≡ 64) (inner : depth < 64) (count : pairs ≡ size (take depth path))
    (t : OnTrail path depth trail ws) where
  own_front : {v : ℕ} {path' : List ℕ} → Moved path (depth + 1) v path' → OnTrail path' depth trail ws
  own_front {v} {path'} moved = trail_same path path' depth (sym (moved_front long inner moved)) t

  -- The next row takes a value.
  pub trail_down : {v : ℕ} {p : Pair} {path' : List ℕ} → v < 64 → Moved path (depth + 1) v path' → Says p (open_rows (depth + 1) pairs ws) depth v
      → OnTrail path' (depth + 1) (set trail pairs p) ws
  trail_down {v} {p} {path'} small moved says =
      let own : get_or path' depth 0 ≡ v = moved_last long inner moved in
      trail_taken moved.path_length inner (count ∙ ap size (sym (moved_front long inner moved))) (omega arith) (rw own says) (own_front moved)

  -- The next row is left out.
  pub trail_down_out : {path' : List ℕ} → Moved path (depth + 1) unmapped path' → OnTrail path' (depth + 1) trail ws
  trail_down_out moved = trail_left_out (moved_last long inner moved) (own_front moved)

-- A set that has a least member is not empty,
pub full_word : {w v : ℕ} → least_member w ≡ Some v → w ≢ 0
full_word {w} {v} e z = true≢false (sym (least_below_member 64 (member w) e).passes ∙ rw z (member_zero v))

-- and one that has none is.
pub empty_word : {w : ℕ} → w < 2 ^ 64 → least_member w ≡ None → w ≡ 0
empty_word {w} small e = (no_member 64 small).1 (λ i h. least_below_empty 64 (member w) e i h)
