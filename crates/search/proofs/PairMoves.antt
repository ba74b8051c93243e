-- Where the last pair leads: by what the trail says of it, it takes its next value, or its row is left out.
use mathlib.Core.Path.{◌≡◌}
use mathlib.Core.List.{List}
use Prim.Native.Nat.{ℕ, ◌+◌, ◌-◌, ◌≤◌, ◌<◌}
use native.Mathlib.Omega.{arith}
use lib.ListN.{length, get_or, take, set}
use Rattle.bitset.specs.Least.{least_above}
use Rattle.std.specs.Prelude.{false, Option, Some, None}
use Rattle.problem.specs.Problem.{Problem, SoundProblem}
use Rattle.mapping.specs.Common.{unmapped, size}
use Rattle.search.specs.declared.tables.Pair.{Pair}
use Rattle.search.specs.Words.{level_word, open_rows}
use Rattle.search.specs.Walking.{AtNode, Moved, Says, OnTrail, OpenIs, Retreats}
use Rattle.search.proofs.LastPairs.{Found, found, trail_next, trail_out, open_after, open_out}
use Rattle.search.proofs.NextSibling.{sibling_taken, sibling_left_out}

-- the least value above that of a pair, the last of so many
abbrev pub next_value : List ℕ → ℕ → Pair → Option ℕ
next_value ws pairs p = least_above (level_word ws (pairs - 1) p.row.0) p.value.0

module _ {path ws : List ℕ} {trail : List Pair} {depth pairs : ℕ} (long : length path ≡ 64) (deep : depth ≤ 64) (count : pairs ≡ size (take depth path))
    (t : OnTrail path depth trail ws) (some : 0 < pairs) (d : Pair) where
  abbrev p : Pair
  p = get_or trail (pairs - 1) d

  f : Found path depth pairs trail ws
  f = found long deep count t some

  says : Says p (open_rows (f.row + 1) (pairs - 1) ws) f.row (get_or path f.row 0)
  says = f.says d

  -- The trail goes on with the pair's next value, whatever stands for a pair that is not there,
  pub trail_moved : (d' : Pair) {v : ℕ} {q : Pair} {path' : List ℕ} → v < 64 → Moved path (p.row.0 + 1) v path'
      → (let p' = get_or trail (pairs - 1) d' in Says q p'.later p'.row.0 v)
      → OnTrail path' (p.row.0 + 1) (set trail (pairs - 1) q) ws × OpenIs (p.row.0 + 1) pairs v p.later ws
  trail_moved d' {v} {q} {path'} small moved new =
      let same = f.says d' in (
        rw says.row_is (trail_next long deep count t f small (rw says.row_is at moved) (rw (same.row_is, same.later_is) at new)),
        rw says.row_is (open_after small says.later_is),
      )

  -- or without the pair.
  pub trail_moved_out : {path' : List ℕ} → Moved path (p.row.0 + 1) unmapped path'
      → OnTrail path' (p.row.0 + 1) trail ws × OpenIs (p.row.0 + 1) (pairs - 1) unmapped p.later ws
  trail_moved_out moved =
      (rw says.row_is (trail_out long deep count t f (rw says.row_is at moved)), rw says.row_is (open_out says.later_is))

module _ {P : Problem} {path ws : List ℕ} {trail : List Pair} {depth pairs : ℕ} (sound : SoundProblem P) (node : AtNode P path depth pairs ws)
    (t : OnTrail path depth trail ws) (some : 0 < pairs) (d : Pair) where
  abbrev p_here : Pair
  p_here = get_or trail (pairs - 1) d

  f_here : Found path depth pairs trail ws
  f_here = found node.path_length (omega (arith, node.depth_max, sound.old_sound.order_max)) node.pairs_are t some

  says_here : Says p_here (open_rows (f_here.row + 1) (pairs - 1) ws) f_here.row (get_or path f_here.row 0)
  says_here = f_here.says d

  -- The path that moved on with the pair is the nearest later sibling,
  pub sibling_moved : {v last later : ℕ} {path' : List ℕ} → next_value ws pairs p_here ≡ Some v → Moved path (p_here.row.0 + 1) v path'
      → Retreats P path depth ws (record { depth = p_here.row.0 + 1; pairs = pairs; finished = false; last = last; later = later }) path'
  sibling_moved e moved =
      rw says_here.row_is (sibling_taken sound node f_here.row f_here.passed f_here.mapped (rw (says_here.row_is, says_here.value_is) at e) (rw says_here.row_is at moved))

  -- and so is the one without it, where it has no other value.
  pub sibling_moved_out : {last later : ℕ} {path' : List ℕ} → next_value ws pairs p_here ≡ None → Moved path (p_here.row.0 + 1) unmapped path'
      → Retreats P path depth ws (record { depth = p_here.row.0 + 1; pairs = pairs - 1; finished = false; last = last; later = later }) path'
  sibling_moved_out e moved =
      rw says_here.row_is (sibling_left_out sound node f_here.row f_here.passed f_here.mapped (rw (says_here.row_is, says_here.value_is) at e) (rw says_here.row_is at moved))
