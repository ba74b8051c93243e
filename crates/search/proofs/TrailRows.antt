-- The rows of the pairs on a trail, gathered from the last pair on: in the end they are the mapped rows.
use mathlib.Core.Path.{◌≡◌, refl, sym, ap₂, ◌∙◌}
use mathlib.Core.Bool.{true, false, ◌&&◌, ◌||◌, and-false}
use mathlib.Core.Logic.{◌≢◌}
use mathlib.Core.List.{List}
use Prim.Native.Nat.{ℕ, ◌+◌, ◌-◌, ◌≤◌, ◌<◌}
use native.Mathlib.Nat.{le_refl}
use native.Mathlib.Decide.{dec_lt, ℕ_discrete}
use native.Mathlib.Omega.{arith}
use lib.Dec.{leb, eqb}
use lib.ListN.{length, get_or, take}
use lib.Seq.{length-take-le, get_or-take}
use borrow.Author.Tests.{lt-ltb, le-ltb, le-leb, lt-leb, eq-eqb, ne_eqb}
use Rattle.bitset.specs.Members.{set_of, insert}
use Rattle.bitset.proofs.SetOf.{set_of_congr, insert_set_of, set_of_lt, no_member, member_set_of}
use Rattle.mapping.specs.Common.{unmapped, size}
use Rattle.connected.specs.Spreading.{is_mapped, mapped_set}
use Rattle.search.specs.declared.tables.Pair.{Pair}
use Rattle.search.specs.Walking.{OnTrail}
use Rattle.search.proofs.WordLevels.{size_take_le}
use Rattle.search.proofs.Trails.{trail_shorter, pairs_fall}
use Rattle.search.proofs.LastPairs.{Found, found}

-- the rows of the pairs that are not among the first `left`
pub record Gathered (path : List ℕ) (depth left set : ℕ) : Type 0 where
  -- where they begin
  pub from : ℕ
  pub within : from ≤ depth
  pub left_are : left ≡ size (take from path)
  pub set_is : set ≡ set_of 64 (λ v. leb from v && is_mapped (take depth path) v)

module _ (path : List ℕ) (depth : ℕ) (long : length path ≡ 64) (deep : depth ≤ 64) where
  decided : length (take depth path) ≡ depth
  decided = length-take-le depth path (omega arith)

  -- whether a row is mapped
  row_mapped : (v : ℕ) → v < depth → get_or path v 0 ≢ unmapped → is_mapped (take depth path) v ≡ true
  row_mapped v h m =
      rw (lt-ltb v (length (take depth path)) (omega (arith, decided)), get_or-take depth path v 0 h, ne_eqb (get_or path v 0) unmapped m)

  row_left_out : (v : ℕ) → v < depth → get_or path v 0 ≡ unmapped → is_mapped (take depth path) v ≡ false
  row_left_out v h e =
      rw (lt-ltb v (length (take depth path)) (omega (arith, decided)), get_or-take depth path v 0 h, eq-eqb (get_or path v 0) unmapped e)

  row_outside : (v : ℕ) → depth ≤ v → is_mapped (take depth path) v ≡ false
  row_outside v h = rw (le-ltb v (length (take depth path)) (omega (arith, decided)))

  -- between two places with as many pairs before them no row is mapped
  none_between : (k d v : ℕ) → d ≤ depth → size (take d path) ≤ size (take k path) → k ≤ v → v < d → is_mapped (take depth path) v ≡ false
  none_between k d v inside few after before = go (ℕ_discrete (get_or path v 0) unmapped)
    where
      go : Dec (get_or path v 0 ≡ unmapped) → is_mapped (take depth path) v ≡ false
      go (yes e) = row_left_out v (omega arith) e
      go (no m) = absurd (omega (arith, pairs_fall path d v before (omega arith) m, size_take_le path k v after))

  -- At first none is gathered,
  pub gathered_none : Gathered path depth (size (take depth path)) 0
  gathered_none = record {
    from = depth;
    within = le_refl depth;
    left_are = refl;
    set_is = sym ((no_member 64 (set_of_lt 64 _)).1 (λ v h. member_set_of 64 _ v h ∙ none v (dec_lt v depth)));
  }
    where
      none : (v : ℕ) → Dec (v < depth) → leb depth v && is_mapped (take depth path) v ≡ false
      none v (yes h) = rw (lt-leb depth v h)
      none v (no h) = rw (row_outside v (omega arith)) (and-false (leb depth v))

  module _ {trail : List Pair} {ws : List ℕ} (t : OnTrail path depth trail ws) where
    -- a turn adds the row of the last pair that is left,
    pub gathered_more : {left set row : ℕ} (d : Pair) → Gathered path depth left set → 0 < left → row ≡ (get_or trail (left - 1) d).row.0
        → Gathered path depth (left - 1) (insert set row)
    gathered_more {left} {set} {row} d g some is = record {
      from = f.row;
      within = omega (arith, f.below, g.within);
      left_are = f.before;
      set_is = ap₂ insert g.set_is row_is ∙ insert_set_of _ f.row ∙ set_of_congr 64 _ _ (λ v h. same v (ℕ_discrete v f.row) (dec_lt v f.row) (dec_lt v g.from));
    }
      where
        f : Found path g.from left trail ws
        f = found long (omega (arith, g.within)) g.left_are (trail_shorter g.within t) some

        row_is : row ≡ f.row
        row_is = is ∙ (f.says d).row_is

        same : (v : ℕ) → Dec (v ≡ f.row) → Dec (v < f.row) → Dec (v < g.from)
            → (eqb v f.row || (leb g.from v && is_mapped (take depth path) v)) ≡ (leb f.row v && is_mapped (take depth path) v)
        same v (yes e) d b =
            rw (e, eq-eqb f.row f.row refl, le-leb f.row f.row (omega arith), row_mapped f.row (omega (arith, f.below, g.within)) f.mapped)
        same v (no n) (yes h) b = rw (ne_eqb v f.row n, lt-leb f.row v h, lt-leb g.from v (omega (arith, f.below)))
        same v (no n) (no h) (yes b) =
            rw (ne_eqb v f.row n, lt-leb g.from v b, le-leb f.row v (omega arith))
            (sym (none_between (f.row + 1) g.from v g.within (omega (arith, f.passed.pairs_are, g.left_are)) (omega arith) b))
        same v (no n) (no h) (no b) = rw (ne_eqb v f.row n, le-leb f.row v (omega arith), le-leb g.from v (omega arith))

    -- and in the end all are.
    pub gathered_all : {set : ℕ} → Gathered path depth 0 set → set ≡ mapped_set (take depth path)
    gathered_all g = g.set_is ∙ set_of_congr 64 _ _ (λ v h. same v (dec_lt v g.from))
      where
        same : (v : ℕ) → Dec (v < g.from) → (leb g.from v && is_mapped (take depth path) v) ≡ is_mapped (take depth path) v
        same v (yes b) = rw (lt-leb g.from v b) (sym (none_between 0 g.from v g.within (omega (arith, g.left_are)) (omega arith) b))
        same v (no b) = rw (le-leb g.from v (omega arith))
