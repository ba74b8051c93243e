use mathlib.Core.Path.{◌≡◌, refl, sym, ◌∙◌}
use mathlib.Core.Bool.{Bool, true, false, ◌||◌, true≢false}
use mathlib.Core.Logic.{⊎_elim}
use mathlib.Core.List.{List}
use Prim.Native.Nat.{ℕ, ◌+◌, ◌<◌}
use native.Mathlib.Nat.{eq-or-lt_of_le}
use native.Mathlib.Omega.{arith}
use lib.Dec.{eqb}
use lib.ListN.{get_or}
use borrow.Author.Tests.{eq-eqb}
use Rattle.bitset.specs.Members.{member, insert}
use Rattle.bitset.proofs.SetOf.{member_set_of}
use Rattle.graph.specs.Graph.{place}
use Rattle.search.proofs.words.first_rows.Invariants.{Passed}
use Rattle.search.proofs.words.first_rows.Goals as goal
use Rattle.search.proofs.words.first_rows.Goals.{else-many+else-edges-from-ne0, then-many}

module _ (edges : List ℕ) (row word r : ℕ) (inside : r < 64) (passed : Passed edges row word r) where
  -- the row is put into the word,
  added : Passed edges row (insert word r) (r + 1)
  added k after below out =
      let none = neither (eqb k r) (member word k) (sym (member_set_of 64 (λ j. eqb j r || member word j) k (omega arith)) ∙ out) in
      ⊎_elim (λ (q : k ≡ r). absurd (true≢false (sym (eq-eqb k r q) ∙ none.0))) (λ less. passed k after less none.1) (eq-or-lt_of_le (omega arith))
    where
      neither : (a b : Bool) → (a || b) ≡ false → (a ≡ false) × (b ≡ false)
      neither true b e = absurd (true≢false e)
      neither false b e = (refl, e)

  -- or it has no edge
  skipped : get_or edges (place row r) 0 ≡ 0 → Passed edges row word (r + 1)
  skipped null k after below out =
      ⊎_elim (λ (q : k ≡ r). rw q null) (λ less. passed k after less out) (eq-or-lt_of_le (omega arith))

pub loop-r-preserved : goal.loop-r-preserved
loop-r-preserved c =
    let l = c.loop-r in
    let edges = c.args.edges.now in
    let row = c.args.row.0 in
    elim c.if-many.branch [
      | then-many w ↦ rw (w.word-is, w.with-word.ensures) (added edges row l.word l.r c.loop-r-test.true l.invariant)
      | else-many+else-edges-from-ne0 w ↦ rw w.word-is (skipped edges row l.word l.r c.loop-r-test.true l.invariant w.if-edges-from-ne0.false)
    ]
