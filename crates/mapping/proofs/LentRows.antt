-- The check by what the code is lent is the check of the problem that was lent.
use mathlib.Core.Path.{◌≡◌, refl}
use mathlib.Core.Bool.{Bool, true, false}
use mathlib.Core.List.{List}
use Prim.Native.Nat.{ℕ, ◌≤◌, ◌<◌}
use native.Mathlib.Decide.{ℕ_discrete}
use native.Mathlib.Omega.{arith}
use lib.Dec.{ltb}
use lib.ListN.{length, get_or}
use borrow.Author.Tests.{ltb-true, ne_eqb}
use Rattle.bounded.proofs.First.{first_below_congr}
use Rattle.substitutes.specs.Agreeing.{Agreeing}
use Rattle.problem.specs.Problem.{Problem, SoundProblem}
use Rattle.problem.specs.declared.Problem.{Problem as LentProblem}
use Rattle.problem.specs.Lent.{lent}
use Rattle.problem.proofs.VertexSets.{agreeing_vertices, vertex_member}
use Rattle.mapping.specs.Check.{row_fault, list_outcome, list_by}
use Rattle.mapping.specs.LentRows.{lent_row}

-- What the check asks of what it is lent: a sound problem has it.
pub lent_fits : (P : Problem) → SoundProblem P
    → ((length P.old.edges ≡ 4096) × (length P.new.edges ≡ 4096)) × (P.old.order ≤ 64) × (P.new.order ≤ 64)
lent_fits P s = ((s.old_sound.edges_length, s.new_sound.edges_length), s.old_sound.order_max, s.new_sound.order_max)

module _ (p : LentProblem) {sets : List ℕ} (sound : SoundProblem (lent p)) (agreed : Agreeing p.old.labels.now p.new.labels.now p.substitutes.now sets) where
  -- A row of an old vertex: an entry that is a new vertex is in the row's set exactly where the labels agree.
  lent_row_lem : (l : List ℕ) (v : ℕ) → v < p.old.order → lent_row p sets l v ≡ row_fault (lent p) l v
  unfolding lent_row row_fault
  lent_row_lem l v h = go (ltb (get_or l v 0) p.new.order) refl
    where
      go : (t : Bool) → ltb (get_or l v 0) p.new.order ≡ t → lent_row p sets l v ≡ row_fault (lent p) l v
      go true e =
          let P = lent p in
          let below = ltb-true _ _ e in
          rw (vertex_member P (agreeing_vertices P sound agreed) v h (get_or l v 0) below (omega (arith, sound.new_sound.order_max))) refl
      go false e = rw e refl

  -- The whole mapping.
  pub lent_list : (l : List ℕ) → list_by p.old.order (lent_row p sets l) l ≡ list_outcome (lent p) l
  unfolding list_outcome
  lent_list l = go (ℕ_discrete (length l) p.old.order)
    where
      go : Dec (length l ≡ p.old.order) → list_by p.old.order (lent_row p sets l) l ≡ list_outcome (lent p) l
      go (yes e) =
          rw (first_below_congr (length l) (lent_row p sets l) (row_fault (lent p) l) (λ v h. lent_row_lem l v (omega arith))) refl
      go (no n) = rw (ne_eqb (length l) p.old.order n) refl
