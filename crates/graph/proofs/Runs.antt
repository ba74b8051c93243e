-- Runs of edge bytes: eight of them by the number that they say, and a run by its parts.
use mathlib.Core.Path.{◌≡◌, refl, sym, ap, subst, ◌∙◌}
use mathlib.Core.Bool.{Bool, true, false}
use mathlib.Core.Logic.{◌↔◌}
use mathlib.Core.List.{List}
use Prim.Native.Nat.{ℕ, ◌+◌, ◌*◌, ◌-◌, ◌≤◌, ◌<◌}
use native.Mathlib.Nat.{add-zero, mul-zero, mul-one}
use native.Mathlib.Decide.{dec_lt}
use native.Mathlib.Omega.{arith}
use borrow.Author.Count.{below_none, below_more}
use borrow.Author.Tests.{eqb-true, eq-eqb}
use lib.Dec.{eqb}
use lib.ListN.{get_or}
use lib.Seq.{ext_get_or}
use Rattle.little_endian.specs.LittleEndian.{from_little}
use Rattle.little_endian.proofs.LittleEndian.{from_little_zero, from_little_injective}
use Rattle.graph.specs.Graph.{place}
use Rattle.graph.specs.EdgeRows.{Between, Null, Same, eight_by}
use Rattle.bounded.proofs.Tells.{tells_failed, tells_refuted}

-- ---- a run by its parts

module _ (P : ℕ → Type 0) where
  pub run_none : (from to : ℕ) → to ≤ from → Between P from to
  unfolding Between
  run_none from to none i h l = absurd (omega arith)

  pub run_one : (from : ℕ) → P from → Between P from (from + 1)
  unfolding Between
  run_one from p i h l = let q : from ≡ i = omega arith in subst P q p

  pub run_at : (from to i : ℕ) → Between P from to → from ≤ i → i < to → P i
  unfolding Between
  run_at from to i p = p i

  pub run_join : (from middle to : ℕ) → Between P from middle → Between P middle to → Between P from to
  unfolding Between
  run_join from middle to p q i h l =
      elim (dec_lt i middle) [
        | yes below ↦ p i h below
        | no above ↦ q i (omega arith) l
      ]

  -- the word that follows k others
  pub run_word : (from k : ℕ) → Between P from (8 * k) → Between P (8 * k) (8 * k + 8) → Between P from (8 * (k + 1))
  run_word from k p q = let more : 8 * k + 8 ≡ 8 * (k + 1) = omega arith in subst (Between P from) more (run_join from (8 * k) (8 * k + 8) p q)

  pub run_part : (from to first last : ℕ) → from ≤ first → last ≤ to → Between P from to → Between P first last
  unfolding Between
  run_part from to first last h l p i hi li = p i (omega arith) (omega arith)

  -- a test of a run fails where that of a part does, and after one part has passed it is that of the rest
  pub run_fails : {r : Bool} (from to first last : ℕ) → (r ≡ true) ↔ Between P first last → r ≡ false → from ≤ first → last ≤ to
      → (◌≡◌ {A = Bool} false true) ↔ Between P from to
  run_fails from to first last test e h l = tells_failed (λ p. tells_refuted test e (run_part from to first last h l p))

  pub run_rest : {r : Bool} (from middle to : ℕ) → from ≤ middle → Between P from middle → (r ≡ true) ↔ Between P middle to → (r ≡ true) ↔ Between P from to
  run_rest from middle to h p test =
      (λ e. run_join from middle to p (test.0 e), λ whole. test.1 (run_part from to middle to h (omega arith) whole))

-- ---- eight bytes

eight_at : (step : ℕ) (edges : List ℕ) (from k : ℕ) → k < 8 → get_or (eight_by step edges from) k 0 ≡ get_or edges (from + step * k) 0
eight_at step edges from =
    more 7 (more 6 (more 5 (more 4 (more 3 (more 2 (more 1 (more 0 (below_none At) (rw (mul-zero, add-zero))) (rw mul-one)) refl) refl) refl) refl) refl) refl
  where
    At : ℕ → Type 0
    At k = get_or (eight_by step edges from) k 0 ≡ get_or edges (from + step * k) 0

    more : (i : ℕ) → ((k : ℕ) → k < i → At k) → At i → (k : ℕ) → k < i + 1 → At k
    more = below_more At

-- Their number is 0 exactly where they are.
pub eight_null : (edges : List ℕ) (from word : ℕ) → word ≡ from_little (eight_by 1 edges from) → (eqb word 0 ≡ true) ↔ Between (Null edges) from (from + 8)
unfolding Between
eight_null edges from word e = (
  λ passed i h l.
      let here : from + 1 * (i - from) ≡ i = omega arith in
      subst (Null edges) here
      (sym (eight_at 1 edges from (i - from) (omega arith)) ∙ (from_little_zero (eight_by 1 edges from)).0 (sym e ∙ eqb-true word 0 passed) (i - from) (omega arith)),
  λ null. eq-eqb word 0
      (e ∙ (from_little_zero (eight_by 1 edges from)).1 (λ k h. eight_at 1 edges from k h ∙ null (from + 1 * k) (omega arith) (omega arith))),
)

-- Those of a row and those of a column have one number exactly where they are the same.
pub eight_same : (edges : List ℕ) (a b row column : ℕ) → ((i : ℕ) → get_or edges i 0 < 256)
    → row ≡ from_little (eight_by 1 edges (place a b))
    → column ≡ from_little (eight_by 64 edges (place b a))
    → (eqb row column ≡ true) ↔ Between (Same edges a) b (b + 8)
unfolding Between
eight_same edges a b row column byte er ec = (
  λ passed i h l.
      let k : i - b < 8 = omega arith in
      let right : place a b + 1 * (i - b) ≡ place a i = omega arith in
      let down : place b a + 64 * (i - b) ≡ place i a = omega arith in
      let equal : eight_by 1 edges (place a b) ≡ eight_by 64 edges (place b a) =
      from_little_injective (eight_by 1 edges (place a b)) (eight_by 64 edges (place b a)) refl (small 1 (place a b)) (small 64 (place b a)) (sym er ∙ eqb-true row column passed ∙ ec) in
      ap (λ (at : ℕ). get_or edges at 0) (sym right) ∙ sym (eight_at 1 edges (place a b) (i - b) k)
      ∙ ap (λ (l : List ℕ). get_or l (i - b) 0) equal
      ∙ eight_at 64 edges (place b a) (i - b) k ∙ ap (λ (at : ℕ). get_or edges at 0) down,
  λ same. eq-eqb row column
      (er ∙ ap from_little (ext_get_or 0 (eight_by 1 edges (place a b)) (eight_by 64 edges (place b a)) refl (each same)) ∙ sym ec),
)
  where
    small : (step from k : ℕ) → k < 8 → get_or (eight_by step edges from) k 0 < 256
    small step from k h = rw (eight_at step edges from k h) (byte (from + step * k))

    each : ((i : ℕ) → b ≤ i → i < b + 8 → Same edges a i)
        → (k : ℕ) → k < 8 → get_or (eight_by 1 edges (place a b)) k 0 ≡ get_or (eight_by 64 edges (place b a)) k 0
    each same k h =
        let right : place a b + 1 * k ≡ place a (b + k) = omega arith in
        let down : place b a + 64 * k ≡ place (b + k) a = omega arith in
        eight_at 1 edges (place a b) k h ∙ ap (λ (at : ℕ). get_or edges at 0) right ∙ same (b + k) (omega arith) (omega arith)
        ∙ ap (λ (at : ℕ). get_or edges at 0) (sym down) ∙ sym (eight_at 64 edges (place b a) k h)
