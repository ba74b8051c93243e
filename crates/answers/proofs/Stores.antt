-- Laws of a run of stores, `sets`, and the invariant of a loop that stores a run of bytes over all numbers below a bound, piece by piece.
use mathlib.Core.Path.{◌≡◌, refl, sym, ap, ◌∙◌}
use mathlib.Core.List.{List, [], ◌∷◌, ◌++◌}
use Prim.Native.Nat.{ℕ, suc, ◌+◌, ◌≤◌, ◌<◌}
use native.Mathlib.Nat.{add-zero, zero-add}
use native.Mathlib.Omega.{arith}
use lib.ListN.{length, set}
use lib.Seq.{sets, length-sets, sets-eq}
use Rattle.bounded.specs.Below.{run_below}
use Rattle.bounded.proofs.Below.{run_below_add_one, length_run_below_add_one, length_run_below_piece}
use Rattle.answers.specs.Output.{overwrite}

-- Bytes stored one list after the other are stored as one list.
pub sets_append : (vs ws l : List ℕ) (i : ℕ) → sets l i (vs ++ ws) ≡ sets (sets l i vs) (i + length vs) ws
sets_append [] ws l i = ap (λ (k : ℕ). sets l k ws) (sym (add-zero i))
sets_append (v ∷ vs) ws l i =
    let e : suc i + length vs ≡ i + suc (length vs) = omega arith in
    sets_append vs ws (set l i v) (suc i) ∙ ap (λ (k : ℕ). sets (sets (set l i v) (suc i) vs) k ws) e

-- Bytes stored from place 0 on, where they fit, overwrite the front.
pub sets_front : (bytes buffer : List ℕ) → length bytes ≤ length buffer → sets buffer 0 bytes ≡ overwrite bytes buffer
sets_front bytes buffer h = rw (sets-eq bytes buffer 0 (omega arith), zero-add)

-- The invariant: of the n pieces of the run f, stored into `before` from the place `start` on, those below k stand in `out`, and `at` is the
-- place after them.
pub record StoredTo (n : ℕ) (f : ℕ → List ℕ) (start : ℕ) (before : List ℕ) (k at : ℕ) (out : List ℕ) : Type 0 where
  pub within : k ≤ n
  pub place : at ≡ start + length (run_below k f)
  pub bytes : out ≡ sets before start (run_below k f)
  pub kept : length out ≡ length before

-- At first no piece is stored.
pub stored_none : (n : ℕ) (f : ℕ → List ℕ) (start : ℕ) (before : List ℕ) → StoredTo n f start before 0 start before
unfolding run_below
stored_none n f start before = record { within = omega arith; place = sym (add-zero start); bytes = refl; kept = refl }

-- The next piece is stored at the place after those before it.
pub stored_more : (n : ℕ) (f : ℕ → List ℕ) (start : ℕ) (before : List ℕ) (k at : ℕ) (out : List ℕ)
    → StoredTo n f start before k at out → k < n
    → (at' : ℕ) (out' : List ℕ) → at' ≡ at + length (f k) → out' ≡ sets out at (f k)
    → StoredTo n f start before (k + 1) at' out'
stored_more n f start before k at out s h at' out' p q =
    record {
      within = omega arith;
      place = omega (arith, length_run_below_add_one k f, s.place);
      bytes =
          q
          ∙ ap (λ (l : List ℕ). sets l at (f k)) s.bytes
          ∙ ap (λ (i : ℕ). sets (sets before start (run_below k f)) i (f k)) s.place
          ∙ sym (sets_append (run_below k f) (f k) before start)
          ∙ ap (sets before start) (sym (run_below_add_one k f));
      kept = ap length q ∙ length-sets out at (f k) ∙ s.kept;
    }

-- Where all of the run has room, so has the next piece.
pub stored_room : (n : ℕ) (f : ℕ → List ℕ) (start : ℕ) (before : List ℕ) (k at : ℕ) (out : List ℕ)
    → StoredTo n f start before k at out → k < n → start + length (run_below n f) ≤ length before → at + length (f k) ≤ length out
stored_room n f start before k at out s h room = omega (arith, length_run_below_piece k n f h, s.place, s.kept)

-- At the end all of the run is stored, and `at` is the place after it.
pub stored_all : (n : ℕ) (f : ℕ → List ℕ) (start : ℕ) (before : List ℕ) (k at : ℕ) (out : List ℕ)
    → StoredTo n f start before k at out → n ≤ k → (at ≡ start + length (run_below n f)) × (out ≡ sets before start (run_below n f))
stored_all n f start before k at out s h =
    let e : k ≡ n = omega arith in
    (s.place ∙ ap (λ (m : ℕ). start + length (run_below m f)) e, s.bytes ∙ ap (λ (m : ℕ). sets before start (run_below m f)) e)
