-- The test of a checkpoint's unused bytes at one place, from the tests that the code makes there.
use mathlib.Core.Path.{◌≡◌, refl, sym}
use mathlib.Core.Logic.{◌⊎◌, ⊎_elim}
use mathlib.Core.Bool.{Bool, true, false, cond, ◌&&◌, ◌||◌, and-false, or-true}
use mathlib.Core.List.{List}
use Prim.Native.Nat.{ℕ, ◌≤◌, ◌<◌, zero-le}
use lib.Dec.{ltb, eqb}
use lib.ListN.{get_or}
use borrow.Author.Tests.{lt-ltb, le-ltb, eq-eqb, ne_eqb}
use Rattle.checkpoint.specs.declared.Checkpoint.{Checkpoint}
use Rattle.checkpoint.specs.Checkpoints.{rest_fits}

-- a checkpoint with the fields that the test reads; the others stand for any
abbrev pub with_bytes : ℕ → Bool → List ℕ → List ℕ → Checkpoint
with_bytes depth holds path incumbent =
    record { minimum = 0; steps = 0; depth = depth; path = path; finished = false; holds = holds; incumbent = incumbent }

-- the test of one byte: it is used or 0
before_or_zero : (i used b : ℕ) → (i < used) ⊎ (b ≡ 0) → (ltb i used || eqb b 0) ≡ true
before_or_zero i used b = ⊎_elim (λ h. rw (lt-ltb i used h)) (λ z. rw (eq-eqb b 0 z) (or-true (ltb i used)))

-- the bytes of what is held are used up to n, and none where nothing is held
used_test : (holds : Bool) (n i : ℕ) → (holds && ltb i n) ≡ ltb i (cond holds n 0)
used_test true n i = refl
used_test false n i = sym (le-ltb i 0 zero-le)

-- Where an unused byte of the path is not 0, the test fails.
pub path_nonzero : (n : ℕ) (c : Checkpoint) (i : ℕ) → c.depth ≤ i → (get_or c.path i 0 ≡ 0 → ⊥) → rest_fits n c i ≡ false
path_nonzero n c i h ne = rw (le-ltb i c.depth h, ne_eqb (get_or c.path i 0) 0 ne)

module _ (n : ℕ) (c : Checkpoint) (i used : ℕ) (u : used ≡ cond c.holds n 0) where
  -- Where each of the two bytes is used or 0, the test passes.
  pub rest_passes : (i < c.depth) ⊎ (get_or c.path i 0 ≡ 0) → (i < used) ⊎ (get_or c.incumbent i 0 ≡ 0) → rest_fits n c i ≡ true
  rest_passes p m =
      rw (used_test c.holds n i, ← u, before_or_zero i c.depth (get_or c.path i 0) p) (before_or_zero i used (get_or c.incumbent i 0) m)

  -- Where an unused byte of the incumbent is not 0, the test fails.
  pub incumbent_nonzero : used ≤ i → (get_or c.incumbent i 0 ≡ 0 → ⊥) → rest_fits n c i ≡ false
  incumbent_nonzero h ne =
      rw (used_test c.holds n i, ← u, le-ltb i used h, ne_eqb (get_or c.incumbent i 0) 0 ne) (and-false (ltb i c.depth || eqb (get_or c.path i 0) 0))
