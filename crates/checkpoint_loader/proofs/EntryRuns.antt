-- Entries read one after the other into 64 bytes: the invariant of the loop.
use mathlib.Core.Path.{◌≡◌, refl, sym, ap, ◌∙◌}
use mathlib.Core.List.{List, [], ◌∷◌, ◌++◌}
use Prim.Native.Nat.{ℕ, suc, ◌+◌, ◌-◌, ◌*◌, ◌≤◌, ◌<◌}
use native.Mathlib.Omega.{arith}
use lib.ListN.{length, get_or, set, replicate, length-append}
use lib.Seq.{set_at, append_snoc}
use Rattle.bounded.specs.Below.{run_below}
use Rattle.bounded.proofs.Below.{run_below_add_one}
use Rattle.checkpoint.specs.Checkpoints.{padded}
use Rattle.checkpoint_loader.specs.Loading.{entries}
use Rattle.checkpoint_loader.proofs.Pairs.{length_values}

-- a byte stored after a list, in its padding
padded_next : (l : List ℕ) (x i : ℕ) → length l ≡ i → i < 64 → set (padded l) i x ≡ padded (l ++ (x ∷ []))
padded_next l x i counted h =
    let left : 64 - length l ≡ suc (64 - length (l ++ (x ∷ []))) = omega (arith, length-append l (x ∷ [])) in
    let rest : List ℕ = replicate (64 - length (l ++ (x ∷ []))) 0 in
    rw left (set_at l 0 rest x i counted ∙ sym (append_snoc l x rest))

-- The invariant: of the k entries from the place `from` on, those below i stand in the list, with 0 after them.
pub record ReadTo (bytes : List ℕ) (from k i : ℕ) (list : List ℕ) : Type 0 where
  pub within : i ≤ k
  pub told : list ≡ padded (entries bytes from i)

-- At first none is read.
pub read_none : (bytes : List ℕ) (from k : ℕ) → ReadTo bytes from k 0 (replicate 64 0)
unfolding run_below
read_none bytes from k = record { within = omega arith; told = refl }

-- The next entry is the second byte from that place on.
pub read_more : (bytes : List ℕ) (from k i : ℕ) (list : List ℕ) → ReadTo bytes from k i list → k ≤ 64 → i < k
    → ReadTo bytes from k (i + 1) (set list i (get_or bytes (from + 2 * i + 1) 0))
read_more bytes from k i list r small h =
    record {
      within = omega arith;
      told =
          let x = get_or bytes (from + 2 * i + 1) 0 in
          rw r.told
          (padded_next (entries bytes from i) x i (length_values i (λ j. get_or bytes (from + 2 * j + 1) 0)) (omega arith)
          ∙ ap padded (sym (run_below_add_one i (λ j. get_or bytes (from + 2 * j + 1) 0 ∷ []))));
    }

-- At the end all are read.
pub read_all : (bytes : List ℕ) (from k i : ℕ) (list : List ℕ) → ReadTo bytes from k i list → k ≤ i → list ≡ padded (entries bytes from k)
read_all bytes from k i list r h =
    let e : i ≡ k = omega (arith, r.within) in
    r.told ∙ ap (λ (j : ℕ). padded (entries bytes from j)) e
