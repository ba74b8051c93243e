-- Lists padded with 0 to 64 entries.
use mathlib.Core.Path.{◌≡◌, sym, ap, ◌∙◌}
use mathlib.Core.List.{List}
use Prim.Native.Nat.{ℕ, ◌+◌, ◌-◌, ◌≤◌, ◌<◌}
use native.Mathlib.Decide.{dec_lt}
use native.Mathlib.Omega.{arith}
use lib.ListN.{length, get_or, take, replicate, length-append, length-take, length-replicate, get_or-replicate, get_or-append}
use lib.Seq.{ext_get_or, get_or-append-add, get_or-take}
use Rattle.checkpoint.specs.Checkpoints.{padded}

-- A padded list of at most 64 entries has 64.
pub padded_length : (l : List ℕ) → length l ≤ 64 → length (padded l) ≡ 64
padded_length l short =
    omega (arith, length-append l (replicate (64 - length l) 0), length-replicate {A = ℕ} (64 - length l) 0)

-- Past the list's end its padding has 0.
pub padded_rest : (l : List ℕ) (i : ℕ) → length l ≤ i → i < 64 → get_or (padded l) i 0 ≡ 0
padded_rest l i h long =
    let place : i ≡ length l + (i - length l) = omega arith in
    ap (λ (j : ℕ). get_or (padded l) j 0) place ∙ get_or-append-add l (replicate (64 - length l) 0) (i - length l) 0
    ∙ get_or-replicate (64 - length l) (i - length l) 0 0 (omega arith)

-- Of 64 entries that are 0 from the d-th on, the first d, padded, are all.
pub padded_back : (d : ℕ) (l : List ℕ) → length l ≡ 64 → d ≤ 64 → ((i : ℕ) → d ≤ i → i < 64 → get_or l i 0 ≡ 0) → padded (take d l) ≡ l
padded_back d l long short rest =
    ext_get_or 0 (padded (take d l)) l (omega (arith, whole)) (λ i h. entry i (omega (arith, whole)) (dec_lt i d))
  where
    front : length (take d l) ≡ d
    front = omega (arith, length-take d l)

    whole : length (padded (take d l)) ≡ 64
    whole = padded_length (take d l) (omega (arith, front))

    entry : (i : ℕ) → i < 64 → Dec (i < d) → get_or (padded (take d l)) i 0 ≡ get_or l i 0
    entry i h (yes early) = get_or-append (take d l) _ 0 i (omega (arith, front)) ∙ get_or-take d l i 0 early
    entry i h (no late) = padded_rest (take d l) i (omega (arith, front)) h ∙ sym (rest i (omega arith) h)
