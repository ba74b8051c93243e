-- V computed a row at a time: as it is defined, with two calls of itself, V(11, 54) takes 2^55 calls.
use mathlib.Core.Path.{◌≡◌, refl, ◌∙◌}
use mathlib.Core.List.{List, [], ◌∷◌}
use Prim.Native.Nat.{ℕ, zero, suc, ◌+◌, ◌-◌, ◌*◌, ◌≤◌, ◌<◌}
use native.Mathlib.Nat.{not-suc-le-zero, le_of_suc-le-suc}
use native.Mathlib.Omega.{arith}
use lib.ListN.{length, get_or, replicate, length-replicate, get_or-replicate}
use Rattle.answers.specs.Answer.{accepted}
use Rattle.search_tree.specs.StepLimit.{step_limit}
use Rattle.step_limit.specs.StepLimits.{capped, foretold}
use Rattle.step_limit.proofs.Foretold.{foretold_limit}

-- the recurrence along a row, from the column m on: given are the row before, and what stands left of it
unfoldable pub next_row : ℕ → ℕ → List ℕ → List ℕ
next_row m left [] = []
next_row m left (a ∷ above) = (1 + m * left + a) ∷ next_row (suc m) a above

-- V(0, n) to V(w - 1, n)
unfoldable pub limit_row : ℕ → ℕ → List ℕ
limit_row w zero = replicate w 1
limit_row w (suc n) = next_row 0 0 (limit_row w n)

next_row_length : (m left : ℕ) (above : List ℕ) → length (next_row m left above) ≡ length above
unfolding next_row
next_row_length m left [] = refl
next_row_length m left (a ∷ above) = rw (next_row_length (suc m) a above)

limit_row_length : (w n : ℕ) → length (limit_row w n) ≡ w
unfolding limit_row
limit_row_length w zero = length-replicate w 1
limit_row_length w (suc n) = next_row_length 0 0 (limit_row w n) ∙ limit_row_length w n

next_row_at : (m left : ℕ) (above : List ℕ) (k : ℕ) → k < length above
    → get_or (next_row m left above) k 0 ≡ 1 + (m + k) * get_or (left ∷ above) k 0 + get_or above k 0
unfolding next_row
next_row_at m left [] k h = absurd (not-suc-le-zero h)
next_row_at m left (a ∷ above) zero h =
    let here : m + zero ≡ m = omega arith in
    rw here
next_row_at m left (a ∷ above) (suc k) h =
    let next : m + suc k ≡ suc m + k = omega arith in
    rw next (next_row_at (suc m) a above k (le_of_suc-le-suc h))

-- The entries of a row are the step limits.
pub row_limit : (w n m : ℕ) → m < w → get_or (limit_row w n) m 0 ≡ step_limit m n
unfolding limit_row step_limit
row_limit w zero m h = get_or-replicate w m 1 0 h
row_limit w (suc n) zero h =
    rw (next_row_at 0 0 (limit_row w n) zero (omega (arith, limit_row_length w n)), row_limit w n zero h) (omega arith)
row_limit w (suc n) (suc m) h =
    let here : 0 + suc m ≡ suc m = omega arith in
    let before : suc m - 1 ≡ m = omega arith in
    rw (next_row_at 0 0 (limit_row w n) (suc m) (omega (arith, limit_row_length w n)), here, before)
    (rw (row_limit w n m (omega arith), row_limit w n (suc m) h))

pub foretold_row : (m n : ℕ) → m ≤ 64 → n ≤ 64 → foretold m n ≡ accepted (capped (get_or (limit_row (suc m) n) m 0))
foretold_row m n h l = rw (row_limit (suc m) n m (omega arith)) (foretold_limit m n h l)
