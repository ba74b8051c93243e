-- 02, U1 and U6, on small lists: a pair is read old then new, each label low byte first, and pairs make no chain; 23 comes before 24, for the whole list.
use mathlib.Core.Path.{◌≡◌, refl}
use mathlib.Core.Bool.{true, false}
use mathlib.Core.List.{List, [], ◌∷◌}
use Prim.Native.Nat.{ℕ, ◌+◌, ◌*◌, ◌≤◌, ◌<◌}
use native.Mathlib.Omega.{arith}
use lib.ListN.{length, replicate, length-replicate, get_or-replicate}
use Rattle.bounded.specs.Below.{all_below, some_below}
use Rattle.answers.specs.Answer.{passed, refused}
use Rattle.substitutes.specs.Substitutes.{label_at, listed, agree}
use Rattle.substitutes.specs.Soundness.{substitutes_answer}
use Rattle.substitutes.proofs.SoundList.{sound_list_passes}

pub agreements :
    (agree (7 ∷ 0 ∷ 9 ∷ 0 ∷ []) 7 9 ≡ true)
    × (agree (9 ∷ 0 ∷ 7 ∷ 0 ∷ []) 7 9 ≡ false)
    × (agree (7 ∷ 0 ∷ 8 ∷ 0 ∷ 8 ∷ 0 ∷ 9 ∷ 0 ∷ []) 7 9 ≡ false)
    -- 7 stands before 9, but in two pairs
    × (agree (1 ∷ 0 ∷ 7 ∷ 0 ∷ 9 ∷ 0 ∷ 1 ∷ 0 ∷ []) 7 9 ≡ false)
    -- equal labels agree, listed or not
    × (agree (8 ∷ 0 ∷ 9 ∷ 0 ∷ []) 7 7 ≡ true)
    -- 263 has the low byte of 7, with which it agrees only where it is listed so
    × (agree (7 ∷ 1 ∷ 7 ∷ 0 ∷ []) 263 7 ≡ true)
    × (agree (7 ∷ 0 ∷ 7 ∷ 1 ∷ []) 263 7 ≡ false)
    × (agree [] 263 7 ≡ false)
unfolding agree listed some_below
agreements = (refl, refl, refl, refl, refl, refl, refl, refl)

pub answers :
    (substitutes_answer [] ≡ passed)
    -- repeated pairs and pairs of equal labels
    × (substitutes_answer (7 ∷ 0 ∷ 9 ∷ 0 ∷ 7 ∷ 0 ∷ 9 ∷ 0 ∷ 7 ∷ 0 ∷ 7 ∷ 0 ∷ []) ≡ passed)
    -- 256 for 7: a byte 0 is no label 0
    × (substitutes_answer (0 ∷ 1 ∷ 7 ∷ 0 ∷ []) ≡ passed)
    × (substitutes_answer (0 ∷ 0 ∷ 7 ∷ 0 ∷ []) ≡ refused 24)
    × (substitutes_answer (7 ∷ 0 ∷ 0 ∷ 0 ∷ []) ≡ refused 24)
    × (substitutes_answer (7 ∷ 9 ∷ []) ≡ refused 23)
    -- four does not divide the length, and there is a label 0
    × (substitutes_answer (0 ∷ 0 ∷ 7 ∷ 0 ∷ 9 ∷ 0 ∷ []) ≡ refused 23)
    × (substitutes_answer (replicate 1028 1) ≡ refused 23)
unfolding substitutes_answer all_below
answers = (refl, refl, refl, refl, refl, refl, refl, refl)

-- 1,024 bytes are not too long.
pub longest : substitutes_answer (replicate 1024 1) ≡ passed
longest =
    sound_list_passes ones
    (record {
      whole_pairs = omega (arith, size);
      length_max = omega (arith, size);
      labelled = λ k h. (one (4 * k) (omega (arith, size)), one (4 * k + 2) (omega (arith, size)));
    })
  where
    ones : List ℕ
    ones = replicate 1024 1

    size : length ones ≡ 1024
    size = length-replicate {A = ℕ} 1024 1

    one : (i : ℕ) → i < 1024 → 1 ≤ label_at ones i
    one i h = omega (arith, get_or-replicate {A = ℕ} 1024 i 1 0 h)
