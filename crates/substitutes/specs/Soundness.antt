-- The tests that find a list of substitutes sound, in the order of 02, U1: "23 .., then 24 a kind 0 in it", where since 02, U6, "23 means a length that four
-- doesn't divide or above 1,024".
use Rattle.std.specs.Prelude.{◌≡◌, Bool, cond, not, ◌&&◌, List, ℕ, ◌%◌, ◌≤◌, ◌<◌, leb, eqb, length}
use Rattle.bounded.specs.Below.{all_below}
use Rattle.answers.specs.Answer.{Answer, passed, refused}
use Rattle.substitutes.specs.Substitutes.{pairs, old_label, new_label}

abbrev pub length_fits : List ℕ → Bool
length_fits list = eqb (length list % 4) 0 && leb (length list) 1024

abbrev pub pair_sound : List ℕ → ℕ → Bool
pair_sound list k = not (eqb (old_label list k) 0) && not (eqb (new_label list k) 0)

unfoldable pub substitutes_answer : List ℕ → Answer
substitutes_answer list =
    cond (length_fits list) (cond (all_below (pairs list) (pair_sound list)) passed (refused 24)) (refused 23)

-- the same as a proposition
pub record SoundSubstitutes (list : List ℕ) : Type 0 where
  pub whole_pairs : length list % 4 ≡ 0
  pub length_max : length list ≤ 1024
  pub labelled : (k : ℕ) → k < pairs list → (1 ≤ old_label list k) × (1 ≤ new_label list k)
