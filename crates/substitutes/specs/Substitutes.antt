-- Which labels of vertices agree, by a lent list of substitutes: 02, U1, "A lent list gives pairs of .. kinds, old then new. Part kinds agree when they are
-- equal or the pair is listed", and 02, U6, "each substitute pair takes four bytes, each kind low byte first".
use Rattle.std.specs.Prelude.{◌≡◌, Bool, ◌&&◌, ◌||◌, List, ℕ, ◌+◌, ◌*◌, ◌/◌, ◌<◌, eqb, length}
use Rattle.little_endian.specs.LittleEndian.{two_bytes_at}
use Rattle.bounded.specs.Below.{some_below}

-- "each substitute pair takes four bytes"
abbrev pub pairs : List ℕ → ℕ
pairs list = length list / 4

-- "each kind low byte first"
abbrev pub label_at : List ℕ → ℕ → ℕ
label_at list at = two_bytes_at list at

-- pair k: "old then new"
abbrev pub old_label : List ℕ → ℕ → ℕ
old_label list k = label_at list (4 * k)

abbrev pub new_label : List ℕ → ℕ → ℕ
new_label list k = label_at list (4 * k + 2)

-- pair k is that of a and b
abbrev pub pair_is : List ℕ → ℕ → ℕ → ℕ → Bool
pair_is list a b k = eqb (old_label list k) a && eqb (new_label list k) b

unfoldable pub listed : List ℕ → ℕ → ℕ → Bool
listed list a b = some_below (pairs list) (pair_is list a b)

-- "Part kinds agree when they are equal or the pair is listed": a is an old vertex's label and b a new vertex's
unfoldable pub agree : List ℕ → ℕ → ℕ → Bool
agree list a b = eqb a b || listed list a b

-- the same as a proposition: where the pair stands
pub record Listed (list : List ℕ) (a b : ℕ) : Type 0 where
  pub place : ℕ
  pub inside : place < pairs list
  pub old_is : old_label list place ≡ a
  pub new_is : new_label list place ≡ b
