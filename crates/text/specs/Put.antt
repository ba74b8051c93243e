-- A text put into a buffer as far as there is room, and lines of a word and numbers: the lines of 01's "The refit program" are made of these.
use Rattle.std.specs.Prelude.{◌≡◌, List, [], ◌∷◌, ◌++◌, ℕ, ◌+◌, ◌-◌, length, take}
use Rattle.std.proofs.lemmas.List.Edits.{sets}
use Rattle.text.specs.Decimal.{decimal}

-- what of a text has room in a buffer from a place on
abbrev pub fitting : List ℕ → List ℕ → ℕ → List ℕ
fitting text buffer at = take (length buffer - at) text

-- a text put at a place of a buffer: the place after what has room, and the buffer then
pub record Put (text before : List ℕ) (at place : ℕ) (buffer : List ℕ) : Type 0 where
  pub place_is : place ≡ at + length (fitting text before at)
  pub bytes_are : buffer ≡ sets before at (fitting text before at)

-- a word, a number, and the end of the line
abbrev pub number_line : List ℕ → ℕ → List ℕ
number_line word n = word ++ decimal n ++ (10 ∷ [])

-- a word, two numbers with a space between them, and the end of the line
abbrev pub pair_line : List ℕ → ℕ → ℕ → List ℕ
pair_line word m n = word ++ decimal m ++ (32 ∷ []) ++ decimal n ++ (10 ∷ [])
