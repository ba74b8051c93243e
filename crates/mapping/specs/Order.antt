-- The order of mappings: 01, "Good partner lists", "compare lists from the first byte; at the first difference the smaller byte comes first".
use Rattle.std.specs.Prelude.{◌≡◌, Bool, true, false, ◌&&◌, ◌||◌, List, [], ◌∷◌, ℕ, ltb, eqb}

unfoldable pub before : List ℕ → List ℕ → Bool
before [] m = false
before (a ∷ l) [] = false
before (a ∷ l) (b ∷ m) = ltb a b || (eqb a b && before l m)

abbrev pub Before : List ℕ → List ℕ → Type 0
Before l m = before l m ≡ true
