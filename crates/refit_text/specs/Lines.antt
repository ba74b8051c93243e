-- The lines that refit prints, as bytes: 01, "The refit program".
use Rattle.std.specs.Prelude.{Bool, cond, not, List, [], ◌∷◌, ℕ, eqb, length, get_or}
use Rattle.bounded.specs.Below.{all_below, run_below}
use Rattle.mapping.specs.Common.{unmapped, size}
use Rattle.text.specs.Put.{number_line, pair_line}

-- "state done"; "Stopped prints state stopped"
abbrev pub state_line : Bool → List ℕ
state_line finished =
    cond finished
    (115 ∷ 116 ∷ 97 ∷ 116 ∷ 101 ∷ 32 ∷ 100 ∷ 111 ∷ 110 ∷ 101 ∷ 10 ∷ [])
    (115 ∷ 116 ∷ 97 ∷ 116 ∷ 101 ∷ 32 ∷ 115 ∷ 116 ∷ 111 ∷ 112 ∷ 112 ∷ 101 ∷ 100 ∷ 10 ∷ [])

-- "size ", "steps ", "fence ", "keep ", "remove ", "fit ", "refused "
abbrev pub size_word : List ℕ
size_word = 115 ∷ 105 ∷ 122 ∷ 101 ∷ 32 ∷ []

abbrev pub steps_word : List ℕ
steps_word = 115 ∷ 116 ∷ 101 ∷ 112 ∷ 115 ∷ 32 ∷ []

abbrev pub fence_word : List ℕ
fence_word = 102 ∷ 101 ∷ 110 ∷ 99 ∷ 101 ∷ 32 ∷ []

abbrev pub keep_word : List ℕ
keep_word = 107 ∷ 101 ∷ 101 ∷ 112 ∷ 32 ∷ []

abbrev pub remove_word : List ℕ
remove_word = 114 ∷ 101 ∷ 109 ∷ 111 ∷ 118 ∷ 101 ∷ 32 ∷ []

abbrev pub fit_word : List ℕ
fit_word = 102 ∷ 105 ∷ 116 ∷ 32 ∷ []

abbrev pub refused_word : List ℕ
refused_word = 114 ∷ 101 ∷ 102 ∷ 117 ∷ 115 ∷ 101 ∷ 100 ∷ 32 ∷ []

-- "nothing held prints size none"
abbrev pub size_line : Bool → List ℕ → List ℕ
size_line holds l =
    cond holds (number_line size_word (size l))
    (115 ∷ 105 ∷ 122 ∷ 101 ∷ 32 ∷ 110 ∷ 111 ∷ 110 ∷ 101 ∷ 10 ∷ [])

-- "keep gives old and new number"
abbrev pub keep_line : ℕ → ℕ → List ℕ
keep_line i v = pair_line keep_word i v

abbrev pub keep_text : List ℕ → ℕ → List ℕ
keep_text l i = cond (eqb (get_or l i 0) unmapped) [] (keep_line i (get_or l i 0))

unfoldable pub keep_lines : List ℕ → List ℕ
keep_lines l = run_below (length l) (keep_text l)

-- "then come remove for old parts left out"
abbrev pub remove_text : List ℕ → ℕ → List ℕ
remove_text l i = cond (eqb (get_or l i 0) unmapped) (number_line remove_word i) []

unfoldable pub remove_lines : List ℕ → List ℕ
remove_lines l = run_below (length l) (remove_text l)

-- the new vertex v is the image of no old vertex
unfoldable pub is_free : List ℕ → ℕ → Bool
is_free l v = all_below (length l) (λ i. not (eqb (get_or l i 0) v))

-- "and fit for unpaired new parts, each rising"; m is the new order
abbrev pub fit_text : List ℕ → ℕ → List ℕ
fit_text l v = cond (is_free l v) (number_line fit_word v) []

unfoldable pub fit_lines : ℕ → List ℕ → List ℕ
fit_lines m l = run_below m (fit_text l)
