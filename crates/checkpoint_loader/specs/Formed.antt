-- What bytes in the form are made of, without a walk over them: 01, "Bookmark and calls", last paragraph.
use Rattle.std.specs.Prelude.{◌≡◌, cond, List, [], ◌∷◌, ◌++◌, ℕ, ◌≤◌, length}
use Rattle.checkpoint_loader.specs.Form.{holds_of}

-- each entry after the mark
unfoldable pub pairs : ℕ → List ℕ → List ℕ
pairs mark [] = []
pairs mark (b ∷ l) = mark ∷ b ∷ pairs mark l

-- "16, floor; 17, steps in eight bytes, low first; 18, state; 19, byte for each path entry; then 20, byte for each of n entries if one is held; 0"
abbrev pub form_bytes : ℕ → List ℕ → ℕ → List ℕ → List ℕ → List ℕ
form_bytes minimum steps state path incumbent =
    16 ∷ minimum ∷ 17 ∷ (steps ++ (18 ∷ state ∷ (pairs 19 path ++ (pairs 20 incumbent ++ (0 ∷ [])))))

-- the bytes are these, with n the old order
pub record Formed (n : ℕ) (bytes : List ℕ) : Type 0 where
  pub minimum : ℕ
  pub steps : List ℕ
  pub state : ℕ
  pub path : List ℕ
  pub incumbent : List ℕ
  pub steps_length : length steps ≡ 8
  pub state_max : state ≤ 3
  pub path_max : length path ≤ n
  pub incumbent_length : length incumbent ≡ cond (holds_of state) n 0
  pub whole : bytes ≡ form_bytes minimum steps state path incumbent
