-- What holds of both cases holds of the choice between them.
use mathlib.Core.Path.{◌≡◌, refl}
use mathlib.Core.Bool.{Bool, true, false, cond}

-- each case may use what the test says
pub cond_cases : {A : Type 0} (P : A → Type 0) (t : Bool) {x y : A} → (t ≡ true → P x) → (t ≡ false → P y) → P (cond t x y)
cond_cases P true if-true if-false = if-true refl
cond_cases P false if-true if-false = if-false refl

pub either : {A : Type 0} (P : A → Type 0) (t : Bool) {x y : A} → P x → P y → P (cond t x y)
either P t p q = cond_cases P t (λ e. p) (λ e. q)
