-- What a finished search holds: a largest mapping, and among those the first in the order, or none where no mapping reaches the minimum
-- (01, the third property, and "among equally large matchings the order picks").
use Rattle.std.specs.Prelude.{◌≡◌, ◌⊎◌, List, ℕ, ◌≤◌, ◌<◌}
use Rattle.std.proofs.Math.Option.{Option, none, some}
use Rattle.mapping.specs.Common.{size}
use Rattle.mapping.specs.Order.{Before}

-- `Good` says which mappings count
pub record Best (Good : List ℕ → Type 0) (minimum : ℕ) (incumbent : Option (List ℕ)) : Type 0 where
  -- nothing is held only where no mapping reaches the minimum
  pub none_reaches : incumbent ≡ none → (l : List ℕ) → Good l → size l < minimum
  pub good : (h : List ℕ) → incumbent ≡ some h → Good h
  pub reaches : (h : List ℕ) → incumbent ≡ some h → minimum ≤ size h
  pub largest : (h : List ℕ) → incumbent ≡ some h → (l : List ℕ) → Good l → size l ≤ size h
  pub first : (h : List ℕ) → incumbent ≡ some h → (l : List ℕ) → Good l → size l ≡ size h → (l ≡ h) ⊎ Before h l
