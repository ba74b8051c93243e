-- What the tree of a search knows of a problem: how many rows and values there are, which value a row may take, and which two rows may stand
-- together (01, "The walk", first paragraph). A row is an old vertex, a value a new one.
use Rattle.std.specs.Prelude.{Bool, true, ◌≡◌, ℕ, ◌≤◌}
use Rattle.mapping.specs.Common.{unmapped}
use Rattle.problem.specs.Problem.{Problem, allowed, consistent}

pub record Rules : Type 0 where
  pub rows : ℕ
  pub values : ℕ
  -- row, then value
  pub allowed : ℕ → ℕ → Bool
  -- an earlier row and its value, then a later row and its value
  pub consistent : ℕ → ℕ → ℕ → ℕ → Bool

-- what the theorems ask of the rules: 255 is no value, and no two rows take one value
pub record Regular (R : Rules) : Type 0 where
  pub few : R.values ≤ unmapped
  pub distinct : (i w r v : ℕ) → R.consistent i w r v ≡ true → w ≡ v → ⊥

abbrev pub rules_of : Problem → Rules
rules_of P =
    record {
      rows = P.old.order;
      values = P.new.order;
      allowed = allowed P;
      consistent = consistent P;
    }
