-- The step limit of some sizes, computed: 02's example, sizes exchanged, and where the cap begins.
use mathlib.Core.Path.{◌≡◌, refl}
use native.Mathlib.Omega.{arith}
use Rattle.answers.specs.Answer.{accepted, refused}
use Rattle.search_tree.specs.StepLimit.{step_limit}
use Rattle.step_limit.specs.StepLimits.{cap, foretold}
use Rattle.step_limit.proofs.Rows.{next_row, limit_row, foretold_row}

pub small_limits :
    -- "V(2, 2) is 11."
    (foretold 2 2 ≡ accepted 11)
    -- new size, then old size
    × (foretold 3 2 ≡ accepted 18)
    × (foretold 2 3 ≡ accepted 24)
    × (foretold 1 2 ≡ accepted 6)
    -- "the middle term 0 at m = 0"
    × (foretold 0 2 ≡ accepted 3)
    × (foretold 0 0 ≡ accepted 1)
    × (foretold 64 0 ≡ accepted 1)
    × (foretold 64 1 ≡ accepted 66)
    -- "26 a size above 64"
    × (foretold 65 0 ≡ refused 26)
    × (foretold 0 65 ≡ refused 26)
    × (foretold 18446744073709551615 18446744073709551615 ≡ refused 26)
unfolding foretold step_limit
small_limits = (refl, refl, refl, refl, refl, refl, refl, refl, refl, refl, refl)

-- The first capped limits, each beside the one before; with 10 old or 10 new vertices none is.
pub first_capped :
    (foretold 64 10 ≡ accepted 669949513755499659)
    × (foretold 10 64 ≡ accepted 3958792581282497985)
    × (foretold 60 11 ≡ accepted 17340316640438325612)
    × (foretold 61 11 ≡ accepted cap)
    × (foretold 44 12 ≡ accepted 14863485042663329085)
    × (foretold 45 12 ≡ accepted cap)
    × (foretold 11 53 ≡ accepted 18027476126247161925)
    × (foretold 11 54 ≡ accepted cap)
    × (foretold 64 64 ≡ accepted cap)
unfolding next_row limit_row
first_capped = (
  foretold_row 64 10 (omega arith) (omega arith),
  foretold_row 10 64 (omega arith) (omega arith),
  foretold_row 60 11 (omega arith) (omega arith),
  foretold_row 61 11 (omega arith) (omega arith),
  foretold_row 44 12 (omega arith) (omega arith),
  foretold_row 45 12 (omega arith) (omega arith),
  foretold_row 11 53 (omega arith) (omega arith),
  foretold_row 11 54 (omega arith) (omega arith),
  foretold_row 64 64 (omega arith) (omega arith),
)
