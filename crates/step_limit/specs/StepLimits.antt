-- The step limit foretold for two sizes, and the table that it is read from: 02, U5.
use Rattle.std.specs.Prelude.{◌≡◌, cond, ◌&&◌, List, ℕ, ◌+◌, ◌-◌, ◌*◌, ◌^◌, ◌≤◌, ◌<◌, min, leb, length, get_or}
use Rattle.answers.specs.Answer.{Answer, accepted, refused}
use Rattle.search_tree.specs.StepLimit.{step_limit}

abbrev pub cap : ℕ
cap = 2 ^ 64 - 1

-- "An entry above 2^64 - 1 is stored as 2^64 - 1 and means that many or more."
abbrev pub capped : ℕ → ℕ
capped v = min v cap

-- m new vertices, n old ones: V(m, n) as far as 64 bits tell it, or "26 a size above 64"
unfoldable pub foretold : ℕ → ℕ → Answer
foretold m n = cond (leb m 64 && leb n 64) (accepted (capped (step_limit m n))) (refused 26)

-- The table has a row for each old size, and in it an entry for each new size.
abbrev pub entry : List ℕ → ℕ → ℕ → ℕ
entry table m n = get_or table (65 * n + m) 0

-- "The recurrence with this cap is shown for the table as a whole": each entry is made of the entries before it.
pub record CappedRecurrence (table : List ℕ) : Type 0 where
  -- "4,225 numbers, one for each pair of sizes 0 to 64"
  pub entries : length table ≡ 65 * 65
  pub none_old : (m : ℕ) → m ≤ 64 → entry table m 0 ≡ 1
  pub one_more : (m n : ℕ) → m ≤ 64 → n < 64 → entry table m (n + 1) ≡ capped (1 + m * entry table (m - 1) n + entry table m n)
