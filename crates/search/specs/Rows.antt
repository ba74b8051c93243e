-- What the tables that are lent to a call's visits hold for each row (01, "The walk").
use Rattle.std.specs.Prelude.{◌≡◌, false, List, ℕ, ◌+◌, ◌<◌, length, get_or}
use Rattle.bitset.specs.Members.{member}
use Rattle.graph.specs.Graph.{place}

-- a set that holds at least the rows after `row` that have an edge to it
abbrev pub Covers : List ℕ → ℕ → ℕ → Type 0
Covers edges row set = (r : ℕ) → row < r → r < 64 → member set r ≡ false → get_or edges (place row r) 0 ≡ 0

-- one word for each row: the rows that are met first
abbrev pub First : List ℕ → List ℕ → Type 0
First edges first = (row : ℕ) → row < 64 → Covers edges row (get_or first row 0)

-- the rows' numbers, from 1 on
pub record Numbers (numbers : List ℕ) : Type 0 where
  pub all : length numbers ≡ 64
  pub number : (i : ℕ) → i < 64 → get_or numbers i 0 ≡ i + 1
