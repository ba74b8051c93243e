-- Numbers as bytes, the lowest byte first: 01, "Bookmark and calls", "steps in eight bytes, low first", and "The refit program", "allowance, low byte first"; 02,
-- U3, "join eight into one word", and U6, "each kind low byte first".
use Rattle.std.specs.Prelude.{List, [], ◌∷◌, ℕ, zero, suc, ◌+◌, ◌*◌, ◌/◌, ◌%◌, get_or}

-- the k lowest bytes of x
unfoldable pub little_endian : ℕ → ℕ → List ℕ
little_endian zero x = []
little_endian (suc k) x = x % 256 ∷ little_endian k (x / 256)

unfoldable pub from_little : List ℕ → ℕ
from_little [] = 0
from_little (b ∷ rest) = b + 256 * from_little rest

-- the number of two bytes, and of those at a place
abbrev pub two_bytes : ℕ → ℕ → ℕ
two_bytes low high = low + 256 * high

abbrev pub two_bytes_at : List ℕ → ℕ → ℕ
two_bytes_at bytes at = two_bytes (get_or bytes at 0) (get_or bytes (at + 1) 0)
