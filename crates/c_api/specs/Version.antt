-- The version of the library, in one number. 01 has no rule for it: include/golfcedar.h says when each of the three rises.
use Rattle.std.specs.Prelude.{ℕ, ◌+◌, ◌*◌}

abbrev pub major : ℕ
major = 1

abbrev pub minor : ℕ
minor = 0

abbrev pub patch : ℕ
patch = 0

abbrev pub version : ℕ
version = 65536 * major + 256 * minor + patch
