-- Checkpoint bytes on small cases, computed: saved and said again, and the place of the first byte that cannot stand.
use mathlib.Core.Path.{◌≡◌, refl}
use mathlib.Core.Bool.{true, false}
use mathlib.Core.List.{List, [], ◌∷◌, ◌++◌}
use Rattle.std.specs.Prelude.{None, Some}
use Prim.Native.Nat.{ℕ}
use Rattle.little_endian.specs.LittleEndian.{little_endian, from_little}
use Rattle.bounded.specs.Below.{run_below}
use Rattle.checkpoint.specs.declared.Checkpoint.{Checkpoint}
use Rattle.checkpoint.specs.Checkpoints.{padded}
use Rattle.checkpoint_loader.specs.Form.{next, fault_from, form_fault}
use Rattle.checkpoint_saver.specs.Saving.{header_bytes, checkpoint_bytes}
use Rattle.checkpoint_loader.specs.Loading.{said}

-- three old vertices, 258 steps, depth 2, a mapping held
abbrev midway : Checkpoint
midway =
    record {
      minimum = 1;
      steps = 258;
      depth = 2;
      path = padded (1 ∷ 255 ∷ []);
      finished = false;
      holds = true;
      incumbent = padded (1 ∷ 0 ∷ 255 ∷ []);
    }

abbrev head : List ℕ
head = 16 ∷ 1 ∷ 17 ∷ 2 ∷ 1 ∷ 0 ∷ 0 ∷ 0 ∷ 0 ∷ 0 ∷ 0 ∷ 18 ∷ []

-- Saved and said again it is the same; each fault is found at its place.
pub small_cases :
    (checkpoint_bytes 3 midway ≡ head ++ (1 ∷ 19 ∷ 1 ∷ 19 ∷ 255 ∷ 20 ∷ 1 ∷ 20 ∷ 0 ∷ 20 ∷ 255 ∷ 0 ∷ []))
    × (said 3 (checkpoint_bytes 3 midway) ≡ midway)
    × (form_fault 3 (checkpoint_bytes 3 midway) ≡ None)
    -- nothing at all, a wrong first mark, a state above 3
    × (form_fault 3 [] ≡ Some 0)
    × (form_fault 3 (17 ∷ []) ≡ Some 0)
    × (form_fault 3 (head ++ (4 ∷ 0 ∷ [])) ≡ Some 12)
    -- entry n + 1 at its 19, a 0 where a 20 is due, bytes after the end, a missing end
    × (form_fault 1 (head ++ (0 ∷ 19 ∷ 0 ∷ 19 ∷ 0 ∷ 0 ∷ [])) ≡ Some 15)
    × (form_fault 1 (head ++ (1 ∷ 0 ∷ [])) ≡ Some 13)
    × (form_fault 1 (head ++ (0 ∷ 0 ∷ 0 ∷ [])) ≡ Some 14)
    × (form_fault 1 (head ++ (0 ∷ 19 ∷ [])) ≡ Some 14)
unfolding header_bytes checkpoint_bytes little_endian from_little said run_below next fault_from
small_cases = (refl, refl, refl, refl, refl, refl, refl, refl, refl, refl)
