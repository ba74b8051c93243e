-- What is known of the code's walk between two visits: what it is lent belongs to the problem, and its node is as long as it is deep.
use mathlib.Core.Path.{◌≡◌, refl}
use mathlib.Core.List.{List}
use Prim.Native.Nat.{ℕ, ◌≤◌}
use native.Mathlib.Omega.{arith}
use lib.ListN.{length, take}
use lib.Seq.{length-take-le}
use Rattle.problem.specs.Problem.{Problem, SoundProblem}
use Rattle.search.specs.Walking.{Setting, AtNode}

-- What the code is lent belongs to the problem, whatever the order is called.
pub own_order : {P : Problem} {n : ℕ} {edges masks : List ℕ} → Setting P n edges masks → Setting P P.old.order edges masks
own_order setting = record { sound = setting.sound; order_is = refl; edges_is = setting.edges_is; masks_are = setting.masks_are }

-- Of the 64 entries kept, as many are taken as rows are decided.
pub decided_length : {P : Problem} → SoundProblem P → (path : List ℕ) (depth : ℕ) → length path ≡ 64 → depth ≤ P.old.order
    → length (take depth path) ≡ depth
decided_length sound path depth long deep = length-take-le depth path (omega (arith, sound.old_sound.order_max))

-- A node is as long as it is deep.
pub node_length : {P : Problem} {path ws : List ℕ} {depth pairs : ℕ} → SoundProblem P → AtNode P path depth pairs ws
    → length (take depth path) ≡ depth
node_length {P} {path} {ws} {depth} sound node = decided_length sound path depth node.path_length node.depth_max
