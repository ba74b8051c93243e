-- The places of the edge table: a place tells its two vertices, and each number below 4,096 is a place.
use mathlib.Core.Path.{◌≡◌}
use Prim.Native.Nat.{ℕ, ◌/◌, ◌%◌, ◌<◌, max}
use native.Mathlib.Omega.{arith}
use Rattle.graph.specs.Graph.{place}

pub place_injective : (a b c d : ℕ) → b < 64 → d < 64 → place a b ≡ place c d → (a ≡ c) × (b ≡ d)
place_injective a b c d hb hd e = omega arith

pub vertices_of : (i : ℕ) → i < 4096 → (place (i / 64) (i % 64) ≡ i) × (i / 64 < 64) × (i % 64 < 64) × (max (i / 64) (i % 64) < 64)
vertices_of i h = omega arith
