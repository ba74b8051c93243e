-- `little_endian::load` meets its contract: the first eight bytes with zeros above them say the same number. Assumes nothing.
use mathlib.Core.Path.{◌≡◌, ap, ap₂, ◌∙◌}
use mathlib.Core.List.{◌++◌}
use Prim.Native.Nat.{ℕ, ◌-◌, min}
use native.Mathlib.Omega.{arith}
use lib.ListN.{length, take}
use Rattle.std.proofs.lemmas.List.{take_min, drop-replicate}
use Rattle.little_endian.specs.LittleEndian.{from_little}
use Rattle.little_endian.proofs.LittleEndian.{from_little_zeros}
use Rattle.little_endian.proofs.load.Goals as goal

pub returns : goal.returns
returns c =
    let bytes = c.args.bytes.now in
    let count = c.min-count.result in
    let few : count ≡ min 8 (length bytes) = omega (arith, c.min-count.ensures) in
    c.join.ensures
    ∙ ap from_little (ap₂ ◌++◌ (c.copy_from_slice.ensures.after ∙ ap (λ (n : ℕ). take n bytes) few ∙ take_min 8 bytes) (drop-replicate count 8 0))
    ∙ from_little_zeros (take 8 bytes) (8 - count)
