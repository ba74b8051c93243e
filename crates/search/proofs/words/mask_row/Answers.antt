use mathlib.Core.Path.{refl}
use Prim.Native.Nat.{◌+◌, ◌*◌}
use native.Mathlib.Omega.{arith}
use Rattle.search.proofs.MaskRows.{masked_none, masked_self, masked_more, masked_all}
use Rattle.search.proofs.words.mask_row.Goals as goal
use Rattle.search.proofs.words.mask_row.Goals.{After-shared_slice_known-then-v-w-1, else-v-w, then-v-w}

pub loop-v-init : goal.loop-v-init
loop-v-init c = masked_none _ _ _ c.requires.by_index

pub loop-v-preserved : goal.loop-v-preserved
loop-v-preserved c =
    let l = c.loop-v in
    let h = c.loop-v-test.true in
    elim c.if-v-w.branch [
      | then-v-w w ↦ let byte = (w.shared_slice_known-then-v-w-1.given (64 * c.args.vertex.0 + l.v)).fits in
          rw w.masks-is (masked_more _ _ _ _ _ _ _ h c.requires.edges_len.2 w.if-v-w.true byte (omega arith) refl w.with.ensures l.invariant)
      | else-v-w w ↦ rw w.masks-is (masked_self _ _ _ _ _ h w.if-v-w.false l.invariant)
    ]

pub returns : goal.returns
returns c = masked_all _ _ _ _ _ c.requires.edges_len.2 c.loop-v-test.false c.loop-v.invariant
