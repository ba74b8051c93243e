-- `checkpoint_saver::saver::save_in_shape` meets its contract: the sections are stored one after the other (`SaveSections`). Assumes nothing.
use mathlib.Core.Path.{◌≡◌, sym, ap, ◌∙◌}
use mathlib.Core.Bool.{Bool, cond}
use Prim.Native.Nat.{◌+◌, ◌*◌}
use native.Mathlib.Nat.{le_refl}
use native.Mathlib.Omega.{arith}
use lib.ListN.{length, take}
use lib.Seq.{sets}
use Rattle.std.proofs.lemmas.List.{length-take-le}
use Rattle.checkpoint_saver.proofs.SavedLength.{entry_bytes_front, incumbent_few}
use Rattle.checkpoint_saver.proofs.SaveSections.{short_refused, sections_fill}
use Rattle.checkpoint_saver.proofs.saver.save_in_shape.Goals as goal
use Rattle.checkpoint_saver.proofs.saver.save_in_shape.Goals.{Joined-checkpoint, then-checkpoint, else-checkpoint}

-- how many entries of the mapping are saved
counted : (c : Joined-checkpoint) → c.if-checkpoint.held ≡ cond c.args.checkpoint.now.holds c.args.order 0
counted c =
    let n = c.args.order in
    elim c.if-checkpoint.branch [ then-checkpoint w ↦ w.held-is ∙ ap (λ (b : Bool). cond b n 0) (sym w.if-checkpoint.true) | else-checkpoint w ↦ w.held-is ∙ ap (λ (b : Bool). cond b n 0) (sym w.if-checkpoint.false) ]

-- both lists have so many entries
deep : (c : Joined-checkpoint) → let k = c.args.checkpoint.now in length (take k.depth k.path) ≡ k.depth
deep c = let k = c.args.checkpoint.now in length-take-le k.depth k.path (omega (arith, c.requires))

wide : (c : Joined-checkpoint) → length (take c.if-checkpoint.held c.args.checkpoint.now.incumbent) ≡ c.if-checkpoint.held
wide c =
    let k = c.args.checkpoint.now in
    length-take-le c.if-checkpoint.held k.incumbent (omega (arith, counted c, incumbent_few c.args.order k.holds, c.requires))

pub returns-then-out-total : goal.returns-then-out-total
returns-then-out-total c =
    let a = c.args in
    let j = (goal.at.returns-then-out-total c).Joined-checkpoint in
    short_refused a.order a.checkpoint.now c.if-checkpoint.held (counted j) a.out.now (rw (deep j, wide j) at c.if-out-total.true)

pub returns : goal.returns
returns c =
    let a = c.args in
    let k = a.checkpoint.now in
    let j = (goal.at.returns c).Joined-checkpoint in
    let path = c.put_header.new.out in
    let mapping = c.put_entries.new.out in
    let held = c.if-checkpoint.held in
    rw (deep j, wide j)
    (sections_fill a.order k held (counted j) a.out.now path mapping c.put_entries-2.new.out
    (rw (deep j, wide j) at c.if-out-total.false)
    c.put_header.ensures
    ((rw (deep j) at c.put_entries.ensures) ∙ ap (sets path 13) (entry_bytes_front 19 k.path k.depth k.depth (le_refl k.depth)))
    ((rw (deep j, wide j) at c.put_entries-2.ensures) ∙ ap (sets mapping (13 + 2 * k.depth)) (entry_bytes_front 20 k.incumbent held held (le_refl held))))
