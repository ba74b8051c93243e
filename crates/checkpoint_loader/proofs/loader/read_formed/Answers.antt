-- `checkpoint_loader::loader::read_formed` meets its contract: bytes in the form have the length that their state and path say. Assumes nothing.
use mathlib.Core.Path.{◌≡◌, sym, ap, ◌∙◌}
use mathlib.Core.Bool.{Bool, cond}
use Prim.Native.Nat.{◌+◌, ◌-◌, ◌*◌, ◌/◌, ◌≤◌}
use native.Mathlib.Omega.{arith}
use borrow.Author.Tests.{eq-eqb, ne_eqb}
use lib.ListN.{length, take, drop, length-drop}
use lib.Seq.{take_all}
use Rattle.checkpoint_loader.specs.Loading.{incumbent_entries, said}
use Rattle.checkpoint_loader.proofs.FormedBytes.{formed_lengths}
use Rattle.checkpoint_loader.proofs.loader.read_formed.Goals as goal
use Rattle.checkpoint_loader.proofs.loader.read_formed.Goals.{Joined-holds, else-holds, then-holds}

pub bounds-bytes-12 : goal.bounds-bytes-12
bounds-bytes-12 c = omega (arith, formed_lengths _ _ c.requires.1)

-- how many entries of the incumbent there are
counted : (c : Joined-holds)
    → let a = c.args in
    let entries = c.if-holds.entries in
    (entries ≡ incumbent_entries a.order a.bytes.now) × (entries ≤ a.order)
counted c =
    let n = c.args.order in
    elim c.if-holds.branch [ then-holds w ↦ (w.entries-is ∙ ap (λ (b : Bool). cond b n 0) (sym (eq-eqb _ _ w.if-holds.true)), omega (arith, w.entries-is)) | else-holds w ↦ (w.entries-is ∙ ap (λ (b : Bool). cond b n 0) (sym (ne_eqb _ _ w.if-holds.false)), omega (arith, w.entries-is)) ]

-- they are at most 64
few : (c : Joined-holds) → c.if-holds.entries ≤ 64
few c = omega (arith, (counted c).1, c.requires.0)

-- the depth is at most the order, and the length is that of the header, the entries and the end
lengths : (c : Joined-holds)
    → let a = c.args in
    let entries = c.if-holds.entries in
    let depth = (length a.bytes.now - (14 + 2 * entries)) / 2 in
    (depth ≤ a.order) × (length a.bytes.now ≡ 14 + 2 * depth + 2 * entries)
lengths c = rw (counted c).0 (formed_lengths _ _ c.requires.1)

pub overflow_mul-depth : goal.overflow_mul-depth
overflow_mul-depth c = omega (arith, few (goal.at.overflow_mul-depth c).Joined-holds)

pub overflow_add-depth-2 : goal.overflow_add-depth-2
overflow_add-depth-2 c = omega (arith, few (goal.at.overflow_add-depth-2 c).Joined-holds)

pub overflow_sub-depth : goal.overflow_sub-depth
overflow_sub-depth c = omega (arith, lengths (goal.at.overflow_sub-depth c).Joined-holds)

pub bounds-bytes-1 : goal.bounds-bytes-1
bounds-bytes-1 c = omega (arith, lengths (goal.at.bounds-bytes-1 c).Joined-holds)

pub slice_bounds-load-start : goal.slice_bounds-load-start
slice_bounds-load-start c = omega (arith, lengths (goal.at.slice_bounds-load-start c).Joined-holds)

pub slice_bounds-load-count : goal.slice_bounds-load-count
slice_bounds-load-count c = omega (arith, lengths (goal.at.slice_bounds-load-count c).Joined-holds)

pub read_entries-requires : goal.read_entries-requires
read_entries-requires c =
    (omega (arith, (lengths (goal.at.read_entries-requires c).Joined-holds).0, c.requires.0), omega (arith, (lengths (goal.at.read_entries-requires c).Joined-holds).1))

pub read_entries-requires-2 : goal.read_entries-requires-2
read_entries-requires-2 c =
    (omega (arith, (counted (goal.at.read_entries-requires-2 c).Joined-holds).1, c.requires.0), omega (arith, (lengths (goal.at.read_entries-requires-2 c).Joined-holds).1))

pub returns : goal.returns
unfolding said
returns c =
    let bytes = c.args.bytes.now in
    let rest : take (length bytes - 3) (drop 3 bytes) ≡ drop 3 bytes =
    take_all (length bytes - 3) (drop 3 bytes) (omega (arith, length-drop 3 bytes)) in
    rw (c.read_entries-2.ensures, c.read_entries.ensures, c.load.ensures, (counted (goal.at.returns c).Joined-holds).0, rest)
