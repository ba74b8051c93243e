use mathlib.Core.Path.{◌≡◌, sym, ap, ◌∙◌}
use mathlib.Core.Bool.{or_comm}
use mathlib.Core.List.{List}
use Prim.Native.Nat.{ℕ, ◌+◌, ◌≤◌}
use native.Mathlib.Omega.{arith}
use lib.Dec.{eqb}
use lib.ListN.{get_or}
use Rattle.bounded.specs.Below.{some_below}
use Rattle.bounded.proofs.SomeBelow.{some_below_add_one}
use Rattle.bitset.specs.Members.{insert}
use Rattle.bitset.proofs.SetOf.{set_of_congr, insert_set_of, no_member, set_of_lt, member_set_of}
use Rattle.clique.proofs.candidates.taken.Invariants.{taken_before}
use Rattle.clique.proofs.candidates.taken.Goals as goal

none_taken : (path : List ℕ) → 0 ≡ taken_before path 0
unfolding some_below
none_taken path = sym ((no_member 64 (set_of_lt 64 _)).1 (λ v h. member_set_of 64 _ v h))

one_taken : (path : List ℕ) (i : ℕ) {set next : ℕ} → set ≡ taken_before path i → next ≡ insert set (get_or path i 0) → next ≡ taken_before path (i + 1)
one_taken path i e added =
    added ∙ ap (λ (s : ℕ). insert s (get_or path i 0)) e ∙ insert_set_of (λ v. some_below i (λ k. eqb v (get_or path k 0))) (get_or path i 0)
    ∙ set_of_congr 64 _ _ (λ v h. or_comm (eqb v (get_or path i 0)) _ ∙ sym (some_below_add_one i (λ k. eqb v (get_or path k 0))))

all : {i depth : ℕ} → i ≤ depth → depth ≤ i → i ≡ depth
all h l = omega arith

pub loop-i-init : goal.loop-i-init
loop-i-init c = (none_taken c.args.path, omega arith)

pub loop-i-preserved : goal.loop-i-preserved
loop-i-preserved c =
    (one_taken c.args.path c.loop-i.i c.loop-i.invariant.0 c.with-set.ensures, omega arith)

pub returns : goal.returns
returns c =
    c.loop-i.invariant.0 ∙ ap (taken_before c.args.path) (all c.loop-i.invariant.1 c.loop-i-test.false)
