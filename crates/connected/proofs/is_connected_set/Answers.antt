use mathlib.Core.Path.{◌≡◌, refl, sym, ap, ap₂, ◌∙◌}
use mathlib.Core.Logic.{◌≢◌}
use Prim.Native.Nat.{ℕ, zero, suc, ◌+◌, ◌≤◌, ◌<◌}
use native.Mathlib.Omega.{arith}
use lib.ListN.{get_or}
use borrow.Author.Tests.{eqb-true, eqb-false}
use Rattle.bitset.specs.Members.{member, meet_of, union_of, difference_of}
use Rattle.bitset.specs.Count.{size}
use Rattle.bitset.specs.Least.{least_member, without_least}
use Rattle.std.specs.Prelude.{Some}
use Rattle.bitset.proofs.LeastBelow.{least_below_member}
use Rattle.connected.specs.Spreading.{connected_set, spreads}
use Rattle.connected.proofs.Spread.{front_after, rest_after, start_size, spreads_done, spreads_stuck, spreads_round, round_smaller}
use Rattle.connected.proofs.is_connected_set.Invariants.{SpreadsOn}
use Rattle.connected.proofs.is_connected_set.Goals as goal
use Rattle.connected.proofs.is_connected_set.Goals.{After-difference-rest, In-Some}

module _ (near : ℕ → ℕ) (set : ℕ) where
  -- it is so at the start,
  started : SpreadsOn near set (without_least set) (difference_of set (without_least set))
  unfolding connected_set
  started = record { rounds = 64; enough = start_size set; same = refl }

  module _ (rest front : ℕ) {v rest' front' : ℕ} (found : least_member front ≡ Some v)
      (rest_is : rest' ≡ rest_after near rest v) (front_is : front' ≡ front_after near front rest v) where
    -- a round leaves fewer,
    fewer : size front' + size rest' < size front + size rest
    fewer = rw (front_is, rest_is) (round_smaller near front rest found)

    -- and it stays so
    goes_on : SpreadsOn near set rest front → rest ≢ 0 → SpreadsOn near set rest' front'
    goes_on on some = go on.rounds on.enough on.same
      where
        go : (k : ℕ) → size front + size rest ≤ k → spreads near k front rest ≡ connected_set near set → SpreadsOn near set rest' front'
        go zero enough same = absurd (omega (arith, fewer))
        go (suc k) enough same = record {
          rounds = k;
          enough = omega (arith, fewer);
          same = rw (front_is, rest_is) (sym (spreads_round near k front rest some found) ∙ same);
        }

pub loop-v-init : goal.loop-v-init
loop-v-init c =
    let a = c.args in
    rw (c.difference-front.ensures, c.without_least-rest.ensures) (started (λ v. get_or a.neighbours.now v 0) a.set)

pub returns : goal.returns
returns c =
    let l = c.loop-v in
    let none = eqb-true l.rest 0 (sym c.is_empty.ensures ∙ c.loop-v-test.false) in
    sym (spreads_done _ l.invariant.rounds l.front l.rest none) ∙ l.invariant.same

-- the vertex that was found
found : (c : In-Some) → least_member c.loop-v.front ≡ Some c.in-Some.v
found c = sym c.least_member.ensures ∙ c.in-Some.is

-- it is below 64
inside : (c : In-Some) → c.in-Some.v < 64
inside c = (least_below_member 64 (member c.loop-v.front) (found c)).below

-- the rest is not empty
some : (c : In-Some) → c.loop-v.rest ≢ 0
some c =
    eqb-false c.loop-v.rest 0 (sym c.is_empty.ensures ∙ c.loop-v-test.true)

pub offset_bounds-neighbours-v : goal.offset_bounds-neighbours-v
offset_bounds-neighbours-v c = omega (arith, inside c)

pub bounds-neighbours-v : goal.bounds-neighbours-v
bounds-neighbours-v c = inside (goal.at.bounds-neighbours-v c).In-Some

abbrev near : After-difference-rest → ℕ → ℕ
near c v = get_or c.args.neighbours.now v 0

abbrev set : After-difference-rest → ℕ
set c = c.args.set

abbrev vertex : After-difference-rest → ℕ
vertex c = c.in-Some.v

-- what the round leaves is what `spreads` goes on with
met_is : (c : After-difference-rest)
    → c.meet-met.result ≡ meet_of c.loop-v.rest (near c (vertex c))
met_is c = c.meet-met.ensures

front_is : (c : After-difference-rest)
    → c.union-front.result ≡ front_after (near c) c.loop-v.front c.loop-v.rest (vertex c)
front_is c =
    let put : c.union-front.result ≡ union_of c.without_least.result c.meet-met.result = c.union-front.ensures in
    put ∙ ap₂ union_of c.without_least.ensures (met_is c)

rest_is : (c : After-difference-rest)
    → c.difference-rest.result ≡ rest_after (near c) c.loop-v.rest (vertex c)
rest_is c = c.difference-rest.ensures ∙ ap (difference_of c.loop-v.rest) (met_is c)

pub loop-v-smaller : goal.loop-v-smaller
loop-v-smaller c = fewer (near c) (set c) _ _ (found (goal.at.loop-v-smaller c).In-Some) (rest_is c) (front_is c)

pub loop-v-preserved : goal.loop-v-preserved
loop-v-preserved c = goes_on (near c) (set c) _ _ (found (goal.at.loop-v-preserved c).In-Some) (rest_is c) (front_is c) c.loop-v.invariant (some (goal.at.loop-v-preserved c).In-Some)

pub returns-in_default : goal.returns-in_default
returns-in_default c =
    let l = c.loop-v in
    let left = eqb-false l.rest 0 (sym c.is_empty.ensures ∙ c.loop-v-test.true) in
    let none = sym c.least_member.ensures ∙ c.in_default.is in
    sym (spreads_stuck _ l.invariant.rounds l.front l.rest left none) ∙ l.invariant.same
