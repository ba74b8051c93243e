-- The laws of `spreads`: what a round does to the front and to the rest, that each leaves fewer, and that only the neighbours below 64 count.
use mathlib.Core.Path.{◌≡◌, refl, sym, ap₂, ◌∙◌}
use mathlib.Core.Bool.{Bool, true, false, not, ◌&&◌, ◌||◌, and-eq-true_iff, false≢true}
use mathlib.Core.Logic.{◌≢◌, ◌⊎◌, inl, inr}
use Prim.Native.Nat.{ℕ, zero, suc, ◌+◌, ◌≤◌, ◌<◌}
use native.Mathlib.Omega.{arith}
use lib.Dec.{eqb}
use borrow.Author.Tests.{eq-eqb, ne_eqb}
use Rattle.bitset.specs.Members.{member, meet_of, union_of, difference_of}
use Rattle.bitset.specs.Count.{size}
use Rattle.bitset.specs.Least.{least_member, without_least}
use Rattle.std.specs.Prelude.{Option}
use Rattle.std.specs.Prelude.{Some, None}
use Rattle.bitset.proofs.Membership.{member_zero}
use Rattle.bitset.proofs.SetOf.{member_set_of}
use Rattle.bitset.proofs.CountBelow.{count_below_le, size_union, size_part}
use Rattle.bitset.proofs.LeastBelow.{least_below_member}
use Rattle.bitset.proofs.WithoutLeast.{member_without_least, size_without_least}
use Rattle.bounded.proofs.Tells.{tells_itself, tells_not, tells_both}
use Rattle.connected.specs.Spreading.{spreads, connected_set}

-- the members of one set are members of the other
abbrev pub Within : ℕ → ℕ → Type 0
Within a b = (v : ℕ) → v < 64 → member a v ≡ true → member b v ≡ true

-- where the vertex v is taken out of the front: the new front,
abbrev pub front_after : (ℕ → ℕ) → ℕ → ℕ → ℕ → ℕ
front_after near front rest v = union_of (without_least front) (meet_of rest (near v))

-- and the new rest
abbrev pub rest_after : (ℕ → ℕ) → ℕ → ℕ → ℕ
rest_after near rest v = difference_of rest (meet_of rest (near v))

-- What is in both of two sets is in the first.
meet_within : (a b : ℕ) → Within (meet_of a b) a
meet_within a b v h e = ((and-eq-true_iff (member a v) (member b v)).0 (sym (member_set_of 64 (λ i. member a i && member b i) v h) ∙ e)).0

-- A set without its least member is a part of it.
pub without_within : (set : ℕ) → Within (without_least set) set
without_within set v h e = go (least_member set) refl
  where
    kept : (x y : Bool) → (not x && y) ≡ true → y ≡ true
    kept true y q = absurd (false≢true q)
    kept false y q = q

    go : (l : Option ℕ) → least_member set ≡ l → member set v ≡ true
    go (Some m) found = kept (eqb v m) (member set v) (sym (member_without_least set m v found h) ∙ e)
    go None found = absurd (false≢true (sym (rw found (member_zero v)) ∙ e))

module _ (near : ℕ → ℕ) where
  -- An empty rest is reached.
  pub spreads_done : (k front rest : ℕ) → rest ≡ 0 → spreads near k front rest ≡ true
  unfolding spreads
  spreads_done zero front rest e = eq-eqb rest 0 e
  spreads_done (suc k) front rest e = rw (eq-eqb rest 0 e) refl

  -- An empty front reaches no other.
  pub spreads_stuck : (k front rest : ℕ) → rest ≢ 0 → least_member front ≡ None → spreads near k front rest ≡ false
  unfolding spreads
  spreads_stuck zero front rest n e = ne_eqb rest 0 n
  spreads_stuck (suc k) front rest n e = rw (ne_eqb rest 0 n, e) refl

  -- A round takes the least vertex out of the front.
  pub spreads_round : (k front rest : ℕ) {v : ℕ} → rest ≢ 0 → least_member front ≡ Some v
      → spreads near (suc k) front rest ≡ spreads near k (front_after near front rest v) (rest_after near rest v)
  unfolding spreads
  spreads_round k front rest n e = rw (ne_eqb rest 0 n, e) refl

  -- A round leaves fewer vertices in the front and in the rest.
  pub round_smaller : (front rest : ℕ) {v : ℕ} → least_member front ≡ Some v
      → size (front_after near front rest v) + size (rest_after near rest v) < size front + size rest
  round_smaller front rest {v} e =
      omega (arith, size_union (without_least front) (meet_of rest (near v)), size_part rest (meet_of rest (near v)) (meet_within rest (near v)), size_without_least front v e)

-- The least vertex and the others are at most 64.
pub start_size : (set : ℕ) → size (difference_of set (without_least set)) + size (without_least set) ≤ 64
start_size set = omega (arith, size_part set (without_least set) (without_within set), count_below_le 64 (member set))

-- The front's vertices after a round,
pub front_members : (near : ℕ → ℕ) (front rest : ℕ) {v : ℕ} → least_member front ≡ Some v → (u : ℕ) → u < 64
    → member (front_after near front rest v) u ≡ ((not (eqb u v) && member front u) || (member rest u && member (near v) u))
front_members near front rest {v} e u h =
    member_set_of 64 (λ i. member (without_least front) i || member (meet_of rest (near v)) i) u h
    ∙ ap₂ (λ (a b : Bool). a || b) (member_without_least front v u e h) (member_set_of 64 (λ i. member rest i && member (near v) i) u h)

-- and the rest's.
pub rest_members : (near : ℕ → ℕ) (rest v u : ℕ) → u < 64 → member (rest_after near rest v) u ≡ (member rest u && not (member (near v) u))
rest_members near rest v u h =
    member_set_of 64 (λ i. member rest i && not (member (meet_of rest (near v)) i)) u h
    ∙ rw (member_set_of 64 (λ i. member rest i && member (near v) i) u h) (go (member rest u) (member (near v) u))
  where
    go : (x y : Bool) → (x && not (x && y)) ≡ (x && not y)
    go true y = refl
    go false y = refl

-- A vertex of the front after a round was in the front, or is a neighbour out of the rest,
pub front_from : (near : ℕ → ℕ) (front rest : ℕ) {v : ℕ} → least_member front ≡ Some v → (u : ℕ) → u < 64 → member (front_after near front rest v) u ≡ true
    → (member front u ≡ true) ⊎ ((member rest u ≡ true) × (member (near v) u ≡ true))
front_from near front rest {v} e u h m = go (eqb u v) (member front u) (member rest u) (member (near v) u) (sym (front_members near front rest e u h) ∙ m)
  where
    go : (x f r n : Bool) → ((not x && f) || (r && n)) ≡ true → (f ≡ true) ⊎ ((r ≡ true) × (n ≡ true))
    go x true r n q = inl refl
    go x false true true q = inr (refl, refl)
    go true false true false q = absurd (false≢true q)
    go false false true false q = absurd (false≢true q)
    go true false false n q = absurd (false≢true q)
    go false false false n q = absurd (false≢true q)

-- and one of the rest was in the rest, and is no neighbour.
pub rest_from : (near : ℕ → ℕ) (rest v u : ℕ) → u < 64 → member (rest_after near rest v) u ≡ true → (member rest u ≡ true) × (member (near v) u ≡ false)
rest_from near rest v u h m =
    (tells_both _ _ (tells_itself (member rest u)) (tells_not (member (near v) u))).0 (sym (rest_members near rest v u h) ∙ m)

-- The same neighbours below 64 spread in the same way.
spreads_congr : (near far : ℕ → ℕ) → ((v : ℕ) → v < 64 → near v ≡ far v) → (k front rest : ℕ)
    → spreads near k front rest ≡ spreads far k front rest
unfolding spreads
spreads_congr near far same zero front rest = refl
spreads_congr near far same (suc k) front rest = go (spreads_congr near far same k) (least_member front) refl
  where
    go : ((f r : ℕ) → spreads near k f r ≡ spreads far k f r) → (l : Option ℕ) → least_member front ≡ l
        → spreads near (suc k) front rest ≡ spreads far (suc k) front rest
    go again (Some v) e =
        rw (e, same v (least_below_member 64 (member front) e).below, again) refl
    go again None e = rw e refl

pub connected_set_congr : (near far : ℕ → ℕ) → ((v : ℕ) → v < 64 → near v ≡ far v) → (set : ℕ) → connected_set near set ≡ connected_set far set
unfolding connected_set
connected_set_congr near far same set = spreads_congr near far same 64 _ _
