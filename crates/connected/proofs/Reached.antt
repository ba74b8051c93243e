-- What it means that a set hangs together: what holds of its least vertex, and goes over from each of its vertices to the neighbours among them, holds of all.
use mathlib.Core.Path.{◌≡◌, refl, sym, ◌∙◌}
use mathlib.Core.Bool.{Bool, true, false, not, ◌&&◌, ◌||◌, true≢false}
use mathlib.Core.Logic.{⊎_elim}
use Prim.Native.Nat.{ℕ, zero, suc, ◌+◌, ◌^◌, ◌≤◌, ◌<◌}
use native.Mathlib.Decide.{ℕ_discrete}
use native.Mathlib.Omega.{arith}
use lib.Dec.{eqb}
use borrow.Author.Tests.{eq-eqb, ne_eqb, eqb-true}
use Rattle.bitset.specs.Members.{member, difference_of}
use Rattle.bitset.specs.Count.{size}
use Rattle.bitset.specs.Least.{least_member, without_least, IsLeast}
use Rattle.std.specs.Prelude.{Option}
use Rattle.std.specs.Prelude.{Some, None}
use Rattle.bitset.proofs.Membership.{member_zero}
use Rattle.bitset.proofs.SetOf.{set_of_lt, member_set_of, no_member}
use Rattle.bitset.proofs.CountBelow.{count_below_zero}
use Rattle.bitset.proofs.LeastBelow.{least_below_member, least_below_empty}
use Rattle.bitset.proofs.WithoutLeast.{member_without_least}
use Rattle.bounded.proofs.Tells.{tells_itself, tells_not, tells_both}
use Rattle.connected.specs.Spreading.{spreads, connected_set}
use Rattle.connected.proofs.Spread.{Within, front_after, rest_after, without_within, front_members, rest_members, front_from, rest_from}
use Rattle.connected.proofs.Spread.{spreads_done, spreads_stuck, spreads_round, round_smaller, start_size}

-- W holds of all vertices of a set
abbrev pub All : ℕ → (ℕ → Type 0) → Type 0
All set W = (v : ℕ) → v < 64 → member set v ≡ true → W v

-- W goes over from each vertex of the set to its neighbours in the set
abbrev pub Passes : (ℕ → ℕ) → ℕ → (ℕ → Type 0) → Type 0
Passes near set W = (v u : ℕ) → v < 64 → u < 64 → member set v ≡ true → member set u ≡ true → member (near v) u ≡ true → W v → W u

module _ (near : ℕ → ℕ) (set : ℕ) (W : ℕ → Type 0) (passes : Passes near set W) where
  -- What holds of the front, and goes over to neighbours, holds of a rest that is reached.
  reached : (k front rest : ℕ) → Within front set → Within rest set → All front W → spreads near k front rest ≡ true → All rest W
  unfolding spreads
  reached zero front rest fs rs fw e v h m = absurd (true≢false (sym m ∙ rw (eqb-true rest 0 e) (member_zero v)))
  reached (suc k) front rest fs rs fw e v h m = go (reached k) (ℕ_discrete rest 0) (least_member front) refl
    where
      go : ((f r : ℕ) → Within f set → Within r set → All f W → spreads near k f r ≡ true → All r W)
          → Dec (rest ≡ 0) → (l : Option ℕ) → least_member front ≡ l → W v
      go again (yes q) l found = absurd (true≢false (sym m ∙ rw q (member_zero v)))
      go again (no n) None found = absurd (true≢false (sym e ∙ spreads_stuck near (suc k) front rest n found))
      go again (no n) (Some x) found = pick (member (near x) v) refl
        where
          least : IsLeast 64 (member front) x
          least = least_below_member 64 (member front) found

          met : (u : ℕ) → u < 64 → member rest u ≡ true → member (near x) u ≡ true → W u
          met u l r near-x = passes x u least.below l (fs x least.below least.passes) (rs u l r) near-x (fw x least.below least.passes)

          pick : (b : Bool) → member (near x) v ≡ b → W v
          pick true q = met v h m q
          pick false q =
              again (front_after near front rest x) (rest_after near rest x)
              (λ u l i. ⊎_elim (λ f. fs u l f) (λ r. rs u l r.0) (front_from near front rest found u l i))
              (λ u l i. rs u l (rest_from near rest x u l i).0)
              (λ u l i. ⊎_elim (λ f. fw u l f) (λ r. met u l r.0 r.1) (front_from near front rest found u l i))
              (sym (spreads_round near k front rest n found) ∙ e)
              v h (rest_members near rest x v h ∙ rw (m, q) refl)

-- all vertices of the set are reached from s
abbrev pub Reaches : (ℕ → ℕ) → ℕ → ℕ → Type 1
Reaches near set s = (W : ℕ → Type 0) → Passes near set W → W s → All set W

module _ (near : ℕ → ℕ) (set s : ℕ) (below : s < 64) (reaches : Reaches near set s) where
  -- the vertices of the set that are taken out of the front have no neighbours in the rest
  Settled : ℕ → ℕ → Type 0
  Settled front rest = (v u : ℕ) → v < 64 → u < 64 → member set v ≡ true → member front v ≡ false → member rest v ≡ false → member rest u ≡ true → member (near v) u ≡ false

  -- where the front is empty, nothing is left
  nothing_left : (front rest : ℕ) → rest < 2 ^ 64 → Within rest set → member rest s ≡ false → Settled front rest → least_member front ≡ None → rest ≡ 0
  unfolding Settled
  nothing_left front rest word rs out settled e = (no_member 64 word).1 (λ v h. none v h (member rest v) refl)
    where
      passes : Passes near set (λ v. member rest v ≡ false)
      passes v u hv hu sv su n w = go (member rest u) refl
        where
          go : (b : Bool) → member rest u ≡ b → member rest u ≡ false
          go true q = absurd (true≢false (sym n ∙ settled v u hv hu sv (least_below_empty 64 (member front) e v hv) w q))
          go false q = q

      none : (v : ℕ) → v < 64 → (b : Bool) → member rest v ≡ b → member rest v ≡ false
      none v h true q = reaches (λ u. member rest u ≡ false) passes out v h (rs v h q)
      none v h false q = q

  settled_round : (front rest : ℕ) {x : ℕ} → least_member front ≡ Some x → Settled front rest → Settled (front_after near front rest x) (rest_after near rest x)
  unfolding Settled
  settled_round front rest {x} found settled v u hv hu sv f r ru = go (ℕ_discrete v x)
    where
      outside : (y f r n : Bool) → y ≡ false → ((not y && f) || (r && n)) ≡ false → (r && not n) ≡ false → (f ≡ false) × (r ≡ false)
      outside true f r n y p q = absurd (true≢false y)
      outside false true r n y p q = absurd (true≢false p)
      outside false false true true y p q = absurd (true≢false p)
      outside false false true false y p q = absurd (true≢false q)
      outside false false false n y p q = (refl, refl)

      go : Dec (v ≡ x) → member (near v) u ≡ false
      go (yes q) = rw q (rest_from near rest x u hu ru).1
      go (no n) =
          let before = outside (eqb v x) (member front v) (member rest v) (member (near x) v) (ne_eqb v x n)
          (sym (front_members near front rest found v hv) ∙ f) (sym (rest_members near rest x v hv) ∙ r) in
          settled v u hv hu sv before.0 before.1 (rest_from near rest x u hu ru).0

  -- Rounds for each of the front and of the rest reach all of the rest.
  all_reached : (k front rest : ℕ) → rest < 2 ^ 64 → size front + size rest ≤ k → Within rest set → member rest s ≡ false → Settled front rest
      → spreads near k front rest ≡ true
  unfolding spreads
  all_reached zero front rest word few rs out settled = eq-eqb rest 0 ((no_member 64 word).1 ((count_below_zero 64 (member rest)).0 (omega arith)))
  all_reached (suc k) front rest word few rs out settled = go (all_reached k) (ℕ_discrete rest 0) (least_member front) refl
    where
      go : ((f r : ℕ) → r < 2 ^ 64 → size f + size r ≤ k → Within r set → member r s ≡ false → Settled f r → spreads near k f r ≡ true)
          → Dec (rest ≡ 0) → (l : Option ℕ) → least_member front ≡ l → spreads near (suc k) front rest ≡ true
      go again (yes q) l found = spreads_done near (suc k) front rest q
      go again (no n) None found = absurd (n (nothing_left front rest word rs out settled found))
      go again (no n) (Some x) found =
          spreads_round near k front rest n found
          ∙ again (front_after near front rest x) (rest_after near rest x) (set_of_lt 64 _)
          (omega (arith, round_smaller near front rest found))
          (λ u l i. rs u l (rest_from near rest x u l i).0)
          (rest_members near rest x s below ∙ rw out refl)
          (settled_round front rest found settled)

-- A set with no vertex hangs together.
pub none_connected_set : (near : ℕ → ℕ) (set : ℕ) → least_member set ≡ None → connected_set near set ≡ true
unfolding connected_set
none_connected_set near set e = spreads_done near 64 _ _ (rw e refl)

module _ (near : ℕ → ℕ) (set : ℕ) {s : ℕ} (found : least_member set ≡ Some s) where
  least : IsLeast 64 (member set) s
  least = least_below_member 64 (member set) found

  -- the front at the start: the vertices of the set that are not in the rest,
  started : (v : ℕ) → v < 64 → member (difference_of set (without_least set)) v ≡ (member set v && not (member (without_least set) v))
  started v h = member_set_of 64 (λ i. member set i && not (member (without_least set) i)) v h

  in_front : (v : ℕ) → v < 64 → member (difference_of set (without_least set)) v ≡ true → (member set v ≡ true) × (member (without_least set) v ≡ false)
  in_front v h m = (tells_both _ _ (tells_itself (member set v)) (tells_not (member (without_least set) v))).0 (sym (started v h) ∙ m)

  -- which is the least alone
  only_least : (v : ℕ) → v < 64 → member set v ≡ true → member (without_least set) v ≡ false → v ≡ s
  only_least v h m out = go (eqb v s) refl (sym (member_without_least set s v found h) ∙ out)
    where
      go : (b : Bool) → eqb v s ≡ b → (not b && member set v) ≡ false → v ≡ s
      go true e q = eqb-true v s e
      go false e q = absurd (true≢false (sym m ∙ q))

  -- What hangs together is reached from its least vertex,
  pub connected_set_reaches : connected_set near set ≡ true → Reaches near set s
  unfolding connected_set
  connected_set_reaches e W passes own v h m = go (member (without_least set) v) refl
    where
      go : (b : Bool) → member (without_least set) v ≡ b → W v
      go true q =
          reached near set W passes 64 (difference_of set (without_least set)) (without_least set)
          (λ u l i. (in_front u l i).0)
          (without_within set)
          (λ u l i. rw (only_least u l (in_front u l i).0 (in_front u l i).1) own)
          e v h q
      go false q = rw (only_least v h m q) own

  -- and what is reached from it hangs together.
  pub reaches_connected_set : Reaches near set s → connected_set near set ≡ true
  unfolding connected_set Settled
  reaches_connected_set reaches =
      all_reached near set s least.below reaches 64 (difference_of set (without_least set)) (without_least set)
      (rw found (set_of_lt 64 _))
      (start_size set)
      (without_within set)
      (member_without_least set s s found least.below ∙ rw (eq-eqb s s refl) refl)
      (λ v u hv hu sv f r ru. absurd (true≢false (sym (started v hv ∙ rw (sv, r) refl) ∙ f)))
