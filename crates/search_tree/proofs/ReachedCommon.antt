-- The walk of a problem reaches exactly the paths that, with the undecided rows left out, are common subgraphs.
use mathlib.Core.Path.{◌≡◌, refl, sym, ap, subst, ◌∙◌}
use mathlib.Core.Logic.{◌↔◌, ◌⊎◌, inl, inr, ⊎_elim, ◌≢◌}
use mathlib.Core.Bool.{Bool, true, false, ◌&&◌, ◌||◌, and-eq-true_iff, false≢true}
use mathlib.Core.List.{List, [], append-nil}
use Prim.Native.Nat.{ℕ, ◌+◌, ◌-◌, ◌≤◌, ◌<◌}
use native.Mathlib.Decide.{ℕ_discrete, dec_lt}
use native.Mathlib.Omega.{arith}
use lib.Dec.{ltb, eqb}
use lib.ListN.{length, get_or, take, replicate, length-append, length-replicate, get_or-replicate, get_or-append}
use lib.Seq.{length-take-le, get_or-take, get_or-append-add}
use borrow.Author.Tests.{lt-ltb, eq-eqb, eqb-true}
use Rattle.bounded.specs.Below.{all_below}
use Rattle.bounded.proofs.AllBelow.{true_all_below}
use Rattle.problem.specs.Problem.{Problem, SoundProblem, allowed, consistent}
use Rattle.mapping.specs.Common.{unmapped, Common, Pairwise}
use Rattle.problem.proofs.Consistent.{allowed_facts}
use Rattle.mapping.proofs.Pairwise.{common_pairwise, pairwise_common}
use Rattle.branch_bound.specs.Tree.{Under}
use Rattle.search_tree.specs.Rules.{Rules, rules_of}
use Rattle.search_tree.specs.Search.{search_of}
use Rattle.search_tree.specs.Node.{fits, candidate}
use Rattle.search_tree.specs.Trees.{tree, Reached, filled}
use Rattle.search_tree.proofs.Candidates.{candidate_value, candidate_fits}
use Rattle.search_tree.proofs.LastNodes.{under_root}

-- one of two tests passes
one_passes : (a b : Bool) → ((a || b) ≡ true) ↔ ((a ≡ true) ⊎ (b ≡ true))
one_passes true b = (λ e. inl refl, λ e. refl)
one_passes false b = (λ e. inr e, ⊎_elim (λ e. absurd (false≢true e)) (λ e. e))

module _ (R : Rules) (path : List ℕ) where
  -- what the test of a candidate asks: a value that the row may take, alone and beside each decided row that has a partner
  pub record IsCandidate (r v : ℕ) : Type 0 where
    pub value : v < R.values
    pub alone : R.allowed r v ≡ true
    pub beside : (i : ℕ) → i < length path → (get_or path i 0 ≡ unmapped) ⊎ (R.consistent i (get_or path i 0) r v ≡ true)

  -- A value passes the test exactly when it is such a candidate.
  pub candidate_is : (r v : ℕ) → (candidate R path r v ≡ true) ↔ IsCandidate r v
  unfolding candidate
  candidate_is r v = (to, from)
    where
      value : Bool
      value = ltb v R.values

      to : (value && R.allowed r v && all_below (length path) (fits R path r v)) ≡ true → IsCandidate r v
      to e = record {
        value = candidate_value R path r v e;
        alone = ((and-eq-true_iff value (R.allowed r v)).0 ((and-eq-true_iff (value && R.allowed r v) _).0 e).0).1;
        beside = λ i h. ⊎_elim (λ q. inl (eqb-true (get_or path i 0) unmapped q)) (λ q. inr q)
            ((one_passes (eqb (get_or path i 0) unmapped) _).0 (candidate_fits R path r v e i h));
      }

      each : IsCandidate r v → (i : ℕ) → i < length path → fits R path r v i ≡ true
      each c i h =
          (one_passes (eqb (get_or path i 0) unmapped) _).1
          (⊎_elim (λ q. inl (eq-eqb (get_or path i 0) unmapped q)) (λ q. inr q) (c.beside i h))

      from : IsCandidate r v → (value && R.allowed r v && all_below (length path) (fits R path r v)) ≡ true
      from c = rw (lt-ltb v R.values c.value, c.alone, true_all_below (length path) (fits R path r v) (each c)) refl

module _ (P : Problem) (path : List ℕ) where
  -- the decided rows keep their entries
  filled_decided : (v : ℕ) → v < length path → get_or (filled (rules_of P) path) v 0 ≡ get_or path v 0
  filled_decided v h = get_or-append path (replicate (P.old.order - length path) unmapped) 0 v h

  -- the undecided rows are left out
  filled_undecided : (j : ℕ) → j < P.old.order - length path → get_or (filled (rules_of P) path) (length path + j) 0 ≡ unmapped
  filled_undecided j h = get_or-append-add path _ j 0 ∙ get_or-replicate (P.old.order - length path) j unmapped 0 h

  module _ (short : length path ≤ P.old.order) where
    filled_length : length (filled (rules_of P) path) ≡ P.old.order
    filled_length =
        let left = P.old.order - length path in
        omega (arith, length-append path (replicate left unmapped), length-replicate left unmapped)

    -- a row that has a partner in the filled path is decided
    mapped_decided : (v : ℕ) → v < length (filled (rules_of P) path) → get_or (filled (rules_of P) path) v 0 ≢ unmapped → v < length path
    mapped_decided v h m = go (dec_lt v (length path))
      where
        go : Dec (v < length path) → v < length path
        go (yes l) = l
        go (no nl) =
            let e : v ≡ length path + (v - length path) = omega arith in
            absurd (m (ap (λ (k : ℕ). get_or (filled (rules_of P) path) k 0) e ∙ filled_undecided (v - length path) (omega (arith, filled_length))))

  -- A reached path fills up to allowed and consistent rows.
  pub reached_pairwise : Reached (rules_of P) path → Pairwise P (filled (rules_of P) path)
  reached_pairwise r = record { entries = filled_length r.depth; alone = alone; together = together }
    where
      l : List ℕ
      l = filled (rules_of P) path

      -- each decided row with a partner has a candidate for it
      decided : (v : ℕ) → v < length path → get_or path v 0 ≢ unmapped → IsCandidate (rules_of P) (take v path) v (get_or path v 0)
      decided v h m = ⊎_elim (λ e. absurd (m e)) (λ c. (candidate_is (rules_of P) (take v path) v (get_or path v 0)).0 c) (r.entry v h)

      alone : (v : ℕ) → v < length l → get_or l v 0 ≢ unmapped → allowed P v (get_or l v 0) ≡ true
      alone v h m =
          let d = mapped_decided r.depth v h m in
          let e = filled_decided v d in
          rw e (decided v d (rw e at m)).alone

      together : (u v : ℕ) → u < v → v < length l → get_or l u 0 ≢ unmapped → get_or l v 0 ≢ unmapped
          → consistent P u (get_or l u 0) v (get_or l v 0) ≡ true
      together u v h k mu mv =
          let d = mapped_decided r.depth v k mv in
          let eu = filled_decided u (omega arith) in
          let ev = filled_decided v d in
          let earlier = get_or-take v path u 0 h in
          rw (eu, ev) (⊎_elim (λ (e : get_or (take v path) u 0 ≡ unmapped). absurd (mu (eu ∙ sym earlier ∙ e)))
          (λ (c : consistent P u (get_or (take v path) u 0) v (get_or path v 0) ≡ true). rw earlier at c)
          ((decided v d (rw ev at mv)).beside u (omega (arith, length-take-le v path (omega arith)))))

  -- A path that fills up to allowed and consistent rows is reached.
  pub pairwise_reached : length path ≤ P.old.order → Pairwise P (filled (rules_of P) path) → Reached (rules_of P) path
  pairwise_reached short p = record { depth = short; entry = λ k h. go k h (ℕ_discrete (get_or path k 0) unmapped) }
    where
      l : List ℕ
      l = filled (rules_of P) path

      inside : (k : ℕ) → k < length path → k < length l
      inside k h = omega (arith, filled_length short)

      alone : (k : ℕ) → k < length path → get_or path k 0 ≢ unmapped → allowed P k (get_or path k 0) ≡ true
      alone k h m = let e = filled_decided k h in rw e at (p.alone k (inside k h) (rw e m))

      beside : (k i : ℕ) → k < length path → i < k → get_or path k 0 ≢ unmapped → Dec (get_or path i 0 ≡ unmapped)
          → (get_or path i 0 ≡ unmapped) ⊎ (consistent P i (get_or path i 0) k (get_or path k 0) ≡ true)
      beside k i h j m (yes e) = inl e
      beside k i h j m (no n) =
          let ei = filled_decided i (omega arith) in
          let ek = filled_decided k h in
          inr (rw (ei, ek) at (p.together i k j (inside k h) (rw ei n) (rw ek m)))

      go : (k : ℕ) → k < length path → Dec (get_or path k 0 ≡ unmapped)
          → (get_or path k 0 ≡ unmapped) ⊎ (candidate (rules_of P) (take k path) k (get_or path k 0) ≡ true)
      go k h (yes e) = inl e
      go k h (no m) = inr ((candidate_is (rules_of P) (take k path) k (get_or path k 0)).1 (record {
        value = (allowed_facts P k (get_or path k 0) (alone k h m)).0;
        alone = alone k h m;
        beside = λ i j.
            let early : i < k = omega (arith, length-take-le k path (omega arith)) in
            rw (get_or-take k path i 0 early) (beside k i h early m (ℕ_discrete (get_or path i 0) unmapped));
      }))

module _ (P : Problem) (sound : SoundProblem P) where
  -- A path is reached exactly when it is no longer than the rows and, filled up, a common subgraph.
  pub reached_common : (path : List ℕ) → Reached (rules_of P) path ↔ ((length path ≤ P.old.order) × Common P (filled (rules_of P) path))
  reached_common path = (
    λ r. (r.depth, pairwise_common P (filled (rules_of P) path) sound (reached_pairwise P path r)),
    λ c. pairwise_reached P path c.0 (common_pairwise P (filled (rules_of P) path) c.1),
  )

  -- A path that decides every row is reached exactly when it is a common subgraph.
  pub full_common : (path : List ℕ) → (Reached (rules_of P) path × (length path ≡ P.old.order)) ↔ Common P path
  full_common path = (
    λ r. subst (Common P) (same r.1) ((reached_common path).0 r.0).1,
    λ c. ((reached_common path).1 (omega (arith, c.entries), subst (Common P) (sym (same c.entries)) c), c.entries),
  )
    where
      same : length path ≡ P.old.order → filled (rules_of P) path ≡ path
      same e = let none : P.old.order - length path ≡ 0 = omega arith in rw (none, append-nil)

  -- The last nodes of the tree are the common subgraphs, whichever the search.
  pub last_common : (connected : Bool) (l : List ℕ) → Under (tree (search_of connected P)) [] l ↔ Common P l
  last_common connected l = (
    λ u. (full_common l).0 ((under_root (search_of connected P) l).0 u),
    λ c. (under_root (search_of connected P) l).1 ((full_common l).1 c),
  )
