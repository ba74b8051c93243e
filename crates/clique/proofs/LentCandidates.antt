-- The candidates of a row by what the code is lent: a free vertex whose edges fit is one that fits beside the rows before, and these are the candidates by
-- the rules of the search.
use mathlib.Core.Path.{◌≡◌, refl, sym, ap, ap₂, ◌∙◌}
use mathlib.Core.Bool.{Bool, true, false, not, ◌&&◌, ◌||◌, and_assoc, and-false}
use mathlib.Core.List.{List}
use Prim.Native.Nat.{ℕ, zero, suc, ◌≤◌, ◌<◌}
use native.Mathlib.Decide.{ℕ_discrete}
use native.Mathlib.Nat.{le_refl}
use native.Mathlib.Omega.{arith}
use lib.Dec.{ltb, eqb}
use lib.ListN.{length, get_or, take}
use lib.Seq.{length-take-le, get_or-take}
use borrow.Author.Tests.{lt-ltb, eq-eqb, ne_eqb}
use Rattle.bounded.specs.Below.{all_below, some_below}
use Rattle.bitset.specs.Members.{member, set_of, difference_of}
use Rattle.bitset.proofs.SetOf.{set_of_congr, member_set_of}
use Rattle.problem.specs.Problem.{consistent}
use Rattle.problem.specs.declared.Problem.{Problem as LentProblem}
use Rattle.mapping.specs.Common.{unmapped}
use Rattle.search_tree.specs.Node.{fits, candidate}
use Rattle.search_tree.proofs.Sums.{all_below_agree}
use Rattle.clique.specs.LentRules.{lent_rules, edge_fits, lent_candidate}
use Rattle.clique.specs.Carried.{Small}

-- none passes the one test and all pass the other, where all pass both at once
none_and_all : (n : ℕ) (some all both : ℕ → Bool) → ((i : ℕ) → i < n → (not (some i) && all i) ≡ both i)
    → (not (some_below n some) && all_below n all) ≡ all_below n both
unfolding some_below all_below
none_and_all zero some all both each = refl
none_and_all (suc n) some all both each =
    go (some_below n some) (some n) (all_below n all) (all n)
    ∙ ap₂ ◌&&◌ (none_and_all n some all both (λ i h. each i (omega arith))) (each n (le_refl (suc n)))
  where
    go : (a b c d : Bool) → (not (a || b) && (c && d)) ≡ ((not a && c) && (not b && d))
    go true b c d = refl
    go false true true d = refl
    go false true false d = refl
    go false false c d = refl

module _ (p : LentProblem) (sets path : List ℕ) (r : ℕ) where
  -- beside one row: another vertex, and an edge that fits
  beside : (v i : ℕ) → v < 64 → (not (eqb v (get_or path i 0)) && edge_fits p path r v i) ≡ fits (lent_rules p sets) path r v i
  unfolding consistent
  beside v i h = go (ℕ_discrete (get_or path i 0) unmapped) (ℕ_discrete v (get_or path i 0))
    where
      go : Dec (get_or path i 0 ≡ unmapped) → Dec (v ≡ get_or path i 0)
          → (not (eqb v (get_or path i 0)) && edge_fits p path r v i) ≡ fits (lent_rules p sets) path r v i
      go (yes e) d = rw (ne_eqb v (get_or path i 0) (λ q. omega arith), eq-eqb (get_or path i 0) unmapped e) refl
      go (no n) (yes q) = rw (eq-eqb v (get_or path i 0) q, ne_eqb (get_or path i 0) unmapped n, eq-eqb (get_or path i 0) v (sym q)) refl
      go (no n) (no m) = rw (ne_eqb v (get_or path i 0) m, ne_eqb (get_or path i 0) unmapped n, ne_eqb (get_or path i 0) v (λ q. m (sym q))) refl

  -- The free vertices of the row's set whose edges fit are its candidates.
  pub free_fitting : {used free : ℕ} → used ≡ set_of 64 (λ v. some_below r (λ i. eqb v (get_or path i 0))) → free ≡ difference_of (get_or sets r 0) used
      → set_of 64 (λ v. member free v && all_below r (edge_fits p path r v)) ≡ set_of 64 (lent_candidate p sets path r)
  free_fitting {used} {free} u f = set_of_congr 64 _ _ (λ v h. ap (λ (b : Bool). b && all_below r (edge_fits p path r v)) (in_free v h) ∙ each v h)
    where
      taken : ℕ → Bool
      taken v = some_below r (λ i. eqb v (get_or path i 0))

      in_free : (v : ℕ) → v < 64 → member free v ≡ (member (get_or sets r 0) v && not (taken v))
      in_free v h =
          ap (λ (n : ℕ). member n v) f ∙ member_set_of 64 (λ i. member (get_or sets r 0) i && not (member used i)) v h
          ∙ ap (λ (b : Bool). member (get_or sets r 0) v && not b) (ap (λ (n : ℕ). member n v) u ∙ member_set_of 64 taken v h)

      each : (v : ℕ) → v < 64 → (member (get_or sets r 0) v && not (taken v) && all_below r (edge_fits p path r v)) ≡ lent_candidate p sets path r v
      each v h =
          and_assoc (member (get_or sets r 0) v) (not (taken v)) (all_below r (edge_fits p path r v))
          ∙ ap (λ (b : Bool). member (get_or sets r 0) v && b)
          (none_and_all r (λ i. eqb v (get_or path i 0)) (edge_fits p path r v) (fits (lent_rules p sets) path r v) (λ i l. beside v i h))

  -- They are the candidates by the rules, since the row's set holds new vertices only.
  pub lent_candidates : Small p sets → r < p.old.order → r ≤ length path
      → set_of 64 (lent_candidate p sets path r) ≡ set_of 64 (candidate (lent_rules p sets) (take r path) r)
  unfolding candidate
  lent_candidates small row short = set_of_congr 64 _ _ (λ v h. ap₂ ◌&&◌ (value v (member (get_or sets r 0) v) refl) (shorter v))
    where
      value : (v : ℕ) (b : Bool) → member (get_or sets r 0) v ≡ b → b ≡ (ltb v (p.new.order) && b)
      value v true e = rw (lt-ltb v (p.new.order) (small.new_vertices r v row e))
      value v false e = sym (and-false (ltb v (p.new.order)))

      shorter : (v : ℕ) → all_below r (fits (lent_rules p sets) path r v)
          ≡ all_below (length (take r path)) (fits (lent_rules p sets) (take r path) r v)
      shorter v = rw (length-take-le r path short) (all_below_agree r _ _ (λ i l. rw (get_or-take r path i 0 l)))
