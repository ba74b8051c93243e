-- Visits of a descent one after the other: they add up, and once the descent is done nothing changes.
use mathlib.Core.Path.{◌≡◌, refl, sym, ap, ◌∙◌}
use mathlib.Core.Bool.{Bool, true, false}
use Prim.Native.Nat.{ℕ, zero, suc, ◌+◌}
use native.Mathlib.Nat.{add-zero, add-suc}
use native.Mathlib.Omega.{arith}
use Rattle.search_tree.specs.Search.{Search}
use Rattle.search_tree.specs.Walk.{State}
use Rattle.search_tree.proofs.Steps.{visit_finished}
use Rattle.descend.specs.Descent.{Descent, fresh_at, exhausted, renewed, visited, descents, is_done, made, descent_after, start_of, IsTotal}
use Rattle.descend.proofs.OneSearch.{renewed_same, renewed_anew}
use Rattle.bounded.proofs.Endings.{Ends}

-- A new beginning is not exhausted.
pub renewed_again : (floor : ℕ) (d : Descent) → renewed floor (renewed floor d) ≡ renewed floor d
renewed_again floor d = go (exhausted floor d) refl
  where
    go : (b : Bool) → exhausted floor d ≡ b → renewed floor (renewed floor d) ≡ renewed floor d
    go true e = rw (renewed_anew floor d e) (renewed_same floor (fresh_at _) refl)
    go false e = ap (renewed floor) (renewed_same floor d e)

module _ (S : Search) (floor : ℕ) where
  -- Nor is a descent after any number of visits.
  pub descents_renewed : (k : ℕ) (d : Descent) → renewed floor (descents S floor k d) ≡ descents S floor k d
  unfolding descents
  descents_renewed zero d = renewed_again floor d
  descents_renewed (suc k) d = renewed_again floor (visited S (descents S floor k d))

  pub descents_settled : (k : ℕ) (d : Descent) → exhausted floor (descents S floor k d) ≡ false
  descents_settled k d = go (exhausted floor (descents S floor k d)) refl
    where
      go : (b : Bool) → exhausted floor (descents S floor k d) ≡ b → b ≡ false
      go false e = refl
      go true e =
          let anew = sym (renewed_anew floor (descents S floor k d) e) ∙ descents_renewed k d in
          sym e ∙ ap (exhausted floor) (sym anew)

  -- So visits add up,
  pub descents_add : (a b : ℕ) (d : Descent) → descents S floor (a + b) d ≡ descents S floor b (descents S floor a d)
  unfolding descents
  descents_add a zero d = rw (add-zero a) (sym (descents_renewed a d))
  descents_add a (suc b) d = rw (add-suc a b) (ap (λ (x : Descent). renewed floor (visited S x)) (descents_add a b d))

  -- and so do those that are made.
  pub made_add : (a b : ℕ) (d : Descent) → made S floor (a + b) d ≡ made S floor a d + made S floor b (descents S floor a d)
  unfolding made
  made_add a zero d = rw (add-zero a) (omega arith)
  made_add a (suc b) d = rw (add-suc a b, descents_add a b d) (omega (arith, made_add a b d))

  -- Once it is done nothing changes.
  pub descents_stay : (d : Descent) (k : ℕ) → is_done (descents S floor k d) ≡ true → descents S floor (suc k) d ≡ descents S floor k d
  unfolding descents
  descents_stay d k end =
      let e = descents S floor k d in
      ap (λ (s : State). renewed floor (record { minimum = e.minimum; state = s })) (visit_finished S e.minimum e.state end) ∙ descents_renewed k d

  -- the descent's total is that of its visits
  pub total_ends : {t : ℕ} → IsTotal S floor t → Ends (descent_after S floor) is_done (descents_stay (fresh_at (start_of S.rules floor))) t
  total_ends total = record { ended = total.ended; busy = total.busy }

  pub ends_total : {t : ℕ} → Ends (descent_after S floor) is_done (descents_stay (fresh_at (start_of S.rules floor))) t → IsTotal S floor t
  ends_total ends = record { ended = ends.ended; busy = ends.busy }
