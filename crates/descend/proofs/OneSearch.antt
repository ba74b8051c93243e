-- So many visits of a descent, by those of the search that it is in: they stay in that search, or exhaust it, and what is left of them is made one lower.
use mathlib.Core.Path.{◌≡◌, refl, sym, ap, ◌∙◌}
use mathlib.Core.Bool.{Bool, true, false, cond, true≢false, false≢true}
use Prim.Native.Nat.{ℕ, zero, suc, ◌+◌, ◌-◌, ◌≤◌, ◌<◌}
use native.Mathlib.Omega.{arith}
use borrow.Author.Tests.{ltb-true}
use Rattle.search_tree.specs.Search.{Search}
use Rattle.search_tree.specs.Walk.{State}
use Rattle.search_tree.proofs.Steps.{visit_steps, visit_finished}
use Rattle.checkpoint.specs.Checkpoints.{has_incumbent}
use Rattle.search.specs.Call.{visits}
use Rattle.descend.specs.Descent.{Descent, fresh_at, is_exhausted, exhausted, renewed, visited, descents, is_done, made}

-- what an exhausted search is
pub record Exhausted (floor minimum : ℕ) (finished holds : Bool) : Type 0 where
  pub ended : finished ≡ true
  pub empty : holds ≡ false
  pub above : floor < minimum

pub exhausted_facts : (floor minimum : ℕ) (finished holds : Bool) → is_exhausted floor minimum finished holds ≡ true → Exhausted floor minimum finished holds
exhausted_facts floor minimum true true e = absurd (false≢true e)
exhausted_facts floor minimum true false e = record { ended = refl; empty = refl; above = ltb-true floor minimum e }
exhausted_facts floor minimum false holds e = absurd (false≢true e)

-- A descent that is not exhausted goes on as it is.
pub renewed_same : (floor : ℕ) (d : Descent) → exhausted floor d ≡ false → renewed floor d ≡ d
unfolding renewed
renewed_same floor d e = rw e

-- An exhausted one begins anew.
pub renewed_anew : (floor : ℕ) (d : Descent) → exhausted floor d ≡ true → renewed floor d ≡ fresh_at (d.minimum - 1)
unfolding renewed
renewed_anew floor d e = rw e

module _ (S : Search) (floor : ℕ) where
  -- No visit of a search that has not begun.
  pub fresh_at_none : (minimum : ℕ) → descents S floor 0 (fresh_at minimum) ≡ fresh_at minimum
  unfolding descents renewed
  fresh_at_none minimum = refl

  pub made_none : (d : Descent) → made S floor 0 d ≡ 0
  unfolding made
  made_none d = refl

  -- One visit more goes on from where those before it lead.
  descents_from : (k j : ℕ) (d e : Descent) → descents S floor k d ≡ descents S floor j e → descents S floor (suc k) d ≡ descents S floor (suc j) e
  unfolding descents
  descents_from k j d e same = ap (λ (x : Descent). renewed floor (visited S x)) same

  -- It is made unless the descent is done.
  made_next : (k : ℕ) (d : Descent) {e : Descent} {done : Bool} → descents S floor k d ≡ e → is_done e ≡ done → made S floor (suc k) d ≡ made S floor k d + cond done 0 1
  unfolding made
  made_next k d same b = rw (same, b)

  made_from : (k j : ℕ) (d e : Descent) (spent : ℕ) → descents S floor k d ≡ descents S floor j e → made S floor k d ≡ spent + made S floor j e
      → made S floor (suc k) d ≡ spent + made S floor (suc j) e
  unfolding made
  made_from k j d e spent same count = rw same (omega (arith, count))

  module _ (minimum : ℕ) (s : State) where
    -- the descent in that search, at first and after k visits of it
    abbrev from : Descent
    from = record { minimum = minimum; state = s }

    abbrev pub after : ℕ → Descent
    after k = record { minimum = minimum; state = visits S minimum k s }

    -- the visits that the search makes of k
    abbrev pub spent : ℕ → ℕ
    spent k = (visits S minimum k s).steps - s.steps

    -- it makes them all until it is finished
    pub record Counted (k : ℕ) : Type 0 where
      pub forward : s.steps ≤ (visits S minimum k s).steps
      pub within : (visits S minimum k s).steps ≤ s.steps + k
      pub busy : (visits S minimum k s).finished ≡ false → (visits S minimum k s).steps ≡ s.steps + k

    pub data Goes (k : ℕ) : Type 0 where
      -- the search goes on, or is finished for good
      stays : exhausted floor (after k) ≡ false → descents S floor k from ≡ after k → made S floor k from ≡ spent k → Goes k
      -- it is exhausted, with so many visits left
      renews : exhausted floor (after k) ≡ true → (left : ℕ) → spent k + left ≡ k
          → descents S floor k from ≡ descents S floor left (fresh_at (minimum - 1))
          → made S floor k from ≡ spent k + made S floor left (fresh_at (minimum - 1)) → Goes k

    module _ (k : ℕ) where
      -- a finished search stays
      after_finished : (visits S minimum k s).finished ≡ true → visits S minimum (suc k) s ≡ visits S minimum k s
      unfolding visits
      after_finished e = visit_finished S minimum (visits S minimum k s) e

      -- an unfinished one makes one step more
      after_busy : (visits S minimum k s).finished ≡ false → (visits S minimum (suc k) s).steps ≡ (visits S minimum k s).steps + 1
      unfolding visits
      after_busy e = visit_steps S minimum (visits S minimum k s) e

      after_next : descents S floor k from ≡ after k → descents S floor (suc k) from ≡ renewed floor (after (suc k))
      unfolding descents visits
      after_next same = ap (λ (d : Descent). renewed floor (visited S d)) same

    pub counted : (k : ℕ) → Counted k
    unfolding visits
    counted zero = record { forward = omega arith; within = omega arith; busy = λ e. omega arith }
    counted (suc k) = go (visits S minimum k s).finished refl (counted k)
      where
        go : (b : Bool) → (visits S minimum k s).finished ≡ b → Counted k → Counted (suc k)
        go true e c = record {
          forward = rw (after_finished k e) c.forward;
          within = rw (after_finished k e) (omega (arith, c.within));
          busy = λ f. absurd (true≢false (sym e ∙ ap (λ (x : State). x.finished) (sym (after_finished k e)) ∙ f));
        }
        go false e c = record {
          forward = omega (arith, after_busy k e, c.forward);
          within = omega (arith, after_busy k e, c.within);
          busy = λ f. omega (arith, after_busy k e, c.busy e);
        }

    goes_none : Goes zero
    unfolding visits descents
    goes_none = go (exhausted floor from) refl
      where
        go : (b : Bool) → exhausted floor from ≡ b → Goes zero
        go true e = renews e 0 (omega arith) (renewed_anew floor from e ∙ sym (fresh_at_none (minimum - 1))) (omega (arith, made_none from, made_none (fresh_at (minimum - 1))))
        go false e = stays e (renewed_same floor from e) (omega (arith, made_none from))

    goes_more : (k : ℕ) → Goes k → Goes (suc k)
    goes_more k (renews e left sum same count) =
        let still = after_finished k (exhausted_facts floor minimum (visits S minimum k s).finished (has_incumbent (visits S minimum k s).incumbent) e).ended in
        renews (rw still e) (suc left) (rw still (omega (arith, sum))) (descents_from k left _ _ same) (rw still (made_from k left _ _ (spent k) same count))
    goes_more k (stays e same count) = go (visits S minimum k s).finished (exhausted floor (after (suc k))) refl refl
      where
        go : (b f : Bool) → (visits S minimum k s).finished ≡ b → exhausted floor (after (suc k)) ≡ f → Goes (suc k)
        go true f b x =
            let still = after_finished k b in
            let off : exhausted floor (after (suc k)) ≡ false = rw still e in
            stays off (after_next k same ∙ renewed_same floor (after (suc k)) off) (made_next k from same b ∙ rw still (omega (arith, count)))
        go false true b x =
            renews x 0 (omega (arith, after_busy k b, (counted k).busy b))
            (after_next k same ∙ renewed_anew floor (after (suc k)) x ∙ sym (fresh_at_none (minimum - 1)))
            (made_next k from same b ∙ omega (arith, count, after_busy k b, (counted k).busy b, made_none (fresh_at (minimum - 1))))
        go false false b x =
            stays x (after_next k same ∙ renewed_same floor (after (suc k)) x)
            (made_next k from same b ∙ omega (arith, count, after_busy k b, (counted k).forward))

    -- So many visits stay in the search, or exhaust it.
    pub goes : (k : ℕ) → Goes k
    goes zero = goes_none
    goes (suc k) = goes_more k (goes k)
