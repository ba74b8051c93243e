-- What goes on step by step until it is done, and then stays: its total, that it is there and one, and how many steps are made.
use mathlib.Core.Path.{◌≡◌, refl, sym, ap, ◌∙◌}
use mathlib.Core.Logic.{◌↔◌}
use mathlib.Core.Bool.{Bool, true, false, cond, true≢false}
use Prim.Native.Nat.{ℕ, zero, suc, ◌+◌, ◌≤◌, ◌<◌, min}
use native.Mathlib.Decide.{dec_le, le_ind}
use native.Mathlib.Omega.{arith}

module _ {A : Type 0} (run : ℕ → A) (done : A → Bool) (stays : (k : ℕ) → done (run k) ≡ true → run (suc k) ≡ run k) where
  -- done after t steps and after no fewer
  pub record Ends (t : ℕ) : Type 0 where
    pub ended : done (run t) ≡ true
    pub busy : (k : ℕ) → k < t → done (run k) ≡ false

  -- Once done nothing changes.
  pub done_stays : (k j : ℕ) → done (run k) ≡ true → k ≤ j → run j ≡ run k
  done_stays k j end = le_ind (λ j. run j ≡ run k) refl (λ j h same. stays j (ap done same ∙ end) ∙ same) j

  module _ {t : ℕ} (total : Ends t) where
    -- It is done exactly from the total on.
    pub done_from : (k : ℕ) → (done (run k) ≡ true) ↔ (t ≤ k)
    done_from k = (λ end. go end (dec_le t k), λ h. ap done (done_stays t k total.ended h) ∙ total.ended)
      where
        go : done (run k) ≡ true → Dec (t ≤ k) → t ≤ k
        go end (yes h) = h
        go end (no nh) = absurd (true≢false (sym end ∙ total.busy k (omega arith)))

    -- Steps above the total need not be counted.
    pub capped : (k : ℕ) → run (min t k) ≡ run k
    capped k = go (dec_le k t)
      where
        go : Dec (k ≤ t) → run (min t k) ≡ run k
        go (yes h) = let e : min t k ≡ k = omega arith in rw e
        go (no h) = let e : min t k ≡ t = omega arith in rw e (sym (done_stays t k total.ended (omega arith)))

    -- What counts a step until it is done counts up to the total.
    pub counts : (count : ℕ → ℕ) → count 0 ≡ 0 → ((k : ℕ) → count (suc k) ≡ count k + cond (done (run k)) 0 1) → (k : ℕ) → count k ≡ min t k
    counts count first next zero = omega (arith, first)
    counts count first next (suc k) = go (counts count first next k) (done (run k)) refl
      where
        go : count k ≡ min t k → (b : Bool) → done (run k) ≡ b → count (suc k) ≡ min t (suc k)
        go before true e = omega (arith, rw e at (next k), before, (done_from k).0 e)
        go before false e = omega (arith, rw e at (next k), before, early (dec_le t k))
          where
            early : Dec (t ≤ k) → k < t
            early (yes h) = absurd (true≢false (sym ((done_from k).1 h) ∙ e))
            early (no nh) = omega arith

  -- There is one total.
  pub ends_unique : {t u : ℕ} → Ends t → Ends u → t ≡ u
  ends_unique {t} {u} a b =
      let below : t ≤ u = (done_from a u).0 b.ended in
      let above : u ≤ t = (done_from b t).0 a.ended in
      omega arith

  -- What is done after k steps has a total, at most k.
  pub ends_exist : (k : ℕ) → done (run k) ≡ true → (t : ℕ) × Ends t × (t ≤ k)
  ends_exist zero end = (0, record { ended = end; busy = λ k h. absurd (omega arith) }, omega arith)
  ends_exist (suc k) end = go (ends_exist k) (done (run k)) refl
    where
      go : (done (run k) ≡ true → (t : ℕ) × Ends t × (t ≤ k)) → (b : Bool) → done (run k) ≡ b → (t : ℕ) × Ends t × (t ≤ suc k)
      go before true e = let early = before e in (early.0, early.1, omega (arith, early.2))
      go before false e = (suc k, record { ended = end; busy = λ j h. busy j h (done (run j)) refl }, omega arith)
        where
          busy : (j : ℕ) → j < suc k → (b : Bool) → done (run j) ≡ b → b ≡ false
          busy j h true f = absurd (true≢false (sym (ap done (done_stays j k f (omega arith)) ∙ f) ∙ e))
          busy j h false f = refl
