-- The choices of a row rise, and so those after one of them are the ones that stand behind it.
use mathlib.Core.Path.{◌≡◌, refl, sym, ap₂, ◌∙◌}
use mathlib.Core.Logic.{⊎_elim}
use mathlib.Core.Bool.{Bool, true, false, cond, ◌&&◌, and-true, and-false}
use mathlib.Core.List.Memᴰ
use mathlib.Core.List.{
  List,
  [],
  ◌∷◌,
  ◌++◌,
  nil≢cons,
  head-eq_of_cons-eq,
  tail-eq_of_cons-eq,
  Memᴰ,
}
use Prim.Native.Nat.{ℕ, zero, suc, ◌≤◌, ◌<◌}
use native.Mathlib.Omega.{arith}
use lib.Dec.{ltb}
use lib.ListN.{length}
use borrow.Author.Tests.{ltb-true, ltb-false, lt-ltb, le-ltb}
use Rattle.bounded.specs.Below.{run_below}
use Rattle.mapping.specs.Common.{unmapped}
use Rattle.search_tree.specs.Rules.{Rules}
use Rattle.search_tree.specs.Node.{candidate, list_if, candidates, choices, choices_after}
use Rattle.search_tree.proofs.Passing.{passing, Rising, rising_snoc}
use Rattle.search_tree.proofs.Candidates.{candidate_value, mem_candidates, rising_candidates}

-- the numbers of a list that are above w
above : ℕ → List ℕ → List ℕ
above w [] = []
above w (a ∷ l) = cond (ltb w a) (a ∷ above w l) (above w l)

above_append : (w : ℕ) (l m : List ℕ) → above w (l ++ m) ≡ above w l ++ above w m
unfolding above
above_append w [] m = refl
above_append w (a ∷ l) m = rw (above_append w l m) (go (ltb w a))
  where
    go : (t : Bool) → cond t (a ∷ (above w l ++ above w m)) (above w l ++ above w m) ≡ cond t (a ∷ above w l) (above w l) ++ above w m
    go true = refl
    go false = refl

above_list_if : (w v : ℕ) (t : Bool) → above w (list_if t v) ≡ list_if (ltb w v && t) v
unfolding above
above_list_if w v true = go (ltb w v)
  where
    go : (t : Bool) → cond t (v ∷ []) [] ≡ list_if (t && true) v
    go true = refl
    go false = refl
above_list_if w v false = rw and-false refl

above_passing : (w n : ℕ) (t : ℕ → Bool) → above w (passing n t) ≡ passing n (λ v. ltb w v && t v)
unfolding run_below above
above_passing w zero t = refl
above_passing w (suc n) t = above_append w (passing n t) (list_if (t n) n) ∙ ap₂ ◌++◌ (above_passing w n t) (above_list_if w n (t n))

-- all of them, where all are above w
above_all : (w : ℕ) (l : List ℕ) → ((b : ℕ) → Memᴰ b l → w < b) → above w l ≡ l
unfolding above
above_all w [] all = refl
above_all w (a ∷ l) all =
    rw (lt-ltb w a (all a (Memᴰ.head refl)), above_all w l (λ b m. all b (Memᴰ.tail m)))

mem_above : (w : ℕ) {b : ℕ} (l : List ℕ) → Memᴰ b (above w l) → (w < b) × Memᴰ b l
unfolding above
mem_above w [] m = absurd (Memᴰ.not-nil m)
mem_above w {b} (a ∷ l) m = go (ltb w a) refl m (mem_above w l)
  where
    go : (t : Bool) → ltb w a ≡ t → Memᴰ b (cond t (a ∷ above w l) (above w l)) → (Memᴰ b (above w l) → (w < b) × Memᴰ b l)
        → (w < b) × Memᴰ b (a ∷ l)
    go true q m later =
        ⊎_elim (λ (e : b ≡ a). (rw e (ltb-true w a q), Memᴰ.head e)) (λ i. ((later i).0, Memᴰ.tail (later i).1))
        (Memᴰ.cases_cons m)
    go false q m later = ((later m).0, Memᴰ.tail (later m).1)

-- behind the first number of a rising list stand those above it
rising_behind : (c : ℕ) (l rest : List ℕ) → Rising l → l ≡ c ∷ rest → above c l ≡ rest
unfolding above
rising_behind c [] rest r e = absurd (nil≢cons e)
rising_behind c (a ∷ l) rest r e =
    let same : a ≡ c = head-eq_of_cons-eq e in
    rw (le-ltb c a (omega arith), above_all c l (λ b m. let h : a < b = r.0 b m in omega arith)) (tail-eq_of_cons-eq e)

-- behind the first number above w stand those above that one
rising_next : (w c : ℕ) (l rest : List ℕ) → Rising l → above w l ≡ c ∷ rest → above c l ≡ rest
unfolding above
rising_next w c [] rest r e = absurd (nil≢cons e)
rising_next w c (a ∷ l) rest r e = go (ltb w a) refl e (rising_next w c l rest r.1)
  where
    go : (t : Bool) → ltb w a ≡ t → cond t (a ∷ above w l) (above w l) ≡ c ∷ rest → (above w l ≡ c ∷ rest → above c l ≡ rest)
        → cond (ltb c a) (a ∷ above c l) (above c l) ≡ rest
    go true q e later =
        let low = ltb-true w a q in
        let all : above w l ≡ l = above_all w l (λ b m. omega (arith, r.0 b m)) in
        rising_behind c (a ∷ l) rest r (rw all at e)
    go false q e later =
        let low = ltb-false w a q in
        let high = mem_above w {b = c} l (rw e (Memᴰ.head refl)) in
        rw (le-ltb c a (omega arith)) (later e)

module _ (R : Rules) (path : List ℕ) where
  -- the choices after w are those above w
  choices_after_above : (w : ℕ) → choices_after R path w ≡ above w (choices R path)
  unfolding choices_after choices candidates
  choices_after_above w =
      let test = candidate R path (length path) in
      ap₂ ◌++◌ (sym (above_passing w R.values test)) (sym (above_list_if w unmapped true ∙ (rw and-true refl)))
      ∙ sym (above_append w (passing R.values test) (unmapped ∷ []))

  -- The choices after w are choices.
  pub mem_choices_after : (w : ℕ) {v : ℕ} → Memᴰ v (choices_after R path w) → Memᴰ v (choices R path)
  mem_choices_after w m = (mem_above w (choices R path) (rw (choices_after_above w) at m)).1

  module _ (few : R.values ≤ unmapped) where
    -- The choices rise: 255 is above every candidate.
    pub rising_choices : Rising (choices R path)
    unfolding choices
    rising_choices =
        rising_snoc (candidates R path (length path)) unmapped (rising_candidates R path (length path))
        (λ v m. omega (arith, candidate_value R path (length path) v ((mem_candidates R path (length path)).0 m)))

    -- The choices after the first one are those behind it.
    pub choices_after_first : (c : ℕ) (rest : List ℕ) → choices R path ≡ c ∷ rest → choices_after R path c ≡ rest
    choices_after_first c rest e = choices_after_above c ∙ rising_behind c (choices R path) rest rising_choices e

    -- The choices after the first one after w are those behind it.
    pub choices_after_next : (w c : ℕ) (rest : List ℕ) → choices_after R path w ≡ c ∷ rest → choices_after R path c ≡ rest
    choices_after_next w c rest e =
        choices_after_above c ∙ rising_next w c (choices R path) rest rising_choices (sym (choices_after_above w) ∙ e)
