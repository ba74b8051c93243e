-- Entries of a list of numbers that a loop settles one after another, each once: those before v have their values, and the others are as they were.
use mathlib.Core.Path.{◌≡◌, refl, ◌∙◌}
use mathlib.Core.List.{List}
use Prim.Native.Nat.{ℕ, ◌+◌, ◌≤◌, ◌<◌}
use native.Mathlib.Decide.{ℕ_discrete}
use native.Mathlib.Omega.{arith}
use lib.ListN.{length, get_or, set, length-set}
use lib.Seq.{get_or-set_same, get_or-set_other}

module _ (f : ℕ → ℕ) (before : List ℕ) where
  pub record SettledTo (v : ℕ) (l : List ℕ) : Type 0 where
    pub entries : length l ≡ length before
    pub settled : (u : ℕ) → u < v → get_or l u 0 ≡ f u
    pub others : (u : ℕ) → v ≤ u → get_or l u 0 ≡ get_or before u 0

  pub settled_none : SettledTo 0 before
  settled_none = record { entries = refl; settled = λ u h. omega (arith, h); others = λ u h. refl }

  module _ {v : ℕ} {l : List ℕ} (s : SettledTo v l) where
    -- The next entry gets its value.
    pub settled_more : {x : ℕ} → v < length before → x ≡ f v → SettledTo (v + 1) (set l v x)
    settled_more {x} h e = record {
      entries = length-set l v x ∙ s.entries;
      settled = λ u h'. go u h' (ℕ_discrete u v);
      others = λ u h'. get_or-set_other l v u x 0 (λ q. omega (arith, q, h')) ∙ s.others u (omega arith);
    }
      where
        go : (u : ℕ) → u < v + 1 → Dec (u ≡ v) → get_or (set l v x) u 0 ≡ f u
        go u h' (yes q) = rw q (get_or-set_same l v x 0 (omega (arith, s.entries)) ∙ e)
        go u h' (no n) = get_or-set_other l v u x 0 n ∙ s.settled u (omega arith)

    -- The next entry had its value.
    pub settled_skip : get_or before v 0 ≡ f v → SettledTo (v + 1) l
    settled_skip e = record {
      entries = s.entries;
      settled = λ u h. go u h (ℕ_discrete u v);
      others = λ u h. s.others u (omega arith);
    }
      where
        go : (u : ℕ) → u < v + 1 → Dec (u ≡ v) → get_or l u 0 ≡ f u
        go u h (yes q) = rw q (s.others v (omega arith) ∙ e)
        go u h (no n) = s.settled u (omega arith)
