-- The loop that goes through the members of a set, the least first, and gathers those that pass a test.
use mathlib.Core.Path.{◌≡◌, refl, sym, ap, ◌∙◌}
use mathlib.Core.Bool.{Bool, true, false, not, ◌&&◌, ◌||◌, and-true, and-false, and-eq-true_iff}
use Prim.Native.Nat.{ℕ, ◌<◌}
use native.Mathlib.Decide.{ℕ_discrete}
use lib.Dec.{eqb}
use borrow.Author.Tests.{eq-eqb, ne_eqb}
use Rattle.bitset.specs.Members.{member, set_of, insert}
use Rattle.bitset.specs.Least.{least_member, without_least, IsLeast}
use Rattle.std.specs.Prelude.{Some, None}
use Rattle.bitset.proofs.SetOf.{set_of_lt, set_of_congr, insert_set_of, no_member, member_set_of}
use Rattle.bitset.proofs.LeastBelow.{least_below_member, least_below_empty}
use Rattle.bitset.proofs.WithoutLeast.{member_without_least}

-- the members that are no longer left and pass
abbrev passed : ℕ → (ℕ → Bool) → ℕ → ℕ → Bool
passed s test rest v = member s v && not (member rest v) && test v

-- The invariant: what is left are members, and of the others those that pass are gathered.
pub record GatheredTo (s : ℕ) (test : ℕ → Bool) (rest word : ℕ) : Type 0 where
  pub within : (v : ℕ) → v < 64 → member rest v ≡ true → member s v ≡ true
  pub gathered : word ≡ set_of 64 (passed s test rest)

module _ (s : ℕ) (test : ℕ → Bool) where
  -- At first all members are left.
  pub gathered_none : GatheredTo s test s 0
  gathered_none = record {
    within = λ v h e. e;
    gathered = sym ((no_member 64 (set_of_lt 64 (passed s test s))).1 (λ v h. member_set_of 64 (passed s test s) v h ∙ go (member s v) (test v)));
  }
    where
      go : (a b : Bool) → (a && not a && b) ≡ false
      go true b = refl
      go false b = refl

  module _ {rest word v : ℕ} (g : GatheredTo s test rest word) (found : least_member rest ≡ Some v) {next : ℕ} (left : next ≡ without_least rest) where
    -- of what is left next, v is no member
    others : (j : ℕ) → j < 64 → member next j ≡ (not (eqb j v) && member rest j)
    others j h = ap (λ (n : ℕ). member n j) left ∙ member_without_least rest v j found h

    still_within : (j : ℕ) → j < 64 → member next j ≡ true → member s j ≡ true
    still_within j h e = g.within j h ((and-eq-true_iff (not (eqb j v)) (member rest j)).0 (sym (others j h) ∙ e)).1

    least : IsLeast 64 (member rest) v
    least = least_below_member 64 (member rest) found

    -- The least member left passes, and is added,
    pub gathered_added : test v ≡ true → {more : ℕ} → more ≡ insert word v → GatheredTo s test next more
    gathered_added e added = record {
      within = still_within;
      gathered = added ∙ ap (λ (n : ℕ). insert n v) g.gathered ∙ insert_set_of (passed s test rest) v ∙ set_of_congr 64 _ _ (λ j h. same j h (ℕ_discrete j v));
    }
      where
        same : (j : ℕ) → j < 64 → Dec (j ≡ v) → (eqb j v || passed s test rest j) ≡ passed s test next j
        same j h (yes q) =
            let in_set : member s j ≡ true = rw q (g.within v least.below least.passes) in
            let passes : test j ≡ true = rw q e in
            rw (others j h, eq-eqb j v q, in_set, passes)
        same j h (no n) = rw (others j h, ne_eqb j v n)

    -- or it does not.
    pub gathered_skipped : test v ≡ false → {more : ℕ} → more ≡ word → GatheredTo s test next more
    gathered_skipped e kept = record { within = still_within; gathered = kept ∙ g.gathered ∙ set_of_congr 64 _ _ (λ j h. same j h (ℕ_discrete j v)) }
      where
        same : (j : ℕ) → j < 64 → Dec (j ≡ v) → passed s test rest j ≡ passed s test next j
        same j h (yes q) =
            let fails : test j ≡ false = rw q e in
            rw (fails, and-false (member s j && not (member rest j)), and-false (member s j && not (member next j)))
        same j h (no n) = rw (others j h, ne_eqb j v n)

  -- In the end all members that pass are gathered.
  pub gathered_all : {rest word : ℕ} → GatheredTo s test rest word → least_member rest ≡ None → word ≡ set_of 64 (λ v. member s v && test v)
  gathered_all {rest} g none =
      g.gathered ∙ set_of_congr 64 _ _ (λ v h. rw (least_below_empty 64 (member rest) none v h, and-true) refl)
