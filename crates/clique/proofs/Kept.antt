-- What a search holds that tries mappings in their order and keeps a larger one: what it held before, where none of them is larger,
-- else of the largest of them the first.
use mathlib.Core.Path.{◌≡◌, refl, sym}
use mathlib.Core.Logic.{◌↔◌, ◌⊎◌, inl, inr, ⊎_elim}
use mathlib.Core.Bool.{Bool, true, false, cond}
use mathlib.Core.List.{List}
use mathlib.Core.Option.{Option, none, some, some-injective, none-ne-some}
use Prim.Native.Nat.{ℕ, ◌≤◌, ◌<◌}
use native.Mathlib.Omega.{arith}
use lib.Dec.{leb}
use borrow.Author.Tests.{leb-true, leb-false}
use Rattle.mapping.specs.Common.{size}
use Rattle.mapping.specs.Order.{Before}
use Rattle.search_tree.specs.Walk.{cutoff}
use Rattle.search_tree.specs.Best.{Best}
use Rattle.clique.specs.Branching.{keep_larger}

-- h is the first of the largest mappings that are tried
pub record FirstLargest (Tried : List ℕ → Type 0) (h : List ℕ) : Type 0 where
  pub tried : Tried h
  pub largest : (s : List ℕ) → Tried s → size s ≤ size h
  pub first : (s : List ℕ) → Tried s → size s ≡ size h → (s ≡ h) ⊎ Before h s

-- what is held before the mappings are tried, and what is held after
pub data Kept (minimum : ℕ) (Tried : List ℕ → Type 0) : Option (List ℕ) → Option (List ℕ) → Type 0 where
  -- none reaches the cutoff
  same : {held : Option (List ℕ)} → ((s : List ℕ) → Tried s → size s < cutoff minimum held) → Kept minimum Tried held held
  -- one does
  found : {held : Option (List ℕ)} {h : List ℕ} → cutoff minimum held ≤ size h → FirstLargest Tried h → Kept minimum Tried held (some h)

module _ {Tried Later : List ℕ → Type 0} {h : List ℕ} where
  -- the first of the largest stays so where none of those tried later is larger
  largest_earlier : ((s t : List ℕ) → Tried s → Later t → Before s t) → ((t : List ℕ) → Later t → size t ≤ size h) → FirstLargest Tried h
      → FirstLargest (λ s. Tried s ⊎ Later s) h
  largest_earlier order low f = record {
    tried = inl f.tried;
    largest = λ s. ⊎_elim (f.largest s) (low s);
    first = λ s. ⊎_elim (f.first s) (λ t e. inr (order h s f.tried t));
  }

  -- the first of the largest tried later is so of all where each tried before is smaller
  largest_later : ((s : List ℕ) → Tried s → size s < size h) → FirstLargest Later h → FirstLargest (λ s. Tried s ⊎ Later s) h
  largest_later low f = record {
    tried = inr f.tried;
    largest = λ s. ⊎_elim (λ t. omega (arith, low s t)) (f.largest s);
    first = λ s. ⊎_elim (λ t e. absurd (omega (arith, low s t))) (f.first s);
  }

module _ {minimum : ℕ} where
  -- Where no mapping is tried, what is held stays.
  pub kept_none : {Tried : List ℕ → Type 0} {held : Option (List ℕ)} → ((s : List ℕ) → Tried s → ⊥) → Kept minimum Tried held held
  kept_none none_Tried = same (λ s t. absurd (none_Tried s t))

  -- One mapping is tried by `keep_larger`.
  pub kept_one : (path : List ℕ) (held : Option (List ℕ)) → Kept minimum (λ s. s ≡ path) held (keep_larger minimum path held)
  unfolding keep_larger
  kept_one path held = go (leb (cutoff minimum held) (size path)) refl
    where
      go : (b : Bool) → leb (cutoff minimum held) (size path) ≡ b → Kept minimum (λ s. s ≡ path) held (cond b (some path) held)
      go true reaches = found (leb-true _ _ reaches) (record { tried = refl; largest = λ s e. rw e (omega arith); first = λ s e same_size. inl e })
      go false low = same {held = held} (λ s e. rw e (leb-false _ _ low))

  -- Mappings are tried and then others, each of which comes after them: so all are tried.
  pub kept_then : {Tried Later : List ℕ → Type 0} {held mid after : Option (List ℕ)} → ((s t : List ℕ) → Tried s → Later t → Before s t)
      → Kept minimum Tried held mid → Kept minimum Later mid after → Kept minimum (λ s. Tried s ⊎ Later s) held after
  kept_then order (same low) (same lower) = same (λ s. ⊎_elim (low s) (lower s))
  kept_then order (same low) (found reaches g) = found reaches (largest_later (λ s t. omega (arith, low s t)) g)
  kept_then order (found reaches f) (same low) = found reaches (largest_earlier order (λ t u. omega (arith, low t u)) f)
  kept_then {held = held} order (found reaches f) (found {h = h} larger g) =
      found {held = held} {h = h} (omega arith) (largest_later (λ s t. omega (arith, f.largest s t)) g)

  -- What is held depends only on which mappings are tried.
  pub kept_same : {Tried Other : List ℕ → Type 0} {held after : Option (List ℕ)} → ((s : List ℕ) → Tried s ↔ Other s)
      → Kept minimum Tried held after → Kept minimum Other held after
  kept_same alike (same low) = same (λ s o. low s ((alike s).1 o))
  kept_same alike (found {h = h} reaches f) = found reaches (record {
    tried = (alike h).0 f.tried;
    largest = λ s o. f.largest s ((alike s).1 o);
    first = λ s o. f.first s ((alike s).1 o);
  })

  -- Where nothing is held before, the best of those tried is held after.
  pub kept_best : {Tried : List ℕ → Type 0} {after : Option (List ℕ)} → Kept minimum Tried none after → Best Tried minimum after
  kept_best (same low) = record {
    none_reaches = λ e. low;
    good = λ h e. absurd (none-ne-some h e);
    reaches = λ h e. absurd (none-ne-some h e);
    largest = λ h e. absurd (none-ne-some h e);
    first = λ h e. absurd (none-ne-some h e);
  }
  kept_best (found {h = h} reaches f) = record {
    none_reaches = λ e. absurd (none-ne-some h (sym e));
    good = λ g e. rw (← some-injective h g e) f.tried;
    reaches = λ g e. rw (← some-injective h g e) reaches;
    largest = λ g e. rw (← some-injective h g e) f.largest;
    first = λ g e. rw (← some-injective h g e) f.first;
  }
