-- The loops that fill the masks: those of one new vertex, a neighbour a turn, and those of all new vertices, a vertex a turn.
use mathlib.Core.Path.{◌≡◌, refl, sym, ap, ◌∙◌}
use mathlib.Core.Bool.{Bool, not, ◌&&◌, and_assoc}
use mathlib.Core.Logic.{◌⊎◌, ⊎_elim, inl, inr}
use mathlib.Core.List.{List}
use Prim.Native.Nat.{ℕ, ◌+◌, ◌*◌, ◌≤◌, ◌<◌}
use native.Mathlib.Nat.{eq-or-lt_of_le}
use native.Mathlib.Decide.{ℕ_discrete}
use native.Mathlib.Omega.{arith}
use lib.Dec.{ltb, eqb}
use lib.ListN.{length, get_or, set, replicate, length-set, length-replicate, get_or-replicate}
use lib.Seq.{get_or-set_same, get_or-set_other}
use borrow.Author.Tests.{eq-eqb, ne_eqb}
use Rattle.bitset.specs.Members.{set_of, insert}
use Rattle.bitset.proofs.SetOf.{set_of_congr, set_of_add, set_of_skip, set_of_within}
use Rattle.graph.specs.Graph.{Graph, edge}
use Rattle.search.specs.Words.{mask_of, MaskRow}

-- u is another vertex than w, with an edge of label k to it
abbrev pub joined : Graph → ℕ → ℕ → ℕ → Bool
joined g w k u = not (eqb w u) && eqb k (edge g w u)

-- The invariant: the masks of w hold its neighbours below v, and nothing else changed.
pub record MaskedTo (g : Graph) (w v : ℕ) (masks masks' : List ℕ) : Type 0 where
  pub within : v ≤ g.order
  pub words : length masks' ≡ length masks
  pub mask : (k : ℕ) → k < 256 → get_or masks' (256 * w + k) 0 ≡ set_of v (joined g w k)
  pub kept : (i : ℕ) → (i < 256 * w) ⊎ (256 * w + 256 ≤ i) → get_or masks' i 0 ≡ get_or masks i 0

-- At first the masks of w are empty.
pub masked_none : (g : Graph) (w : ℕ) (masks : List ℕ) → ((k : ℕ) → k < 256 → get_or masks (256 * w + k) 0 ≡ 0)
    → MaskedTo g w 0 masks masks
unfolding set_of
masked_none g w masks empty = record { within = omega arith; words = refl; mask = empty; kept = λ i h. refl }

-- The vertex w itself is in none of its masks.
pub masked_self : (g : Graph) (w v : ℕ) (masks masks' : List ℕ) → v < g.order → v ≡ w
    → MaskedTo g w v masks masks' → MaskedTo g w (v + 1) masks masks'
masked_self g w v masks masks' h e s = record {
  within = omega arith;
  words = s.words;
  mask = λ k l. s.mask k l ∙ set_of_skip (joined g w k) v (rw (eq-eqb w v (sym e)));
  kept = s.kept;
}

-- Another vertex is added to the mask of its edge's label.
pub masked_more : (g : Graph) (w v : ℕ) (masks masks' : List ℕ) (at word : ℕ)
    → v < g.order → g.order ≤ 64 → (v ≡ w → ⊥) → edge g w v < 256 → at < length masks
    → at ≡ 256 * w + edge g w v → word ≡ insert (get_or masks' at 0) v
    → MaskedTo g w v masks masks' → MaskedTo g w (v + 1) masks (set masks' at word)
masked_more g w v masks masks' at word h o n byte room place e s = record {
  within = omega arith;
  words = length-set masks' at word ∙ s.words;
  mask = λ k l. added k l (ℕ_discrete k (edge g w v));
  kept = λ i l. get_or-set_other masks' at i word 0 (λ q. ⊎_elim (λ below. omega arith) (λ above. omega arith) l) ∙ s.kept i l;
}
  where
    added : (k : ℕ) → k < 256 → Dec (k ≡ edge g w v) → get_or (set masks' at word) (256 * w + k) 0 ≡ set_of (v + 1) (joined g w k)
    added k l (yes q) =
        let here : 256 * w + k ≡ at = omega arith in
        rw here
        (get_or-set_same masks' at word 0 (omega (arith, s.words)) ∙ e ∙ ap (λ (x : ℕ). insert x v) (rw here at (s.mask k l))
        ∙ set_of_add (joined g w k) v (omega arith) (rw (ne_eqb w v (λ p. n (sym p)), eq-eqb k (edge g w v) q)))
    added k l (no q) =
        get_or-set_other masks' at (256 * w + k) word 0 (λ p. q (omega arith)) ∙ s.mask k l
        ∙ set_of_skip (joined g w k) v (rw (ne_eqb w v (λ p. n (sym p)), ne_eqb k (edge g w v) q))

-- At the end they are the masks of w.
pub masked_all : (g : Graph) (w v : ℕ) (masks masks' : List ℕ) → g.order ≤ 64 → g.order ≤ v
    → MaskedTo g w v masks masks' → MaskRow g w masks masks'
masked_all g w v masks masks' o h s = record {
  words = s.words;
  mask = λ k l. s.mask k l ∙ whole k;
  kept = s.kept;
}
  where
    whole : (k : ℕ) → set_of v (joined g w k) ≡ mask_of g w k
    whole k =
        let all : v ≡ g.order = omega (arith, s.within) in
        ap (λ (n : ℕ). set_of n (joined g w k)) all ∙ set_of_within g.order (joined g w k) o
        ∙ set_of_congr 64 _ _ (λ u l. sym (and_assoc (ltb u g.order) (not (eqb w u)) (eqb k (edge g w u))))

-- The invariant of the loop over the new vertices: the masks of those below w are filled in, and the others are empty.
pub record MasksTo (g : Graph) (w : ℕ) (masks : List ℕ) : Type 0 where
  pub words : length masks ≡ 16384
  pub mask : (u k : ℕ) → u < w → k < 256 → get_or masks (256 * u + k) 0 ≡ mask_of g u k
  pub rest : (i : ℕ) → 256 * w ≤ i → i < 16384 → get_or masks i 0 ≡ 0

-- At first all masks are empty.
pub masks_none : (g : Graph) (masks : List ℕ) → masks ≡ replicate 16384 0 → MasksTo g 0 masks
masks_none g masks e = record {
  words = ap length e ∙ length-replicate {A = ℕ} 16384 0;
  mask = λ u k h l. absurd (omega arith);
  rest = λ i h l. ap (λ (m : List ℕ). get_or m i 0) e ∙ get_or-replicate 16384 i 0 0 l;
}

-- The masks of the next vertex are filled in.
pub masks_more : (g : Graph) (w : ℕ) (masks masks' : List ℕ) → MasksTo g w masks → MaskRow g w masks masks' → MasksTo g (w + 1) masks'
masks_more g w masks masks' s m = record {
  words = m.words ∙ s.words;
  mask = λ u k h l.
      ⊎_elim
      (λ (q : u ≡ w). rw q (m.mask k l))
      (λ below. m.kept (256 * u + k) (inl (omega arith)) ∙ s.mask u k below l)
      (eq-or-lt_of_le (omega arith));
  rest = λ i h l. m.kept i (inr (omega arith)) ∙ s.rest i (omega arith) l;
}
