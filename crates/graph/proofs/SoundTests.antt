-- The tests of soundness pass exactly on sound graphs.
use mathlib.Core.Path.{◌≡◌, refl}
use mathlib.Core.Bool.{Bool, true, false, cond, or-false, and-eq-true_iff}
use mathlib.Core.List.{List}
use Prim.Native.Nat.{ℕ, ◌≤◌, ◌<◌, max}
use native.Mathlib.Omega.{arith}
use lib.Dec.{ltb, eqb}
use lib.ListN.{length, get_or}
use borrow.Author.Tests.{ltb-true, ltb-false, leb-true, eqb-true, eqb-false, lt-ltb, le-ltb, le-leb, lt-leb, eq-eqb}
use Rattle.bounded.proofs.AllBelow.{all_below_true, true_all_below}
use Rattle.answers.specs.Answer.{passed, refused}
use Rattle.graph.specs.Graph.{Graph, Sound, place, max_label}
use Rattle.graph.specs.Soundness.{tables_fit, label_sound, labels_sound, edge_sound, row_sound, edges_sound, soundness}

-- ---- one label and one edge

-- what the test of one label asks
abbrev LabelFacts : ℕ → List ℕ → ℕ → Type 0
LabelFacts n labels v = (v < n → (1 ≤ get_or labels v 0) × (get_or labels v 0 ≤ max_label)) × (n ≤ v → get_or labels v 0 ≡ 0)

label_passes : (n : ℕ) (labels : List ℕ) (v : ℕ) → LabelFacts n labels v → label_sound n labels v ≡ true
label_passes n labels v f = go (ltb v n) refl
  where
    go : (t : Bool) → ltb v n ≡ t → label_sound n labels v ≡ true
    go true e = let l = f.0 (ltb-true v n e) in simp (e, le-leb 1 (get_or labels v 0) l.0, le-leb (get_or labels v 0) max_label l.1)
    go false e = simp (e, eq-eqb (get_or labels v 0) 0 (f.1 (ltb-false v n e)))

label_facts : (n : ℕ) (labels : List ℕ) (v : ℕ) → label_sound n labels v ≡ true → LabelFacts n labels v
label_facts n labels v e = (inside, outside)
  where
    inside : v < n → (1 ≤ get_or labels v 0) × (get_or labels v 0 ≤ max_label)
    inside h =
        let l = simp (lt-ltb v n h, and-eq-true_iff) at e in
        (leb-true 1 (get_or labels v 0) l.0, leb-true (get_or labels v 0) max_label l.1)

    outside : n ≤ v → get_or labels v 0 ≡ 0
    outside h = eqb-true (get_or labels v 0) 0 (simp (le-ltb v n h) at e)

-- what the test of one edge asks
abbrev pub EdgeFacts : ℕ → List ℕ → ℕ → ℕ → Type 0
EdgeFacts n edges a b =
    (get_or edges (place a b) 0 ≤ 255)
    × (get_or edges (place a b) 0 ≡ get_or edges (place b a) 0)
    × (n ≤ max a b → get_or edges (place a b) 0 ≡ 0)

edge_passes : (n : ℕ) (edges : List ℕ) (a b : ℕ) → EdgeFacts n edges a b → edge_sound n edges a b ≡ true
edge_passes n edges a b f = go (eqb x 0) refl
  where
    x : ℕ
    x = get_or edges (place a b) 0

    go : (t : Bool) → eqb x 0 ≡ t → edge_sound n edges a b ≡ true
    go true e = simp (le-leb x 255 f.0, eq-eqb x (get_or edges (place b a) 0) f.1, e)
    go false e =
        let within : ¬ (n ≤ max a b) = λ h. eqb-false x 0 e (f.2 h) in
        let low : max a b < n = omega arith in
        simp (le-leb x 255 f.0, eq-eqb x (get_or edges (place b a) 0) f.1, e, lt-leb n (max a b) low)

edge_facts : (n : ℕ) (edges : List ℕ) (a b : ℕ) → edge_sound n edges a b ≡ true → EdgeFacts n edges a b
edge_facts n edges a b e =
    let t = simp and-eq-true_iff at e in (
      leb-true x 255 t.0.0,
      eqb-true x (get_or edges (place b a) 0) t.0.1,
      λ h. eqb-true x 0 (simp (le-leb n (max a b) h, or-false) at t.1),
    )
  where
    x : ℕ
    x = get_or edges (place a b) 0

-- ---- all of them

labels_pass : (g : Graph) → Sound g → labels_sound g.order g.labels ≡ true
unfolding labels_sound
labels_pass g s =
    true_all_below 64 (label_sound g.order g.labels)
    (λ v h. label_passes g.order g.labels v (s.labelled v, λ o. s.unlabelled v o h))

labels_facts : (n : ℕ) (labels : List ℕ) → labels_sound n labels ≡ true → (v : ℕ) → v < 64 → LabelFacts n labels v
unfolding labels_sound
labels_facts n labels e v h = label_facts n labels v (all_below_true 64 (label_sound n labels) e v h)

pub facts_edges : (n : ℕ) (edges : List ℕ) → ((a b : ℕ) → a < 64 → b < 64 → EdgeFacts n edges a b) → edges_sound n edges ≡ true
unfolding edges_sound row_sound
facts_edges n edges each =
    true_all_below 64 (row_sound n edges)
    (λ a ha. true_all_below 64 (edge_sound n edges a) (λ b hb. edge_passes n edges a b (each a b ha hb)))

pub edges_facts : (n : ℕ) (edges : List ℕ) → edges_sound n edges ≡ true → (a b : ℕ) → a < 64 → b < 64 → EdgeFacts n edges a b
unfolding edges_sound row_sound
edges_facts n edges e a b ha hb =
    edge_facts n edges a b (all_below_true 64 (edge_sound n edges a) (all_below_true 64 (row_sound n edges) e a ha) b hb)

-- The tests find a sound graph sound.
pub sound_passes : (g : Graph) → Sound g → soundness g ≡ passed
unfolding soundness
sound_passes g s =
    simp (
      eq-eqb (length g.labels) 64 s.labels_length,
      eq-eqb (length g.edges) 4096 s.edges_length,
      le-leb g.order 64 s.order_max,
      labels_pass g s,
      facts_edges g.order g.edges
          (λ a b ha hb. (s.edge_byte a b ha hb, s.symmetric a b ha hb, s.within a b ha hb)),
    )

refused_not_passed : (number : ℕ) → refused number ≡ passed → ⊥
refused_not_passed number e = let z : ◌≡◌ {A = ℕ} 0 1 = cc in omega arith

-- three tests in a row, none of which refuses
none_refused : (t u v : Bool) → cond t (cond u (cond v passed (refused 12)) (refused 11)) (refused 10) ≡ passed
    → (t ≡ true) × (u ≡ true) × (v ≡ true)
none_refused true true true e = (refl, refl, refl)
none_refused true true false e = absurd (refused_not_passed 12 e)
none_refused true false v e = absurd (refused_not_passed 11 e)
none_refused false u v e = absurd (refused_not_passed 10 e)

-- A graph that the tests find sound is sound.
pub passes_sound : (g : Graph) → soundness g ≡ passed → Sound g
unfolding soundness
passes_sound g e =
    let tests =
    none_refused (tables_fit g.order g.labels g.edges) (labels_sound g.order g.labels) (edges_sound g.order g.edges) e in
    let fit = simp and-eq-true_iff at tests.0 in
    let each = labels_facts g.order g.labels tests.1 in
    let pair = edges_facts g.order g.edges tests.2 in
    let order_max : g.order ≤ 64 = leb-true g.order 64 fit.1 in
    record {
      labels_length = eqb-true (length g.labels) 64 fit.0.0;
      edges_length = eqb-true (length g.edges) 4096 fit.0.1;
      order_max = order_max;
      labelled = λ v h. (each v (omega arith)).0 h;
      unlabelled = λ v o h. (each v h).1 o;
      edge_byte = λ a b ha hb. (pair a b ha hb).0;
      symmetric = λ a b ha hb. (pair a b ha hb).1;
      within = λ a b ha hb. (pair a b ha hb).2;
    }
