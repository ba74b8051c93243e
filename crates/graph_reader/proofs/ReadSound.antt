-- Whatever reading accepts is a sound graph whose labels fit both editions, and a refused reading leaves both tables all 0.
use mathlib.Core.Path.{◌≡◌, refl, sym, ap, ◌∙◌, subst}
use mathlib.Core.Bool.{◌&&◌}
use mathlib.Core.Logic.{◌≢◌, ◌⊎◌, inl, inr, ⊎_elim}
use mathlib.Core.List.{List}
use Prim.Native.Nat.{ℕ, zero, suc, ◌+◌, ◌≤◌, ◌<◌, max}
use native.Mathlib.Decide.{ℕ_discrete}
use native.Mathlib.Omega.{arith}
use lib.Dec.{leb, eqb}
use lib.ListN.{length, get_or, drop, set, replicate, length-set, length-replicate, get_or-replicate}
use lib.Seq.{lt-length-set, get_or-set_same, get_or-set_other, get_or-drop}
use borrow.Author.Count.{below_more}
use borrow.Author.Tests.{leb-true, leb-false, eqb-false}
use Rattle.answers.specs.Answer.{Answer, accepted, refused_at, when_passed}
use Rattle.answers.proofs.Choice.{cond_cases, either}
use Rattle.graph.specs.Graph.{Graph, graph, Sound, place, label, edge, empty_graph, max_label}
use Rattle.graph.proofs.Places.{place_injective}
use Rattle.graph_reader.specs.declared.Edition.{Edition}
use Rattle.graph_reader.specs.declared.Edition.TheVariants.{One, Two}
use Rattle.graph_reader.specs.declared.commands.Command.{Command}
use Rattle.graph_reader.specs.declared.commands.Command.TheVariants.{Vertex, Edge, End, Truncated, Unknown}
use Rattle.graph_reader.specs.Commands.{decode, width}
use Rattle.graph_reader.specs.Editions.{opening_width, vertex_code, vertex_width, vertex_label, greatest_label, LabelsFit}
use Rattle.graph_reader.specs.Reading.{with_vertex, with_edge, Verdict, grows, ends, faulty, judge}
use Rattle.graph_reader.specs.Reading.{Reading, read_all, refuse, refuse_at, on_verdict, read_from, read_at, read_file, reading_edition, reading}
use Rattle.graph_reader.proofs.Openings.{opens_cases}

-- ---- the graphs that reading makes

-- The empty graph is sound.
pub empty_sound : Sound empty_graph
empty_sound =
    record {
      labels_length = length-replicate {A = ℕ} 64 0;
      edges_length = length-replicate {A = ℕ} 4096 0;
      order_max = omega arith;
      labelled = λ v h. absurd (omega arith);
      unlabelled = λ v o h. get_or-replicate 64 v 0 0 h;
      edge_byte = λ a b ha hb. omega (arith, null a b ha hb);
      symmetric = λ a b ha hb. null a b ha hb ∙ sym (null b a hb ha);
      within = λ a b ha hb o. null a b ha hb;
    }
  where
    null : (a b : ℕ) → a < 64 → b < 64 → edge empty_graph a b ≡ 0
    null a b ha hb = get_or-replicate 4096 (place a b) 0 0 (omega arith)

-- What holds of each label, and of one more, holds of each label with that vertex.
pub labels_more : (Q : ℕ → Type 0) (g : Graph) (x : ℕ) → length g.labels ≡ 64 → g.order < 64 → ((v : ℕ) → v < g.order → Q (label g v)) → Q x
    → (v : ℕ) → v < g.order + 1 → Q (label (with_vertex g x) v)
labels_more Q g x l room each q =
    below_more (λ v. Q (label (with_vertex g x) v)) g.order
    (λ v h. subst Q (sym (get_or-set_other g.labels g.order v x 0 (omega arith))) (each v h))
    (subst Q (sym (get_or-set_same g.labels g.order x 0 (omega arith))) q)

-- A vertex with a label from 1 to the greatest keeps a graph of less than 64 vertices sound.
pub with_vertex_sound : (g : Graph) (x : ℕ) → Sound g → g.order < 64 → 1 ≤ x → x ≤ max_label → Sound (with_vertex g x)
with_vertex_sound g x s room low high =
    record {
      labels_length = length-set g.labels g.order x ∙ s.labels_length;
      edges_length = s.edges_length;
      order_max = omega arith;
      labelled = labels_more (λ y. (1 ≤ y) × (y ≤ max_label)) g x s.labels_length room s.labelled (low, high);
      unlabelled = λ v o h. get_or-set_other g.labels g.order v x 0 (omega arith) ∙ s.unlabelled v (omega arith) h;
      edge_byte = s.edge_byte;
      symmetric = s.symmetric;
      within = λ a b ha hb o. s.within a b ha hb (omega arith);
    }

-- c and d are a and b, either first
abbrev pub Pair : ℕ → ℕ → ℕ → ℕ → Type 0
Pair a b c d = ((c ≡ a) × (d ≡ b)) ⊎ ((c ≡ b) × (d ≡ a))

Pair-swap : {a b c d : ℕ} → Pair a b c d → Pair a b d c
Pair-swap (inl e) = inr (e.1, e.0)
Pair-swap (inr e) = inl (e.1, e.0)

module _ (g : Graph) (a b x : ℕ) (s : Sound g) (ha : a < g.order) (hb : b < g.order) where
  pub new_edge : (c d : ℕ) → Pair a b c d → edge (with_edge g a b x) c d ≡ x
  new_edge c d p = ⊎_elim (λ e. rw (e.0, e.1) (first (ℕ_discrete (place a b) (place b a)))) (λ e. rw (e.0, e.1) second) p
    where
      second : edge (with_edge g a b x) b a ≡ x
      second = get_or-set_same (set g.edges (place a b) x) (place b a) x 0 (lt-length-set g.edges (place a b) x (omega arith))

      -- a vertex's edge with itself has one place, which is set twice
      first : Dec (place a b ≡ place b a) → edge (with_edge g a b x) a b ≡ x
      first (yes q) = ap (λ (i : ℕ). get_or (with_edge g a b x).edges i 0) q ∙ second
      first (no q) =
          get_or-set_other (set g.edges (place a b) x) (place b a) (place a b) x 0 q ∙ get_or-set_same g.edges (place a b) x 0 (omega arith)

  old_edge : (i : ℕ) → i ≢ place a b → i ≢ place b a → get_or (with_edge g a b x).edges i 0 ≡ get_or g.edges i 0
  old_edge i p q =
      get_or-set_other (set g.edges (place a b) x) (place b a) i x 0 q ∙ get_or-set_other g.edges (place a b) i x 0 p

  -- an edge is the new one, or stays as it was, both ways
  pub new_or_old : (c d : ℕ) → c < 64 → d < 64
      → Pair a b c d ⊎ ((edge (with_edge g a b x) c d ≡ edge g c d) × (edge (with_edge g a b x) d c ≡ edge g d c))
  new_or_old c d hc hd = go (ℕ_discrete (place c d) (place a b)) (ℕ_discrete (place c d) (place b a))
    where
      go : Dec (place c d ≡ place a b) → Dec (place c d ≡ place b a)
          → Pair a b c d ⊎ ((edge (with_edge g a b x) c d ≡ edge g c d) × (edge (with_edge g a b x) d c ≡ edge g d c))
      go (yes e) t = inl (inl (place_injective c d a b hd (omega arith) e))
      go (no p) (yes e) = inl (inr (place_injective c d b a hd (omega arith) e))
      go (no p) (no q) =
          inr (
            old_edge (place c d) p q,
            old_edge (place d c)
                (λ e. let i = place_injective d c a b hc (omega arith) e in q (omega arith))
                (λ e. let i = place_injective d c b a hc (omega arith) e in p (omega arith)),
          )

  -- An edge with a label up to 255 between two vertices keeps a graph sound.
  pub with_edge_sound : x ≤ 255 → Sound (with_edge g a b x)
  with_edge_sound high =
      record {
        labels_length = s.labels_length;
        edges_length = simp length-set s.edges_length;
        order_max = s.order_max;
        labelled = s.labelled;
        unlabelled = s.unlabelled;
        edge_byte = λ c d hc hd. ⊎_elim (λ p. rw (new_edge c d p) high) (λ o. rw o.0 (s.edge_byte c d hc hd)) (new_or_old c d hc hd);
        symmetric = λ c d hc hd. ⊎_elim
            (λ p. new_edge c d p ∙ sym (new_edge d c (Pair-swap p)))
            (λ o. o.0 ∙ s.symmetric c d hc hd ∙ sym o.1)
            (new_or_old c d hc hd);
        within = λ c d hc hd out. ⊎_elim
            (⊎_elim (λ e. absurd (omega arith)) (λ e. absurd (omega arith)))
            (λ o. o.0 ∙ s.within c d hc hd out)
            (new_or_old c d hc hd);
      }

-- ---- one command

-- a graph that reading makes: it is sound, and both editions hold its labels
pub record Fitting (from to : Edition) (g : Graph) : Type 0 where
  pub sound : Sound g
  pub from_fits : LabelsFit from g
  pub to_fits : LabelsFit to g

pub empty_fitting : (from to : Edition) → Fitting from to empty_graph
empty_fitting from to = record { sound = empty_sound; from_fits = λ v h. absurd (omega arith); to_fits = λ v h. absurd (omega arith) }

-- no edition holds more than the greatest label
greatest_max : (edition : Edition) → greatest_label edition ≤ max_label
greatest_max One = omega arith
greatest_max Two = omega arith

-- the label that a command gives is one that its edition holds
abbrev pub LabelHeld : Edition → Command → Type 0
LabelHeld from (Vertex x) = x ≤ greatest_label from
LabelHeld from (Edge a b x) = x ≤ 255
LabelHeld from End = Unit {0}
LabelHeld from Truncated = Unit {0}
LabelHeld from Unknown = Unit {0}

vertex_held : (from : Edition) (bytes : List ℕ) → ((i : ℕ) → get_or bytes i 0 ≤ 255) → vertex_label from bytes ≤ greatest_label from
vertex_held One bytes small = small 1
vertex_held Two bytes small = omega (arith, small 1, small 2)

-- A command decoded from bytes gives such a label.
pub decode_held : (from : Edition) (bytes : List ℕ) → ((i : ℕ) → get_or bytes i 0 ≤ 255) → LabelHeld from (decode from bytes)
decode_held from bytes small =
    either (LabelHeld from) (eqb (length bytes) 0) tt
    (either (LabelHeld from) (eqb (get_or bytes 0 0) 0) tt
    (either (LabelHeld from) (eqb (get_or bytes 0 0) (vertex_code from))
    (either (LabelHeld from) (leb (vertex_width from) (length bytes)) (vertex_held from bytes small) tt)
    (either (LabelHeld from) (eqb (get_or bytes 0 0) 2)
    (either (LabelHeld from) (leb 4 (length bytes)) (small 3) tt)
    tt)))

-- the graph that a judged command makes, if any, is such a graph
abbrev GrowsFitting : Edition → Edition → Verdict → Type 0
GrowsFitting from to (grows g) = Fitting from to g
GrowsFitting from to ends = Unit {0}
GrowsFitting from to (faulty number) = Unit {0}

verdict_fitting : (from to : Edition) (g : Graph) (c : Command) → Fitting from to g → LabelHeld from c → GrowsFitting from to (judge to g c)
unfolding judge
verdict_fitting from to g Truncated s held = tt
verdict_fitting from to g Unknown s held = tt
verdict_fitting from to g End s held = tt
verdict_fitting from to g (Vertex x) s held =
    cond_cases (GrowsFitting from to) (eqb x 0) (λ e. tt)
    (λ some. cond_cases (GrowsFitting from to) (leb 64 g.order) (λ e. tt)
    (λ full. cond_cases (GrowsFitting from to) (leb x (greatest_label to))
    (λ fits. let nonzero = eqb-false x 0 some in
    let room = leb-false 64 g.order full in
    let small = leb-true x (greatest_label to) fits in
    record {
      sound = with_vertex_sound g x s.sound room (omega arith) (omega (arith, greatest_max from));
      from_fits = labels_more (λ y. y ≤ greatest_label from) g x s.sound.labels_length room s.from_fits held;
      to_fits = labels_more (λ y. y ≤ greatest_label to) g x s.sound.labels_length room s.to_fits small;
    })
    (λ e. tt)))
verdict_fitting from to g (Edge a b x) s held =
    cond_cases (GrowsFitting from to) (leb g.order (max a b)) (λ e. tt)
    (λ given. either (GrowsFitting from to) (eqb x 0) tt
    (either (GrowsFitting from to) (eqb (edge g a b) 0)
    (let both = leb-false g.order (max a b) given in
    record { sound = with_edge_sound g a b x s.sound (omega arith) (omega arith) held; from_fits = s.from_fits; to_fits = s.to_fits })
    tt))

-- A command that stands makes such a graph of such a graph.
pub judge_fitting : (from to : Edition) (g : Graph) (c : Command) → Fitting from to g → LabelHeld from c → (g' : Graph) → judge to g c ≡ grows g' → Fitting from to g'
judge_fitting from to g c s held g' e = subst (GrowsFitting from to) e (verdict_fitting from to g c s held)

-- ---- all commands

-- What holds of each case holds of what is read after a judged command.
pub on_verdict_cases : (P : Reading → Type 0) (f : Graph → Reading) (e : Reading) (r : ℕ → Reading) (j : Verdict)
    → ((g : Graph) → j ≡ grows g → P (f g)) → P e → ((number : ℕ) → j ≡ faulty number → P (r number)) → P (on_verdict f e r j)
on_verdict_cases P f e r (grows g) grown ended faulted = grown g refl
on_verdict_cases P f e r ends grown ended faulted = ended
on_verdict_cases P f e r (faulty number) grown ended faulted = faulted number refl

abbrev pub AcceptsFitting : Edition → Edition → Reading → Type 0
AcceptsFitting from to r = (n : ℕ) → r.answer ≡ accepted n → Fitting from to (graph n r.labels r.edges)

module _ (from to : Edition) where
  refused_fitting : (number at : ℕ) → AcceptsFitting from to (refuse_at number at)
  refused_fitting number at n e = let z : ◌≡◌ {A = ℕ} 0 1 = cc in absurd (omega arith)

  accepted_fitting : (g : Graph) → Fitting from to g → AcceptsFitting from to (read_all g)
  accepted_fitting g s n e = let order : g.order ≡ n = cc in subst (λ (k : ℕ). Fitting from to (graph k g.labels g.edges)) order s

  read_from_fitting : (fuel : ℕ) (g : Graph) (at : ℕ) (rest : List ℕ) → Fitting from to g → ((i : ℕ) → get_or rest i 0 ≤ 255)
      → AcceptsFitting from to (read_from from to fuel g at rest)
  unfolding read_from
  read_from_fitting zero g at rest s small = refused_fitting 1 at
  read_from_fitting (suc fuel) g at rest s small =
      on_verdict_cases (AcceptsFitting from to) _ _ _ (judge to g (decode from rest))
      (λ g' e. read_from_fitting fuel g' (at + width from (decode from rest)) (drop (width from (decode from rest)) rest)
      (judge_fitting from to g (decode from rest) s (decode_held from rest small) g' e)
      (λ i. rw get_or-drop (small (width from (decode from rest) + i))))
      (either (AcceptsFitting from to) (eqb (length (drop 1 rest)) 0) (accepted_fitting g s) (refused_fitting 9 (at + 1)))
      (λ number e. refused_fitting number at)

  -- Whatever is read from a file is a sound graph whose labels fit both editions.
  pub file_fitting : (bytes : List ℕ) → ((i : ℕ) → get_or bytes i 0 ≤ 255) → AcceptsFitting from to (read_file from to bytes)
  unfolding read_file read_at
  file_fitting bytes small =
      opens_cases (λ (a : Answer). AcceptsFitting from to (when_passed a (read_at from to empty_graph (opening_width from) (drop (opening_width from) bytes)) refuse))
      from bytes
      (read_from_fitting _ empty_graph (opening_width from) (drop (opening_width from) bytes) (empty_fitting from to)
      (λ i. rw get_or-drop (small (opening_width from + i))))
      (refused_fitting 1 0) (refused_fitting 27 0)

-- Whatever reading accepts is a sound graph.
pub reading_sound : (labels edges bytes : List ℕ) → ((i : ℕ) → get_or bytes i 0 ≤ 255)
    → (n : ℕ) → (reading labels edges bytes).answer ≡ accepted n
    → Sound (graph n (reading labels edges bytes).labels (reading labels edges bytes).edges)
unfolding reading reading_edition
reading_sound labels edges bytes small n q =
    (cond_cases (AcceptsFitting Two Two) (eqb (length labels) 64 && eqb (length edges) 4096)
    (λ e. file_fitting Two Two bytes small)
    (λ e n q. let z : ◌≡◌ {A = ℕ} 0 1 = cc in absurd (omega arith)) n q).sound

-- ---- refused readings

abbrev RefusesClear : Reading → Type 0
RefusesClear r = (number at : ℕ) → r.answer ≡ refused_at number at → (r.labels ≡ replicate 64 0) × (r.edges ≡ replicate 4096 0)

refused_clear : (number at : ℕ) → RefusesClear (refuse_at number at)
refused_clear number at k place e = (refl, refl)

module _ (from to : Edition) where
  read_from_clears : (fuel : ℕ) (g : Graph) (at : ℕ) (rest : List ℕ) → RefusesClear (read_from from to fuel g at rest)
  unfolding read_from
  read_from_clears zero g at rest = refused_clear 1 at
  read_from_clears (suc fuel) g at rest =
      on_verdict_cases RefusesClear _ _ _ (judge to g (decode from rest))
      (λ g' e. read_from_clears fuel g' (at + width from (decode from rest)) (drop (width from (decode from rest)) rest))
      (cond_cases RefusesClear (eqb (length (drop 1 rest)) 0)
      (λ e number place q. let z : ◌≡◌ {A = ℕ} 0 1 = cc in absurd (omega arith)) (λ e. refused_clear 9 (at + 1)))
      (λ number e. refused_clear number at)

  -- A reading refused at a place leaves both tables all 0.
  pub refused_clears : (labels edges bytes : List ℕ) (number at : ℕ) → (reading_edition from to labels edges bytes).answer ≡ refused_at number at
      → ((reading_edition from to labels edges bytes).labels ≡ replicate 64 0) × ((reading_edition from to labels edges bytes).edges ≡ replicate 4096 0)
  unfolding reading_edition read_file read_at
  refused_clears labels edges bytes =
      cond_cases RefusesClear (eqb (length labels) 64 && eqb (length edges) 4096)
      (λ e. opens_cases (λ (a : Answer). RefusesClear (when_passed a (read_at from to empty_graph (opening_width from) (drop (opening_width from) bytes)) refuse))
      from bytes (read_from_clears _ empty_graph (opening_width from) (drop (opening_width from) bytes)) (refused_clear 1 0) (refused_clear 27 0))
      (λ e number at q. let z : ◌≡◌ {A = ℕ} 0 1 = cc in absurd (omega arith))
