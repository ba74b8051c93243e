-- A file that is accepted for one edition is read the same for every other that holds the graph's labels: the labels of its vertex commands are those of the graph
-- in the end. And a file is read for an edition that holds all of its own edition's labels just as it is read alone.
use mathlib.Core.Path.{◌≡◌, refl, ap, subst, ◌∙◌}
use mathlib.Core.List.{List}
use Prim.Native.Nat.{ℕ, zero, suc, ◌+◌, ◌≤◌, ◌<◌, max}
use native.Mathlib.Omega.{arith}
use lib.Dec.{leb, eqb}
use lib.ListN.{length, get_or, drop, length-set}
use lib.Seq.{get_or-set_same, get_or-set_other, get_or-drop}
use borrow.Author.Tests.{leb-false, le-leb}
use Rattle.answers.specs.Answer.{Answer, accepted, when_passed}
use Rattle.answers.proofs.Choice.{cond_cases}
use Rattle.graph.specs.Graph.{Graph, label, edge, empty_graph}
use Rattle.graph_reader.specs.declared.Edition.{Edition}
use Rattle.graph_reader.specs.declared.commands.Command.{Command}
use Rattle.graph_reader.specs.declared.commands.Command.TheVariants.{Vertex, Edge, End, Truncated, Unknown}
use Rattle.graph_reader.specs.Commands.{decode, width}
use Rattle.graph_reader.specs.Editions.{opening_width, greatest_label}
use Rattle.graph_reader.specs.Reading.{Verdict, grows, ends, faulty, judge, Reading, refuse, refuse_at, on_verdict, read_from, read_at, opens, read_file}
use Rattle.graph_reader.proofs.Openings.{opens_cases}
use Rattle.graph_reader.proofs.ReadSound.{empty_sound, LabelHeld, decode_held, on_verdict_cases}
use Rattle.graph_reader.proofs.Fuel.{same_onward}

-- ---- the labels of a graph only grow

-- what a judged command that stands makes of the labels: those there stay, and a vertex's is the next
pub record LabelsKept (g g' : Graph) (c : Command) : Type 0 where
  pub long : length g'.labels ≡ length g.labels
  pub small : g'.order ≤ 64
  pub more : g.order ≤ g'.order
  pub stay : (v : ℕ) → v < g.order → label g' v ≡ label g v
  pub next : (x : ℕ) → c ≡ Vertex x → (g.order < g'.order) × (label g' g.order ≡ x)

abbrev GrowsKept : Graph → Command → Verdict → Type 0
GrowsKept g c (grows g') = LabelsKept g g' c
GrowsKept g c ends = Unit {0}
GrowsKept g c (faulty number) = Unit {0}

label_of : Command → ℕ
label_of (Vertex x) = x
label_of (Edge a b x) = 0
label_of End = 0
label_of Truncated = 0
label_of Unknown = 0

verdict_kept : (to : Edition) (g : Graph) (c : Command) → length g.labels ≡ 64 → g.order ≤ 64 → GrowsKept g c (judge to g c)
unfolding judge label_of
verdict_kept to g Truncated l o = tt
verdict_kept to g Unknown l o = tt
verdict_kept to g End l o = tt
verdict_kept to g (Vertex x) l o =
    cond_cases (GrowsKept g (Vertex x)) (eqb x 0) (λ e. tt)
    (λ e. cond_cases (GrowsKept g (Vertex x)) (leb 64 g.order) (λ e. tt)
    (λ full. cond_cases (GrowsKept g (Vertex x)) (leb x (greatest_label to))
    (λ e. let room = leb-false 64 g.order full in
    record {
      long = length-set g.labels g.order x;
      small = omega arith;
      more = omega arith;
      stay = λ v h. get_or-set_other g.labels g.order v x 0 (omega arith);
      next = λ y q. (omega arith, get_or-set_same g.labels g.order x 0 (omega arith) ∙ ap label_of q);
    })
    (λ e. tt)))
verdict_kept to g (Edge a b x) l o =
    cond_cases (GrowsKept g (Edge a b x)) (leb g.order (max a b)) (λ e. tt)
    (λ e. cond_cases (GrowsKept g (Edge a b x)) (eqb x 0) (λ e. tt)
    (λ e. cond_cases (GrowsKept g (Edge a b x)) (eqb (edge g a b) 0)
    (λ e. record { long = refl; small = o; more = omega arith; stay = λ v h. refl; next = λ y q. let z : ◌≡◌ {A = ℕ} 0 1 = cc in absurd (omega arith) })
    (λ e. tt)))

judge_kept : (to : Edition) (g : Graph) (c : Command) (g' : Graph) → length g.labels ≡ 64 → g.order ≤ 64 → judge to g c ≡ grows g' → LabelsKept g g' c
judge_kept to g c g' l o e = subst (GrowsKept g c) e (verdict_kept to g c l o)

-- what was judged to stand stands for any edition that holds a vertex's label
abbrev StandsToo : Edition → Graph → Command → Verdict → Type 0
StandsToo to g c (grows g') = ((x : ℕ) → c ≡ Vertex x → x ≤ greatest_label to) → judge to g c ≡ grows g'
StandsToo to g c ends = judge to g c ≡ ends
StandsToo to g c (faulty number) = Unit {0}

stands_too : (to to' : Edition) (g : Graph) (c : Command) → StandsToo to' g c (judge to g c)
unfolding judge
stands_too to to' g Truncated = tt
stands_too to to' g Unknown = tt
stands_too to to' g End = refl
stands_too to to' g (Vertex x) =
    cond_cases (StandsToo to' g (Vertex x)) (eqb x 0) (λ e. tt)
    (λ some. cond_cases (StandsToo to' g (Vertex x)) (leb 64 g.order) (λ e. tt)
    (λ room. cond_cases (StandsToo to' g (Vertex x)) (leb x (greatest_label to))
    (λ e fits. simp (some, room, le-leb x (greatest_label to') (fits x refl)))
    (λ e. tt)))
stands_too to to' g (Edge a b x) =
    cond_cases (StandsToo to' g (Edge a b x)) (leb g.order (max a b)) (λ e. tt)
    (λ given. cond_cases (StandsToo to' g (Edge a b x)) (eqb x 0) (λ e. tt)
    (λ some. cond_cases (StandsToo to' g (Edge a b x)) (eqb (edge g a b) 0)
    (λ new fits. simp (given, some, new))
    (λ e. tt)))

refused_accepted : (number at n : ℕ) → (refuse_at number at).answer ≡ accepted n → ⊥
refused_accepted number at n e = let z : ◌≡◌ {A = ℕ} 0 1 = cc in omega arith

-- ---- a file that is accepted for one edition is accepted for every edition that holds its labels

module _ (from to to' : Edition) where
  -- what is read with g, where it is accepted, keeps g's labels
  abbrev Keeps : Graph → Reading → Type 0
  Keeps g r = (n : ℕ) → r.answer ≡ accepted n → (v : ℕ) → v < g.order → get_or r.labels v 0 ≡ label g v

  read_from_keeps : (fuel : ℕ) (g : Graph) (at : ℕ) (rest : List ℕ) → length g.labels ≡ 64 → g.order ≤ 64 → Keeps g (read_from from to fuel g at rest)
  unfolding read_from
  read_from_keeps zero g at rest l o = λ n e. absurd (refused_accepted 1 at n e)
  read_from_keeps (suc fuel) g at rest l o =
      on_verdict_cases (Keeps g) _ _ _ (judge to g (decode from rest))
      (λ g' e n a v h. let k = judge_kept to g (decode from rest) g' l o e in
      read_from_keeps fuel g' _ _ (k.long ∙ l) k.small n a v (omega (arith, k.more)) ∙ k.stay v h)
      (cond_cases (Keeps g) (eqb (length (drop 1 rest)) 0) (λ t n a v h. refl) (λ t n a. absurd (refused_accepted 9 (at + 1) n a)))
      (λ number e n a. absurd (refused_accepted number at n a))

  -- so what is accepted for one edition is the same for the other
  abbrev pub Same : Reading → Reading → Type 0
  Same r r' = (n : ℕ) → r.answer ≡ accepted n → ((v : ℕ) → get_or r.labels v 0 ≤ greatest_label to') → r' ≡ r

  -- one command and what is read after it, both ways
  step_same : (g : Graph) (c : Command) → length g.labels ≡ 64 → g.order ≤ 64 → (next next' : Graph → Reading) (end : Reading) (at : ℕ)
      → ((g' : Graph) → LabelsKept g g' c → Keeps g' (next g')) → ((g' : Graph) → LabelsKept g g' c → Same (next g') (next' g'))
      → Same (on_verdict next end (λ number. refuse_at number at) (judge to g c)) (on_verdict next' end (λ number. refuse_at number at) (judge to' g c))
  step_same g c l o next next' end at keeps same = go (judge to g c) refl (stands_too to to' g c)
    where
      go : (j : Verdict) → judge to g c ≡ j → StandsToo to' g c j
          → Same (on_verdict next end (λ number. refuse_at number at) j) (on_verdict next' end (λ number. refuse_at number at) (judge to' g c))
      go (grows g') e s n a fits =
          let k = judge_kept to g c g' l o e in
          let held : (x : ℕ) → c ≡ Vertex x → x ≤ greatest_label to' =
          λ x q. omega (arith, fits g.order, (k.next x q).1, keeps g' k n a g.order (k.next x q).0) in
          ap (on_verdict next' end (λ number. refuse_at number at)) (s held) ∙ same g' k n a fits
      go ends e s n a fits = ap (on_verdict next' end (λ number. refuse_at number at)) s
      go (faulty number) e s n a fits = absurd (refused_accepted number at n a)

  read_from_same : (fuel : ℕ) (g : Graph) (at : ℕ) (rest : List ℕ) → length g.labels ≡ 64 → g.order ≤ 64
      → Same (read_from from to fuel g at rest) (read_from from to' fuel g at rest)
  unfolding read_from
  read_from_same zero g at rest l o = λ n a fits. refl
  read_from_same (suc fuel) g at rest l o =
      step_same g (decode from rest) l o _ _ _ at
      (λ g' k. read_from_keeps fuel g' _ _ (k.long ∙ l) k.small) (λ g' k. read_from_same fuel g' _ _ (k.long ∙ l) k.small)

  -- A file that is accepted for one edition is read the same for another that holds the graph's labels.
  pub file_same : (bytes : List ℕ) → Same (read_file from to bytes) (read_file from to' bytes)
  unfolding read_file read_at
  file_same bytes = opens_cases
      (λ (a : Answer). Same (when_passed a (read_at from to empty_graph (opening_width from) (drop (opening_width from) bytes)) refuse)
      (when_passed a (read_at from to' empty_graph (opening_width from) (drop (opening_width from) bytes)) refuse)) from bytes
      (read_from_same _ empty_graph (opening_width from) (drop (opening_width from) bytes) empty_sound.labels_length (omega arith))
      (λ n a fits. refl) (λ n a fits. refl)

-- ---- a file is read for an edition that holds all of its own edition's labels just as it is read alone

module _ (from to : Edition) (holds : greatest_label from ≤ greatest_label to) where
  same_judge : (g : Graph) (c : Command) → LabelHeld from c → judge to g c ≡ judge from g c
  unfolding judge
  same_judge g (Vertex x) held = rw (le-leb x (greatest_label to) (omega (arith, held, holds)), le-leb x (greatest_label from) held) refl
  same_judge g (Edge a b x) held = refl
  same_judge g End held = refl
  same_judge g Truncated held = refl
  same_judge g Unknown held = refl

  read_from_up : (fuel : ℕ) (g : Graph) (at : ℕ) (rest : List ℕ) → ((i : ℕ) → get_or rest i 0 ≤ 255) → read_from from to fuel g at rest ≡ read_from from from fuel g at rest
  unfolding read_from
  read_from_up zero g at rest small = refl
  read_from_up (suc fuel) g at rest small =
      rw (same_judge g (decode from rest) (decode_held from rest small))
      (same_onward _ _ _ _ _ (judge from g (decode from rest))
      (λ g' e. read_from_up fuel g' _ _ (λ i. rw get_or-drop (small (width from (decode from rest) + i)))) refl)

  -- Refused or accepted: so a move up answers what edition 1's reader does, and 28 belongs to the way back.
  pub read_up : (bytes : List ℕ) → ((i : ℕ) → get_or bytes i 0 ≤ 255) → read_file from to bytes ≡ read_file from from bytes
  unfolding read_file read_at
  read_up bytes small =
      ap (λ (r : Reading). when_passed (opens from bytes) r refuse)
      (read_from_up _ empty_graph (opening_width from) (drop (opening_width from) bytes) (λ i. rw get_or-drop (small (opening_width from + i))))
