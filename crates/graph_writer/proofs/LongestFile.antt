-- How much of a file reading looks at: one that is accepted has at most 8,515 bytes, and what stands from 8,518 on changes nothing
-- (02, U6: "a file is at most 8,515 bytes and the program reads 8,520").
use mathlib.Core.Path.{◌≡◌, refl, sym, ap, subst, ◌∙◌}
use mathlib.Core.Logic.{inl, inr, ⊎_elim, ◌≢◌}
use mathlib.Core.Bool.{Bool, true, false, cond, not, ◌&&◌}
use mathlib.Core.List.{List, [], ◌∷◌}
use Prim.Native.Nat.{ℕ, zero, suc, ◌+◌, ◌*◌, ◌-◌, ◌≤◌, ◌<◌, max}
use native.Mathlib.Nat.{le_refl}
use native.Mathlib.Decide.{dec_le}
use native.Mathlib.Omega.{arith}
use lib.Dec.{leb, eqb}
use lib.ListN.{length, get_or, take, drop, length-take, length-drop}
use lib.Seq.{get_or-take, get_or-drop, take-nil}
use borrow.Author.Tests.{leb-false, eqb-true, eqb-false, le-leb, lt-leb, eq-eqb, ne_eqb}
use Rattle.bounded.specs.Below.{sum_below}
use Rattle.bounded.proofs.Below.{sum_below_le, sum_below_lt, sum_below_more}
use Rattle.answers.specs.Answer.{Answer, accepted, refused, when_passed}
use Rattle.answers.proofs.Choice.{cond_cases}
use Rattle.graph.specs.Graph.{Graph, Sound, edge, empty_graph}
use Rattle.graph_reader.specs.declared.Edition.{Edition}
use Rattle.graph_reader.specs.declared.Edition.TheVariants.{One, Two}
use Rattle.graph_reader.specs.declared.commands.Command.{Command}
use Rattle.graph_reader.specs.declared.commands.Command.TheVariants.{Vertex, Edge, End, Truncated, Unknown}
use Rattle.graph_reader.specs.Commands.{decode, width}
use Rattle.graph_reader.specs.Editions.{opening_width, vertex_width, greatest_label}
use Rattle.graph_reader.specs.Reading.{Verdict, grows, ends, faulty, judge, with_vertex, with_edge, Reading, refuse, refuse_at, finish, read_from, read_at, opens, read_file, reading_edition, reading}
use Rattle.graph_reader.proofs.Openings.{opens_cases}
use Rattle.graph_reader.proofs.Fuel.{same_onward, read_step}
use Rattle.graph_reader.proofs.Judge.{decode_fits}
use Rattle.graph_reader.proofs.ReadSound.{Pair, new_edge, new_or_old, Fitting, empty_fitting, decode_held, judge_fitting, on_verdict_cases}
use Rattle.graph_writer.specs.Writing.{front_length, listed, longest, row_edge_count, edge_count}
use Rattle.graph_writer.proofs.Length.{edge_count_max, front_max}

-- ---- a command that stands takes no more bytes than the graph grows by

-- the bytes of a graph's vertices and edges
abbrev used : Edition → Graph → ℕ
used from g = front_length from g.order + 4 * edge_count g

front_more : (from : Edition) (n : ℕ) → front_length from n + vertex_width from ≤ front_length from (n + 1)
front_more One n = omega arith
front_more Two n = omega arith

front_first : (from : Edition) → opening_width from ≤ front_length from 0
front_first One = omega arith
front_first Two = omega arith

vertex_used : (from : Edition) (g : Graph) (x : ℕ) → used from g + vertex_width from ≤ used from (with_vertex g x)
unfolding edge_count
vertex_used from g x =
    let n = g.order in
    let rows = sum_below_le n (row_edge_count g) (row_edge_count (with_vertex g x)) (λ a l. sum_below_more n (n + 1) _ (omega arith)) in
    let more = sum_below_more n (n + 1) (row_edge_count (with_vertex g x)) (omega arith) in
    omega (arith, rows, more, front_more from n)

module _ (from : Edition) (g : Graph) (a b x : ℕ) (s : Sound g) (ha : a < g.order) (hb : b < g.order) (label : x ≢ 0) (free : edge g a b ≡ 0) where
  -- one edge, as it counts
  abbrev counted : Graph → ℕ → ℕ → ℕ
  counted g i j = cond (listed g i j) 1 0

  -- no edge counts less
  counted_le : (i j : ℕ) → i < 64 → j < 64 → counted g i j ≤ counted (with_edge g a b x) i j
  counted_le i j hi hj =
      ⊎_elim
      (λ p. go (leb i j) (eqb (edge g i j) 0) (ap (λ (y : ℕ). eqb y 0) (new_edge g a b x s ha hb i j p) ∙ ne_eqb x 0 label))
      (λ o. rw o.0 (le_refl _))
      (new_or_old g a b x s ha hb i j hi hj)
    where
      go : (t u : Bool) → eqb (edge (with_edge g a b x) i j) 0 ≡ false → cond (t && not u) 1 0 ≤ cond (t && not (eqb (edge (with_edge g a b x) i j) 0)) 1 0
      go true true e = omega arith
      go true false e = rw e (omega arith)
      go false u e = omega arith

  -- the edge itself counts one more
  counted_lt : (i j : ℕ) → i ≤ j → Pair a b i j → counted g i j < counted (with_edge g a b x) i j
  counted_lt i j l p =
      rw (le-leb i j l, eq-eqb (edge g i j) 0 (was p), ap (λ (y : ℕ). eqb y 0) (new_edge g a b x s ha hb i j p) ∙ ne_eqb x 0 label) (omega arith)
    where
      was : Pair a b i j → edge g i j ≡ 0
      was (inl e) = rw (e.0, e.1) free
      was (inr e) = rw (e.0, e.1) (s.symmetric b a (omega (arith, s.order_max)) (omega (arith, s.order_max)) ∙ free)

  edge_used : used from g + 4 ≤ used from (with_edge g a b x)
  unfolding edge_count
  edge_used =
      elim (dec_le a b) [
        | yes l ↦ grown a b ha hb l (inl (refl, refl))
        | no l ↦ grown b a hb ha (omega arith) (inr (refl, refl))
      ]
    where
      each : (i j : ℕ) → i < g.order → j < g.order → counted g i j ≤ counted (with_edge g a b x) i j
      each i j hi hj = counted_le i j (omega (arith, s.order_max)) (omega (arith, s.order_max))

      grown : (i j : ℕ) → i < g.order → j < g.order → i ≤ j → Pair a b i j → used from g + 4 ≤ used from (with_edge g a b x)
      grown i j hi hj l p =
          let row = sum_below_lt g.order (counted g i) (counted (with_edge g a b x) i) (λ k h. each i k hi h) j hj (counted_lt i j l p) in
          let all = sum_below_lt g.order (row_edge_count g) (row_edge_count (with_edge g a b x)) (λ k h. sum_below_le g.order _ _ (λ m. each k m h)) i hi row in
          omega (arith, all)

-- how much the graph grows that a judged command makes, if any
abbrev GrowsBy : Edition → Graph → ℕ → Verdict → Type 0
GrowsBy from g w (grows g') = used from g + w ≤ used from g'
GrowsBy from g w ends = Unit {0}
GrowsBy from g w (faulty number) = Unit {0}

verdict_used : (from to : Edition) (g : Graph) (c : Command) → Sound g → GrowsBy from g (width from c) (judge to g c)
unfolding judge
verdict_used from to g Truncated s = tt
verdict_used from to g Unknown s = tt
verdict_used from to g End s = tt
verdict_used from to g (Vertex x) s =
    cond_cases (GrowsBy from g (vertex_width from)) (eqb x 0) (λ e. tt) (λ label. cond_cases (GrowsBy from g (vertex_width from)) (leb 64 g.order) (λ e. tt) (λ room. cond_cases (GrowsBy from g (vertex_width from)) (leb x (greatest_label to)) (λ e. vertex_used from g x) (λ e. tt)))
verdict_used from to g (Edge a b x) s =
    cond_cases (GrowsBy from g 4) (leb g.order (max a b)) (λ e. tt)
    (λ given. cond_cases (GrowsBy from g 4) (eqb x 0) (λ e. tt)
    (λ label. cond_cases (GrowsBy from g 4) (eqb (edge g a b) 0)
    (λ free. let both = leb-false g.order (max a b) given in
    edge_used from g a b x s (omega arith) (omega arith) (eqb-false x 0 label) (eqb-true (edge g a b) 0 free))
    (λ e. tt)))

judge_used : (from to : Edition) (g : Graph) (c : Command) → Sound g → (g' : Graph) → judge to g c ≡ grows g' → used from g + width from c ≤ used from g'
judge_used from to g c s g' e = subst (GrowsBy from g (width from c)) e (verdict_used from to g c s)

-- a sound graph's vertices and edges leave a byte of the longest file for the end
used_max : (from : Edition) (g : Graph) → Sound g → used from g + 1 ≤ longest from
used_max from g s = omega (arith, edge_count_max g s.order_max, front_max from g.order s.order_max)

-- ---- files that are accepted

module _ (from to : Edition) where
  -- what is accepted has no more bytes left than there is room for
  abbrev Short : Graph → List ℕ → Reading → Type 0
  Short g rest r = (n : ℕ) → r.answer ≡ accepted n → length rest + used from g ≤ longest from

  refused_short : (g : Graph) (rest : List ℕ) (number at : ℕ) → Short g rest (refuse_at number at)
  refused_short g rest number at n e = let z : ◌≡◌ {A = ℕ} 0 1 = cc in absurd (omega arith)

  read_from_short : (fuel : ℕ) (g : Graph) (at : ℕ) (rest : List ℕ) → Fitting from to g → ((i : ℕ) → get_or rest i 0 ≤ 255) → Short g rest (read_from from to fuel g at rest)
  unfolding read_from
  read_from_short zero g at rest s small = refused_short g rest 1 at
  read_from_short (suc fuel) g at rest s small =
      on_verdict_cases (Short g rest)
      (λ g'. read_from from to fuel g' (at + width from (decode from rest)) (drop (width from (decode from rest)) rest))
      (finish g (at + 1) (drop 1 rest))
      (λ number. refuse_at number at)
      (judge to g (decode from rest))
      (λ g' e n q.
      let w = width from (decode from rest) in
      let left = read_from_short fuel g' (at + w) (drop w rest) (judge_fitting from to g (decode from rest) s (decode_held from rest small) g' e)
      (λ i. rw get_or-drop (small (w + i))) n q in
      let grown = judge_used from to g (decode from rest) s.sound g' e in
      omega (arith, rw length-drop at left, grown))
      (cond_cases (Short g rest) (eqb (length (drop 1 rest)) 0)
      (λ e n q. let none = rw length-drop at (eqb-true (length (drop 1 rest)) 0 e) in omega (arith, none, used_max from g s.sound))
      (λ e. refused_short g rest 9 (at + 1)))
      (λ number e. refused_short g rest number at)

  -- A file that is accepted is no longer than the longest that is written.
  pub file_max : (bytes : List ℕ) → ((i : ℕ) → get_or bytes i 0 ≤ 255) → (n : ℕ) → (read_file from to bytes).answer ≡ accepted n → length bytes ≤ longest from
  unfolding read_file read_at edge_count sum_below
  file_max bytes small n =
      let w = opening_width from in
      opens_cases (λ (a : Answer). Few (when_passed a (read_at from to empty_graph w (drop w bytes)) refuse)) from bytes
      (λ q. let short = read_from_short (length (drop w bytes) + 1) empty_graph w (drop w bytes) (empty_fitting from to) (λ i. rw get_or-drop (small (w + i))) n q in
      omega (arith, short, length-drop w bytes, front_first from))
      (λ q. let z : ◌≡◌ {A = ℕ} 0 1 = cc in absurd (omega arith)) (λ q. let z : ◌≡◌ {A = ℕ} 0 1 = cc in absurd (omega arith))
    where
      Few : Reading → Type 0
      Few r = r.answer ≡ accepted n → length bytes ≤ longest from

-- A file that is accepted has at most 8,515 bytes.
pub accepted_max : (labels edges bytes : List ℕ) → ((i : ℕ) → get_or bytes i 0 ≤ 255) → (n : ℕ) → (reading labels edges bytes).answer ≡ accepted n
    → length bytes ≤ 8515
unfolding reading reading_edition
accepted_max labels edges bytes small n =
    cond_cases (λ (r : Reading). r.answer ≡ accepted n → length bytes ≤ 8515) (eqb (length labels) 64 && eqb (length edges) 4096)
    (λ e. file_max Two Two bytes small n) (λ e q. let z : ◌≡◌ {A = ℕ} 0 1 = cc in absurd (omega arith))

-- ---- files that are cut

-- enough bytes are there after the cut exactly where they were before it
long_cut : (k m : ℕ) (rest : List ℕ) → m ≤ k → leb m (length (take k rest)) ≡ leb m (length rest)
long_cut k m rest h =
    elim (dec_le m (length rest)) [
      | yes l ↦ rw (le-leb m (length rest) l) (le-leb m (length (take k rest)) (rw length-take (omega arith)))
      | no l ↦ rw (lt-leb m (length rest) (omega arith)) (lt-leb m (length (take k rest)) (rw length-take (omega arith)))
    ]

-- and none are exactly where none were
none_cut : (k m : ℕ) (rest : List ℕ) → m < k → eqb (length (drop m (take k rest))) 0 ≡ eqb (length (drop m rest)) 0
none_cut k m rest h =
    elim (dec_le (length rest) m) [
      | yes l ↦ rw (eq-eqb (length (drop m rest)) 0 (rw length-drop (omega arith))) (eq-eqb (length (drop m (take k rest))) 0 (rw (length-drop, length-take) (omega arith)))
      | no l ↦ rw (ne_eqb (length (drop m rest)) 0 (rw length-drop (λ e. omega (arith, e))))
          (ne_eqb (length (drop m (take k rest))) 0 (rw (length-drop, length-take) (λ e. omega (arith, e))))
    ]

-- a command has four bytes at most
decode_cut : (k : ℕ) (rest : List ℕ) → 4 ≤ k → decode Two (take k rest) ≡ decode Two rest
decode_cut k rest h =
    rw (
      none_cut k 0 rest (omega arith),
      get_or-take k rest 0 0 (omega arith),
      get_or-take k rest 1 0 (omega arith),
      get_or-take k rest 2 0 (omega arith),
      get_or-take k rest 3 0 (omega arith),
      long_cut k 3 rest (omega arith),
      long_cut k 4 rest h,
    ) refl

drop_cut : (k w : ℕ) (rest : List ℕ) → w ≤ k → drop w (take k rest) ≡ take (k - w) (drop w rest)
drop_cut k zero rest h = let same : k - 0 ≡ k = omega arith in rw same refl
drop_cut zero (suc w) rest h = absurd (omega arith)
drop_cut (suc k) (suc w) [] h = sym (take-nil (suc k - suc w))
drop_cut (suc k) (suc w) (x ∷ rest) h = let same : suc k - suc w ≡ k - w = omega arith in rw same (drop_cut k w rest (omega arith))

-- a command takes four bytes at most
width_max : (c : Command) → width Two c ≤ 4
width_max Truncated = omega arith
width_max Unknown = omega arith
width_max End = omega arith
width_max (Vertex x) = omega arith
width_max (Edge a b x) = omega arith

-- with so many bytes left of the rest
read_cut : (fuel : ℕ) (g : Graph) (at : ℕ) (rest : List ℕ) (k : ℕ) → Fitting Two Two g → ((i : ℕ) → get_or rest i 0 ≤ 255) → 8518 ≤ used Two g + k → length rest < fuel
    → read_at Two Two g at (take k rest) ≡ read_at Two Two g at rest
read_cut zero g at rest k s small room more = absurd (omega (arith, more))
read_cut (suc fuel) g at rest k s small room more =
    let enough : 4 ≤ k = omega (arith, room, used_max Two g s.sound) in
    let w = width Two (decode Two rest) in
    read_step Two Two g at (take k rest)
    ∙ rw (decode_cut k rest enough)
    (same_onward _ _ _ _ _ (judge Two g (decode Two rest))
    (λ g' e.
    rw (drop_cut k w rest (omega (arith, width_max (decode Two rest), enough)))
    (read_cut fuel g' (at + w) (drop w rest) (k - w) (judge_fitting Two Two g (decode Two rest) s (decode_held Two rest small) g' e) (λ i. rw get_or-drop (small (w + i)))
    (omega (arith, judge_used Two Two g (decode Two rest) s.sound g' e, width_max (decode Two rest), enough, room))
    (rw length-drop (omega (arith, more, (decode_fits Two Two g rest g' e).0, (decode_fits Two Two g rest g' e).1)))))
    (rw (none_cut k 1 rest (omega (arith, enough))) refl))
    ∙ sym (read_step Two Two g at rest)

-- the opening is two bytes
opens_cut : (k : ℕ) (bytes : List ℕ) → 2 ≤ k → opens Two (take k bytes) ≡ opens Two bytes
unfolding opens
opens_cut k bytes h =
    rw (none_cut k 0 bytes (omega arith), get_or-take k bytes 0 0 (omega arith), get_or-take k bytes 1 0 (omega arith), long_cut k 2 bytes h) refl

-- Of a longer file no more than 8,518 bytes need be read.
pub reading_cut : (labels edges bytes : List ℕ) → ((i : ℕ) → get_or bytes i 0 ≤ 255) → (k : ℕ) → 8518 ≤ k
    → reading labels edges (take k bytes) ≡ reading labels edges bytes
unfolding reading reading_edition read_file
reading_cut labels edges bytes small k h =
    ap (λ (r : Reading). cond (eqb (length labels) 64 && eqb (length edges) 4096) r (record { answer = refused 10; labels = labels; edges = edges }))
    (rw (opens_cut k bytes (omega arith), drop_cut k 2 bytes (omega arith))
    (ap (λ (r : Reading). when_passed (opens Two bytes) r refuse)
    (read_cut (length (drop 2 bytes) + 1) empty_graph 2 (drop 2 bytes) (k - 2) (empty_fitting Two Two) (λ i. rw get_or-drop (small (2 + i))) (omega arith) (omega arith))))
