-- What moving a file from one edition to the other keeps (02, U6: "there and back gives the same chart"): what is moved reads to the same graph, moved back it
-- is the graph in the first edition again, and a file in the writer's form comes back byte for byte; and what a move leaves in its buffer.
use mathlib.Core.Path.{◌≡◌, refl, sym, ap, subst, ◌∙◌}
use mathlib.Core.Logic.{◌≢◌}
use mathlib.Core.List.{List}
use Prim.Native.Nat.{ℕ, ◌≤◌, ◌<◌}
use native.Mathlib.Decide.{dec_lt}
use native.Mathlib.Omega.{arith}
use lib.Dec.{leb}
use lib.ListN.{length, get_or, take, get_or-eq_default}
use borrow.Author.Tests.{le-leb}
use Rattle.answers.specs.Answer.{Answer, passed, accepted, refused, refused_at, refusal_number}
use Rattle.answers.specs.Output.{Writing, fill}
use Rattle.answers.proofs.Choice.{cond_cases}
use Rattle.answers.proofs.Filled.{filled_bytes}
use Rattle.answers.proofs.RefusalNumbers.{RefusalNumber}
use Rattle.graph.specs.Graph.{Graph, graph, label, Sound}
use Rattle.graph_reader.specs.declared.Edition.{Edition}
use Rattle.graph_reader.specs.Editions.{greatest_label, LabelsFit}
use Rattle.graph_reader.specs.Reading.{Reading, read_all, read_file}
use Rattle.graph_reader.proofs.ReadSound.{Fitting}
use Rattle.graph_reader.proofs.RefusalNumbers.{Told, file_told}
use Rattle.graph_writer.specs.Writing.{edition_bytes, longest}
use Rattle.graph_writer.specs.Moving.{move_read, moving}
use Rattle.graph_writer.proofs.Length.{length_max}
use Rattle.graph_writer.proofs.MovedFile.{read_fitting, never_placeless}
use Rattle.graph_writer.proofs.RoundTrip.{file_trip}
use Rattle.graph_writer.proofs.SameReading.{file_same}

-- a label table of a sound graph has no label but those of its vertices
all_fit : (edition : Edition) (g : Graph) → Sound g → LabelsFit edition g → (v : ℕ) → label g v ≤ greatest_label edition
all_fit edition g s f v = go (dec_lt v g.order) (dec_lt v 64)
  where
    go : Dec (v < g.order) → Dec (v < 64) → label g v ≤ greatest_label edition
    go (yes h) d = f v h
    go (no h) (yes l) = omega (arith, s.unlabelled v (omega arith) l)
    go (no h) (no l) = omega (arith, get_or-eq_default g.labels 0 {n = v} (omega (arith, s.labels_length)))

-- Where every label fits the other edition, a file is read for a move to it just as it is read alone: so then it is moved, in a buffer with room.
pub fitting_moved : (from to : Edition) (bytes : List ℕ) (g : Graph) → read_file from from bytes ≡ read_all g → Sound g → LabelsFit to g
    → (buffer : List ℕ) → moving from to bytes buffer ≡ fill (edition_bytes to g) buffer
unfolding moving
fitting_moved from to bytes g e s f buffer =
    ap (λ (r : Reading). move_read to r buffer)
    (file_same from from to bytes g.order (ap (λ (r : Reading). r.answer) e) (λ v. rw e (all_fit to g s f v)) ∙ e)

-- what an accepted move of k bytes read and wrote
pub record Moved (from to : Edition) (bytes buffer : List ℕ) (k : ℕ) : Type 0 where
  pub read : Graph
  pub fitting : Fitting from to read
  pub reads : read_file from to bytes ≡ read_all read
  pub writes : take k (moving from to bytes buffer).buffer ≡ edition_bytes to read

-- An accepted move is of a file that was read, and leaves the graph in the other edition.
pub moved : (from to : Edition) (bytes buffer : List ℕ) (k : ℕ) → ((i : ℕ) → get_or bytes i 0 ≤ 255) → (moving from to bytes buffer).answer ≡ accepted k
    → Moved from to bytes buffer k
unfolding moving
moved from to bytes buffer k small =
    go (read_file from to bytes).answer (read_file from to bytes).labels (read_file from to bytes).edges refl
  where
    go : (a : Answer) (labels edges : List ℕ) → read_file from to bytes ≡ record { answer = a; labels = labels; edges = edges }
        → (move_read to (read_file from to bytes) buffer).answer ≡ accepted k → Moved from to bytes buffer k
    go (accepted n) labels edges e q =
        record {
          read = graph n labels edges;
          fitting = read_fitting from to bytes labels edges n (sym e) small;
          reads = e;
          writes = rw e (filled_bytes (edition_bytes to (graph n labels edges)) buffer k (rw e at q));
        }
    go passed labels edges e q = let z : ◌≡◌ {A = ℕ} 0 1 = (let f = rw e at q in cc) in absurd (omega arith)
    go (refused number) labels edges e q = let z : ◌≡◌ {A = ℕ} 0 1 = (let f = rw e at q in cc) in absurd (omega arith)
    go (refused_at number at) labels edges e q = let z : ◌≡◌ {A = ℕ} 0 1 = (let f = rw e at q in cc) in absurd (omega arith)

module _ (from to : Edition) (bytes buffer : List ℕ) (k : ℕ) (m : Moved from to bytes buffer k) where
  -- the bytes that the move has written
  abbrev out : List ℕ
  out = take k (moving from to bytes buffer).buffer

  -- What is moved reads, in the other edition, to what the file reads to in its own.
  pub moved_reads : read_file to to out ≡ read_file from from bytes
  moved_reads =
      let g = m.read in
      let fits : (v : ℕ) → get_or (read_file from to bytes).labels v 0 ≤ greatest_label from = λ v. rw m.reads (all_fit from g m.fitting.sound m.fitting.from_fits v) in
      rw m.writes (file_trip to to g m.fitting.sound m.fitting.to_fits) ∙ sym m.reads
      ∙ sym (file_same from to from bytes g.order (ap (λ (r : Reading). r.answer) m.reads) fits)

  -- Moved back it is that graph, written in the first edition, in a buffer with room.
  pub moved_back : (again : List ℕ) → moving to from out again ≡ fill (edition_bytes from m.read) again
  unfolding moving
  moved_back again =
      ap (λ (r : Reading). move_read from r again)
      (ap (read_file to from) m.writes ∙ file_trip to from m.read m.fitting.sound m.fitting.from_fits)

  -- these bytes read to what the file reads to
  written_reads : read_file from from (edition_bytes from m.read) ≡ read_file from from bytes
  written_reads =
      file_trip from from m.read m.fitting.sound m.fitting.from_fits
      ∙ sym (file_trip to to m.read m.fitting.sound m.fitting.to_fits)
      ∙ ap (read_file to to) (sym m.writes) ∙ moved_reads

  -- "there and back gives the same chart": what an accepted move back has written reads to what the file reads to.
  pub there_and_back : (again : List ℕ) (j : ℕ) → (moving to from out again).answer ≡ accepted j
      → read_file from from (take j (moving to from out again).buffer) ≡ read_file from from bytes
  there_and_back again j a =
      let back = moved_back again in
      rw (back, filled_bytes (edition_bytes from m.read) again j (rw back at a)) written_reads

-- A file in the writer's form, with labels that fit both editions, comes back byte for byte.
pub same_bytes : (from to : Edition) (g : Graph) → Sound g → LabelsFit from g → LabelsFit to g
    → (buffer : List ℕ) (k : ℕ) → (moving from to (edition_bytes from g) buffer).answer ≡ accepted k
    → (again : List ℕ) → moving to from (take k (moving from to (edition_bytes from g) buffer).buffer) again ≡ fill (edition_bytes from g) again
same_bytes from to g s f t buffer k a again =
    let there = fitting_moved from to (edition_bytes from g) g (file_trip from from g s f) s t buffer in
    rw (there, filled_bytes (edition_bytes to g) buffer k (rw there at a))
    (fitting_moved to from (edition_bytes to g) g (file_trip to to g s t) s f again)

-- A move that is not accepted leaves the buffer as it was.
pub move_unmoved : (from to : Edition) (bytes buffer : List ℕ) → ((n : ℕ) → (moving from to bytes buffer).answer ≢ accepted n) → (moving from to bytes buffer).buffer ≡ buffer
unfolding moving
move_unmoved from to bytes buffer = go (read_file from to bytes).answer
  where
    filled : (written : List ℕ) → ((n : ℕ) → (fill written buffer).answer ≢ accepted n) → (fill written buffer).buffer ≡ buffer
    filled written =
        cond_cases (λ (w : Writing). ((n : ℕ) → w.answer ≢ accepted n) → w.buffer ≡ buffer) (leb (length written) (length buffer)) (λ e never. absurd (never (length written) refl)) (λ e never. refl)

    read : Answer → Reading
    read a = record { answer = a; labels = (read_file from to bytes).labels; edges = (read_file from to bytes).edges }

    go : (a : Answer) → ((n : ℕ) → (move_read to (read a) buffer).answer ≢ accepted n) → (move_read to (read a) buffer).buffer ≡ buffer
    go (accepted n) never = filled (edition_bytes to (graph n (read_file from to bytes).labels (read_file from to bytes).edges)) never
    go passed never = refl
    go (refused number) never = refl
    go (refused_at number at) never = refl

-- With room for the longest file of the edition that is written, 13 does not occur.
pub move_fits : (from to : Edition) (bytes buffer : List ℕ) → ((i : ℕ) → get_or bytes i 0 ≤ 255) → longest to ≤ length buffer → refusal_number (moving from to bytes buffer).answer ≢ 13
unfolding moving
move_fits from to bytes buffer small room =
    go (read_file from to bytes).answer (read_file from to bytes).labels (read_file from to bytes).edges refl
  where
    go : (a : Answer) (labels edges : List ℕ) → record { answer = a; labels = labels; edges = edges } ≡ read_file from to bytes
        → refusal_number (move_read to (record { answer = a; labels = labels; edges = edges }) buffer).answer ≢ 13
    go (accepted n) labels edges e q =
        let fits = length_max to (graph n labels edges) (read_fitting from to bytes labels edges n e small).sound.order_max in
        omega (arith, rw (le-leb (length (edition_bytes to (graph n labels edges))) (length buffer) (omega arith)) at q)
    go passed labels edges e q = omega (arith, q)
    go (refused number) labels edges e q = never_placeless from to bytes labels edges number e
    go (refused_at number at) labels edges e q =
        let told : RefusalNumber number = subst (λ (r : Reading). Told r.answer) (sym e) (file_told from to bytes) in omega (arith, told, q)
