-- The writer's sections, the opening, the vertices, the rows of edges and the end, are the graph's bytes at the front of the buffer.
use mathlib.Core.Path.{◌≡◌, sym, ap₂, ◌∙◌}
use mathlib.Core.List.{List, [], ◌∷◌, ◌++◌}
use Prim.Native.Nat.{ℕ, ◌+◌, ◌*◌, ◌≤◌, ◌<◌}
use native.Mathlib.Omega.{arith}
use borrow.Author.Tests.{le-leb, lt-leb}
use lib.ListN.{length, set, length-append}
use lib.Seq.{sets}
use Rattle.bounded.specs.Below.{run_below}
use Rattle.answers.specs.Answer.{accepted, refused}
use Rattle.answers.specs.Output.{Writing, overwrite, fill}
use Rattle.answers.proofs.Stores.{sets_append, sets_front}
use Rattle.graph.specs.Graph.{Graph}
use Rattle.graph_reader.specs.declared.Edition.{Edition}
use Rattle.graph_reader.specs.Editions.{opening, opening_width}
use Rattle.graph_writer.specs.Writing.{vertex_bytes, front_length, row_bytes, edition_bytes, edge_count}
use Rattle.graph_writer.proofs.Length.{length_front, length_rows, length_edition_bytes}

module _ (edition : Edition) where
  -- Where the total has room, there is room for the opening, the vertices after it, the rows after them, and for the end after those.
  pub front_room : (g : Graph) (buffer : List ℕ) (count : ℕ) → front_length edition g.order + 4 * count + 1 ≤ length buffer
      → opening_width edition + length (run_below g.order (vertex_bytes edition g)) ≤ length buffer
  front_room g buffer count room =
      omega (arith, length_front edition g, length-append (opening edition) (run_below g.order (vertex_bytes edition g)))

  pub rows_room : (g : Graph) (buffer : List ℕ) (count : ℕ) → count ≡ edge_count g → front_length edition g.order + 4 * count + 1 ≤ length buffer
      → front_length edition g.order + length (run_below g.order (row_bytes g)) < length buffer
  rows_room g buffer count counted room = omega (arith, length_rows g)

-- an accepted writing
written : ℕ → List ℕ → Writing
written k buffer = record { answer = accepted k; buffer = buffer }

module _ (edition : Edition) (g : Graph) (front : ℕ) (fronted : front ≡ front_length edition g.order)
    (count : ℕ) (counted : count ≡ edge_count g) (buffer : List ℕ) where
  total_bytes : front + 4 * count + 1 ≡ length (edition_bytes edition g)
  total_bytes = omega (arith, fronted, length_edition_bytes edition g, counted)

  -- A buffer shorter than the total is refused, and stays as it was.
  pub short_refused : length buffer < front + 4 * count + 1
      → ◌≡◌ {A = Writing} (record { answer = refused 13; buffer = buffer }) (fill (edition_bytes edition g) buffer)
  short_refused h =
      let bytes = edition_bytes edition g in
      simp (lt-leb (length bytes) (length buffer) (omega (arith, total_bytes)))

  -- In any other, the opening, the vertices after it, the rows after them and the end after those are the graph's bytes at the front.
  pub sections_fill : front + 4 * count + 1 ≤ length buffer → (first end : ℕ) (opened vertices rows : List ℕ)
      → first ≡ opening_width edition
      → opened ≡ sets buffer 0 (opening edition)
      → vertices ≡ sets opened first (run_below g.order (vertex_bytes edition g))
      → end ≡ front + length (run_below g.order (row_bytes g))
      → rows ≡ sets vertices front (run_below g.order (row_bytes g))
      → ◌≡◌ {A = Writing} (record { answer = accepted (front + 4 * count + 1); buffer = set rows end 0 })
      (fill (edition_bytes edition g) buffer)
  unfolding edition_bytes row_bytes written
  sections_fill room first end opened vertices rows f o p q r =
      let bytes = edition_bytes edition g in
      let os = opening edition in
      let vs = run_below g.order (vertex_bytes edition g) in
      let rs = run_below g.order (row_bytes g) in
      let fits : length bytes ≤ length buffer = omega (arith, total_bytes) in
      let start : first ≡ 0 + length os = omega arith in
      let begun : vertices ≡ sets buffer 0 (os ++ vs) =
      p ∙ ap₂ (λ (l : List ℕ) (k : ℕ). sets l k vs) o start ∙ sym (sets_append os vs buffer 0) in
      let after : front ≡ 0 + length (os ++ vs) = omega (arith, fronted, length_front edition g) in
      let last : end ≡ 0 + length (os ++ vs ++ rs) = omega (arith, length-append (os ++ vs) rs) in
      let both : rows ≡ sets buffer 0 (os ++ vs ++ rs) =
      r ∙ ap₂ (λ (l : List ℕ) (k : ℕ). sets l k rs) begun after ∙ sym (sets_append (os ++ vs) rs buffer 0) in
      let whole : set rows end 0 ≡ overwrite bytes buffer =
      ap₂ (λ (l : List ℕ) (k : ℕ). set l k 0) both last ∙ sym (sets_append (os ++ vs ++ rs) (0 ∷ []) buffer 0) ∙ sets_front bytes buffer fits in
      simp (le-leb (length bytes) (length buffer) fits) (ap₂ written total_bytes whole)
