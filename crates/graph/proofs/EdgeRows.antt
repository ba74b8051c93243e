-- All edges are sound exactly where the row of each vertex is and the rows from the order on are null.
use mathlib.Core.Path.{◌≡◌, refl, sym, ◌∙◌}
use mathlib.Core.Bool.{true}
use mathlib.Core.Logic.{◌↔◌}
use mathlib.Core.List.{List}
use Prim.Native.Nat.{ℕ, ◌*◌, ◌/◌, ◌%◌, ◌≤◌, ◌<◌, zero-le, max}
use native.Mathlib.Decide.{dec_lt}
use native.Mathlib.Omega.{arith}
use lib.ListN.{get_or}
use Rattle.graph.specs.Graph.{place}
use Rattle.graph.specs.Soundness.{edges_sound}
use Rattle.graph.specs.EdgeRows.{Between, Null, VertexRow, TableRows}
use Rattle.graph.proofs.Places.{vertices_of}
use Rattle.graph.proofs.SoundTests.{EdgeFacts, edges_facts, facts_edges}

-- Sound edges are so row by row.
sound_rows : (n : ℕ) (edges : List ℕ) → n ≤ 64 → edges_sound n edges ≡ true → TableRows n edges
unfolding Between
sound_rows n edges most e = (row, unused)
  where
    fact : (a b : ℕ) → a < 64 → b < 64 → EdgeFacts n edges a b
    fact = edges_facts n edges e

    -- a byte of a number from the order on
    null : (i : ℕ) → i < 4096 → n ≤ max (i / 64) (i % 64) → get_or edges i 0 ≡ 0
    null i h out =
        let at = vertices_of i h in
        rw at.0 at ((fact (i / 64) (i % 64) at.1 at.2).2 out)

    row : (a : ℕ) → a < n → VertexRow n edges a
    row a h = (
      λ b from below. (fact a b (omega arith) (omega arith)).1,
      λ i from to. null i (omega arith) (omega arith),
    )

    unused : Between (Null edges) (64 * n) 4096
    unused i from to = null i to (omega arith)

-- Edges that are so row by row are sound.
rows_sound : (n : ℕ) (edges : List ℕ) → ((i : ℕ) → get_or edges i 0 ≤ 255) → TableRows n edges → edges_sound n edges ≡ true
unfolding Between
rows_sound n edges byte rows =
    facts_edges n edges (λ a b ha hb. (byte (place a b), same a b ha hb, null a b ha hb))
  where
    null : (a b : ℕ) → a < 64 → b < 64 → n ≤ max a b → get_or edges (place a b) 0 ≡ 0
    null a b ha hb out =
        elim (dec_lt a n) [
          | yes h ↦ (rows.0 a h).1 (place a b) (omega arith) (omega arith)
          | no h ↦ rows.1 (place a b) (omega arith) (omega arith)
        ]

    ordered : (a b : ℕ) → a < 64 → b < a → get_or edges (place a b) 0 ≡ get_or edges (place b a) 0
    ordered a b ha l =
        elim (dec_lt a n) [
          | yes h ↦ (rows.0 a h).0 b zero-le l
          | no h ↦ null a b ha (omega arith) (omega arith) ∙ sym (null b a (omega arith) ha (omega arith))
        ]

    same : (a b : ℕ) → a < 64 → b < 64 → get_or edges (place a b) 0 ≡ get_or edges (place b a) 0
    same a b ha hb =
        elim (dec_lt b a) [
          | yes h ↦ ordered a b ha h
          | no h ↦ elim (dec_lt a b) [
            | yes l ↦ sym (ordered b a hb l)
            | no l ↦ let q : a ≡ b = omega arith in rw q refl
          ]
        ]

-- All edges are sound exactly where the row of each vertex is and the rows from the order on are null.
pub rows_alone : (n : ℕ) (edges : List ℕ) → n ≤ 64 → ((i : ℕ) → get_or edges i 0 ≤ 255) → (edges_sound n edges ≡ true) ↔ TableRows n edges
rows_alone n edges most byte = (sound_rows n edges most, rows_sound n edges byte)
