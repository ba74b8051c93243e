-- Graph bytes read on small examples, of edition 2 and for the mover of edition 1 too: edges of a vertex with itself, which are judged like any other edge (02, U4); how a file begins, and labels
-- of two bytes (02, U6).
use mathlib.Core.Path.{◌≡◌, refl}
use mathlib.Core.List.{List, [], ◌∷◌}
use Prim.Native.Nat.{ℕ}
use lib.ListN.{replicate}
use Rattle.graph_reader.specs.declared.Edition.TheVariants.{One, Two}
use Rattle.graph_reader.specs.Reading.{Reading, faulty, judge, refuse_at, read_from, read_at, opens, read_file, reading_edition, reading}
use Rattle.answers.specs.Answer.{accepted, refused}
use Rattle.graph.specs.Graph.{graph}
use Rattle.graph_reader.specs.declared.commands.Command.TheVariants.{Vertex}

-- the tables lent hold 9 throughout, so that what is left in them is seen
abbrev read : List ℕ → Reading
read bytes = reading (replicate 64 9) (replicate 4096 9) bytes

-- An edge of a vertex not given with itself is 5 at its place.
pub own_edge_missing : read (4 ∷ 2 ∷ 3 ∷ 7 ∷ 0 ∷ 2 ∷ 1 ∷ 1 ∷ 1 ∷ 0 ∷ []) ≡ refuse_at 5 5
unfolding reading reading_edition read_file opens read_at read_from judge
own_edge_missing = refl

-- Of label 0, it is 7.
pub own_edge_null : read (4 ∷ 2 ∷ 3 ∷ 7 ∷ 0 ∷ 2 ∷ 0 ∷ 0 ∷ 0 ∷ 0 ∷ []) ≡ refuse_at 7 5
unfolding reading reading_edition read_file opens read_at read_from judge
own_edge_null = refl

-- Given twice, it is 8 at the second.
pub own_edge_repeated : read (4 ∷ 2 ∷ 3 ∷ 7 ∷ 0 ∷ 2 ∷ 0 ∷ 0 ∷ 1 ∷ 2 ∷ 0 ∷ 0 ∷ 1 ∷ 0 ∷ []) ≡ refuse_at 8 9
unfolding reading reading_edition read_file opens read_at read_from judge
own_edge_repeated = refl

-- "27 file doesn't begin with 4, 2, with place 0", one byte long too; "An empty file or a cut edition command is still 1".
pub beginnings : (read [] ≡ refuse_at 1 0) × (read (4 ∷ []) ≡ refuse_at 1 0) × (read (0 ∷ []) ≡ refuse_at 27 0) × (read (1 ∷ []) ≡ refuse_at 27 0)
    × (read (4 ∷ 1 ∷ []) ≡ refuse_at 27 0) × (read (4 ∷ 0 ∷ []) ≡ refuse_at 27 0) × (read (1 ∷ 7 ∷ 0 ∷ []) ≡ refuse_at 27 0)
unfolding reading reading_edition read_file opens read_at read_from judge
beginnings = (refl, refl, refl, refl, refl, refl, refl)

-- "except 10, which leaves them untouched": it comes first
pub tables_first : reading (replicate 63 9) (replicate 4096 9) (1 ∷ []) ≡ record { answer = refused 10; labels = replicate 63 9; edges = replicate 4096 9 }
unfolding reading reading_edition read_file opens read_at read_from judge
tables_first = refl

-- "1 and a later 4 are unknown there"; a command of a vertex that is cut, and no command at all, are 1 at their place.
pub commands : (read (4 ∷ 2 ∷ 4 ∷ 2 ∷ 0 ∷ []) ≡ refuse_at 2 2) × (read (4 ∷ 2 ∷ 1 ∷ 7 ∷ 0 ∷ []) ≡ refuse_at 2 2) × (read (4 ∷ 2 ∷ 3 ∷ 7 ∷ []) ≡ refuse_at 1 2)
    × (read (4 ∷ 2 ∷ []) ≡ refuse_at 1 2) × (read (4 ∷ 2 ∷ 3 ∷ 7 ∷ 0 ∷ 2 ∷ 0 ∷ 1 ∷ 1 ∷ 0 ∷ []) ≡ refuse_at 5 5)
unfolding reading reading_edition read_file opens read_at read_from judge
commands = (refl, refl, refl, refl, refl)

-- A label is two bytes, "low first": 7 1 is 263, and 0 1 is not the label 0.
pub two_bytes : (read (4 ∷ 2 ∷ 3 ∷ 7 ∷ 1 ∷ 0 ∷ []) ≡ record { answer = accepted 1; labels = 263 ∷ replicate 63 0; edges = replicate 4096 0 })
    × (read (4 ∷ 2 ∷ 3 ∷ 0 ∷ 1 ∷ 0 ∷ []) ≡ record { answer = accepted 1; labels = 256 ∷ replicate 63 0; edges = replicate 4096 0 })
    × (read (4 ∷ 2 ∷ 3 ∷ 0 ∷ 0 ∷ 0 ∷ []) ≡ refuse_at 3 2)
unfolding reading reading_edition read_file opens read_at read_from judge
two_bytes = (refl, refl, refl)

-- "after 3 and 4": a 65th vertex is 4 and a label 0 is 3, however wide a label may be; below the 65th, 256 is 28 on the way back.
pub wide_last : (judge One (graph 64 [] []) (Vertex 256) ≡ faulty 4) × (judge One (graph 64 [] []) (Vertex 0) ≡ faulty 3) × (judge One (graph 63 [] []) (Vertex 256) ≡ faulty 28)
unfolding judge
wide_last = (refl, refl, refl)

-- On the way back a label above 255 is 28 at its command, before any later command, and before a missing end; in edition 1, 3 and 4 are unknown commands.
pub ways : (read_file Two One (4 ∷ 2 ∷ 3 ∷ 0 ∷ 1 ∷ 9 ∷ []) ≡ refuse_at 28 2) × (read_file Two One (4 ∷ 2 ∷ 3 ∷ 0 ∷ 1 ∷ []) ≡ refuse_at 28 2)
    × (read_file Two One (4 ∷ 2 ∷ 3 ∷ 0 ∷ 0 ∷ 0 ∷ []) ≡ refuse_at 3 2) × (read_file One Two (4 ∷ 2 ∷ 0 ∷ []) ≡ refuse_at 2 0)
    × (read_file One Two (3 ∷ 7 ∷ 0 ∷ []) ≡ refuse_at 2 0) × (read_file One Two [] ≡ refuse_at 1 0)
unfolding reading reading_edition read_file opens read_at read_from judge
ways = (refl, refl, refl, refl, refl, refl)
