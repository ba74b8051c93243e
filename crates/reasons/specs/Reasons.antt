-- The text of each refusal's number: 01, "Refusals by place of checking", and the new numbers of 02, in the vocabulary of the library.
use Rattle.std.specs.Prelude.{List, [], ◌∷◌, ℕ, get_or}
use Prim.Native.Char.{code}
use Prim.Native.String.{String, [] as empty, ◌∷◌ as before}

-- a text's bytes, if all its characters are of ASCII
unfoldable pub bytes_of : String → List ℕ
bytes_of empty = []
bytes_of (before c s) = code c ∷ bytes_of s

-- the text of number k has k texts in front of it; 0 and 6 are no refusal's numbers (6 was given up with U4)
unfoldable pub reasons : List String
reasons =
    ""
    ∷ "a command is cut off, or the end is missing"
    ∷ "an unknown command"
    ∷ "a vertex with label 0"
    ∷ "a 65th vertex: a graph has at most 64"
    ∷ "an edge of a vertex that is not given before it"
    ∷ ""
    ∷ "an edge with label 0"
    ∷ "an edge that is given already"
    ∷ "bytes after the end"
    ∷ "tables not of 64 labels and 4,096 edges, or a graph of more than 64 vertices"
    ∷ "labels of a graph that is not sound"
    ∷ "edges of a graph that is not sound"
    ∷ "too short a buffer for the output"
    ∷ "a checkpoint that is not in shape for these graphs, substitutes and search"
    ∷ "fewer than 4,160 workspace words"
    ∷ "steps and budget together above 2^64 - 1"
    ∷ "bytes that are not in the form of a checkpoint"
    ∷ "a mapping whose length is not the number of old vertices"
    ∷ "a vertex mapped to one that the new graph does not have"
    ∷ "two vertices mapped to one new vertex"
    ∷ "labels that do not agree"
    ∷ "edges that differ"
    ∷ "substitutes whose length four does not divide, or of more than 1,024 bytes"
    ∷ "a label 0 among the substitutes"
    ∷ "more than eight old vertices for clique branching"
    ∷ "a number of vertices above 64"
    ∷ "a graph that does not begin with 4, 2"
    ∷ "a label above 255, which edition 1 does not have"
    ∷ []

-- the empty text for every other number
unfoldable pub reason_text : ℕ → List ℕ
reason_text number = bytes_of (get_or reasons number "")
