-- The graphs of 01's marked examples and of 02's, read from their bytes in edition 2 (02, U6), and that they are sound: computing that would take minutes, so it is cited.
use mathlib.Core.Path.{◌≡◌, refl}
use mathlib.Core.Bool.{Bool, true, ◌&&◌, and-eq-true_iff}
use mathlib.Core.List.{List, [], ◌∷◌}
use Prim.Native.Nat.{ℕ, zero, suc, ◌≤◌}
use native.Mathlib.Omega.{arith}
use lib.Dec.{leb}
use lib.ListN.{get_or, replicate}
use borrow.Author.Tests.{leb-true}
use Rattle.answers.specs.Answer.{Answer, passed, accepted, refused, refused_at}
use Rattle.graph.specs.Graph.{Graph, graph, Sound}
use Rattle.graph_reader.specs.Reading.{Reading, reading, reading_edition, read_file, opens, read_at, read_from, judge}
use Rattle.graph_reader.proofs.ReadSound.{reading_sound}
use Rattle.substitutes.specs.Soundness.{substitutes_answer}
use Rattle.substitutes.proofs.SoundList.{none_sound, passes_sound_list}
use Rattle.problem.specs.Problem.{Problem, SoundProblem, problem, substituting}

abbrev order_of : Answer → ℕ
order_of (accepted n) = n
order_of passed = 0
order_of (refused n) = 0
order_of (refused_at n at) = 0

abbrev graph_of : Reading → Graph
graph_of r = graph (order_of r.answer) r.labels r.edges

-- the tables lent hold 9 throughout, so that what is left in them is seen
abbrev pub read_tables : List ℕ → Reading
read_tables bytes = reading (replicate 64 9) (replicate 4096 9) bytes

abbrev pub read : List ℕ → Graph
read bytes = graph_of (read_tables bytes)

abbrev pub between : List ℕ → List ℕ → Problem
between old new = problem (read old) (read new)

-- 01's P: old 1 7 1 9 1 7 2 0 1 1 2 1 2 1 0, new 1 9 1 7 2 0 1 1 0 as files of edition 1
abbrev pub old : List ℕ
old = 4 ∷ 2 ∷ 3 ∷ 7 ∷ 0 ∷ 3 ∷ 9 ∷ 0 ∷ 3 ∷ 7 ∷ 0 ∷ 2 ∷ 0 ∷ 1 ∷ 1 ∷ 2 ∷ 1 ∷ 2 ∷ 1 ∷ 0 ∷ []

abbrev pub new : List ℕ
new = 4 ∷ 2 ∷ 3 ∷ 9 ∷ 0 ∷ 3 ∷ 7 ∷ 0 ∷ 2 ∷ 0 ∷ 1 ∷ 1 ∷ 0 ∷ []

abbrev pub pair : Problem
pair = between old new

abbrev pub empty : List ℕ
empty = 4 ∷ 2 ∷ 0 ∷ []

-- one part of kind 7; two of kind 7; 7 and 9 linked by 1; 7 and 9 unlinked
abbrev pub one : List ℕ
one = 4 ∷ 2 ∷ 3 ∷ 7 ∷ 0 ∷ 0 ∷ []

abbrev pub two : List ℕ
two = 4 ∷ 2 ∷ 3 ∷ 7 ∷ 0 ∷ 3 ∷ 7 ∷ 0 ∷ 0 ∷ []

abbrev pub linked : List ℕ
linked = 4 ∷ 2 ∷ 3 ∷ 7 ∷ 0 ∷ 3 ∷ 9 ∷ 0 ∷ 2 ∷ 0 ∷ 1 ∷ 1 ∷ 0 ∷ []

abbrev pub unlinked : List ℕ
unlinked = 4 ∷ 2 ∷ 3 ∷ 7 ∷ 0 ∷ 3 ∷ 9 ∷ 0 ∷ 0 ∷ []

abbrev pub nine : List ℕ
nine = 4 ∷ 2 ∷ 3 ∷ 9 ∷ 0 ∷ 0 ∷ []

-- two parts of kind 7, linked by this kind
abbrev pub sevens : ℕ → List ℕ
sevens kind = 4 ∷ 2 ∷ 3 ∷ 7 ∷ 0 ∷ 3 ∷ 7 ∷ 0 ∷ 2 ∷ 0 ∷ 1 ∷ kind ∷ 0 ∷ []

-- three parts of kind 7, the first two linked by 1
abbrev pub loose : List ℕ
loose = 4 ∷ 2 ∷ 3 ∷ 7 ∷ 0 ∷ 3 ∷ 7 ∷ 0 ∷ 3 ∷ 7 ∷ 0 ∷ 2 ∷ 0 ∷ 1 ∷ 1 ∷ 0 ∷ []

-- one part of kind 7, linked with itself by this kind; two of kind 7, linked with each other and with themselves by 5
abbrev pub held : ℕ → List ℕ
held kind = 4 ∷ 2 ∷ 3 ∷ 7 ∷ 0 ∷ 2 ∷ 0 ∷ 0 ∷ kind ∷ 0 ∷ []

abbrev pub all_fives : List ℕ
all_fives = 4 ∷ 2 ∷ 3 ∷ 7 ∷ 0 ∷ 3 ∷ 7 ∷ 0 ∷ 2 ∷ 0 ∷ 0 ∷ 5 ∷ 2 ∷ 1 ∷ 1 ∷ 5 ∷ 2 ∷ 0 ∷ 1 ∷ 5 ∷ 0 ∷ []

-- one part of kind 7 against one of kind 9, with these substitutes
abbrev pub listing : List ℕ → Problem
listing list = substituting list (between one nine)

-- every entry is a byte
unfoldable pub bytes : List ℕ → Bool
bytes [] = true
bytes (b ∷ l) = leb b 255 && bytes l

pub bytes_small : (l : List ℕ) → bytes l ≡ true → (i : ℕ) → get_or l i 0 ≤ 255
unfolding bytes
bytes_small [] e i = omega arith
bytes_small (b ∷ l) e zero = leb-true b 255 ((and-eq-true_iff (leb b 255) (bytes l)).0 e).0
bytes_small (b ∷ l) e (suc i) = bytes_small l ((and-eq-true_iff (leb b 255) (bytes l)).0 e).1 i

read_sound : (l : List ℕ) → bytes l ≡ true → (n : ℕ) → (read_tables l).answer ≡ accepted n → Sound (read l)
read_sound l small n e = rw e (reading_sound (replicate 64 9) (replicate 4096 9) l (bytes_small l small) n e)

-- what is read from bytes without a fault is a sound problem
pub between_sound : (l k : List ℕ) → bytes l ≡ true → bytes k ≡ true → (n m : ℕ) → (read_tables l).answer ≡ accepted n → (read_tables k).answer ≡ accepted m
    → SoundProblem (between l k)
between_sound l k sl sk n m el ek = record {
  old_sound = read_sound l sl n el;
  new_sound = read_sound k sk m ek;
  substitutes_sound = none_sound;
}

pub pair_sound : SoundProblem pair
unfolding reading reading_edition read_file opens read_at read_from judge bytes
pair_sound = between_sound old new refl refl 3 2 refl refl

pub empty_sound : SoundProblem (between empty empty)
unfolding reading reading_edition read_file opens read_at read_from judge bytes
empty_sound = between_sound empty empty refl refl 0 0 refl refl

pub one_sound : SoundProblem (between one two)
unfolding reading reading_edition read_file opens read_at read_from judge bytes
one_sound = between_sound one two refl refl 1 2 refl refl

pub linked_sound : SoundProblem (between linked unlinked)
unfolding reading reading_edition read_file opens read_at read_from judge bytes
linked_sound = between_sound linked unlinked refl refl 2 2 refl refl

pub listing_sound : (list : List ℕ) → substitutes_answer list ≡ passed → SoundProblem (listing list)
unfolding reading reading_edition read_file opens read_at read_from judge bytes
listing_sound list e =
    let graphs = between_sound one nine refl refl 1 1 refl refl in
    record { old_sound = graphs.old_sound; new_sound = graphs.new_sound; substitutes_sound = passes_sound_list list e }

pub sevens_sound : SoundProblem (between (sevens 1) (sevens 2))
unfolding reading reading_edition read_file opens read_at read_from judge bytes
sevens_sound = between_sound (sevens 1) (sevens 2) refl refl 2 2 refl refl

pub loose_sound : SoundProblem (between loose loose)
unfolding reading reading_edition read_file opens read_at read_from judge bytes
loose_sound = between_sound loose loose refl refl 3 3 refl refl

-- one part held by itself against one that is not
pub held_sound : SoundProblem (between (held 1) one)
unfolding reading reading_edition read_file opens read_at read_from judge bytes
held_sound = between_sound (held 1) one refl refl 1 1 refl refl

pub fives_sound : SoundProblem (between all_fives (held 5))
unfolding reading reading_edition read_file opens read_at read_from judge bytes
fives_sound = between_sound all_fives (held 5) refl refl 2 1 refl refl
