-- The checkpoint of a state of the walk, the state of a checkpoint, and when a checkpoint is in shape: 01, "Bookmark and calls", first paragraph, and 02, U7.
use Rattle.std.specs.Prelude.{◌≡◌, Bool, true, false, cond, not, ◌&&◌, ◌||◌, ◌⊎◌, List, [], ◌++◌, ℕ, ◌-◌, ◌≤◌, ◌<◌, leb, ltb, eqb, length, get_or, take, replicate}
use Rattle.std.specs.Bool.{beq}
use Rattle.std.proofs.Math.Option.{Option, none, some}
use Rattle.bounded.specs.Below.{all_below}
use Rattle.problem.specs.Problem.{Problem}
use Rattle.mapping.specs.Common.{unmapped, size}
use Rattle.mapping.specs.Answers.{Outcome, accepted, refused, refused_row, refused_rows}
use Rattle.mapping.specs.Check.{list_outcome}
use Rattle.search_tree.specs.Rules.{rules_of}
use Rattle.search_tree.specs.Search.{admits_of, Good}
use Rattle.search_tree.specs.Node.{candidate}
use Rattle.search_tree.specs.Walk.{State, fresh}
use Rattle.checkpoint.specs.declared.Checkpoint.{Checkpoint}

-- 64 bytes: the list, and 0 after it
abbrev pub padded : List ℕ → List ℕ
padded l = l ++ replicate (64 - length l) 0

abbrev pub has_incumbent : Option (List ℕ) → Bool
has_incumbent none = false
has_incumbent (some l) = true

abbrev pub incumbent_bytes : Option (List ℕ) → List ℕ
incumbent_bytes none = padded []
incumbent_bytes (some l) = padded l

-- "has the floor, k steps, the next node's depth and path, unfinished or finished (then depth 0), the matching held by then, and unused bytes 0"
unfoldable pub checkpoint_of : ℕ → State → Checkpoint
checkpoint_of minimum s =
    record {
      minimum = minimum;
      steps = s.steps;
      depth = length s.path;
      path = padded s.path;
      finished = s.finished;
      holds = has_incumbent s.incumbent;
      incumbent = incumbent_bytes s.incumbent;
    }

-- "A fresh one needs a floor only"
abbrev pub fresh_checkpoint : ℕ → Checkpoint
fresh_checkpoint minimum = checkpoint_of minimum fresh

-- the state that a checkpoint of n old vertices stands for
unfoldable pub state_of : ℕ → Checkpoint → State
state_of n c =
    record {
      steps = c.steps;
      path = take c.depth c.path;
      finished = c.finished;
      incumbent = cond c.holds (some (take n c.incumbent)) none;
    }

-- 01's clauses, in its order, for the first search or the connected one
pub record InShape (connected : Bool) (P : Problem) (c : Checkpoint) : Type 0 where
  -- "depth is at most n"
  pub depth_max : c.depth ≤ P.old.order
  -- "each path byte is a candidate of its row or 255"
  pub entry : (k : ℕ) → k < c.depth
      → (get_or c.path k 0 ≡ unmapped) ⊎ (candidate (rules_of P) (take k c.path) k (get_or c.path k 0) ≡ true)
  -- "a held matching is good and reaches the floor"; 02, U7: "A matching held in its bookmark must be connected, else 14"
  pub incumbent_good : c.holds ≡ true → Good connected P (take P.old.order c.incumbent)
  pub incumbent_reaches : c.holds ≡ true → c.minimum ≤ size (take P.old.order c.incumbent)
  -- "finished has depth 0"
  pub finished_root : c.finished ≡ true → c.depth ≡ 0
  -- "steps are 0 exactly when it is unfinished at depth 0, and then nothing is held"
  pub unmoved : c.steps ≡ 0 → (c.finished ≡ false) × (c.depth ≡ 0) × (c.holds ≡ false)
  pub moved : c.finished ≡ false → c.depth ≡ 0 → c.steps ≡ 0
  -- "unused bytes (path bytes from the depth on, matching bytes from n on, all of these when nothing is held) are 0"
  pub path_rest : (i : ℕ) → c.depth ≤ i → i < 64 → get_or c.path i 0 ≡ 0
  pub incumbent_rest : (i : ℕ) → P.old.order ≤ i → i < 64 → get_or c.incumbent i 0 ≡ 0
  pub none_rest : c.holds ≡ false → (i : ℕ) → i < 64 → get_or c.incumbent i 0 ≡ 0

-- the check of a mapping accepts it, with at least k pairs
abbrev pub reaches : ℕ → Outcome → Bool
reaches k (accepted n) = leb k n
reaches k (refused number) = false
reaches k (refused_row number row) = false
reaches k (refused_rows number row earlier) = false

abbrev pub path_fits : Problem → Checkpoint → ℕ → Bool
path_fits P c k = eqb (get_or c.path k 0) unmapped || candidate (rules_of P) (take k c.path) k (get_or c.path k 0)

abbrev pub incumbent_fits : Problem → Checkpoint → Bool
incumbent_fits P c = not c.holds || reaches c.minimum (list_outcome P (take P.old.order c.incumbent))

-- what is held may be held by this search
abbrev pub held_admitted : Bool → Problem → Checkpoint → Bool
held_admitted connected P c = not c.holds || admits_of connected P (take P.old.order c.incumbent)

-- `finished_root`, `unmoved` and `moved`
abbrev pub steps_fit : Checkpoint → Bool
steps_fit c =
    (not c.finished || eqb c.depth 0)
    && beq (eqb c.steps 0) (not c.finished && eqb c.depth 0)
    && (not (eqb c.steps 0) || not c.holds)

abbrev pub rest_fits : ℕ → Checkpoint → ℕ → Bool
rest_fits n c i =
    (ltb i c.depth || eqb (get_or c.path i 0) 0) && ((c.holds && ltb i n) || eqb (get_or c.incumbent i 0) 0)

-- the clauses for n old vertices, with what is found of the path and of the incumbent
abbrev pub shape_tests : ℕ → Bool → Bool → Checkpoint → Bool
shape_tests n path incumbent c = leb c.depth n && path && incumbent && steps_fit c && all_below 64 (rest_fits n c)

-- the same as a test that computes, clause by clause
unfoldable pub in_shape : Bool → Problem → Checkpoint → Bool
in_shape connected P c =
    shape_tests P.old.order (all_below c.depth (path_fits P c)) (incumbent_fits P c) c && held_admitted connected P c
