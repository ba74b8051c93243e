-- An accepted call: the words of the checkpoint's path are rebuilt, the visits are made, and the ceiling there is returned.
use mathlib.Core.Path.{◌≡◌, refl, sym, ap, ap₂, ◌∙◌}
use mathlib.Core.Bool.{Bool}
use mathlib.Core.Logic.{◌⊎◌, ⊎_elim}
use mathlib.Core.List.{List, [], ◌++◌}
use Prim.Native.Nat.{ℕ, ◌+◌, ◌≤◌, ◌<◌}
use native.Mathlib.Omega.{arith}
use lib.ListN.{length, take, drop, replicate, drop_of_length-le}
use Rattle.answers.specs.Answer.{accepted}
use Rattle.graph.specs.Graph.{graph}
use Rattle.problem.specs.Problem.{Problem, SoundProblem}
use Rattle.mapping.specs.Common.{size}
use Rattle.search_tree.specs.Rules.{rules_of}
use Rattle.search_tree.specs.Search.{search_of}
use Rattle.search_tree.specs.Trees.{Reached}
use Rattle.search_tree.specs.Walk.{cutoff}
use Rattle.search_tree.specs.Ceiling.{ceiling}
use Rattle.search.specs.declared.walk.Walk.{Walk}
use Rattle.checkpoint.specs.declared.Checkpoint.{Checkpoint}
use Rattle.checkpoint.specs.Checkpoints.{state_of, InShape}
use Rattle.search.specs.Call.{Called, visits, advance}
use Rattle.search.specs.Words.{Masks, open_rows, Words}
use Rattle.search.specs.Walking.{Setting, AtNode, InBounds, Ready, Arrives, Starts}
use Rattle.search.proofs.NodeWords.{open_rows_max, size_take_max, node_bound, node_full, node_bounded}
use Rattle.search.proofs.ReachedBounds.{reached_in_bounds}
use Rattle.search.proofs.RunTurn.{arrived_minimum, arrived_state}
use Rattle.search.proofs.WordLevels.{words_shorter}
use Rattle.checkpoint.proofs.StateShape.{state_in_shape}

-- words of which none is past the cleared ones are all cleared
all_cleared : (m : ℕ) (zeros before after cleared : List ℕ) → length before ≤ m → length after ≤ m → cleared ≡ zeros ++ drop m before
    → cleared ≡ zeros ++ drop m after
all_cleared m zeros before after cleared few few' e = e ∙ ap (◌++◌ zeros) (drop_of_length-le before few ∙ sym (drop_of_length-le after few'))

-- A sound problem, with the masks filled in, is what the code is lent.
pub call_setting : {P : Problem} {masks : List ℕ} → SoundProblem P → Masks (graph P.new.order [] P.new.edges) masks → Setting P P.old.order P.old.edges masks
call_setting sound filled = record { sound = sound; order_is = refl; edges_is = refl; masks_are = filled }

-- what an accepted call starts from: a sound problem, and a checkpoint in shape, with its arrays of 64 bytes
pub record Accepted (connected : Bool) (P : Problem) (c : Checkpoint) : Type 0 where
  pub sound : SoundProblem P
  pub shape : InShape connected P c
  pub path_long : length c.path ≡ 64
  pub incumbent_long : length c.incumbent ≡ 64

module _ {connected : Bool} {P : Problem} {c : Checkpoint} (call : Accepted connected P c) where
  -- The path of a checkpoint in shape is reached.
  pub shape_reached : Reached (rules_of P) (take c.depth c.path)
  unfolding state_of
  shape_reached = (state_in_shape connected P call.sound c call.path_long call.shape).reached

  -- The checkpoint's path is in bounds.
  pub call_bounds : {masks ws : List ℕ} → Masks (graph P.new.order [] P.new.edges) masks → 4160 ≤ length ws
      → InBounds c.path c.depth (size (take c.depth c.path)) ws
  call_bounds filled room = reached_in_bounds c.path c.depth (call_setting call.sound filled) shape_reached call.shape.depth_max call.path_long room

  -- Once the words of its path are there, the checkpoint is at a node,
  call_node : {ws : List ℕ} {pairs : ℕ} → 4160 ≤ length ws → pairs ≡ size (take c.depth c.path) → Words P c.path c.depth ws
      → AtNode P c.path c.depth pairs ws
  call_node room counted words = record {
    path_length = call.path_long;
    room = room;
    reached = shape_reached;
    depth_max = call.shape.depth_max;
    pairs_are = counted;
    words = words_shorter (omega arith) words;
  }

  -- and the rows that have a candidate give its upper bound, so that a walk can start there.
  pub call_starts : {n : ℕ} {edges masks ws : List ℕ} {pairs number bound : ℕ} → Setting P n edges masks → 4160 ≤ length ws
      → pairs ≡ size (take c.depth c.path) → Words P c.path c.depth ws → number ≡ cutoff c.minimum (state_of P.old.order c).incumbent
      → ((pairs < 64) × (bound ≡ pairs + open_rows c.depth pairs ws)) ⊎ ((64 ≤ pairs) × (bound ≡ pairs))
      → Starts connected P c (record { checkpoint = c; pairs = pairs; cutoff = number; bound = bound }) ws
  call_starts {ws = ws} {pairs = pairs} {bound = bound} setting room counted words number_is bound_is = record {
    checkpoint_is = refl;
    ready = record {
      shape = call.shape;
      incumbent_length = call.incumbent_long;
      node = node;
      cutoff_is = number_is;
      bounded = node_bounded setting node (⊎_elim (λ w. w.1 ∙ node_bound setting node w.0 words) (λ w. w.1 ∙ node_full setting node w.0) bound_is) words;
      small =
          let few = size_take_max c.path c.depth in
          let max = call.sound.old_sound.order_max in
          let deep = call.shape.depth_max in
          ⊎_elim (λ w. omega (arith, open_rows_max c.depth pairs ws)) (λ w. omega arith) bound_is;
    };
  }
    where
      node : AtNode P c.path c.depth pairs ws
      node = call_node room counted words

  -- The checkpoint that the visits leave, the ceiling there and the cleared workspace are what an accepted call gives.
  pub call_arrives : {edges masks ws ws' : List ℕ} {w end : Walk} (budget top : ℕ) (lent before : List ℕ) {cleared : List ℕ}
      → Setting P P.old.order edges masks → w.checkpoint ≡ c → Ready connected P w ws
      → Arrives connected P w.checkpoint.minimum (visits (search_of connected P) w.checkpoint.minimum budget (state_of P.old.order w.checkpoint)) end ws'
      → top ≡ ceiling (rules_of P) end.checkpoint.minimum (state_of P.old.order end.checkpoint)
      → length lent ≡ 4160 → length before ≡ 4160 → cleared ≡ replicate 4160 0 ++ drop 4160 before
      → ◌≡◌ {A = Called} (record { answer = accepted top; checkpoint = end.checkpoint; workspace = cleared }) (advance connected P c budget lent)
  unfolding advance
  call_arrives {w = w} {end = end} budget top lent before {cleared} setting begun ready there top_is whole kept clear = rw (← begun) (λ i. record {
    answer = accepted (answer_is i);
    checkpoint = there.checkpoint_is i;
    workspace = all_cleared 4160 (replicate 4160 0) before lent cleared (omega arith) (omega arith) clear i;
  })
    where
      answer_is : top ≡ ceiling (rules_of P) w.checkpoint.minimum
          (visits (search_of connected P) w.checkpoint.minimum budget (state_of P.old.order w.checkpoint))
      answer_is = top_is ∙ ap₂ (ceiling (rules_of P)) (arrived_minimum there) (arrived_state budget setting ready there)
