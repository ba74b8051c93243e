-- One visit by the code is one of the walk's: a node is left, a last one held if it may be and left, or its first child is next, and all is ready for another
-- visit.
use mathlib.Core.Path.{◌≡◌, refl, sym, ap, ◌∙◌}
use mathlib.Core.Bool.{Bool, true, false, cond, not, ◌||◌, true≢false}
use mathlib.Core.Logic.{◌⊎◌, ◌≢◌, ⊎_elim}
use mathlib.Core.List.{List, ◌∷◌}
use mathlib.Core.Option.{Option, none, some}
use Prim.Native.Nat.{ℕ, ◌+◌, ◌-◌, ◌^◌, ◌≤◌, ◌<◌}
use native.Mathlib.Nat.{le_refl}
use native.Mathlib.Omega.{arith}
use lib.ListN.{length, get_or, take}
use borrow.Author.Tests.{lt-ltb, le-ltb, le-leb, lt-leb}
use Rattle.problem.specs.Problem.{Problem, SoundProblem}
use Rattle.connected.specs.Spreading.{mapped_set, connected_set, Neighbours}
use Rattle.connected.proofs.Spread.{connected_set_congr}
use Rattle.search_tree.specs.Rules.{rules_of}
use Rattle.search_tree.specs.Search.{Search, admits_by, admits_of, search_of}
use Rattle.search_tree.specs.Node.{upper_bound, children, later_siblings}
use Rattle.search_tree.specs.Walk.{State, cutoff, go_on, visit, visit_path}
use Rattle.search_tree.proofs.Shape.{visit_shape}
use Rattle.checkpoint.specs.declared.Checkpoint.{Checkpoint}
use Rattle.search.specs.declared.tables.Tables.{Tables}
use Rattle.search.specs.declared.tables.Pair.{Pair}
use Rattle.search.specs.declared.walk.Place.{Place}
use Rattle.search.specs.declared.walk.Walk.{Walk}
use Rattle.checkpoint.specs.Checkpoints.{checkpoint_of, state_of}
use Rattle.search.specs.Words.{Words, ExactSet, open_rows}
use Rattle.search.specs.Walking.{Setting, AtNode, InBounds, Ready, Arrives, Bounded, RestZero, Descends, Retreats, Resumes}
use Rattle.search.specs.Walking.{OnTrail, OpenIs, LastIs}
use Rattle.checkpoint.proofs.CheckpointState.{checkpoint_tidy}
use Rattle.search.proofs.ReadyWalk.{own_order, node_length}
use Rattle.search.proofs.NodeWords.{pairs_max, node_bound}
use Rattle.search.proofs.ReachedBounds.{reached_in_bounds}
use Rattle.checkpoint.proofs.StateShape.{state_in_shape}
use Rattle.checkpoint.proofs.StateShape.{checkpoint_in_shape}

module _ {P : Problem} {n : ℕ} {edges masks path ws : List ℕ} {depth pairs : ℕ} (setting : Setting P n edges masks)
    (node : AtNode P path depth pairs ws) where
  -- A node of a problem is in bounds.
  pub node_in_bounds : InBounds path depth pairs ws
  node_in_bounds =
      rw node.pairs_are (reached_in_bounds path depth setting node.reached node.depth_max node.path_length node.room)

  -- A node stays one while the words of its ancestors do.
  pub node_kept : {ws' : List ℕ} → length ws' ≡ length ws → Words P path (depth - 1) ws' → AtNode P path depth pairs ws'
  node_kept same words = record {
    path_length = node.path_length;
    room = omega (arith, node.room);
    reached = node.reached;
    depth_max = node.depth_max;
    pairs_are = node.pairs_are;
    words = words;
  }

-- A walk that is ready for a visit is in bounds.
pub ready_in_bounds : {connected : Bool} {P : Problem} {n : ℕ} {edges masks ws : List ℕ} {w : Walk} → Setting P n edges masks
    → Ready connected P w ws → InBounds w.checkpoint.path w.checkpoint.depth w.pairs ws
ready_in_bounds setting ready = node_in_bounds setting ready.node

-- a place as a state
abbrev place_state : ℕ → Option (List ℕ) → Place → List ℕ → State
place_state steps held r path = record { steps = steps; path = take r.depth path; finished = r.finished; incumbent = held }

-- where the code retreats to, the walk goes on
retreats_state : {P : Problem} {path path' ws : List ℕ} {depth : ℕ} {r : Place} (steps : ℕ) (held : Option (List ℕ))
    → Retreats P path depth ws r path' → place_state steps held r path' ≡ go_on steps held (later_siblings (rules_of P) (take depth path) depth)
retreats_state {P} {path} {path'} {ws} {depth} {r} steps held back = go r.finished refl
  where
    go : (b : Bool) → r.finished ≡ b → place_state steps held r path' ≡ go_on steps held (later_siblings (rules_of P) (take depth path) depth)
    go true e = rw ((back.none_left e).0, (back.none_left e).1, e)
    go false e = rw ((back.sibling e).1, e)

module _ (S : Search) (minimum steps : ℕ) (path : List ℕ) (held : Option (List ℕ)) where
  -- the three cases of a visit
  visit_low : upper_bound S.rules path < cutoff minimum held
      → visit_path S minimum steps path held ≡ go_on steps held (later_siblings S.rules path (length path))
  unfolding visit_path
  visit_low low = rw (lt-ltb (upper_bound S.rules path) (cutoff minimum held) low)

  visit_last : cutoff minimum held ≤ upper_bound S.rules path → S.rules.rows ≤ length path
      → visit_path S minimum steps path held ≡ go_on steps (cond (S.admits path) (some path) held) (later_siblings S.rules path (length path))
  unfolding visit_path
  visit_last high last = rw (le-ltb (upper_bound S.rules path) (cutoff minimum held) high, le-leb S.rules.rows (length path) last)

  visit_inner : cutoff minimum held ≤ upper_bound S.rules path → length path < S.rules.rows
      → visit_path S minimum steps path held ≡ go_on steps held (children S.rules path)
  unfolding visit_path
  visit_inner high inner = rw (le-ltb (upper_bound S.rules path) (cutoff minimum held) high, lt-leb S.rules.rows (length path) inner)

-- what the state that a checkpoint stands for holds
abbrev held_by : ℕ → Checkpoint → Option (List ℕ)
held_by n c = cond c.holds (some (take n c.incumbent)) none

-- an unfinished checkpoint's visit is of its node
visit_node : (connected : Bool) (P : Problem) (n : ℕ) (c : Checkpoint) → c.finished ≡ false
    → visit (search_of connected P) c.minimum (state_of n c)
    ≡ visit_path (search_of connected P) c.minimum (c.steps + 1) (take c.depth c.path) (held_by n c)
unfolding visit state_of
visit_node connected P n c busy = rw busy

-- the checkpoint with one step more, at a place
abbrev stepped : Checkpoint → Place → List ℕ → Bool → List ℕ → Checkpoint
stepped c r path holds incumbent =
    record {
      minimum = c.minimum;
      steps = c.steps + 1;
      depth = r.depth;
      path = path;
      finished = r.finished;
      holds = holds;
      incumbent = incumbent;
    }

-- the checkpoint at a place stands for the place as a state, where what is held stays,
left_state : (n : ℕ) (c : Checkpoint) (r : Place) (path' : List ℕ)
    → state_of n (stepped c r path' c.holds c.incumbent) ≡ place_state (c.steps + 1) (held_by n c) r path'
unfolding state_of
left_state n c r path' = refl

-- and where the whole path is held
held_state : (n : ℕ) (c : Checkpoint) (r : Place) (path' : List ℕ) → n ≡ c.depth
    → state_of n (stepped c r path' true c.path) ≡ place_state (c.steps + 1) (some (take c.depth c.path)) r path'
unfolding state_of
held_state n c r path' whole = rw whole refl

-- where a place is the first of some nodes, the walk goes on to them
down_state : (steps : ℕ) (held : Option (List ℕ)) (r : Place) (path' : List ℕ) {nodes rest : List (List ℕ)} → nodes ≡ take r.depth path' ∷ rest
    → r.finished ≡ false → place_state steps held r path' ≡ go_on steps held nodes
down_state steps held r path' first goes_on = rw (first, goes_on)

-- The test by the neighbours that the code keeps is the test.
pub admits_by_neighbours : (connected : Bool) {edges neighbours : List ℕ} → (connected ≡ true → Neighbours edges neighbours) → (l : List ℕ)
    → (not connected || connected_set (λ v. get_or neighbours v 0) (mapped_set l)) ≡ admits_by connected edges l
admits_by_neighbours true known l = connected_set_congr _ _ (λ v h. (known refl).word v h) (mapped_set l)
admits_by_neighbours false known l = refl

-- whether the walk's node may be held
abbrev pub Admitted : Bool → List ℕ → Walk → Bool → Type 0
Admitted connected edges w may = admits_by connected edges (take w.checkpoint.depth w.checkpoint.path) ≡ may

-- why a node is left and what is held stays: it is below the cutoff, or a last one that may not be held
abbrev pub Leaves : Bool → ℕ → List ℕ → Walk → Type 0
Leaves connected n edges w = (w.bound < w.cutoff) ⊎ ((w.cutoff ≤ w.bound) × (w.checkpoint.depth ≡ n) × Admitted connected edges w false)

-- the bound of a place is made
record Bound (P : Problem) (path : List ℕ) (r : Place) (cutoff : ℕ) (ws ws' : List ℕ) (bound : ℕ) : Type 0 where
  same : length ws' ≡ length ws
  bounded : Bounded P path r.depth cutoff ws' bound
  small : bound < 2 ^ 64 - 1

module _ {connected : Bool} {P : Problem} {n : ℕ} {edges masks ws : List ℕ} {w : Walk} (setting : Setting P n edges masks)
    (ready : Ready connected P w ws) (busy : w.checkpoint.finished ≡ false) where
  -- the walk's cutoff is the state's
  own_cutoff : cutoff w.checkpoint.minimum (held_by P.old.order w.checkpoint) ≡ w.cutoff
  unfolding state_of
  own_cutoff = sym ready.cutoff_is

  -- whether the node may be held is read from the old edges
  own_admits : {may : Bool} → Admitted connected edges w may → admits_of connected P (take w.checkpoint.depth w.checkpoint.path) ≡ may
  own_admits is = ap (λ (e : List ℕ). admits_by connected e (take w.checkpoint.depth w.checkpoint.path)) setting.edges_is ∙ is

  own_length : length (take w.checkpoint.depth w.checkpoint.path) ≡ w.checkpoint.depth
  own_length = node_length setting.sound ready.node

  -- a checkpoint that stands for the next state, with unused bytes 0, is the next one
  arrives : {r : Place} {path' incumbent' ws' : List ℕ} {holds' : Bool} {cutoff' bound' : ℕ}
      → state_of P.old.order (stepped w.checkpoint r path' holds' incumbent')
      ≡ visit (search_of connected P) w.checkpoint.minimum (state_of P.old.order w.checkpoint)
      → AtNode P path' r.depth r.pairs ws → RestZero path' r.depth → length incumbent' ≡ 64
      → ((i : ℕ) → P.old.order ≤ i → i < 64 → get_or incumbent' i 0 ≡ 0)
      → (holds' ≡ false → (i : ℕ) → i < 64 → get_or incumbent' i 0 ≡ 0)
      → cutoff' ≡ cutoff w.checkpoint.minimum (held_by P.old.order (stepped w.checkpoint r path' holds' incumbent'))
      → Bound P path' r cutoff' ws ws' bound'
      → Arrives connected P w.checkpoint.minimum (visit (search_of connected P) w.checkpoint.minimum (state_of P.old.order w.checkpoint))
      (record { checkpoint = stepped w.checkpoint r path' holds' incumbent'; pairs = r.pairs; cutoff = cutoff'; bound = bound' }) ws'
  unfolding state_of
  arrives {r} {path'} {incumbent'} {ws'} {holds'} state node rest long incumbent_rest none_rest cutoff_is made = record {
    checkpoint_is = next_is;
    ready = record {
      shape = rw next_is (checkpoint_in_shape connected P setting.sound w.checkpoint.minimum _ (visit_shape (search_of connected P) w.checkpoint.minimum _
          (state_in_shape connected P setting.sound w.checkpoint ready.node.path_length ready.shape)));
      incumbent_length = long;
      node = node_kept setting node made.same made.bounded.words;
      cutoff_is = cutoff_is;
      bounded = made.bounded;
      small = made.small;
    };
  }
    where
      next : Checkpoint
      next = stepped w.checkpoint r path' holds' incumbent'

      next_is : next ≡ checkpoint_of w.checkpoint.minimum (visit (search_of connected P) w.checkpoint.minimum (state_of P.old.order w.checkpoint))
      next_is =
          sym (checkpoint_tidy P.old.order next setting.sound.old_sound.order_max node.path_length long
          (omega (arith, node.depth_max, setting.sound.old_sound.order_max)) rest incumbent_rest none_rest)
          ∙ ap (checkpoint_of w.checkpoint.minimum) state

  -- the walk leaves it too
  visit_leaves : Leaves connected n edges w
      → (let c = w.checkpoint in
      visit_path (search_of connected P) c.minimum (c.steps + 1) (take c.depth c.path) (held_by P.old.order c)
      ≡ go_on (c.steps + 1) (held_by P.old.order c) (later_siblings (rules_of P) (take c.depth c.path) (length (take c.depth c.path))))
  visit_leaves =
      let c = w.checkpoint in
      let S = search_of connected P in
      let p = take c.depth c.path in
      let held = held_by P.old.order c in
      ⊎_elim
      (λ low. visit_low S c.minimum (c.steps + 1) p held (omega (arith, own_cutoff, ready.bounded.low low)))
      (λ last.
      let is = (ready.bounded.high last.0).0 in
      rw (own_admits last.2) at
      (visit_last S c.minimum (c.steps + 1) p held (omega (arith, own_cutoff)) (omega (arith, own_length, setting.order_is, last.1))))

  -- so it is left
  step_left : {path' ws' : List ℕ} {r : Place} {bound' : ℕ} → Leaves connected n edges w
      → Retreats P w.checkpoint.path w.checkpoint.depth ws r path' → Bound P path' r w.cutoff ws ws' bound'
      → Arrives connected P w.checkpoint.minimum (visit (search_of connected P) w.checkpoint.minimum (state_of P.old.order w.checkpoint))
      (record {
        checkpoint = stepped w.checkpoint r path' w.checkpoint.holds w.checkpoint.incumbent;
        pairs = r.pairs;
        cutoff = w.cutoff;
        bound = bound';
      }) ws'
  step_left {path'} {ws'} {r} why back made =
      let c = w.checkpoint in
      let left = visit_leaves why in
      arrives (left_state P.old.order c r path' ∙ retreats_state (c.steps + 1) (held_by P.old.order c) back
      ∙ sym (visit_node connected P P.old.order c busy ∙ (rw own_length at left)))
      back.node (back.rest_zero ready.shape.path_rest) ready.incumbent_length ready.shape.incumbent_rest ready.shape.none_rest
      (sym own_cutoff) made

  -- a last node that reaches the cutoff and may be held is held, and left
  step_held : {path' ws' : List ℕ} {r : Place} {bound' : ℕ} → w.cutoff ≤ w.bound → w.checkpoint.depth ≡ n → Admitted connected edges w true
      → Retreats P w.checkpoint.path w.checkpoint.depth ws r path' → Bound P path' r (w.pairs + 1) ws ws' bound'
      → Arrives connected P w.checkpoint.minimum (visit (search_of connected P) w.checkpoint.minimum (state_of P.old.order w.checkpoint))
      (record {
        checkpoint = stepped w.checkpoint r path' true w.checkpoint.path;
        pairs = r.pairs;
        cutoff = w.pairs + 1;
        bound = bound';
      }) ws'
  step_held {path'} {ws'} {r} high last may back made =
      let c = w.checkpoint in
      let is = (ready.bounded.high high).0 in
      let p = take c.depth c.path in
      let whole : P.old.order ≡ c.depth = setting.order_is ∙ sym last in
      let left = visit_last (search_of connected P) c.minimum (c.steps + 1) p (held_by P.old.order c) (omega (arith, own_cutoff))
      (omega (arith, own_length)) in
      arrives (held_state P.old.order c r path' whole ∙ retreats_state (c.steps + 1) (some p) back
      ∙ sym (visit_node connected P P.old.order c busy ∙ (rw (own_length, own_admits may) at left)))
      back.node (back.rest_zero ready.shape.path_rest) ready.node.path_length
      (λ i h b. ready.shape.path_rest i (omega arith) b) (λ e. absurd (true≢false e))
      (rw whole (ap (λ (k : ℕ). k + 1) ready.node.pairs_are)) made

  -- after another node that reaches the cutoff comes its first child
  step_down : {path' ws' : List ℕ} {r : Place} {bound' : ℕ} → w.cutoff ≤ w.bound → w.checkpoint.depth < P.old.order
      → Descends P w.checkpoint.path w.checkpoint.depth ws r path' → Bound P path' r w.cutoff ws ws' bound'
      → Arrives connected P w.checkpoint.minimum (visit (search_of connected P) w.checkpoint.minimum (state_of P.old.order w.checkpoint))
      (record {
        checkpoint = stepped w.checkpoint r path' w.checkpoint.holds w.checkpoint.incumbent;
        pairs = r.pairs;
        cutoff = w.cutoff;
        bound = bound';
      }) ws'
  step_down {path'} {ws'} {r} high inner down made =
      let c = w.checkpoint in
      let is = (ready.bounded.high high).0 in
      let next = visit_inner (search_of connected P) c.minimum (c.steps + 1) (take c.depth c.path) (held_by P.old.order c)
      (omega (arith, own_cutoff)) (omega (arith, own_length)) in
      arrives (left_state P.old.order c r path' ∙ down_state (c.steps + 1) (held_by P.old.order c) r path' down.child.1 down.goes_on
      ∙ sym (visit_node connected P P.old.order c busy ∙ next))
      down.node (down.rest_zero ready.shape.path_rest) ready.incumbent_length ready.shape.incumbent_rest ready.shape.none_rest
      (sym own_cutoff) made

-- Whatever the problem: the code made one visit, and is ready for another.
abbrev pub Visits : Bool → ℕ → List ℕ → List ℕ → Walk → List ℕ → Walk → List ℕ → Type 0
Visits connected n edges masks w ws w' ws' =
    (P : Problem) → Setting P n edges masks → Ready connected P w ws
    → Arrives connected P w.checkpoint.minimum (visit (search_of connected P) w.checkpoint.minimum (state_of P.old.order w.checkpoint)) w' ws'

module _ {n : ℕ} {edges masks ws ws' path' : List ℕ} {r : Place} {cutoff' bound' : ℕ} (w : Walk) (busy : w.checkpoint.finished ≡ false)
    (same : length ws' ≡ length ws)
    (bounded : ((P : Problem) → Setting P P.old.order edges masks → AtNode P path' r.depth r.pairs ws
    → Bounded P path' r.depth cutoff' ws' bound') × (bound' < 2 ^ 64 - 1)) where
  -- the bound of the place that the walk moves to
  bound_made : {P : Problem} → Setting P n edges masks → AtNode P path' r.depth r.pairs ws → Bound P path' r cutoff' ws ws' bound'
  bound_made {P} setting node = record { same = same; bounded = bounded.0 P (own_order setting) node; small = bounded.1 }

  -- Whatever the problem, a node below the cutoff, or one that may not be held, is left.
  pub visits_left : {connected : Bool} → cutoff' ≡ w.cutoff → Leaves connected n edges w
      → ((P : Problem) → SoundProblem P → AtNode P w.checkpoint.path w.checkpoint.depth w.pairs ws
      → Retreats P w.checkpoint.path w.checkpoint.depth ws r path')
      → Visits connected n edges masks w ws
      (record {
        checkpoint = stepped w.checkpoint r path' w.checkpoint.holds w.checkpoint.incumbent;
        pairs = r.pairs;
        cutoff = w.cutoff;
        bound = bound';
      }) ws'
  visits_left given why back =
      λ P setting ready.
      let next = back P setting.sound ready.node in
      step_left setting ready busy why next (rw given at (bound_made setting next.node))

  -- Whatever the problem, a last node that reaches the cutoff and may be held is held, and left.
  pub visits_held : {connected : Bool} → cutoff' ≡ w.pairs + 1 → w.cutoff ≤ w.bound → w.checkpoint.depth ≡ n → Admitted connected edges w true
      → ((P : Problem) → SoundProblem P → AtNode P w.checkpoint.path w.checkpoint.depth w.pairs ws
      → Retreats P w.checkpoint.path w.checkpoint.depth ws r path')
      → Visits connected n edges masks w ws
      (record { checkpoint = stepped w.checkpoint r path' true w.checkpoint.path; pairs = r.pairs; cutoff = w.pairs + 1; bound = bound' }) ws'
  visits_held given high last may back =
      λ P setting ready.
      let next = back P setting.sound ready.node in
      step_held setting ready busy high last may next (rw given at (bound_made setting next.node))

  -- Whatever the problem, after another node that reaches the cutoff comes its first child.
  pub visits_down : {connected : Bool} → cutoff' ≡ w.cutoff → w.cutoff ≤ w.bound → (w.checkpoint.depth ≡ n → ⊥)
      → ((P : Problem) → SoundProblem P → w.checkpoint.depth < P.old.order
      → AtNode P w.checkpoint.path w.checkpoint.depth w.pairs ws
      → Words P w.checkpoint.path w.checkpoint.depth ws → Descends P w.checkpoint.path w.checkpoint.depth ws r path')
      → Visits connected n edges masks w ws
      (record {
        checkpoint = stepped w.checkpoint r path' w.checkpoint.holds w.checkpoint.incumbent;
        pairs = r.pairs;
        cutoff = w.cutoff;
        bound = bound';
      }) ws'
  visits_down given high inner down =
      λ P setting ready.
      let below : w.checkpoint.depth < P.old.order = omega (arith, inner, ready.node.depth_max, setting.order_is) in
      let next = down P setting.sound below ready.node (ready.bounded.high high).1 in
      step_down setting ready busy high below next (rw given at (bound_made setting next.node))

-- The move of one visit: a node below the cutoff is left, a last node that reaches it is held, if it may be, and left, and after another comes its first
-- child.
pub data Moves (connected : Bool) (n : ℕ) (edges : List ℕ) (w : Walk) (ws : List ℕ) : Bool → List ℕ → ℕ → List ℕ → Place → Type 0 where
  left : {path' : List ℕ} {r : Place} → Leaves connected n edges w
      → ((P : Problem) → SoundProblem P → AtNode P w.checkpoint.path w.checkpoint.depth w.pairs ws
      → Retreats P w.checkpoint.path w.checkpoint.depth ws r path')
      → Moves connected n edges w ws w.checkpoint.holds w.checkpoint.incumbent w.cutoff path' r
  held : {path' : List ℕ} {r : Place} → w.cutoff ≤ w.bound → w.checkpoint.depth ≡ n → Admitted connected edges w true
      → ((P : Problem) → SoundProblem P → AtNode P w.checkpoint.path w.checkpoint.depth w.pairs ws
      → Retreats P w.checkpoint.path w.checkpoint.depth ws r path')
      → Moves connected n edges w ws true w.checkpoint.path (w.pairs + 1) path' r
  down : {path' : List ℕ} {r : Place} → w.cutoff ≤ w.bound → (w.checkpoint.depth ≡ n → ⊥)
      → ((P : Problem) → SoundProblem P → w.checkpoint.depth < P.old.order
      → AtNode P w.checkpoint.path w.checkpoint.depth w.pairs ws
      → Words P w.checkpoint.path w.checkpoint.depth ws → Descends P w.checkpoint.path w.checkpoint.depth ws r path')
      → Moves connected n edges w ws w.checkpoint.holds w.checkpoint.incumbent w.cutoff path' r

-- what is known of the path that a visit leads to, beside its node: its trail, its last entry, and the rows that are open before that is met
pub record Led (path' : List ℕ) (r : Place) (trail' : List Pair) (ws : List ℕ) : Type 0 where
  pub trail : OnTrail path' r.depth trail' ws
  pub open_is : OpenIs r.depth r.pairs r.last r.later ws
  pub last_is : LastIs path' r.depth r.last

module _ {t : Tables} {ws : List ℕ} {w : Walk} (resumes : Resumes t w ws) where
  -- A walk that can go on is in bounds.
  pub resumes_in_bounds : InBounds w.checkpoint.path w.checkpoint.depth w.pairs ws
  resumes_in_bounds = ready_in_bounds resumes.setting resumes.ready

  module _ (high : w.cutoff ≤ w.bound) (goes_on : w.checkpoint.depth ≢ t.order) where
    -- A node that is not last is below 64,
    pub inner : w.checkpoint.depth < 64
    inner = omega (arith, goes_on, resumes.ready.node.depth_max, resumes.setting.order_is, resumes.setting.sound.old_sound.order_max)

    few : w.pairs < 64
    few = omega (arith, inner, pairs_max resumes_in_bounds)

    -- its bound counts the open rows,
    pub open_bound : w.bound ≡ w.pairs + open_rows w.checkpoint.depth w.pairs ws
    open_bound =
        let known = resumes.ready.bounded.high high in
        known.0 ∙ sym (node_bound resumes.setting resumes.ready.node few known.1)

    -- and these have a candidate.
    pub own_exact : ExactSet resumes.problem.old.order w.pairs ws
    own_exact =
        let ready = resumes.ready in
        rw (← ready.node.pairs_are) at ((ready.bounded.high high).1.exact _ (le_refl _) (omega (arith, few, ready.node.pairs_are)))

-- So few pairs has a node.
pub pairs_small : {path ws : List ℕ} {depth pairs : ℕ} → InBounds path depth pairs ws → pairs ≤ 64
pairs_small b = omega (arith, pairs_max b, b.depth_max)

-- The place that the walk moves to is in bounds.
pub moved_in_bounds : {t : Tables} {ws incumbent' path' : List ℕ} {w : Walk} {holds' : Bool} {cutoff' : ℕ} {r : Place}
    → Resumes t w ws → Moves t.connected t.order t.edges.now w ws holds' incumbent' cutoff' path' r
    → InBounds path' r.depth r.pairs ws
moved_in_bounds resumes (left why back) =
    node_in_bounds resumes.setting (back resumes.problem resumes.setting.sound resumes.ready.node).node
moved_in_bounds resumes (held high last may back) =
    node_in_bounds resumes.setting (back resumes.problem resumes.setting.sound resumes.ready.node).node
moved_in_bounds {w = w} resumes (down high inner first) =
    let ready = resumes.ready in
    let below : w.checkpoint.depth < resumes.problem.old.order = omega (arith, inner, ready.node.depth_max, resumes.setting.order_is) in
    node_in_bounds resumes.setting (first resumes.problem resumes.setting.sound below ready.node (ready.bounded.high high).1).node

-- Once the bound is made there, one visit is made.
pub visits_moved : {connected : Bool} {n : ℕ} {edges masks ws ws' incumbent' path' : List ℕ} {holds' : Bool} {cutoff' bound' : ℕ} {r : Place} (w : Walk)
    → w.checkpoint.finished ≡ false → length ws' ≡ length ws
    → ((P : Problem) → Setting P P.old.order edges masks → AtNode P path' r.depth r.pairs ws
    → Bounded P path' r.depth cutoff' ws' bound') × (bound' < 2 ^ 64 - 1)
    → Moves connected n edges w ws holds' incumbent' cutoff' path' r
    → Visits connected n edges masks w ws
    (record { checkpoint = stepped w.checkpoint r path' holds' incumbent'; pairs = r.pairs; cutoff = cutoff'; bound = bound' }) ws'
visits_moved {connected = connected} {n = n} {edges = edges} {masks = masks} {ws = ws} {ws' = ws'} w busy same bounded moves = go moves busy same bounded
  where
    go : {incumbent' path' : List ℕ} {holds' : Bool} {cutoff' bound' : ℕ} {r : Place}
        → Moves connected n edges w ws holds' incumbent' cutoff' path' r
        → w.checkpoint.finished ≡ false → length ws' ≡ length ws
        → ((P : Problem) → Setting P P.old.order edges masks → AtNode P path' r.depth r.pairs ws
        → Bounded P path' r.depth cutoff' ws' bound') × (bound' < 2 ^ 64 - 1)
        → Visits connected n edges masks w ws
        (record { checkpoint = stepped w.checkpoint r path' holds' incumbent'; pairs = r.pairs; cutoff = cutoff'; bound = bound' }) ws'
    go (left why back) busy same bounded = visits_left w busy same bounded refl why back
    go (held high last may back) busy same bounded = visits_held w busy same bounded refl high last may back
    go (down high inner first) busy same bounded = visits_down w busy same bounded refl high inner first
