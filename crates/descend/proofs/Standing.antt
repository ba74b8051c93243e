-- Where a descent of a sound problem stands: in a walk from its minimum; so once it is done it holds the best from the floor on. From the start on, no mapping that
-- counts has more pairs than the minimum; so what it holds has just as many, and its ceiling is above every mapping that counts and never rises.
use mathlib.Core.Path.{◌≡◌, refl, sym, ap, ◌∙◌}
use mathlib.Core.Bool.{Bool, true, false, cond, true≢false, false≢true}
use mathlib.Core.List.{List}
use mathlib.Core.Option.{Option, none, some}
use Prim.Native.Nat.{ℕ, zero, suc, ◌+◌, ◌-◌, ◌≤◌, ◌<◌, min, max}
use native.Mathlib.Nat.{le_refl}
use native.Mathlib.Decide.{dec_le, le_ind}
use native.Mathlib.Omega.{arith}
use lib.Dec.{ltb}
use borrow.Author.Tests.{ltb-false}
use Rattle.problem.specs.Problem.{Problem, SoundProblem}
use Rattle.mapping.specs.Common.{size}
use Rattle.search_tree.specs.Rules.{rules_of}
use Rattle.search_tree.specs.Search.{Search, search_of, Good}
use Rattle.search_tree.specs.Walk.{State, cutoff, visit, after}
use Rattle.search_tree.specs.Node.{open_nodes}
use Rattle.search_tree.specs.Ceiling.{top_bound, ceiling}
use Rattle.search_tree.specs.Best.{Best}
use Rattle.search_tree.proofs.LawfulTree.{lawful}
use Rattle.search_tree.proofs.Steps.{finished_from, unchanged_after}
use Rattle.search_tree.proofs.Solutions.{ceiling_falls}
use Rattle.search_tree.proofs.WalkTheorems.{rules_regular, incumbent_good, good_below, good_best, walk_ends}
use Rattle.checkpoint.specs.Checkpoints.{has_incumbent}
use Rattle.search.proofs.FinishedCall.{ceiling_finished}
use Rattle.descend.specs.Descent.{Descent, fresh_at, start_of, is_exhausted, exhausted, renewed, visited, descents, is_done, lowered, descent_ceiling}
use Rattle.descend.proofs.OneSearch.{Exhausted, exhausted_facts, renewed_same, renewed_anew}
use Rattle.descend.proofs.DescentLaws.{descents_settled}
use Rattle.descend.proofs.LoweredCeiling.{lowered_own, lowered_min}
use Rattle.descend.proofs.MostPairs.{start_most}

-- nothing is held
not_held : (held : Option (List ℕ)) → has_incumbent held ≡ false → held ≡ none
not_held none e = refl
not_held (some h) e = absurd (true≢false e)

-- What is best from a minimum on is best from a lower one on, where something is held.
pub lower_best : {G : List ℕ → Type 0} {minimum : ℕ} {h : List ℕ} (floor : ℕ) → floor ≤ minimum → Best G minimum (some h) → Best G floor (some h)
lower_best floor low b = record {
  none_reaches = λ e. absurd (true≢false (ap has_incumbent e));
  good = b.good;
  reaches = λ h e. omega (arith, b.reaches h e);
  largest = b.largest;
  first = b.first;
}

-- what an exhausted descent is
exhausted_is : (floor : ℕ) (d : Descent) → exhausted floor d ≡ true → Exhausted floor d.minimum d.state.finished (has_incumbent d.state.incumbent)
exhausted_is floor d on = exhausted_facts floor d.minimum d.state.finished (has_incumbent d.state.incumbent) on

exhausted_none : (floor : ℕ) (d : Descent) → exhausted floor d ≡ true → d.state.incumbent ≡ none
exhausted_none floor d on = not_held d.state.incumbent (exhausted_is floor d on).empty

-- one that is done with nothing held, and not exhausted, is not above the floor
at_floor : (floor : ℕ) (d : Descent) → is_done d ≡ true → exhausted floor d ≡ false → d.state.incumbent ≡ none → d.minimum ≤ floor
at_floor floor d end off e = ltb-false floor d.minimum (go d.state.finished (has_incumbent d.state.incumbent) end (ap has_incumbent e) off)
  where
    go : (finished holds : Bool) → finished ≡ true → holds ≡ false → is_exhausted floor d.minimum finished holds ≡ false → ltb floor d.minimum ≡ false
    go true false f h o = o
    go true true f h o = absurd (true≢false h)
    go false holds f h o = absurd (false≢true f)

-- a ceiling is at least the cutoff
cutoff_below : (P : Problem) (minimum : ℕ) (s : State) → cutoff minimum s.incumbent ≤ ceiling (rules_of P) minimum s
unfolding ceiling
cutoff_below P minimum s = go s.finished
  where
    go : (b : Bool) → cutoff minimum s.incumbent ≤ cond b (cutoff minimum s.incumbent) (max (cutoff minimum s.incumbent) (top_bound (rules_of P) (open_nodes (rules_of P) s.path)))
    go true = le_refl _
    go false = omega arith

module _ (connected : Bool) (P : Problem) (sound : SoundProblem P) (floor : ℕ) where
  abbrev S : Search
  S = search_of connected P

  -- in a walk from a minimum that the floor is not above
  pub record Walks (d : Descent) : Type 0 where
    pub visits : ℕ
    pub walk : d.state ≡ after S d.minimum visits
    pub low : floor ≤ d.minimum

  -- and no mapping that counts has more pairs than the minimum
  pub record Stands (d : Descent) : Type 0 where
    pub walks : Walks d
    pub most : (l : List ℕ) → Good connected P l → size l ≤ d.minimum

  -- A finished walk holds the best from its minimum on.
  pub finished_best : (minimum k : ℕ) → (after S minimum k).finished ≡ true → Best (Good connected P) minimum (after S minimum k).incumbent
  finished_best minimum k end =
      let total = walk_ends connected P sound minimum in
      let late = (finished_from S minimum total.1 k).0 end in
      rw (unchanged_after S minimum total.1 k late) (good_best connected P sound minimum total.1)

  -- ---- in a walk

  module _ {d : Descent} (walks : Walks d) where
    walks_best : is_done d ≡ true → Best (Good connected P) d.minimum d.state.incumbent
    walks_best end = rw walks.walk (finished_best d.minimum walks.visits (ap (λ (s : State). s.finished) (sym walks.walk) ∙ end))

    -- A visit stays in the walk,
    walks_visited : Walks (visited S d)
    unfolding after
    walks_visited = record { visits = suc walks.visits; walk = ap (visit S d.minimum) walks.walk; low = walks.low }

    -- and a new beginning begins another.
    walks_renewed : Walks (renewed floor d)
    unfolding after
    walks_renewed = go (exhausted floor d) refl
      where
        go : (b : Bool) → exhausted floor d ≡ b → Walks (renewed floor d)
        go true e = rw (renewed_anew floor d e) (record { visits = 0; walk = refl; low = omega (arith, (exhausted_is floor d e).above) })
        go false e = rw (renewed_same floor d e) walks

    -- Once it is done, and not exhausted, the descent holds the best from the floor on.
    pub done_best : is_done d ≡ true → exhausted floor d ≡ false → Best (Good connected P) floor d.state.incumbent
    done_best end off = go d.state.incumbent refl
      where
        go : (held : Option (List ℕ)) → d.state.incumbent ≡ held → Best (Good connected P) floor held
        go (some h) e = lower_best floor walks.low (rw e at (walks_best end))
        go none e =
            let same : d.minimum ≡ floor = omega (arith, at_floor floor d end off e, walks.low) in
            rw (e, same) at (walks_best end)

    -- Its ceiling is then above every mapping that counts.
    pub done_above : is_done d ≡ true → (l : List ℕ) → Good connected P l → size l < descent_ceiling (rules_of P) d
    unfolding descent_ceiling
    done_above end l good = go d.state.incumbent (walks_best end) (dec_le (cutoff d.minimum d.state.incumbent) (d.minimum + 1))
      where
        top : ℕ
        top = ceiling (rules_of P) d.minimum d.state

        top_is : top ≡ cutoff d.minimum d.state.incumbent
        top_is = ceiling_finished (rules_of P) d.minimum d.state end

        below : (held : Option (List ℕ)) → Best (Good connected P) d.minimum held → size l < cutoff d.minimum held
        below none b = b.none_reaches refl l good
        below (some h) b = omega (arith, b.largest h refl l good)

        go : (held : Option (List ℕ)) → Best (Good connected P) d.minimum d.state.incumbent → Dec (cutoff d.minimum d.state.incumbent ≤ d.minimum + 1)
            → size l < lowered d.minimum d.state.incumbent top
        go held b (yes few) = omega (arith, lowered_min d.minimum d.state.incumbent top few, top_is, below d.state.incumbent b)
        go held b (no many) =
            rw (lowered_own d.minimum d.state.incumbent top (omega arith)) (omega (arith, top_is, below d.state.incumbent b))

  -- So does the descent after any number of visits.
  pub walks_after : {d : Descent} → Walks d → (k : ℕ) → Walks (descents S floor k d)
  unfolding descents
  walks_after walks zero = walks_renewed walks
  walks_after walks (suc k) = walks_renewed (walks_visited (walks_after walks k))

  -- A checkpoint that calls of the search left, from any minimum that the floor is not above, is brought to the same end: once the descent from it is done, it
  -- holds the best from the floor on, and its ceiling is above every mapping that counts.
  pub handed_over : (minimum k : ℕ) → floor ≤ minimum → (j : ℕ)
      → let d : Descent = descents S floor j (record { minimum = minimum; state = after S minimum k }) in
      is_done d ≡ true → Best (Good connected P) floor d.state.incumbent × ((l : List ℕ) → Good connected P l → size l < descent_ceiling (rules_of P) d)
  handed_over minimum k low j end =
      let from : Descent = record { minimum = minimum; state = after S minimum k } in
      let there = walks_after {d = from} (record { visits = k; walk = refl; low = low }) j in
      (done_best there end (descents_settled S floor j from), done_above there end)

  -- ---- from the start

  module _ {d : Descent} (stands : Stands d) where
    -- What is held is good, and has just as many pairs as the minimum.
    pub held_good : (h : List ℕ) → d.state.incumbent ≡ some h → Good connected P h × (size h ≡ d.minimum)
    held_good h e =
        let good = incumbent_good connected P sound d.minimum stands.walks.visits h (ap (λ (s : State). s.incumbent) (sym stands.walks.walk) ∙ e) in
        (good.0, omega (arith, good.1, stands.most h good.0))

    -- So the cutoff is at most one above it,
    pub cutoff_few : cutoff d.minimum d.state.incumbent ≤ d.minimum + 1
    cutoff_few = go d.state.incumbent refl
      where
        go : (held : Option (List ℕ)) → d.state.incumbent ≡ held → cutoff d.minimum held ≤ d.minimum + 1
        go none e = omega arith
        go (some h) e = omega (arith, (held_good h e).1)

    -- and the ceiling is lowered to that.
    ceiling_lowered : descent_ceiling (rules_of P) d ≡ min (d.minimum + 1) (ceiling (rules_of P) d.minimum d.state)
    unfolding descent_ceiling
    ceiling_lowered = lowered_min d.minimum d.state.incumbent (ceiling (rules_of P) d.minimum d.state) cutoff_few

    -- Where something is held, it is one above its size,
    pub ceiling_held : (h : List ℕ) → d.state.incumbent ≡ some h → descent_ceiling (rules_of P) d ≡ size h + 1
    ceiling_held h e =
        let top = cutoff_below P d.minimum d.state in
        let held : cutoff d.minimum d.state.incumbent ≡ size h + 1 = ap (cutoff d.minimum) e in
        omega (arith, ceiling_lowered, top, held, (held_good h e).1)

    -- and once done with nothing held, where the search is not exhausted, it is the floor.
    pub ceiling_none : is_done d ≡ true → exhausted floor d ≡ false → d.state.incumbent ≡ none → descent_ceiling (rules_of P) d ≡ floor
    ceiling_none end off e =
        let top : ceiling (rules_of P) d.minimum d.state ≡ d.minimum = ceiling_finished (rules_of P) d.minimum d.state end ∙ ap (cutoff d.minimum) e in
        omega (arith, ceiling_lowered, top, at_floor floor d end off e, stands.walks.low)

    -- Every mapping that counts is below the ceiling.
    pub stands_above : (l : List ℕ) → Good connected P l → size l < descent_ceiling (rules_of P) d
    stands_above l good =
        let search : size l < ceiling (rules_of P) d.minimum d.state = rw stands.walks.walk (good_below connected P sound d.minimum stands.walks.visits l good) in
        omega (arith, ceiling_lowered, stands.most l good)

    -- A visit changes neither the minimum nor that.
    stands_visited : Stands (visited S d)
    stands_visited = record { walks = walks_visited stands.walks; most = stands.most }

    module _ (on : exhausted floor d ≡ true) where
      -- An exhausted search shows that all mappings that count have fewer pairs than its minimum.
      stands_anew : Stands (fresh_at (d.minimum - 1))
      unfolding after
      stands_anew = record {
        walks = record { visits = 0; walk = refl; low = omega (arith, (exhausted_is floor d on).above) };
        most = λ l good. omega (arith, (walks_best stands.walks (exhausted_is floor d on).ended).none_reaches (exhausted_none floor d on) l good);
      }

      -- Its ceiling is its minimum.
      exhausted_ceiling : descent_ceiling (rules_of P) d ≡ d.minimum
      exhausted_ceiling =
          let top : ceiling (rules_of P) d.minimum d.state ≡ d.minimum =
          ceiling_finished (rules_of P) d.minimum d.state (exhausted_is floor d on).ended ∙ ap (cutoff d.minimum) (exhausted_none floor d on) in
          omega (arith, ceiling_lowered, top)

    -- A new beginning stands too,
    stands_renewed : Stands (renewed floor d)
    stands_renewed = go (exhausted floor d) refl
      where
        go : (b : Bool) → exhausted floor d ≡ b → Stands (renewed floor d)
        go true e = rw (renewed_anew floor d e) (stands_anew e)
        go false e = rw (renewed_same floor d e) stands

  -- and so does the descent after any number of visits.
  pub stands_after : {d : Descent} → Stands d → (k : ℕ) → Stands (descents S floor k d)
  unfolding descents
  stands_after stands zero = stands_renewed stands
  stands_after stands (suc k) = stands_renewed (stands_visited (stands_after stands k))

  -- It stands at its start.
  pub stands_start : Stands (fresh_at (start_of (rules_of P) floor))
  unfolding after start_of
  stands_start = record { walks = record { visits = 0; walk = refl; low = omega arith }; most = start_most connected P sound floor }

  -- ---- the ceiling never rises

  visited_falls : {d : Descent} → Stands d → descent_ceiling (rules_of P) (visited S d) ≤ descent_ceiling (rules_of P) d
  unfolding after
  visited_falls {d} stands =
      let falls : ceiling (rules_of P) d.minimum (visit S d.minimum d.state) ≤ ceiling (rules_of P) d.minimum d.state =
      rw stands.walks.walk
      (ceiling_falls S (rules_regular P sound).few d.minimum (lawful S (rules_regular P sound)) stands.walks.visits (suc stands.walks.visits) (omega arith)) in
      omega (arith, ceiling_lowered stands, ceiling_lowered (stands_visited stands))

  renewed_falls : {d : Descent} → Stands d → descent_ceiling (rules_of P) (renewed floor d) ≤ descent_ceiling (rules_of P) d
  renewed_falls {d} stands = go (exhausted floor d) refl
    where
      go : (b : Bool) → exhausted floor d ≡ b → descent_ceiling (rules_of P) (renewed floor d) ≤ descent_ceiling (rules_of P) d
      go true e =
          rw (renewed_anew floor d e)
          (omega (arith, ceiling_lowered (stands_anew stands e), exhausted_ceiling stands e, (exhausted_is floor d e).above))
      go false e = rw (renewed_same floor d e) (le_refl _)

  -- The ceiling after more visits is no higher.
  pub descents_fall : {d : Descent} → Stands d → (k j : ℕ) → k ≤ j
      → descent_ceiling (rules_of P) (descents S floor j d) ≤ descent_ceiling (rules_of P) (descents S floor k d)
  unfolding descents
  descents_fall {d} stands k j h =
      le_ind (λ (j : ℕ). descent_ceiling (rules_of P) (descents S floor j d) ≤ descent_ceiling (rules_of P) (descents S floor k d)) (le_refl _)
      (λ j h falls.
      let there = stands_after stands j in
      omega (arith, falls, visited_falls there, renewed_falls (stands_visited there))) j h
