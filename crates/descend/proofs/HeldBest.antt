-- What a descent holds is best as soon as it is held: a search replaces what it holds only by more pairs, and there is none with more.
use mathlib.Core.Path.{◌≡◌, refl, sym, ap, subst, ◌∙◌}
use mathlib.Core.Bool.{Bool, true, false, cond}
use mathlib.Core.Logic.{◌⊎◌, inl, inr, ⊎_elim}
use mathlib.Core.List.{List, [], ◌∷◌}
use mathlib.Core.Option.{Option, some}
use Prim.Native.Nat.{ℕ, ◌+◌, ◌≤◌, ◌<◌}
use native.Mathlib.Decide.{le_ind}
use native.Mathlib.Omega.{arith}
use lib.Dec.{ltb}
use lib.ListN.{length}
use borrow.Author.Tests.{ltb-false}
use Rattle.problem.specs.Problem.{Problem, SoundProblem}
use Rattle.search_tree.specs.Search.{Search, search_of, Good}
use Rattle.search_tree.specs.Node.{upper_bound, is_last, children, later_siblings}
use Rattle.search_tree.specs.Walk.{State, cutoff, go_on, visit_path, visit, after}
use Rattle.search_tree.specs.Best.{Best}
use Rattle.search_tree.proofs.BoundFalls.{bound_last}
use Rattle.search_tree.proofs.Steps.{finished_from}
use Rattle.search_tree.proofs.WalkTheorems.{walk_ends}
use Rattle.descend.specs.Descent.{Descent}
use Rattle.descend.proofs.Standing.{Stands, held_good, cutoff_few, finished_best, lower_best}

-- what is held does not depend on which node is next
go_on_incumbent : (steps : ℕ) (incumbent : Option (List ℕ)) (nodes : List (List ℕ)) → (go_on steps incumbent nodes).incumbent ≡ incumbent
go_on_incumbent steps incumbent [] = refl
go_on_incumbent steps incumbent (path ∷ rest) = refl

module _ (S : Search) (minimum : ℕ) where
  -- what was held is held, or the cutoff has risen
  abbrev Keeps : Option (List ℕ) → Option (List ℕ) → Type 0
  Keeps before after = (after ≡ before) ⊎ (cutoff minimum before < cutoff minimum after)

  visit_path_keeps : (steps : ℕ) (path : List ℕ) (incumbent : Option (List ℕ)) → Keeps incumbent (visit_path S minimum steps path incumbent).incumbent
  unfolding visit_path
  visit_path_keeps steps path incumbent = go (ltb (upper_bound S.rules path) (cutoff minimum incumbent)) (is_last S.rules path) (S.admits path) refl refl
    where
      later : List (List ℕ)
      later = later_siblings S.rules path (length path)

      go : (low final fit : Bool) → ltb (upper_bound S.rules path) (cutoff minimum incumbent) ≡ low → is_last S.rules path ≡ final
          → Keeps incumbent (cond low (go_on steps incumbent later)
          (cond final (go_on steps (cond fit (some path) incumbent) later) (go_on steps incumbent (children S.rules path)))).incumbent
      go true final fit p q = inl (go_on_incumbent steps incumbent later)
      go false true true p q =
          rw (go_on_incumbent steps (some path) later) (inr (omega (arith, ltb-false (upper_bound S.rules path) (cutoff minimum incumbent) p, bound_last S.rules path q)))
      go false true false p q = inl (go_on_incumbent steps incumbent later)
      go false false fit p q = inl (go_on_incumbent steps incumbent (children S.rules path))

  visit_keeps : (s : State) → Keeps s.incumbent (visit S minimum s).incumbent
  unfolding visit
  visit_keeps s = go s.finished
    where
      go : (finished : Bool) → Keeps s.incumbent (cond finished s (visit_path S minimum (s.steps + 1) s.path s.incumbent)).incumbent
      go true = inl refl
      go false = visit_path_keeps (s.steps + 1) s.path s.incumbent

  -- The walk keeps what it holds, or holds more.
  after_keeps : (k j : ℕ) → k ≤ j → Keeps (after S minimum k).incumbent (after S minimum j).incumbent
  unfolding after
  after_keeps k j =
      le_ind (λ (j : ℕ). Keeps (after S minimum k).incumbent (after S minimum j).incumbent) (inl refl)
      (λ j h kept. more (after S minimum k).incumbent (after S minimum j).incumbent _ kept (visit_keeps (after S minimum j))) j
    where
      more : (a b c : Option (List ℕ)) → Keeps a b → Keeps b c → Keeps a c
      more a b c (inl e) (inl f) = inl (f ∙ e)
      more a b c (inl e) (inr g) = inr (rw e at g)
      more a b c (inr g) (inl f) = inr (rw f g)
      more a b c (inr g) (inr h) = inr (omega arith)

module _ (connected : Bool) (P : Problem) (sound : SoundProblem P) (floor : ℕ) where
  -- What is held is the best from the floor on.
  pub held_best : {d : Descent} → Stands connected P sound floor d → (h : List ℕ) → d.state.incumbent ≡ some h → Best (Good connected P) floor (some h)
  held_best {d} stands h e =
      let S = search_of connected P in
      let total = walk_ends connected P sound d.minimum in
      let k = stands.walks.visits in
      let end : ℕ = k + total.0 in
      let finished = (finished_from S d.minimum total.1 end).1 (omega arith) in
      let best = finished_best connected P sound floor d.minimum end finished in
      let held : (after S d.minimum k).incumbent ≡ some h = ap (λ (s : State). s.incumbent) (sym stands.walks.walk) ∙ e in
      let last : Descent = record { minimum = d.minimum; state = after S d.minimum end } in
      let few = cutoff_few connected P sound floor {d = last} (record { walks = record { visits = end; walk = refl; low = stands.walks.low }; most = stands.most }) in
      ⊎_elim
      (λ same. lower_best floor stands.walks.low (subst (λ (o : Option (List ℕ)). Best (Good connected P) d.minimum o) (same ∙ held) best))
      (λ rises. absurd (omega (arith, rises, ap (cutoff d.minimum) held, few, (held_good connected P sound floor stands h e).1)))
      (after_keeps S d.minimum k end (omega arith))
