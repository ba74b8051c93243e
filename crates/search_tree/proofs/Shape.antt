-- A visit keeps the shape of a state, so the walk has it after any number of visits.
use mathlib.Core.Path.{◌≡◌, refl}
use mathlib.Core.Bool.{Bool, true, false, cond, true≢false, false≢true}
use mathlib.Core.Option.{Option, none, some, some-injective, none-ne-some}
use mathlib.Core.List.{List, [], ◌∷◌, Memᴰ}
use Prim.Native.Nat.{ℕ, zero, suc, ◌+◌, ◌≤◌}
use native.Mathlib.Nat.{le_refl}
use native.Mathlib.Omega.{arith}
use lib.Dec.{ltb}
use lib.ListN.{length}
use borrow.Author.Tests.{ltb-false}
use Rattle.search_tree.specs.Search.{Search}
use Rattle.search_tree.specs.Node.{upper_bound, is_last, children, later_siblings}
use Rattle.search_tree.specs.Trees.{Reached}
use Rattle.search_tree.specs.Walk.{State, cutoff, go_on, visit_path, visit, after}
use Rattle.search_tree.specs.Shape.{EachIncumbent, Shape}
use Rattle.search_tree.proofs.BoundFalls.{bound_last}
use Rattle.search_tree.proofs.Reached.{reached_root, last_length, reached_children, reached_siblings}

module _ (S : Search) (minimum : ℕ) where
  -- a node of those that follow is next, or none is
  go_on_shape : (steps : ℕ) (incumbent : Option (List ℕ)) (nodes : List (List ℕ)) → EachIncumbent S minimum incumbent
      → ((p : List ℕ) → Memᴰ p nodes → Reached S.rules p × (p ≡ [] → ⊥)) → Shape S minimum (go_on (steps + 1) incumbent nodes)
  go_on_shape steps incumbent [] good each = record {
    reached = reached_root S.rules;
    incumbent_shape = good;
    finished_root = λ e. refl;
    fresh_root = (λ e. absurd (omega arith), λ e. absurd (true≢false e.0));
    fresh_none = λ e. absurd (omega arith);
  }
  go_on_shape steps incumbent (p ∷ rest) good each =
      let next = each p (Memᴰ.head refl) in
      record {
        reached = next.0;
        incumbent_shape = good;
        finished_root = λ e. absurd (false≢true e);
        fresh_root = (λ e. absurd (omega arith), λ e. absurd (next.1 e.1));
        fresh_none = λ e. absurd (omega arith);
      }

  minimum_cutoff : (incumbent : Option (List ℕ)) → EachIncumbent S minimum incumbent → minimum ≤ cutoff minimum incumbent
  minimum_cutoff none good = omega arith
  minimum_cutoff (some h) good = omega (arith, (good h refl).reaches)

  visit_path_shape : (steps : ℕ) (path : List ℕ) (incumbent : Option (List ℕ)) → Reached S.rules path → EachIncumbent S minimum incumbent
      → Shape S minimum (visit_path S minimum (steps + 1) path incumbent)
  unfolding visit_path
  visit_path_shape steps path incumbent r good =
      go (ltb (upper_bound S.rules path) (cutoff minimum incumbent)) (is_last S.rules path) (S.admits path) refl refl refl
    where
      later : List (List ℕ)
      later = later_siblings S.rules path (length path)

      left : (h : Option (List ℕ)) → EachIncumbent S minimum h → Shape S minimum (go_on (steps + 1) h later)
      left h g = go_on_shape steps h later g (λ p m. reached_siblings S.rules r (length path) (le_refl (length path)) m)

      taken : cutoff minimum incumbent ≤ upper_bound S.rules path → is_last S.rules path ≡ true → S.admits path ≡ true
          → EachIncumbent S minimum (some path)
      taken reach final fit h e = rw (← some-injective path h e) (record {
        reached = r;
        full = last_length S.rules r final;
        admitted = fit;
        reaches = omega (arith, minimum_cutoff incumbent good, bound_last S.rules path final);
      })

      go : (low final fit : Bool) → ltb (upper_bound S.rules path) (cutoff minimum incumbent) ≡ low → is_last S.rules path ≡ final → S.admits path ≡ fit
          → Shape S minimum (cond low (go_on (steps + 1) incumbent later)
          (cond final (go_on (steps + 1) (cond fit (some path) incumbent) later) (go_on (steps + 1) incumbent (children S.rules path))))
      go true final fit p q a = left incumbent good
      go false true true p q a = left (some path) (taken (ltb-false _ _ p) q a)
      go false true false p q a = left incumbent good
      go false false fit p q a = go_on_shape steps incumbent (children S.rules path) good (λ n m. reached_children S.rules r q m)

  -- A visit keeps the shape, also of a state that no walk left.
  pub visit_shape : (s : State) → Shape S minimum s → Shape S minimum (visit S minimum s)
  unfolding visit
  visit_shape s shape = go s.finished
    where
      go : (finished : Bool) → Shape S minimum (cond finished s (visit_path S minimum (s.steps + 1) s.path s.incumbent))
      go true = shape
      go false = visit_path_shape s.steps s.path s.incumbent shape.reached shape.incumbent_shape

  -- The walk has the shape after any number of visits.
  pub after_shape : (k : ℕ) → Shape S minimum (after S minimum k)
  unfolding after
  after_shape zero = record {
    reached = reached_root S.rules;
    incumbent_shape = λ h e. absurd (none-ne-some h e);
    finished_root = λ e. refl;
    fresh_root = (λ e. (refl, refl), λ e. refl);
    fresh_none = λ e. refl;
  }
  after_shape (suc k) = visit_shape (after S minimum k) (after_shape k)
