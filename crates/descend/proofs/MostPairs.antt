-- No mapping that counts has more pairs than the start of a descent: than either graph has vertices, and than the root's upper bound.
use mathlib.Core.Path.{◌≡◌, ◌∙◌}
use mathlib.Core.Bool.{Bool, true}
use mathlib.Core.Logic.{◌⊎◌, ⊎_elim}
use mathlib.Core.List.{List, [], ◌∷◌}
use Prim.Native.Nat.{ℕ, zero, suc, ◌+◌, ◌≤◌, min, max}
use native.Mathlib.Nat.{le_refl}
use native.Mathlib.Omega.{arith}
use lib.ListN.{length, get_or, take}
use lib.Seq.{take_all, take-suc}
use Rattle.problem.specs.Problem.{Problem, SoundProblem}
use Rattle.mapping.specs.Common.{unmapped, size}
use Rattle.mapping.proofs.Size.{counted, size_nil, size_cons, size_append, size_max, counted_mapped}
use Rattle.search_tree.specs.Rules.{Rules, Regular, rules_of}
use Rattle.search_tree.specs.Search.{Good}
use Rattle.search_tree.specs.Node.{candidate, extend, upper_bound}
use Rattle.search_tree.specs.Trees.{Reached}
use Rattle.search_tree.proofs.Candidates.{candidate_value}
use Rattle.search_tree.proofs.FreeValues.{free_values, free_root, free_taken, free_left_out}
use Rattle.search_tree.proofs.ReachedCommon.{full_common}
use Rattle.search_tree.proofs.WalkTheorems.{rules_regular, prefix_bound}
use Rattle.descend.specs.Descent.{start_of}

module _ (R : Rules) (regular : Regular R) where
  size_extend : (path : List ℕ) (v : ℕ) → size (extend path v) ≡ size path + counted v
  size_extend path v = omega (arith, size_append path (v ∷ []), size_cons v [], size_nil)

  -- an entry more takes a free value, or none
  extended : (path : List ℕ) (r v : ℕ) → (v ≡ unmapped) ⊎ (candidate R path r v ≡ true)
      → size (extend path v) + free_values R (extend path v) ≡ size path + free_values R path
  extended path r v choice =
      ⊎_elim
      (λ e. rw e (omega (arith, size_extend path unmapped, free_left_out R regular path)))
      (λ c.
      let one = counted_mapped v (λ e. omega (arith, candidate_value R path r v c, regular.few)) in
      omega (arith, size_extend path v, one, free_taken R regular path r v c))
      choice

  -- The pairs of a reached path and the values that are free there are all values.
  taken_free : {path : List ℕ} → Reached R path → (k : ℕ) → k ≤ length path → size (take k path) + free_values R (take k path) ≡ R.values
  taken_free reached zero h = omega (arith, size_nil, free_root R)
  taken_free {path} reached (suc k) h =
      rw (take-suc path k 0 h) (extended (take k path) k (get_or path k 0) (reached.entry k h) ∙ taken_free reached k (omega arith))

  -- So it has no more pairs than there are values.
  reached_most : {path : List ℕ} → Reached R path → size path ≤ R.values
  reached_most {path} reached = omega (arith, rw (take_all (length path) path (le_refl _)) at (taken_free reached (length path) (le_refl _)))

-- A mapping that counts has no more pairs than the start.
pub start_most : (connected : Bool) (P : Problem) → SoundProblem P → (floor : ℕ) (l : List ℕ) → Good connected P l → size l ≤ start_of (rules_of P) floor
unfolding start_of
start_most connected P sound floor l good =
    let rows = size_max l in
    let values = reached_most (rules_of P) (rules_regular P sound) ((full_common P sound l).1 good.common).0 in
    let bound = prefix_bound P sound [] l good.common in
    least (size l) P.old.order P.new.order (upper_bound (rules_of P) []) (omega (arith, rows, good.common.entries)) values bound
  where
    least : (s a b c : ℕ) → s ≤ a → s ≤ b → s ≤ c → s ≤ max floor (min (min a b) c)
    least s a b c p q r = omega arith
