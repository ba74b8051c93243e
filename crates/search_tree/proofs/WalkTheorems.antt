-- The walk of a sound problem, of either search: it holds good mappings only, its ceiling is above them all, it ends, and at its end it holds the best one (01,
-- the properties of an answer; 02, U7).
use mathlib.Core.Path.{◌≡◌, refl, subst}
use mathlib.Core.Logic.{◌↔◌}
use mathlib.Core.Bool.{Bool, true, false, false≢true}
use mathlib.Core.List.{List, ◌++◌}
use mathlib.Core.Option.{Option, some}
use Prim.Native.Nat.{ℕ, ◌≤◌, ◌<◌}
use native.Mathlib.Omega.{arith}
use lib.ListN.{length, length-append}
use lib.Seq.{take-append_seam}
use Rattle.bounded.proofs.Tells.{Tells}
use Rattle.branch_bound.proofs.Solutions.{under_bound}
use Rattle.problem.specs.Problem.{Problem, SoundProblem}
use Rattle.mapping.specs.Common.{size, Common}
use Rattle.problem.proofs.Consistent.{consistent_facts}
use Rattle.connected.specs.Connected.{Connected}
use Rattle.connected.proofs.ConnectedTest.{connected_test}
use Rattle.search_tree.specs.Rules.{Regular, rules_of}
use Rattle.search_tree.specs.Search.{Search, admits_of, search_of, Good}
use Rattle.search_tree.specs.Node.{upper_bound}
use Rattle.search_tree.specs.StepLimit.{step_limit}
use Rattle.search_tree.specs.Walk.{after, IsTotal}
use Rattle.search_tree.specs.Ceiling.{ceiling}
use Rattle.search_tree.specs.Best.{Best}
use Rattle.search_tree.specs.Shape.{IncumbentShape}
use Rattle.search_tree.proofs.Weight.{weight_root}
use Rattle.search_tree.proofs.LawfulTree.{lawful}
use Rattle.search_tree.proofs.Steps.{total_exists, total_unique}
use Rattle.search_tree.proofs.LastNodes.{under_beginning}
use Rattle.search_tree.proofs.ReachedCommon.{full_common, last_common}
use Rattle.search_tree.proofs.Best.{best_same, best_unique}
use Rattle.search_tree.proofs.Solutions.{Solution, incumbent_candidate, solution_below, total_best}

-- A search over regular rules ends: it has a total, at most the step limit of its values and rows, whichever last nodes it admits.
pub search_ends : (S : Search) → Regular S.rules → (minimum : ℕ)
    → (t : ℕ) × IsTotal S minimum t × (t ≤ step_limit S.rules.values S.rules.rows)
search_ends S regular minimum =
    let end = total_exists S regular.few minimum (lawful S regular) in
    (end.0, end.1, subst (λ (m : ℕ). end.0 ≤ m) (weight_root S.rules) end.2)

-- So the total of such a search is at most that.
pub search_limit : (S : Search) → Regular S.rules → {minimum t : ℕ} → IsTotal S minimum t → t ≤ step_limit S.rules.values S.rules.rows
search_limit S regular {minimum} total =
    let end = search_ends S regular minimum in
    omega (arith, total_unique S minimum total end.1, end.2)

module _ (P : Problem) (sound : SoundProblem P) where
  -- The rules of a sound problem are regular: a new vertex is below 64, and two rows that stand together have two partners.
  pub rules_regular : Regular (rules_of P)
  rules_regular = record {
    few = omega (arith, sound.new_sound.order_max);
    distinct = λ i w r v e same. (consistent_facts P i w r v e).0 same;
  }

  -- A common subgraph that begins with a path has at most the path's upper bound of pairs.
  pub prefix_bound : (path rest : List ℕ) → Common P (path ++ rest) → size (path ++ rest) ≤ upper_bound (rules_of P) path
  prefix_bound path rest c =
      let full = (full_common P sound (path ++ rest)).1 c in
      let within : length path ≤ length (path ++ rest) = simp length-append (omega arith) in
      let under = under_beginning (search_of false P) full.0 full.1 (length path) within in
      under_bound (lawful (search_of false P) rules_regular) (rw take-append_seam at under)

-- To the first search every common subgraph is good.
pub common_good : (P : Problem) (l : List ℕ) → Common P l ↔ Good false P l
common_good P l = (λ c. record { common = c; is_connected = λ e. absurd (false≢true e) }, λ g. g.common)

module _ (connected : Bool) (P : Problem) (sound : SoundProblem P) where
  -- What is admitted hangs together, where the search asks for it.
  pub admits_tells : (l : List ℕ) → length l ≤ 64 → Tells (admits_of connected P l) (connected ≡ true → Connected P.old l)
  admits_tells l short = go connected
    where
      go : (b : Bool) → Tells (admits_of b P l) (b ≡ true → Connected P.old l)
      go true =
          let test = connected_test P.old sound.old_sound l short in
          (λ e b. test.0 e, λ h. test.1 (h refl))
      go false = (λ e b. absurd (false≢true b), λ h. refl)

  -- A common subgraph is admitted exactly where it is good.
  pub common_admits : {l : List ℕ} → Common P l → Tells (admits_of connected P l) (Good connected P l)
  common_admits {l} c =
      let tells = admits_tells l (omega (arith, c.entries, sound.old_sound.order_max)) in
      (λ e. record { common = c; is_connected = tells.0 e }, λ g. tells.1 g.is_connected)

  -- The walk's solutions are the good mappings.
  pub solution_good : (l : List ℕ) → Solution (search_of connected P) l ↔ Good connected P l
  solution_good l = (
    λ s. (common_admits ((last_common P sound connected l).0 s.under)).0 s.admitted,
    λ g. record { under = (last_common P sound connected l).1 g.common; admitted = (common_admits g.common).1 g },
  )

  module _ (minimum : ℕ) where
    -- A held matching is in shape exactly when it is a good mapping that reaches the minimum.
    pub incumbent_shape_good : (h : List ℕ) → IncumbentShape (search_of connected P) minimum h ↔ (Good connected P h × (minimum ≤ size h))
    incumbent_shape_good h = (
      λ s. ((common_admits ((full_common P sound h).0 (s.reached, s.full))).0 s.admitted, s.reaches),
      λ g.
          let r = (full_common P sound h).1 g.0.common in
          record { reached = r.0; full = r.1; admitted = (common_admits g.0.common).1 g.0; reaches = g.1 },
    )

    -- What is held after any number of visits is a good mapping that reaches the minimum.
    pub incumbent_good : (k : ℕ) (h : List ℕ) → (after (search_of connected P) minimum k).incumbent ≡ some h
        → Good connected P h × (minimum ≤ size h)
    incumbent_good k h e =
        let S = search_of connected P in
        let c = incumbent_candidate S (rules_regular P sound).few minimum (lawful S (rules_regular P sound)) k h e in
        ((common_admits ((last_common P sound connected h).0 c.under)).0 c.admitted, c.reaches)

    -- Every good mapping is below the ceiling after any number of visits.
    pub good_below : (k : ℕ) (l : List ℕ) → Good connected P l → size l < ceiling (rules_of P) minimum (after (search_of connected P) minimum k)
    good_below k l g =
        let S = search_of connected P in
        solution_below S (rules_regular P sound).few minimum (lawful S (rules_regular P sound)) k l ((solution_good l).1 g)

    -- The walk ends: it has a total, at most the step limit of its values and rows.
    pub walk_ends : (t : ℕ) × IsTotal (search_of connected P) minimum t × (t ≤ step_limit P.new.order P.old.order)
    walk_ends = search_ends (search_of connected P) (rules_regular P sound) minimum

    module _ {t : ℕ} (total : IsTotal (search_of connected P) minimum t) where
      -- The total is at most the step limit.
      pub total_limit : t ≤ step_limit P.new.order P.old.order
      total_limit = search_limit (search_of connected P) (rules_regular P sound) total

      -- At the total the best is held: a largest good mapping and of those the first, or nothing where none reaches the minimum.
      pub good_best : Best (Good connected P) minimum (after (search_of connected P) minimum t).incumbent
      good_best =
          let S = search_of connected P in
          best_same solution_good (total_best S (rules_regular P sound).few minimum (lawful S (rules_regular P sound)) total)

      -- Nothing else is best.
      pub good_best_unique : (incumbent : Option (List ℕ)) → Best (Good connected P) minimum incumbent
          → incumbent ≡ (after (search_of connected P) minimum t).incumbent
      good_best_unique incumbent b = best_unique incumbent (after (search_of connected P) minimum t).incumbent b good_best
