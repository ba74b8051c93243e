-- The largest clique of the association graph has the greatest size of a common subgraph (01, "The walk").
use mathlib.Core.Path.{◌≡◌, refl, ◌∙◌}
use mathlib.Core.Logic.{◌↔◌}
use mathlib.Core.List.{List}
use mathlib.Core.Option.{Option, none, some}
use Prim.Native.Nat.{ℕ}
use native.Mathlib.Omega.{arith}
use lib.ListN.{length}
use Rattle.problem.specs.Problem.{Problem, SoundProblem}
use Rattle.mapping.specs.Common.{Common, size}
use Rattle.mapping.proofs.Removal.{none_common}
use Rattle.search_tree.specs.Best.{Best}
use Rattle.clique.specs.Branching.{branch}
use Rattle.clique.specs.Association.{AssociationClique, OfSize, Greatest, pairs_of, mapping_of}
use Rattle.clique.proofs.BranchBest.{branch_best, branch_none}
use Rattle.clique.proofs.PairLists.{pairs_length}
use Rattle.clique.proofs.Cliques.{common_clique, clique_common, clique_size}

-- Where the same sizes come up, the same is greatest.
pub greatest_same : {A B : Type 0} {Is : A → Type 0} {Other : B → Type 0} {sizeA : A → ℕ} {sizeB : B → ℕ}
    → ((k : ℕ) → OfSize Is sizeA k ↔ OfSize Other sizeB k) → (k : ℕ) → Greatest Is sizeA k ↔ Greatest Other sizeB k
greatest_same {A} {B} {Is} {Other} {sizeA} {sizeB} same k = (
  λ g. record {
    attained = (same k).0 g.attained;
    bound = λ b o. let a = (same (sizeB b)).1 (b, o, refl) in omega (arith, a.2, g.bound a.0 a.1);
  },
  λ g. record {
    attained = (same k).1 g.attained;
    bound = λ a i. let b = (same (sizeA a)).0 (a, i, refl) in omega (arith, b.2, g.bound b.0 b.1);
  },
)

-- What is best has the greatest size.
best_greatest : {Good : List ℕ → Type 0} {minimum : ℕ} (h : List ℕ) → Best Good minimum (some h) → Greatest Good size (size h)
best_greatest h b = record { attained = (h, b.good h refl, refl); bound = b.largest h refl }

module _ (P : Problem) (sound : SoundProblem P) where
  -- Common subgraphs and cliques come in the same sizes.
  pub sizes_same : (k : ℕ) → OfSize (Common P) size k ↔ OfSize (AssociationClique P) length k
  sizes_same k = (
    λ m. (pairs_of m.0, common_clique P m.0 m.1, pairs_length m.0 ∙ m.2),
    λ m. (mapping_of P.old.order m.0, clique_common P sound m.0 m.1, clique_size P sound m.0 m.1 ∙ m.2),
  )

  -- The largest clique of the association graph has the greatest size of a common subgraph.
  pub clique_greatest : (k : ℕ) → Greatest (Common P) size k ↔ Greatest (AssociationClique P) length k
  clique_greatest = greatest_same sizes_same

  -- What clique branching holds has the greatest size, that of the largest clique.
  pub branch_greatest : (minimum : ℕ) (h : List ℕ) → branch P minimum ≡ some h → Greatest (Common P) size (size h)
  branch_greatest minimum h e = best_greatest h (rw e at (branch_best P sound minimum))

  pub branch_clique : (minimum : ℕ) (h : List ℕ) → branch P minimum ≡ some h → Greatest (AssociationClique P) length (size h)
  branch_clique minimum h e = (clique_greatest (size h)).0 (branch_greatest minimum h e)

  -- There is a greatest size: from the minimum 0 on, something is held.
  pub greatest_exists : (k : ℕ) × Greatest (Common P) size k
  greatest_exists = go (branch P 0) refl
    where
      go : (held : Option (List ℕ)) → branch P 0 ≡ held → (k : ℕ) × Greatest (Common P) size k
      go (some h) e = (size h, branch_greatest 0 h e)
      go none e = absurd (omega (arith, (branch_none P sound 0).0 e _ (none_common P sound)))
