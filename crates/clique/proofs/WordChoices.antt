-- The choices of a row, read off the word of its candidates: the least member comes first, then those of the word without it; none comes last.
use mathlib.Core.Path.{◌≡◌, sym, ap, ◌∙◌}
use mathlib.Core.List.{List, [], ◌∷◌, ◌++◌}
use Prim.Native.Nat.{ℕ, ◌+◌, ◌-◌, ◌≤◌}
use native.Mathlib.Omega.{arith}
use lib.ListN.{length}
use Rattle.bitset.specs.Members.{member, set_of}
use Rattle.bitset.specs.Least.{least_member, without_least}
use Rattle.std.specs.Prelude.{Some, None}
use Rattle.bitset.proofs.SetOf.{member_set_of}
use Rattle.bitset.proofs.LeastBelow.{least_below_member, least_below_empty}
use Rattle.bitset.proofs.WithoutLeast.{member_without_least}
use Rattle.mapping.specs.Common.{unmapped}
use Rattle.search_tree.specs.Rules.{Rules}
use Rattle.search_tree.specs.Node.{candidate, candidates, choices}
use Rattle.search_tree.proofs.Passing.{passing, passing_none, passing_agree, passing_least, passing_beyond}
use Rattle.search_tree.proofs.Candidates.{candidate_outside}
use Rattle.clique.specs.LentRules.{choices_of}

-- Of no candidates, none is the only choice.
pub choices_of_empty : (s : ℕ) → least_member s ≡ None → choices_of s ≡ unmapped ∷ []
choices_of_empty s e = ap (λ (l : List ℕ). l ++ (unmapped ∷ [])) (passing_none (member s) 64 (least_below_empty 64 (member s) e))

-- The least candidate is the first choice.
pub choices_of_least : (s v : ℕ) → least_member s ≡ Some v → choices_of s ≡ v ∷ choices_of (without_least s)
choices_of_least s v e =
    let least = least_below_member 64 (member s) e in
    ap (λ (l : List ℕ). l ++ (unmapped ∷ []))
    (passing_least 64 (member s) v least.below least.passes least.first
    ∙ ap (λ (l : List ℕ). v ∷ l) (passing_agree 64 _ _ (λ i h. sym (member_without_least s v i e h))))

-- The choices of the next row are those of the set of its candidates.
pub choices_word : (R : Rules) (path : List ℕ) → R.values ≤ 64 → choices R path ≡ choices_of (set_of 64 (candidate R path (length path)))
unfolding choices candidates
choices_word R path few =
    let test = candidate R path (length path) in
    let beyond : passing ((64 - R.values) + R.values) test ≡ passing R.values test =
    passing_beyond (64 - R.values) R.values test (candidate_outside R path (length path)) in
    ap (λ (l : List ℕ). l ++ (unmapped ∷ []))
    (sym beyond ∙ ap (λ (n : ℕ). passing n test) all ∙ passing_agree 64 _ _ (λ i h. sym (member_set_of 64 test i h)))
  where
    all : (64 - R.values) + R.values ≡ 64
    all = omega arith
