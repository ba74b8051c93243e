-- The search by what the code is lent is the search of the problem that was lent: the sets of vertices that an old one may lie on give the same candidates.
use mathlib.Core.Path.{◌≡◌, refl, sym, ap, ◌∙◌}
use mathlib.Core.Bool.{Bool, true, false, ◌&&◌, true≢false}
use mathlib.Core.List.{List, [], ◌∷◌, ◌++◌}
use mathlib.Core.Option.{Option, none}
use Prim.Native.Nat.{ℕ, zero, suc, ◌+◌, ◌*◌, ◌≤◌, ◌<◌}
use native.Mathlib.Decide.{dec_lt}
use native.Mathlib.Omega.{arith}
use lib.Dec.{ltb}
use lib.ListN.{length, get_or, length-append}
use borrow.Author.Tests.{ltb-true}
use Rattle.bitset.specs.Members.{member, set_of}
use Rattle.bitset.proofs.SetOf.{member_set_of, member_set_of_above}
use Rattle.problem.specs.Problem.{SoundProblem, allowed, consistent}
use Rattle.problem.specs.declared.Problem.{Problem as LentProblem}
use Rattle.problem.specs.Lent.{lent}
use Rattle.problem.specs.VertexSets.{Allowing}
use Rattle.problem.proofs.VertexSets.{allowing_allowed}
use Rattle.problem.proofs.Consistent.{allowed_facts}
use Rattle.mapping.specs.Common.{unmapped}
use Rattle.search_tree.specs.Rules.{Rules, rules_of}
use Rattle.bounded.specs.Below.{all_below}
use Rattle.search_tree.specs.Node.{fits, candidate, candidates, choices, extend}
use Rattle.search_tree.proofs.Passing.{passing_agree}
use Rattle.clique.specs.Branching.{branch_row, branch_choices, branch}
use Rattle.clique.specs.LentRules.{lent_rules}
use Rattle.clique.specs.Carried.{Small}
use Rattle.clique.proofs.Turns.{row_end, row_turns, choices_end, choices_turns}

-- what is a member of a set of numbers below 64 passes its test
inside : (test : ℕ → Bool) (v : ℕ) → Dec (v < 64) → member (set_of 64 test) v ≡ true → test v ≡ true
inside test v (yes h) m = sym (member_set_of 64 test v h) ∙ m
inside test v (no h) m = absurd (true≢false (sym m ∙ member_set_of_above 64 test v (omega arith)))

-- the choices of a row are searched alike where the rows after each choice are
same_choices : (R Q : Rules) (minimum k : ℕ) (path : List ℕ)
    → ((v : ℕ) (h : Option (List ℕ)) → branch_row R minimum (2 * k) (extend path v) h ≡ branch_row Q minimum (2 * k) (extend path v) h)
    → (cs : List ℕ) (held : Option (List ℕ)) → branch_choices R minimum (2 * k + 1) path cs held ≡ branch_choices Q minimum (2 * k + 1) path cs held
same_choices R Q minimum k path same [] held = choices_end R minimum (2 * k + 1) path held ∙ sym (choices_end Q minimum (2 * k + 1) path held)
same_choices R Q minimum k path same (v ∷ cs) held =
    choices_turns R minimum path held k v cs
    ∙ ap (branch_choices R minimum (2 * k + 1) path cs) (same v held)
    ∙ same_choices R Q minimum k path same cs (branch_row Q minimum (2 * k) (extend path v) held)
    ∙ sym (choices_turns Q minimum path held k v cs)

module _ (p : LentProblem) {sets : List ℕ} (sound : SoundProblem (lent p)) (made : Allowing p sets) where
  -- a row's set is that of the vertices that it may lie on
  set_member : (r v : ℕ) → r < p.old.order → member (get_or sets r 0) v ≡ member (set_of 64 (allowed (lent p) r)) v
  set_member r v h = ap (λ (set : ℕ). member set v) ((allowing_allowed p sound made).word r h)

  -- What the search asks of what it is lent.
  pub lent_small : p.old.order ≤ 8 → Small p sets
  lent_small few = record {
    tables = (sound.old_sound.edges_length, sound.new_sound.edges_length);
    old_max = few;
    new_max = sound.new_sound.order_max;
    new_vertices = λ r v row e. new_vertex r v row e (dec_lt v 64);
  }
    where
      new_vertex : (r v : ℕ) → r < p.old.order → member (get_or sets r 0) v ≡ true → Dec (v < 64) → v < p.new.order
      new_vertex r v row e d =
          let P = lent p in
          (allowed_facts P r v (inside (allowed P r) v d (sym (set_member r v row) ∙ e))).0

  -- a row has the same candidates
  same_candidate : (path : List ℕ) (r v : ℕ) → r < p.old.order
      → candidate (lent_rules p sets) path r v ≡ candidate (rules_of (lent p)) path r v
  unfolding candidate consistent
  same_candidate path r v h = ap (λ (b : Bool). b && all_below (length path) (fits (lent_rules p sets) path r v)) (go (ltb v (p.new.order)) refl)
    where
      go : (b : Bool) → ltb v (p.new.order) ≡ b
          → (b && member (get_or sets r 0) v) ≡ (b && allowed (lent p) r v)
      go true e =
          set_member r v h
          ∙ member_set_of 64 (allowed (lent p) r) v (omega (arith, ltb-true v (p.new.order) e, sound.new_sound.order_max))
      go false e = refl

  -- and so the same choices
  same_next : (path : List ℕ) → length path < p.old.order
      → choices (lent_rules p sets) path ≡ choices (rules_of (lent p)) path
  unfolding choices candidates
  same_next path h = ap (λ (l : List ℕ). l ++ (unmapped ∷ [])) (passing_agree (p.new.order) _ _ (λ v l. same_candidate path (length path) v h))

  module _ (minimum : ℕ) where
    -- with k rows left
    same_row : (k : ℕ) (path : List ℕ) (held : Option (List ℕ)) → length path + k ≡ p.old.order
        → branch_row (lent_rules p sets) minimum (2 * k) path held
        ≡ branch_row (rules_of (lent p)) minimum (2 * k) path held
    same_row zero path held all = row_end _ minimum path held ∙ sym (row_end _ minimum path held)
    same_row (suc k) path held all =
        row_turns _ minimum path held k
        ∙ ap (λ (cs : List ℕ). branch_choices (lent_rules p sets) minimum (2 * k + 1) path cs held) (same_next path (omega arith))
        ∙ same_choices _ _ minimum k path (λ v h. same_row k (extend path v) h (simp length-append (omega arith))) _ held
        ∙ sym (row_turns _ minimum path held k)

    -- The whole search.
    pub lent_branch : branch_row (lent_rules p sets) minimum (2 * p.old.order) [] none ≡ branch (lent p) minimum
    lent_branch = same_row (p.old.order) [] none (omega arith)
