-- The choices of a row, read off its word: the least member comes first, the least member above a choice comes next, and 255 comes last.
use mathlib.Core.Path.{◌≡◌, refl, sym, ap, ◌∙◌}
use mathlib.Core.Bool.{Bool, true, false, not, ◌&&◌}
use mathlib.Core.List.{List, [], ◌∷◌, ◌++◌, map}
use Prim.Native.Nat.{ℕ, ◌+◌, ◌≤◌, ◌<◌}
use native.Mathlib.Numerals.{add-one}
use native.Mathlib.Omega.{arith}
use lib.Dec.{ltb, eqb}
use lib.ListN.{length, get_or, take}
use lib.Seq.{length-take-le, take-length}
use borrow.Author.Tests.{ltb-true, lt-ltb, le-ltb, lt-leb}
use Rattle.bitset.specs.Members.{member}
use Rattle.bitset.specs.Least.{least_member, least_above}
use Rattle.std.specs.Prelude.{Some, None}
use Rattle.bitset.proofs.LeastBelow.{least_below_member, least_below_empty, least_above_member, least_above_empty}
use Rattle.problem.specs.Problem.{Problem, SoundProblem}
use Rattle.mapping.specs.Common.{unmapped, size}
use Rattle.search_tree.specs.Rules.{Rules, rules_of}
use Rattle.search_tree.specs.Node.{candidate, candidates, choices, extend, children, choices_after, later_siblings, list_if}
use Rattle.search_tree.proofs.Passing.{passing, passing_none, passing_least}
use Rattle.search_tree.proofs.Candidates.{candidate_value}
use Rattle.search_tree.proofs.Children.{children_inner}
use Rattle.search_tree.proofs.Choices.{choices_after_first, choices_after_next}
use Rattle.search.specs.Words.{level_word, Words}
use Rattle.search.proofs.WordLevels.{row_member}

module _ (R : Rules) (few : R.values ≤ unmapped) (q : List ℕ) where
  -- After 255 there is no choice.
  pub choices_after_left_out : choices_after R q unmapped ≡ []
  unfolding choices_after
  choices_after_left_out =
      rw (passing_none (λ v. ltb unmapped v && candidate R q (length q) v) R.values (λ v h. rw (le-ltb unmapped v (omega arith))))

  -- the least candidate comes first
  choices_least : (v : ℕ) → candidate R q (length q) v ≡ true → ((i : ℕ) → i < v → candidate R q (length q) i ≡ false)
      → choices R q ≡ v ∷ choices_after R q v
  unfolding choices candidates
  choices_least v c first =
      let found = passing_least R.values (candidate R q (length q)) v (candidate_value R q (length q) v c) c first in
      let rest = passing R.values (λ i. not (eqb i v) && candidate R q (length q) i) in
      let all : choices R q ≡ v ∷ (rest ++ (unmapped ∷ [])) = rw found in
      all ∙ ap (λ (l : List ℕ). v ∷ l) (sym (choices_after_first R q few v _ all))

  -- without a candidate there is 255 alone
  choices_none : ((i : ℕ) → i < R.values → candidate R q (length q) i ≡ false) → choices R q ≡ unmapped ∷ []
  unfolding choices candidates
  choices_none none = rw (passing_none (candidate R q (length q)) R.values none)

  -- the least candidate above w comes next after w
  after_least : (w v : ℕ) → w < v → candidate R q (length q) v ≡ true → ((i : ℕ) → w < i → i < v → candidate R q (length q) i ≡ false)
      → choices_after R q w ≡ v ∷ choices_after R q v
  unfolding choices_after
  after_least w v h c first =
      let test : ℕ → Bool = λ i. ltb w i && candidate R q (length q) i in
      let found = passing_least R.values test v (candidate_value R q (length q) v c) (rw (lt-ltb w v h) c) (λ i l. fails i l (ltb w i) refl) in
      let rest = passing R.values (λ i. not (eqb i v) && test i) in
      let all : choices_after R q w ≡ v ∷ (rest ++ list_if (ltb w unmapped) unmapped) = rw found in
      all ∙ ap (λ (l : List ℕ). v ∷ l) (sym (choices_after_next R q few w v _ all))
    where
      fails : (i : ℕ) → i < v → (b : Bool) → ltb w i ≡ b → b && candidate R q (length q) i ≡ false
      fails i l true e = first i (ltb-true w i e) l
      fails i l false e = refl

  -- without a candidate above w, 255 comes next, and last
  after_none : (w : ℕ) → w < unmapped → ((i : ℕ) → w < i → i < R.values → candidate R q (length q) i ≡ false)
      → choices_after R q w ≡ unmapped ∷ []
  unfolding choices_after
  after_none w h none =
      rw (passing_none (λ i. ltb w i && candidate R q (length q) i) R.values (λ i l. fails i l (ltb w i) refl), lt-ltb w unmapped h)
    where
      fails : (i : ℕ) → i < R.values → (b : Bool) → ltb w i ≡ b → b && candidate R q (length q) i ≡ false
      fails i l true e = none i (ltb-true w i e) l
      fails i l false e = refl

-- what the least member of a row's word says of the node: its first child takes v, a candidate
pub record FirstTaken (P : Problem) (path : List ℕ) (v : ℕ) : Type 0 where
  pub is_candidate : candidate (rules_of P) path (length path) v ≡ true
  pub value : v < P.new.order
  pub choices_are : choices (rules_of P) path ≡ v ∷ choices_after (rules_of P) path v
  pub children_are : children (rules_of P) path ≡ extend path v ∷ map (extend path) (choices_after (rules_of P) path v)

-- the word of the node's own row is empty: its one child leaves the row out
pub record OnlyLeftOut (P : Problem) (path : List ℕ) : Type 0 where
  pub choices_are : choices (rules_of P) path ≡ unmapped ∷ []
  pub children_are : children (rules_of P) path ≡ extend path unmapped ∷ []

-- what the least member above w says of the row that a prefix decides next: after w comes v, a candidate
pub record NextTaken (P : Problem) (q : List ℕ) (row w v : ℕ) : Type 0 where
  pub above : w < v
  pub is_candidate : candidate (rules_of P) q row v ≡ true
  pub value : v < P.new.order
  pub after_are : choices_after (rules_of P) q w ≡ v ∷ choices_after (rules_of P) q v

module _ (P : Problem) (sound : SoundProblem P) where
  few : P.new.order ≤ unmapped
  few = omega (arith, sound.new_sound.order_max)

  module _ {path ws : List ℕ} (inner : length path < P.old.order) (words : Words P path (length path) ws) where
    -- The members of the next row's word are its candidates.
    pub own_member : (v : ℕ) → member (level_word ws (size path) (length path)) v ≡ candidate (rules_of P) path (length path) v
    own_member v = rw take-length at (row_member P sound inner words v)

    -- The least member of the next row's word is the first choice.
    pub first_taken : {v : ℕ} → least_member (level_word ws (size path) (length path)) ≡ Some v → FirstTaken P path v
    first_taken {v} e =
        let least = least_below_member 64 _ e in
        let c : candidate (rules_of P) path (length path) v ≡ true = sym (own_member v) ∙ least.passes in
        let all = choices_least (rules_of P) few path v c (λ i h. sym (own_member i) ∙ least.first i h) in
        record {
          is_candidate = c;
          value = candidate_value (rules_of P) path (length path) v c;
          choices_are = all;
          children_are = children_inner (rules_of P) path (lt-leb P.old.order (length path) inner) ∙ ap (map (extend path)) all;
        }

    -- An empty word of the next row leaves 255 alone.
    pub only_left_out : least_member (level_word ws (size path) (length path)) ≡ None → OnlyLeftOut P path
    only_left_out e =
        let small = sound.new_sound.order_max in
        let all = choices_none (rules_of P) few path (λ i h. sym (own_member i) ∙ least_below_empty 64 _ e i (omega arith)) in
        record {
          choices_are = all;
          children_are = children_inner (rules_of P) path (lt-leb P.old.order (length path) inner) ∙ ap (map (extend path)) all;
        }

  -- An entry of 255 has no later siblings of its own.
  pub siblings_left_out : (path : List ℕ) (k : ℕ) → get_or path k 0 ≡ unmapped
      → later_siblings (rules_of P) path (k + 1) ≡ later_siblings (rules_of P) path k
  unfolding later_siblings
  siblings_left_out path k e = rw (add-one, e, choices_after_left_out (rules_of P) few (take k path))

  module _ {path ws : List ℕ} {k : ℕ} (inside : k ≤ length path) (row : k < P.old.order) (words : Words P path k ws) where
    depth : length (take k path) ≡ k
    depth = length-take-le k path inside

    -- The least member above w of row k's word is the choice after w.
    pub next_taken : (w : ℕ) {v : ℕ} → least_above (level_word ws (size (take k path)) k) w ≡ Some v → NextTaken P (take k path) k w v
    next_taken w {v} e =
        let q = take k path in
        let word = level_word ws (size q) k in
        let least = least_above_member word w e in
        let c : candidate (rules_of P) q k v ≡ true = sym (row_member P sound row words v) ∙ least.is_member in
        let next : choices_after (rules_of P) q w ≡ v ∷ choices_after (rules_of P) q v =
        after_least (rules_of P) few q w v least.above (rw depth c)
        (λ i l h. rw depth (sym (row_member P sound row words i) ∙ least.first i l h)) in
        record { above = least.above; is_candidate = c; value = candidate_value (rules_of P) q k v c; after_are = next }

    -- Where no member of row k's word is above w, 255 is the choice after w, and the last.
    pub next_left_out : (w : ℕ) → w < unmapped → least_above (level_word ws (size (take k path)) k) w ≡ None
        → choices_after (rules_of P) (take k path) w ≡ unmapped ∷ []
    next_left_out w h e =
        let word = level_word ws (size (take k path)) k in
        let small = sound.new_sound.order_max in
        after_none (rules_of P) few (take k path) w h
        (λ i l b. rw depth (sym (row_member P sound row words i) ∙ least_above_empty word w e i l (omega arith)))

    -- The nearest later sibling takes the least member above the entry.
    pub siblings_taken : {v : ℕ} → least_above (level_word ws (size (take k path)) k) (get_or path k 0) ≡ Some v
        → later_siblings (rules_of P) path (k + 1)
        ≡ extend (take k path) v ∷ (map (extend (take k path)) (choices_after (rules_of P) (take k path) v) ++ later_siblings (rules_of P) path k)
    unfolding later_siblings
    siblings_taken e = rw (add-one, (next_taken (get_or path k 0) e).after_are)

    -- Where no member is above the entry, the nearest later sibling leaves the row out.
    pub siblings_last : get_or path k 0 < unmapped → least_above (level_word ws (size (take k path)) k) (get_or path k 0) ≡ None
        → later_siblings (rules_of P) path (k + 1) ≡ extend (take k path) unmapped ∷ later_siblings (rules_of P) path k
    unfolding later_siblings
    siblings_last h e = rw (add-one, next_left_out (get_or path k 0) h e)

-- The root has no later siblings.
pub siblings_root : (R : Rules) (path : List ℕ) → later_siblings R path 0 ≡ []
unfolding later_siblings
siblings_root R path = refl
