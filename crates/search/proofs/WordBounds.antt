-- Upper bounds read off the words: a row has a candidate exactly where its word is not 0.
use mathlib.Core.Path.{◌≡◌, refl, sym, ap, ◌∙◌}
use mathlib.Core.Bool.{Bool, true, false, cond, not, ◌&&◌, true≢false, and-false}
use mathlib.Core.List.{List, []}
use Prim.Native.Nat.{ℕ, suc, ◌+◌, ◌*◌, ◌≤◌, ◌<◌}
use native.Mathlib.Nat.{le_refl}
use native.Mathlib.Omega.{arith}
use lib.Dec.{leb, ltb, eqb}
use lib.ListN.{length, get_or, take}
use lib.Seq.{length-take-le}
use borrow.Author.Tests.{leb-true, eq-eqb, ne_eqb}
use Rattle.bitset.specs.Members.{member}
use Rattle.bitset.proofs.Membership.{member_zero}
use Rattle.bitset.proofs.SetOf.{set_of_lt, no_member, meet_empty}
use Rattle.bitset.proofs.CountBelow.{count_below_congr}
use Rattle.bounded.specs.Below.{sum_below}
use Rattle.graph.specs.Graph.{graph, place}
use Rattle.problem.specs.Problem.{Problem, SoundProblem}
use Rattle.mapping.specs.Common.{unmapped, size}
use Rattle.mapping.proofs.Size.{counted_mapped}
use Rattle.search_tree.specs.Rules.{rules_of}
use Rattle.search_tree.specs.Node.{candidate, candidates, non_empty, upper_bound, extend}
use Rattle.search_tree.proofs.Sums.{sum_below_agree}
use Rattle.search_tree.proofs.Candidates.{length_extend, non_empty_candidates}
use Rattle.search.specs.Words.{word_of, Masks, level_word, ExactSet, met_word, open_rows, meet_rows, Words}
use Rattle.search.proofs.Levels.{exact_member, exact_above, count_rows}
use Rattle.search.proofs.WordLevels.{size_extend, word_left_out, member_word, met_word_lem}

module _ (P : Problem) (sound : SoundProblem P) where
  -- A row has a candidate exactly where its word is not 0.
  pub open_word : (path : List ℕ) (r : ℕ) → non_empty (candidates (rules_of P) path r) ≡ not (eqb (word_of P path r) 0)
  open_word path r = go (non_empty (candidates (rules_of P) path r)) refl
    where
      go : (b : Bool) → non_empty (candidates (rules_of P) path r) ≡ b → b ≡ not (eqb (word_of P path r) 0)
      go true e =
          let some = (non_empty_candidates (rules_of P) path r).0 e in
          let inside = member_word P sound path r some.0 ∙ some.1 in
          let full : word_of P path r ≡ 0 → ⊥ = λ z. true≢false (sym inside ∙ ap (λ (s : ℕ). member s some.0) z ∙ member_zero some.0) in
          rw (ne_eqb (word_of P path r) 0 full)
      go false e = rw (eq-eqb (word_of P path r) 0 empty)
        where
          none : (v : ℕ) (b : Bool) → candidate (rules_of P) path r v ≡ b → b ≡ false
          none v true c = sym ((non_empty_candidates (rules_of P) path r).1 (v, c)) ∙ e
          none v false c = refl

          empty : word_of P path r ≡ 0
          empty = (no_member 64 (set_of_lt 64 (candidate (rules_of P) path r))).1 (λ v h. member_word P sound path r v ∙ none v _ refl)

  -- The upper bound counts the undecided rows whose word is not 0.
  pub bound_of_words : (path : List ℕ) (word : ℕ → ℕ) → ((r : ℕ) → length path ≤ r → r < P.old.order → word r ≡ word_of P path r)
      → upper_bound (rules_of P) path ≡ size path + sum_below P.old.order (λ r. cond (leb (length path) r && not (eqb (word r) 0)) 1 0)
  unfolding upper_bound
  bound_of_words path word known =
      ap (λ (n : ℕ). size path + n)
      (sum_below_agree P.old.order _ _ (λ r h. ap (λ (b : Bool). cond b 1 0) (same r h (leb (length path) r) refl)))
    where
      same : (r : ℕ) → r < P.old.order → (b : Bool) → leb (length path) r ≡ b
          → (b && non_empty (candidates (rules_of P) path r)) ≡ (b && not (eqb (word r) 0))
      same r h true e = rw (open_word path r, known r (leb-true (length path) r e) h)
      same r h false e = refl

  module _ {path ws : List ℕ} {row : ℕ} (inside : row ≤ length path) (words : Words P path row ws) (few : size (take row path) < 64) where
    depth : length (take row path) ≡ row
    depth = length-take-le row path inside

    max : P.old.order ≤ 64
    max = sound.old_sound.order_max

    -- the word of row r at the first `row` entries
    known : (r : ℕ) → row ≤ r → r < P.old.order → level_word ws (size (take row path)) r ≡ word_of P (take row path) r
    known = words.word row (le_refl row)

    exact : ExactSet P.old.order (size (take row path)) ws
    exact = words.exact row (le_refl row) few

    -- the rows in the level's set are those whose word is not 0
    open_rows_lem : (d : ℕ) → open_rows d (size (take row path)) ws
        ≡ sum_below P.old.order (λ r. cond (leb d r && not (eqb (level_word ws (size (take row path)) r) 0)) 1 0)
    open_rows_lem d =
        count_below_congr 64 _ _ (λ r h. ap (λ (b : Bool). leb d r && b) (exact_member exact r))
        ∙ count_rows P.old.order 64 _ max (λ r h. rw (exact_above exact r h) (and-false (leb d r)))

    -- The upper bound of a path's first entries, from their words.
    pub prefix_bound : upper_bound (rules_of P) (take row path) ≡ size (take row path) + open_rows row (size (take row path)) ws
    prefix_bound =
        rw (open_rows_lem row) (rw depth at (bound_of_words (take row path) (level_word ws (size (take row path))) (λ r l. known r (omega (arith, depth)))))

    -- The upper bound where the next row is left out, from the same words.
    pub left_out_bound : upper_bound (rules_of P) (extend (take row path) unmapped) ≡ size (take row path) + open_rows (row + 1) (size (take row path)) ws
    left_out_bound =
        let q = take row path in
        let next : length (extend q unmapped) ≡ row + 1 = omega (arith, depth, length_extend q unmapped) in
        let pairs : size (extend q unmapped) ≡ size q = omega (arith, size_extend q unmapped) in
        rw (open_rows_lem (row + 1)) (rw (next, pairs) at (bound_of_words (extend q unmapped) (level_word ws (size q))
        (λ r l b. known r (omega arith) b ∙ sym (word_left_out P q r))))

    -- The upper bound where the next row takes v, from the same words met with the masks of v.
    pub taken_bound : {masks : List ℕ} → Masks (graph P.new.order [] P.new.edges) masks → (v : ℕ) → v < P.new.order
        → upper_bound (rules_of P) (extend (take row path) v) ≡ size (take row path) + 1 + meet_rows P.old.edges masks row (size (take row path)) v ws
    taken_bound {masks} made v h =
        let q = take row path in
        let met = met_word P.old.edges masks row (size q) v ws in
        let next : length (extend q v) ≡ suc row = omega (arith, depth, length_extend q v) in
        let mapped = counted_mapped v (λ u. omega (arith, sound.new_sound.order_max)) in
        let pairs : size (extend q v) ≡ size q + 1 = omega (arith, size_extend q v) in
        let rows : meet_rows P.old.edges masks row (size q) v ws ≡ sum_below P.old.order (λ r. cond (ltb row r && not (eqb (met r) 0)) 1 0) =
        count_rows P.old.order 64 _ max
        (λ r l. rw (exact_above exact r l, meet_empty (get_or masks (256 * v + get_or P.old.edges (place row r) 0) 0)) (and-false (ltb row r))) in
        rw rows (rw (next, pairs) at (bound_of_words (extend q v) met
        (λ r l b. rw depth at (met_word_lem P sound made q (size q) v r ws (omega (arith, depth)) (omega arith) h (known r (omega arith) b)))))
