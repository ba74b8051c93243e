-- The words of a path's prefixes: those of the root, one more row decided, and that only the decided entries matter.
use mathlib.Core.Path.{◌≡◌, refl, sym, ap, ◌∙◌}
use mathlib.Core.Logic.{⊎_elim}
use mathlib.Core.Bool.{Bool, true, false, not, ◌&&◌, ◌||◌, and-true}
use mathlib.Core.List.{List, [], ◌∷◌}
use Prim.Native.Nat.{ℕ, ◌+◌, ◌≤◌, ◌<◌}
use native.Mathlib.Nat.{le_refl, eq-or-lt_of_le}
use native.Mathlib.Numerals.{add-one}
use native.Mathlib.Decide.{dec_lt}
use native.Mathlib.Omega.{arith}
use lib.Dec.{ltb, eqb}
use lib.ListN.{length, get_or, take, drop, take-append-drop, get_or-eq_default}
use lib.Seq.{length-take-le, take-suc, take-take}
use borrow.Author.Tests.{lt-ltb, ne_eqb}
use Rattle.bitset.specs.Members.{member}
use Rattle.bitset.proofs.SetOf.{member_set_of, member_set_of_above, set_of_congr, meet_of_set_of}
use Rattle.bounded.specs.Below.{all_below}
use Rattle.graph.specs.Graph.{graph, edge}
use Rattle.problem.specs.Problem.{Problem, SoundProblem, allowed, consistent}
use Rattle.problem.proofs.Consistent.{new_vertex}
use Rattle.mapping.specs.Common.{unmapped, size}
use Rattle.mapping.proofs.Size.{counted, counted_mapped, size_nil, size_cons, size_append}
use Rattle.search_tree.specs.Rules.{rules_of}
use Rattle.search_tree.specs.Node.{candidate, extend}
use Rattle.search_tree.proofs.Candidates.{candidate_extend, candidate_value}
use Rattle.search.specs.Words.{word_of, Masks, level_word, ExactSet, SameLevels, RootWords, met_word, Refined, Words}
use Rattle.search.proofs.Levels.{exact_same}

-- The words of a path are those of its first entries too.
pub words_shorter : {P : Problem} {path ws : List ℕ} {d e : ℕ} → e ≤ d → Words P path d ws → Words P path e ws
words_shorter h words = record { word = λ k l r. words.word k (omega arith) r; exact = λ k l. words.exact k (omega arith) }

-- Words of the first d entries depend on those entries alone.
pub words_same : {P : Problem} {ws : List ℕ} (p q : List ℕ) (d : ℕ) → take d p ≡ take d q → Words P p d ws → Words P q d ws
words_same p q d same words = record { word = λ k l r. rw (prefix k l) at (words.word k l r); exact = λ k l. rw (prefix k l) at (words.exact k l) }
  where
    prefix : (k : ℕ) → k ≤ d → take k p ≡ take k q
    prefix k l = sym (take-take k d p l) ∙ ap (take k) same ∙ take-take k d q l

-- The size of a path with one more entry.
pub size_extend : (path : List ℕ) (v : ℕ) → size (extend path v) ≡ size path + counted v
size_extend path v = omega (arith, size_append path (v ∷ []), size_cons v [], size_nil)

-- A path with one more row decided.
pub take_extend : (path : List ℕ) (row : ℕ) → row < length path → take (row + 1) path ≡ extend (take row path) (get_or path row 0)
take_extend path row h = rw add-one (take-suc path row 0 h)

-- An entry of 255 is one of the path's.
pub left_out_inside : (path : List ℕ) (row : ℕ) → get_or path row 0 ≡ unmapped → row < length path
left_out_inside path row e = go (dec_lt row (length path))
  where
    go : Dec (row < length path) → row < length path
    go (yes h) = h
    go (no n) = absurd (omega (arith, get_or-eq_default path 0 {n = row} (omega arith)))

-- A row that is left out adds no pair.
pub size_left_out : (path : List ℕ) (row : ℕ) → get_or path row 0 ≡ unmapped → size (take (row + 1) path) ≡ size (take row path)
size_left_out path row e =
    rw (take_extend path row (left_out_inside path row e), e) (omega (arith, size_extend (take row path) unmapped))

-- A row that takes a new vertex adds a pair.
pub size_taken : {P : Problem} → SoundProblem P → (path : List ℕ) (row : ℕ) {w : ℕ} → row < length path → get_or path row 0 ≡ w → w < P.new.order
    → size (take (row + 1) path) ≡ size (take row path) + 1
size_taken sound path row {w} h e hw =
    let mapped = counted_mapped w (λ u. omega (arith, sound.new_sound.order_max)) in
    rw (take_extend path row h, e) (omega (arith, size_extend (take row path) w))

-- Fewer entries have no more pairs.
pub size_take_le : (path : List ℕ) (j k : ℕ) → j ≤ k → size (take j path) ≤ size (take k path)
size_take_le path j k h =
    let whole = ap size (take-append-drop j (take k path)) in
    let front = ap size (take-take j k path h) in
    omega (arith, size_append (take j (take k path)) (drop j (take k path)))

module _ (P : Problem) where
  -- A left-out row changes no word.
  pub word_left_out : (path : List ℕ) (r : ℕ) → word_of P (extend path unmapped) r ≡ word_of P path r
  word_left_out path r =
      set_of_congr 64 (candidate (rules_of P) (extend path unmapped) r) (candidate (rules_of P) path r)
      (λ v h. candidate_extend (rules_of P) path unmapped r v ∙ and-true (candidate (rules_of P) path r v))

  -- the words of one more prefix are added to those of the shorter ones
  words_one_more : {path ws : List ℕ} {row : ℕ} → Words P path row ws
      → ((r : ℕ) → row + 1 ≤ r → r < P.old.order → level_word ws (size (take (row + 1) path)) r ≡ word_of P (take (row + 1) path) r)
      → (size (take (row + 1) path) < 64 → ExactSet P.old.order (size (take (row + 1) path)) ws)
      → Words P path (row + 1) ws
  words_one_more {path} {ws} {row} words last set = record {
    word = λ k h. ⊎_elim (top k) (λ l. words.word k (omega arith)) (eq-or-lt_of_le h);
    exact = λ k h. ⊎_elim (top_set k) (λ l. words.exact k (omega arith)) (eq-or-lt_of_le h);
  }
    where
      top_set : (k : ℕ) → k ≡ row + 1 → size (take k path) < 64 → ExactSet P.old.order (size (take k path)) ws
      top_set k e = rw e set

      top : (k : ℕ) → k ≡ row + 1 → (r : ℕ) → k ≤ r → r < P.old.order → level_word ws (size (take k path)) r ≡ word_of P (take k path) r
      top k e = rw e last

  -- A row that is left out: the words before it serve the longer prefix.
  pub words_left_out : {path ws : List ℕ} {row : ℕ} → get_or path row 0 ≡ unmapped → Words P path row ws → Words P path (row + 1) ws
  words_left_out {path} {ws} {row} e words = words_one_more words same (rw (size_left_out path row e) (words.exact row (le_refl row)))
    where
      q : List ℕ
      q = take row path

      next : take (row + 1) path ≡ extend q unmapped
      next = take_extend path row (left_out_inside path row e) ∙ ap (extend q) e

      same : (r : ℕ) → row + 1 ≤ r → r < P.old.order → level_word ws (size (take (row + 1) path)) r ≡ word_of P (take (row + 1) path) r
      same r l b =
          rw (size_left_out path row e, next, word_left_out q r) (words.word row (le_refl row) r (omega arith) b)

module _ (P : Problem) (sound : SoundProblem P) where
  -- The members of a row's word are its candidates.
  pub member_word : (path : List ℕ) (r v : ℕ) → member (word_of P path r) v ≡ candidate (rules_of P) path r v
  member_word path r v = go (dec_lt v 64) (candidate (rules_of P) path r v) refl
    where
      test : ℕ → Bool
      test = candidate (rules_of P) path r

      go : Dec (v < 64) → (b : Bool) → test v ≡ b → member (word_of P path r) v ≡ b
      go (yes h) b e = member_set_of 64 test v h ∙ e
      go (no n) true e = absurd (omega (arith, candidate_value (rules_of P) path r v e, sound.new_sound.order_max))
      go (no n) false e = member_set_of_above 64 test v (omega arith)

  -- The members of row k's word are its candidates after the first k entries.
  pub row_member : {path ws : List ℕ} {k : ℕ} → k < P.old.order → Words P path k ws
      → (v : ℕ) → member (level_word ws (size (take k path)) k) v ≡ candidate (rules_of P) (take k path) k v
  row_member {path} {ws} {k} row words v = rw (words.word k (le_refl k) k (le_refl k) row) (member_word (take k path) k v)

  -- at the root a candidate is a new vertex that the row may lie on
  candidate_root : (r v : ℕ) → candidate (rules_of P) [] r v ≡ allowed P r v
  unfolding candidate all_below
  candidate_root r v = rw and-true (new_vertex P r v)

  -- The words of the root stand at level 0, whatever the path.
  pub root_words : {ws ws' : List ℕ} → RootWords P ws ws' → (path : List ℕ) → Words P path 0 ws'
  root_words {ws} {ws'} filled path = record {
    word = λ k h r l b. at_root k (omega arith) r b;
    exact = λ k h l. exact_root k (omega arith);
  }
    where
      exact_root : (k : ℕ) → k ≡ 0 → ExactSet P.old.order (size (take k path)) ws'
      exact_root k e = rw (e, size_nil) filled.exact

      at_root : (k : ℕ) → k ≡ 0 → (r : ℕ) → r < P.old.order → level_word ws' (size (take k path)) r ≡ word_of P (take k path) r
      at_root k e r b =
          rw (e, size_nil, filled.root r b) (sym (set_of_congr 64 (candidate (rules_of P) [] r) (allowed P r) (λ v h. candidate_root r v)))

  -- of the candidates of a later row those stay, once w is taken, that are in the mask of w and the old edge
  candidate_masked : (q : List ℕ) (w r v : ℕ) → w < P.new.order
      → candidate (rules_of P) q r v && (ltb v P.new.order && not (eqb w v) && eqb (edge P.old (length q) r) (edge P.new w v))
      ≡ candidate (rules_of P) (extend q w) r v
  unfolding consistent
  candidate_masked q w r v h =
      go (candidate (rules_of P) q r v) refl ∙ sym (candidate_extend (rules_of P) q w r v)
    where
      go : (b : Bool) → candidate (rules_of P) q r v ≡ b
          → b && (ltb v P.new.order && not (eqb w v) && eqb (edge P.old (length q) r) (edge P.new w v))
          ≡ (candidate (rules_of P) q r v && (eqb w unmapped || consistent P (length q) w r v))
      go true e =
          rw (e, lt-ltb v P.new.order (candidate_value (rules_of P) q r v e), ne_eqb w unmapped (omega (arith, sound.new_sound.order_max)))
      go false e = rw e

  -- The word of a later row, met with the mask of w and the old edge, is its word once w is taken.
  pub met_word_lem : {masks : List ℕ} → Masks (graph P.new.order [] P.new.edges) masks
      → (q : List ℕ) (pairs w r : ℕ) (ws : List ℕ) → length q < 64 → r < 64 → w < P.new.order → level_word ws pairs r ≡ word_of P q r
      → met_word P.old.edges masks (length q) pairs w ws r ≡ word_of P (extend q w) r
  met_word_lem {masks} made q pairs w r ws hq hr hw known =
      let k = edge P.old (length q) r in
      let small : k < 256 = omega (arith, sound.old_sound.edge_byte (length q) r hq hr) in
      let mask : ℕ → Bool = λ v. ltb v P.new.order && not (eqb w v) && eqb k (edge P.new w v) in
      rw (known, made.mask w k hw small)
      (meet_of_set_of 64 (candidate (rules_of P) q r) mask (le_refl 64)
      ∙ set_of_congr 64 _ (candidate (rules_of P) (extend q w) r) (λ v h. candidate_masked q w r v hw))

  -- Words at levels that are unchanged still stand.
  pub words_kept : {path ws ws' : List ℕ} {row pairs : ℕ} → size (take row path) ≤ pairs → SameLevels pairs ws ws' → Words P path row ws → Words P path row ws'
  words_kept {path} {row = row} few same words = record {
    word = λ k l r a b.
        same.word (size (take k path)) r (omega (arith, size_take_le path k row l)) (omega (arith, sound.old_sound.order_max)) ∙ words.word k l r a b;
    exact = λ k l h. exact_same same (omega (arith, size_take_le path k row l)) sound.old_sound.order_max (words.exact k l h);
  }

  -- A row that takes a new vertex w: the refined words are those of the longer prefix.
  pub words_refined : {path masks ws ws' : List ℕ} {row w : ℕ} → row < length path → get_or path row 0 ≡ w → w < P.new.order
      → Masks (graph P.new.order [] P.new.edges) masks
      → Refined P.old.edges masks row (size (take row path)) w ws ws'
      → Words P path row ws → Words P path (row + 1) ws'
  words_refined {path} {masks} {ws} {ws'} {row} {w} h e hw made step words =
      words_one_more P (words_kept (le_refl _) step.kept words) above set
    where
      q : List ℕ
      q = take row path

      pairs : size (take (row + 1) path) ≡ size q + 1
      pairs = size_taken sound path row h e hw

      set : size (take (row + 1) path) < 64 → ExactSet P.old.order (size (take (row + 1) path)) ws'
      set few = rw pairs (step.exact P.old.order (omega (arith, pairs)) (words.exact row (le_refl row) (omega (arith, pairs))))

      above : (r : ℕ) → row + 1 ≤ r → r < P.old.order → level_word ws' (size (take (row + 1) path)) r ≡ word_of P (take (row + 1) path) r
      above r a b =
          let depth : length q ≡ row = length-take-le row path (omega arith) in
          let max = sound.old_sound.order_max in
          let met = met_word_lem made q (size q) w r ws (omega arith) (omega arith) hw (words.word row (le_refl row) r (omega arith) b) in
          rw (pairs, take_extend path row h, e, step.met r (omega arith) (omega arith)) (rw depth at met)
