-- The sets that `substitutes::agreeing` makes of the label tables of a sound problem are those of the vertices whose labels agree; those that
-- `allowed_sets` makes are those of the vertices that an old one may lie on.
use mathlib.Core.Path.{◌≡◌, refl, ap, ap₂, ◌∙◌}
use mathlib.Core.Bool.{Bool, true, false, cond, ◌&&◌}
use mathlib.Core.List.{List, []}
use Prim.Native.Nat.{ℕ, ◌<◌}
use native.Mathlib.Decide.{dec_lt}
use native.Mathlib.Omega.{arith}
use lib.Dec.{ltb, eqb}
use lib.ListN.{length, get_or}
use borrow.Author.Tests.{lt-ltb, le-ltb, ne_eqb}
use Rattle.bitset.specs.Members.{member, set_of, meet_of}
use Rattle.bitset.proofs.SetOf.{set_of_congr, meet_empty, meet_of_set_of, member_set_of}
use Rattle.graph.specs.Graph.{label}
use Rattle.substitutes.specs.Substitutes.{listed, agree}
use Rattle.substitutes.specs.Agreeing.{Agreeing}
use Rattle.substitutes.proofs.Agreement.{listed_true, none_agree}
use Rattle.problem.specs.Problem.{Problem, SoundProblem, compare_vertices, compare_edges, allowed, substituting}
use Rattle.problem.specs.declared.Problem.{Problem as LentProblem}
use Rattle.problem.specs.Lent.{lent}
use Rattle.problem.specs.VertexSets.{VertexSets, AllowedSets, Diagonal, MetAll, Allowing}

module _ (P : Problem) where
  module _ (s : SoundProblem P) where
    -- A vertex's label agrees with no 0, which is no label: so what stands past the last new vertex is no vertex that agrees.
    zero_disagrees : (v : ℕ) → v < P.old.order → agree P.substitutes (label P.old v) 0 ≡ false
    unfolding agree
    zero_disagrees v h = rw (ne_eqb (label P.old v) 0 (λ e. omega (arith, (s.old_sound.labelled v h).0))) (go (listed P.substitutes (label P.old v) 0) refl)
      where
        go : (t : Bool) → listed P.substitutes (label P.old v) 0 ≡ t → t ≡ false
        go false e = refl
        go true e =
            let l = listed_true P.substitutes (label P.old v) 0 e in
            absurd (omega (arith, (s.substitutes_sound.labelled l.place l.inside).1, l.new_is))

    -- among the places of the label table, the new vertices are those that can agree
    among_places : (v : ℕ) → v < P.old.order → (w : ℕ) → w < 64 → Dec (w < P.new.order)
        → (ltb w (length P.new.labels) && compare_vertices P v w) ≡ (ltb w P.new.order && compare_vertices P v w)
    among_places v h w l (yes below) =
        rw (lt-ltb w (length P.new.labels) (omega (arith, s.new_sound.labels_length)), lt-ltb w P.new.order below) refl
    among_places v h w l (no above) =
        rw (lt-ltb w (length P.new.labels) (omega (arith, s.new_sound.labels_length)), le-ltb w P.new.order (omega arith))
        (ap (agree P.substitutes (label P.old v)) (s.new_sound.unlabelled w (omega arith) l) ∙ zero_disagrees v h)

    -- an old vertex is a place of the label table
    old_place : (v : ℕ) → v < P.old.order → ltb v (length P.old.labels) ≡ true
    old_place v h = lt-ltb v (length P.old.labels) (omega (arith, s.old_sound.labels_length, s.old_sound.order_max))

    pub agreeing_vertices : {words : List ℕ} → Agreeing P.old.labels P.new.labels P.substitutes words → VertexSets P words
    agreeing_vertices a = record {
      entries = a.entries;
      word = λ v h.
          a.word v (omega (arith, s.old_sound.order_max))
          ∙ rw (old_place v h) (set_of_congr 64 _ _ (λ w l. among_places v h w l (dec_lt w P.new.order)));
    }

  module _ {words : List ℕ} (s : VertexSets P words) (v : ℕ) (h : v < P.old.order) where
    -- A new vertex is in an old one's set exactly where the labels agree.
    pub vertex_member : (w : ℕ) → w < P.new.order → w < 64 → member (get_or words v 0) w ≡ compare_vertices P v w
    vertex_member w l few =
        ap (λ (set : ℕ). member set w) (s.word v h)
        ∙ member_set_of 64 (λ u. ltb u P.new.order && compare_vertices P v u) w few
        ∙ ap (λ (b : Bool). b && compare_vertices P v w) (lt-ltb w P.new.order l)

module _ (p : LentProblem) {agreed old new same words : List ℕ} where
  -- The sets by the labels meet those by the diagonals, taken for labels that no list lets differ.
  pub allowing_made : Agreeing p.old.labels.now p.new.labels.now p.substitutes.now agreed → Diagonal p.old.edges.now old → Diagonal p.new.edges.now new
      → Agreeing old new [] same → MetAll agreed same words → Allowing p words
  allowing_made a o n s m = record { entries = m.entries; word = λ v h. m.word v h ∙ both v h (ltb v (length p.old.labels.now)) refl }
    where
      own : (v w : ℕ) → v < 64 → w < 64 → agree [] (get_or old v 0) (get_or new w 0) ≡ compare_edges (lent p) v v w w
      own v w h l = none_agree (get_or old v 0) (get_or new w 0) ∙ ap₂ eqb (o.edge v h) (n.edge w l)

      both : (v : ℕ) → v < 64 → (t : Bool) → ltb v (length p.old.labels.now) ≡ t → meet_of (get_or agreed v 0) (get_or same v 0) ≡ cond t
          (set_of 64 (λ w. ltb w (length p.new.labels.now)
          && compare_vertices (lent p) v w && compare_edges (lent p) v v w w)) 0
      both v h true e =
          rw (a.word v h, s.word v h, e, lt-ltb v (length old) (omega (arith, o.entries)))
          (meet_of_set_of 64 _ _ (omega arith)
          ∙ set_of_congr 64 _ _ (λ w l. rw (lt-ltb w (length new) (omega (arith, n.entries)), own v w h l) refl))
      both v h false e = rw (a.word v h, e) (meet_empty (get_or same v 0))

module _ (p : LentProblem) (s : SoundProblem (lent p)) where
  -- Of a sound problem these are the vertices that an old vertex may lie on.
  pub allowing_allowed : {words : List ℕ} → Allowing p words → AllowedSets (lent p) words
  unfolding allowed
  allowing_allowed a =
      let P = lent p in
      record {
        entries = a.entries;
        word = λ v h.
            a.word v (omega (arith, s.old_sound.order_max))
            ∙ rw (old_place P s v h)
            (set_of_congr 64 _ _ (λ w l. ap (λ (b : Bool). b && compare_edges P v v w w) (among_places P s v h w l (dec_lt w P.new.order))));
      }

-- "an empty list gives today's results": without substitutes labels agree exactly where they are equal.
pub unlisted : (P : Problem) (v w : ℕ) → compare_vertices (substituting [] P) v w ≡ eqb (label P.old v) (label P.new w)
unlisted P v w = none_agree (label P.old v) (label P.new w)
