-- Which input is at fault, told from the numbers of three replies: a number that is not 0 is a refusal's.
use mathlib.Core.Path.{◌≡◌, refl, ap, sym, ◌∙◌}
use mathlib.Core.List.{List}
use mathlib.Core.Logic.{◌≢◌}
use Prim.Native.Nat.{ℕ}
use native.Mathlib.Omega.{arith}
use Rattle.answers.specs.Answer.{Answer, passed, accepted, refused, refused_at, refusal_number}
use Rattle.answers.proofs.RefusalNumbers.{Valued, Plain}
use Rattle.graph_reader.specs.Reading.{read_graph}
use Rattle.graph_reader.proofs.RefusalNumbers.{reading_valued}
use Rattle.substitutes.specs.Soundness.{substitutes_answer}
use Rattle.substitutes.proofs.SoundList.{list_plain}
use Rattle.replies.specs.declared.Reply.{Reply}
use Rattle.replies.specs.Reply.{reply_of}
use Rattle.inputs.specs.Judging.{judged, judgement, first_at_fault, judging}

old_at_fault : (old new list : Answer) → refusal_number old ≢ 0 → judgement 1 old ≡ first_at_fault old new list
old_at_fault passed new list h = absurd (h refl)
old_at_fault (accepted n) new list h = absurd (h refl)
old_at_fault (refused n) new list h = refl
old_at_fault (refused_at n at) new list h = refl

-- A graph whose number is 0 is one that was read.
read_on : (old new list : Answer) → Valued old → refusal_number old ≡ 0 → (n : ℕ) → first_at_fault (accepted n) new list ≡ first_at_fault old new list
read_on passed new list v e n = absurd v
read_on (accepted k) new list v e n = refl
read_on (refused k) new list v e n = absurd (omega (arith, v.0))
read_on (refused_at k at) new list v e n = absurd (omega (arith, v.0))

module _ (old new list : Answer) (read : Valued old) (old-right : refusal_number old ≡ 0) where
  new_at_fault : refusal_number new ≢ 0 → judgement 2 new ≡ first_at_fault old new list
  new_at_fault h = go new h ∙ read_on old new list read old-right 0
    where
      go : (a : Answer) → refusal_number a ≢ 0 → judgement 2 a ≡ first_at_fault (accepted 0) a list
      go passed h = absurd (h refl)
      go (accepted n) h = absurd (h refl)
      go (refused n) h = refl
      go (refused_at n at) h = refl

  module _ (new_read : Valued new) (new-right : refusal_number new ≡ 0) where
    -- with both graphs read
    on_list : first_at_fault (accepted 0) (accepted 0) list ≡ first_at_fault old new list
    on_list = go new new_read new-right ∙ read_on old new list read old-right 0
      where
        go : (a : Answer) → Valued a → refusal_number a ≡ 0 → first_at_fault (accepted 0) (accepted 0) list ≡ first_at_fault (accepted 0) a list
        go passed v e = absurd v
        go (accepted k) v e = refl
        go (refused k) v e = absurd (omega (arith, v.0))
        go (refused_at k at) v e = absurd (omega (arith, v.0))

    list_at_fault : refusal_number list ≢ 0 → judgement 3 list ≡ first_at_fault old new list
    list_at_fault h = go list h ∙ on_list
      where
        go : (a : Answer) → refusal_number a ≢ 0 → judgement 3 a ≡ first_at_fault (accepted 0) (accepted 0) a
        go passed h = absurd (h refl)
        go (accepted n) h = absurd (h refl)
        go (refused n) h = refl
        go (refused_at n at) h = refl

    none_at_fault : Plain list → refusal_number list ≡ 0 → judgement 0 list ≡ first_at_fault old new list
    none_at_fault p e = go list p e ∙ on_list
      where
        go : (a : Answer) → Plain a → refusal_number a ≡ 0 → judgement 0 a ≡ first_at_fault (accepted 0) (accepted 0) a
        go passed p e = refl
        go (accepted n) p e = absurd p
        go (refused n) p e = absurd (omega (arith, p.0))
        go (refused_at n at) p e = absurd (omega (arith, p.0))

module _ (old new list : List ℕ) {o : Reply} (o_is : o ≡ reply_of (read_graph old).answer) where
  pub judged_old : o.number ≢ 0 → judged 1 o ≡ judging old new list
  unfolding judging
  judged_old h = ap (judged 1) o_is ∙ old_at_fault (read_graph old).answer (read_graph new).answer (substitutes_answer list) (λ e. h (ap (λ (r : Reply). r.number) o_is ∙ e))

  module _ (old-right : o.number ≡ 0) {n : Reply} (n-is : n ≡ reply_of (read_graph new).answer) where
    -- both are read
    old_read : Valued (read_graph old).answer
    old_read = reading_valued _ _ old

    new_read : Valued (read_graph new).answer
    new_read = reading_valued _ _ new

    old_0 : refusal_number (read_graph old).answer ≡ 0
    old_0 = sym (ap (λ (r : Reply). r.number) o_is) ∙ old-right

    pub judged_new : n.number ≢ 0 → judged 2 n ≡ judging old new list
    unfolding judging
    judged_new h = ap (judged 2) n-is ∙ new_at_fault (read_graph old).answer (read_graph new).answer (substitutes_answer list) old_read old_0 (λ e. h (ap (λ (r : Reply). r.number) n-is ∙ e))

    module _ (new-right : n.number ≡ 0) {l : Reply} (l-is : l ≡ reply_of (substitutes_answer list)) where
      new_0 : refusal_number (read_graph new).answer ≡ 0
      new_0 = sym (ap (λ (r : Reply). r.number) n-is) ∙ new-right

      pub judged_list : l.number ≢ 0 → judged 3 l ≡ judging old new list
      unfolding judging
      judged_list h = ap (judged 3) l-is ∙ list_at_fault (read_graph old).answer (read_graph new).answer (substitutes_answer list) old_read old_0 new_read new_0 (λ e. h (ap (λ (r : Reply). r.number) l-is ∙ e))

      pub judged_none : l.number ≡ 0 → judged 0 l ≡ judging old new list
      unfolding judging
      judged_none e = ap (judged 0) l-is ∙ none_at_fault (read_graph old).answer (read_graph new).answer (substitutes_answer list) old_read old_0 new_read new_0 (list_plain list) (sym (ap (λ (r : Reply). r.number) l-is) ∙ e)
