-- The judgement's reply is the one that every call on two graphs and a list begins with.
use mathlib.Core.Path.{◌≡◌, refl, ap, sym, ◌∙◌}
use mathlib.Core.List.{List}
use Prim.Native.Nat.{ℕ, ◌≤◌}
use lib.ListN.{get_or, replicate}
use Rattle.answers.specs.Answer.{Answer, passed, accepted, refused, refused_at, first_refusal}
use Rattle.answers.proofs.RefusalNumbers.{Valued, Plain}
use Rattle.graph.specs.Graph.{graph}
use Rattle.graph_reader.specs.Reading.{read_graph}
use Rattle.graph_reader.proofs.ReadSound.{reading_sound}
use Rattle.graph_reader.proofs.RefusalNumbers.{reading_valued}
use Rattle.substitutes.specs.Soundness.{substitutes_answer}
use Rattle.substitutes.proofs.SoundList.{none_sound, list_plain}
use Rattle.problem.specs.Problem.{problem, substituting, problem_answer}
use Rattle.problem.proofs.ProblemPasses.{list_last, problem_passes}
use Rattle.problem_reader.specs.ProblemReading.{read, on_order, reading_problem, read_problem}
use Rattle.replies.specs.Reply.{reply_of}
use Rattle.inputs.specs.Judging.{first_at_fault, judging, first_test}

-- of two graphs that were read, the list's own test decides
list_decides : (a : Answer) → Plain a → (first_at_fault (accepted 0) (accepted 0) a).reply ≡ reply_of a
list_decides passed p = refl
list_decides (accepted n) p = absurd p
list_decides (refused n) p = refl
list_decides (refused_at n at) p = refl

module _ (old new list : List ℕ) (old-bytes : (i : ℕ) → get_or old i 0 ≤ 255) (new-bytes : (i : ℕ) → get_or new i 0 ≤ 255) where
  both_read : (n m : ℕ) → (read_graph old).answer ≡ accepted n → (read_graph new).answer ≡ accepted m
      → problem_answer (substituting list (problem (graph n (read_graph old).labels (read_graph old).edges) (graph m (read_graph new).labels (read_graph new).edges)))
      ≡ substitutes_answer list
  both_read n m e q =
      let P = problem (graph n (read_graph old).labels (read_graph old).edges) (graph m (read_graph new).labels (read_graph new).edges) in
      let sound = problem_passes P (record {
        old_sound = reading_sound (replicate 64 0) (replicate 4096 0) old old-bytes n e;
        new_sound = reading_sound (replicate 64 0) (replicate 4096 0) new new-bytes m q;
        substitutes_sound = none_sound;
      }) in
      list_last (substituting list P) ∙ ap (λ (a : Answer). first_refusal a (substitutes_answer list)) sound

  on_new : (n : ℕ) → (read_graph old).answer ≡ accepted n → (a : Answer) → (read_graph new).answer ≡ a → Valued a
      → (first_at_fault (accepted n) a (substitutes_answer list)).reply
      ≡ reply_of (first_test
      (on_order a (λ m. read (problem (graph n (read_graph old).labels (read_graph old).edges) (graph m (read_graph new).labels (read_graph new).edges)))) list)
  on_new n e passed q v = absurd v
  on_new n e (accepted m) q v = list_decides (substitutes_answer list) (list_plain list) ∙ ap reply_of (sym (both_read n m e q))
  on_new n e (refused number) q v = refl
  on_new n e (refused_at number at) q v = refl

  on_old : (a : Answer) → (read_graph old).answer ≡ a → Valued a
      → (first_at_fault a (read_graph new).answer (substitutes_answer list)).reply
      ≡ reply_of (first_test
      (on_order a (λ n. on_order (read_graph new).answer (λ m.
      read (problem (graph n (read_graph old).labels (read_graph old).edges) (graph m (read_graph new).labels (read_graph new).edges))))) list)
  on_old passed e v = absurd v
  on_old (accepted n) e v = on_new n e (read_graph new).answer refl (reading_valued (replicate 64 0) (replicate 4096 0) new)
  on_old (refused number) e v = refl
  on_old (refused_at number at) e v = refl

  -- So a call that is refused for its inputs is refused with this number and place, and the judgement tells for which of them.
  pub judged_first : (judging old new list).reply ≡ reply_of (first_test (read_problem old new) list)
  unfolding judging read_problem reading_problem
  judged_first = on_old (read_graph old).answer refl (reading_valued (replicate 64 0) (replicate 4096 0) old)
