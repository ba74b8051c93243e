-- The test of a checkpoint's shape by the check of two mappings, of the filled path and of what is held, and by whether the search may hold that.
use mathlib.Core.Path.{◌≡◌, sym, ap, ◌∙◌}
use mathlib.Core.Logic.Iff
use mathlib.Core.Bool.{Bool, cond, not, ◌&&◌, ◌||◌}
use mathlib.Core.List.{List}
use Prim.Native.Nat.{ℕ, ◌≤◌, ◌<◌, zero-le}
use native.Mathlib.Decide.{dec_lt}
use native.Mathlib.Omega.{arith}
use lib.ListN.{length, get_or, take}
use lib.Seq.{length-take-le, get_or-take, take-take}
use borrow.Author.Tests.{lt-leb}
use Rattle.bounded.specs.Below.{all_below}
use Rattle.bounded.proofs.Tells.{Tells, tells_eq, tells_itself, tells_one, tells_all, same_answer}
use Rattle.answers.specs.Answer.{passed, refused}
use Rattle.problem.specs.Problem.{Problem, SoundProblem, problem_answer}
use Rattle.problem.proofs.ProblemPasses.{passes_problem}
use Rattle.mapping.specs.Common.{unmapped}
use Rattle.mapping.specs.Answers.{Outcome, flawed, checked}
use Rattle.mapping.specs.Check.{list_outcome, both_outcomes}
use Rattle.mapping.proofs.BothOutcomes.{both_flawed, both_checked}
use Rattle.search_tree.specs.Rules.{rules_of}
use Rattle.search_tree.specs.Search.{admits_of}
use Rattle.search_tree.specs.Trees.{Reached}
use Rattle.search_tree.proofs.ReachedCommon.{reached_common}
use Rattle.checkpoint.specs.declared.Checkpoint.{Checkpoint}
use Rattle.checkpoint.specs.Checkpoints.{reaches, path_fits, incumbent_fits, held_admitted, shape_tests, in_shape}
use Rattle.checkpoint.specs.Checking.{checkpoint_answer}
use Rattle.checkpoint.proofs.FilledPath.{filled_to, take_filled}
use Rattle.checkpoint.proofs.ShapeTest.{tells_reaches}

module _ (P : Problem) (c : Checkpoint) (long : length c.path ≡ 64) (sound : SoundProblem P) where
  module _ (deep : c.depth ≤ P.old.order) where
    -- of the 64 entries kept, as many are taken as rows are decided
    decided : length (take c.depth c.path) ≡ c.depth
    decided = length-take-le c.depth c.path (omega (arith, sound.old_sound.order_max))

    -- the path fits exactly where candidates reach it
    tells_reached : Tells (all_below c.depth (path_fits P c)) (Reached (rules_of P) (take c.depth c.path))
    tells_reached =
        Iff.trans
        (tells_all c.depth (path_fits P c) (λ k. tells_one _ _ (tells_eq (get_or c.path k 0) unmapped) (tells_itself _))) (
          λ each. record {
            depth = omega (arith, decided);
            entry = λ k h.
                let early : k < c.depth = omega (arith, decided) in
                rw (get_or-take c.depth c.path k 0 early, take-take k c.depth c.path (omega arith)) (each k early);
          },
          λ r k h.
              rw (get_or-take c.depth c.path k 0 h, take-take k c.depth c.path (omega arith)) at (r.entry k (omega (arith, decided))),
        )

    -- the path fits exactly where it is accepted as a mapping that leaves out each row from the depth on
    path_checked : all_below c.depth (path_fits P c) ≡ reaches 0 (list_outcome P (take P.old.order (filled_to c.path c.depth)))
    path_checked =
        rw (take_filled P.old.order c.path c.depth long deep sound.old_sound.order_max)
        (same_answer _ _ tells_reached (tells_reaches P sound 0 _)
        (λ r. (((reached_common P sound _).0 r).1, zero-le), λ e. (reached_common P sound _).1 (omega (arith, decided), e.0)))

  -- in a sound problem a checkpoint is in shape exactly where the tests pass with what the check says of the two mappings
  shape_by_check : (connected : Bool)
      → in_shape connected P c
      ≡ shape_tests P.old.order (reaches 0 (list_outcome P (take P.old.order (filled_to c.path c.depth)))) (incumbent_fits P c) c
      && held_admitted connected P c
  unfolding in_shape
  shape_by_check connected = ap (λ (t : Bool). t && held_admitted connected P c) (go (dec_lt P.old.order c.depth))
    where
      go : Dec (P.old.order < c.depth)
          → shape_tests P.old.order (all_below c.depth (path_fits P c)) (incumbent_fits P c) c
          ≡ shape_tests P.old.order (reaches 0 (list_outcome P (take P.old.order (filled_to c.path c.depth)))) (incumbent_fits P c) c
      go (yes deep) = rw (lt-leb c.depth P.old.order deep)
      go (no deep) = rw (path_checked (omega arith))

-- Where the check of two mappings refuses the graphs, so does the check of a checkpoint.
pub flawed_answer : (connected : Bool) (P : Problem) (c : Checkpoint) (l m : List ℕ) (n : ℕ) → flawed (refused n) ≡ both_outcomes P l m
    → refused n ≡ checkpoint_answer connected P c
unfolding checkpoint_answer
flawed_answer connected P c l m n e = rw (both_flawed P l m (refused n) (sym e))

-- Where it checks the rows of the filled path and of the incumbent, what it says of them decides with the other tests.
pub checked_answer : (connected : Bool) (P : Problem) (c : Checkpoint) (rows : ℕ) (entries : List ℕ) (a b : Outcome) (shaped admitted : Bool)
    → length c.path ≡ 64
    → (P.old.order ≤ 64 → rows ≡ P.old.order) → entries ≡ filled_to c.path c.depth
    → checked a b ≡ both_outcomes P (take rows entries) (take rows c.incumbent)
    → shaped ≡ shape_tests P.old.order (reaches 0 a) (not c.holds || reaches c.minimum b) c
    → admitted ≡ (not c.holds || admits_of connected P (take rows c.incumbent))
    → checkpoint_answer connected P c ≡ cond (shaped && admitted) passed (refused 14)
unfolding checkpoint_answer
checked_answer connected P c rows entries a b shaped admitted long all filled e tests asked =
    rw (found.0, shape_by_check P c long sound connected, path, held, tests, asked, all sound.old_sound.order_max)
  where
    found : (problem_answer P ≡ passed) × (list_outcome P (take rows entries) ≡ a) × (list_outcome P (take rows c.incumbent) ≡ b)
    found = both_checked P (take rows entries) (take rows c.incumbent) a b (sym e)

    sound : SoundProblem P
    sound = passes_problem P found.0

    path : list_outcome P (take P.old.order (filled_to c.path c.depth)) ≡ a
    path = rw (← filled) (ap (λ (n : ℕ). list_outcome P (take n entries)) (sym (all sound.old_sound.order_max)) ∙ found.1)

    held : list_outcome P (take P.old.order c.incumbent) ≡ b
    held = ap (λ (n : ℕ). list_outcome P (take n c.incumbent)) (sym (all sound.old_sound.order_max)) ∙ found.2
