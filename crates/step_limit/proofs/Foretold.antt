-- What the limit foretold says of V and of the walk of either search (02, U5 and U7).
use mathlib.Core.Path.{◌≡◌}
use mathlib.Core.Bool.{Bool, true, false, cond, ◌&&◌, and-false}
use mathlib.Core.Logic.{◌⊎◌, ⊎_elim}
use Prim.Native.Nat.{ℕ, ◌≤◌, ◌<◌}
use native.Mathlib.Omega.{arith}
use lib.Dec.{leb}
use borrow.Author.Tests.{le-leb, lt-leb}
use Rattle.answers.specs.Answer.{accepted, refused}
use Rattle.problem.specs.Problem.{Problem, SoundProblem}
use Rattle.search_tree.specs.Search.{search_of}
use Rattle.search_tree.specs.StepLimit.{step_limit}
use Rattle.search_tree.specs.Walk.{after, IsTotal}
use Rattle.search_tree.proofs.Steps.{finished_from}
use Rattle.search_tree.proofs.WalkTheorems.{walk_ends, total_limit}
use Rattle.step_limit.specs.StepLimits.{cap, capped, foretold}

module _ (m n : ℕ) where
  -- Of sizes up to 64 the limit is told,
  pub foretold_limit : m ≤ 64 → n ≤ 64 → foretold m n ≡ accepted (capped (step_limit m n))
  unfolding foretold
  foretold_limit h l = simp (le-leb m 64 h, le-leb n 64 l)

  -- and where either is above, 26.
  pub foretold_many : (64 < m) ⊎ (64 < n) → foretold m n ≡ refused 26
  unfolding foretold
  foretold_many = ⊎_elim (λ (h : 64 < m). simp (lt-leb m 64 h)) (λ (h : 64 < n). simp (lt-leb n 64 h, and-false))

  -- So what is told is V, capped.
  foretold_told : (v : ℕ) → foretold m n ≡ accepted v → v ≡ capped (step_limit m n)
  unfolding foretold
  foretold_told v e = go (leb m 64 && leb n 64) e
    where
      go : (few : Bool) → cond few (accepted (capped (step_limit m n))) (refused 26) ≡ accepted v → v ≡ capped (step_limit m n)
      go true told = cc
      go false told = cc

  -- A limit below the cap is V itself,
  pub below_cap : (v : ℕ) → foretold m n ≡ accepted v → v < cap → step_limit m n ≡ v
  below_cap v e h = omega (arith, foretold_told v e)

  -- and the cap means that many or more.
  pub at_cap : foretold m n ≡ accepted cap → cap ≤ step_limit m n
  at_cap e = omega (arith, foretold_told cap e)

module _ (P : Problem) (sound : SoundProblem P) where
  -- Of two sound graphs the limit is told.
  pub sound_foretold : foretold P.new.order P.old.order ≡ accepted (capped (step_limit P.new.order P.old.order))
  sound_foretold = foretold_limit P.new.order P.old.order sound.new_sound.order_max sound.old_sound.order_max

  module _ (connected : Bool) (minimum v : ℕ) (told : foretold P.new.order P.old.order ≡ accepted v) (below : v < cap) where
    -- The total of either search is at most a limit below the cap, whatever the minimum:
    pub total_foretold : {t : ℕ} → IsTotal (search_of connected P) minimum t → t ≤ v
    total_foretold total =
        omega (arith, total_limit connected P sound minimum total, below_cap P.new.order P.old.order v told below)

    -- so many visits finish it.
    pub limit_finishes : (after (search_of connected P) minimum v).finished ≡ true
    limit_finishes =
        let end = walk_ends connected P sound minimum in
        (finished_from (search_of connected P) minimum end.1 v).1 (total_foretold end.1)
