-- The ceiling of the state that a walk stands for, as the code takes its maximum: the cutoff, the node's own bound, and its later siblings.
use mathlib.Core.Path.{◌≡◌, sym}
use mathlib.Core.Bool.{Bool, true, false}
use mathlib.Core.List.{List}
use Prim.Native.Nat.{ℕ, ◌+◌, ◌<◌, max}
use native.Mathlib.Decide.{dec_lt}
use native.Mathlib.Omega.{arith}
use lib.ListN.{take}
use Rattle.problem.specs.Problem.{Problem}
use Rattle.search_tree.specs.Rules.{rules_of}
use Rattle.search_tree.specs.Node.{upper_bound, open_nodes}
use Rattle.search_tree.specs.Ceiling.{top_bound, ceiling}
use Rattle.search.specs.declared.walk.Walk.{Walk}
use Rattle.checkpoint.specs.Checkpoints.{state_of}
use Rattle.search.specs.Walking.{Setting, Ready}
use Rattle.search.proofs.ReadyWalk.{node_length}
use Rattle.search.proofs.LaterTop.{later_top}

module _ {connected : Bool} {P : Problem} {n : ℕ} {edges masks ws : List ℕ} {w : Walk} (setting : Setting P n edges masks) (ready : Ready connected P w ws) where
  -- The ceiling of a finished walk is its cutoff.
  pub ceiling_finished : w.checkpoint.finished ≡ true
      → ceiling (rules_of P) w.checkpoint.minimum (state_of P.old.order w.checkpoint) ≡ w.cutoff
  unfolding ceiling state_of
  ceiling_finished e = rw e (sym ready.cutoff_is)

  -- the node's bound, as far as it reaches the cutoff
  own_bound : Dec (w.bound < w.cutoff)
      → max w.cutoff (w.bound + 1) ≡ max w.cutoff (1 + upper_bound (rules_of P) (take w.checkpoint.depth w.checkpoint.path))
  own_bound (yes low) = omega (arith, ready.bounded.low low)
  own_bound (no high) = omega (arith, (ready.bounded.high (omega arith)).0)

  -- The ceiling of another walk is the greatest of its cutoff, its node's bound and its later siblings' bounds; a bound below the cutoff has
  -- no say.
  pub ceiling_open : w.checkpoint.finished ≡ false
      → ceiling (rules_of P) w.checkpoint.minimum (state_of P.old.order w.checkpoint)
      ≡ max (max w.cutoff (w.bound + 1)) (later_top P (take w.checkpoint.depth w.checkpoint.path) w.checkpoint.depth)
  unfolding ceiling state_of open_nodes top_bound
  ceiling_open e = rw (e, ← ready.cutoff_is, node_length setting.sound ready.node) (omega (arith, own_bound (dec_lt w.bound w.cutoff)))
