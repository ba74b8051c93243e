-- `descend::start` meets its contract: the search call that makes no visit tells the refusal, or the root's upper bound (`StartCall`). Assumes nothing.
use mathlib.Core.Path.{◌≡◌}
use mathlib.Core.List.{List, []}
use Prim.Native.Nat.{ℕ, ◌+◌, ◌≤◌}
use native.Mathlib.Omega.{arith}
use lib.ListN.{length, replicate, length-replicate}
use Rattle.problem.specs.Problem.{SoundProblem}
use Rattle.problem.specs.Lent.{lent}
use Rattle.search_tree.specs.Rules.{rules_of}
use Rattle.search_tree.specs.Node.{upper_bound}
use Rattle.search.specs.Call.{words_needed}
use Rattle.descend.proofs.StartCall.{start_refused, start_sound, start_accepted}
use Rattle.descend.proofs.start.Goals as goal
use Rattle.descend.proofs.start.Goals.{In-Ok}

-- the words of the search call
abbrev words : List ℕ
words = replicate words_needed 0

room : words_needed ≤ length words
room = omega (arith, length-replicate {A = ℕ} words_needed 0)

-- what a ceiling says
told : (c : In-Ok) → SoundProblem (lent c.args.problem) × (c.in-Ok.top ≡ 1 + upper_bound (rules_of (lent c.args.problem)) [])
told c =
    start_sound (lent c.args.problem) c.args.floor words room c.search-root.result _ _ c.fresh.ensures c.search-root.ensures _ c.in-Ok.is

pub overflow_sub-top : goal.overflow_sub-top
overflow_sub-top c = omega (arith, (told c).1)

pub first_minimum-minimum-requires : goal.first_minimum-minimum-requires
first_minimum-minimum-requires c = (told c).0.old_sound.order_max

pub lowered-requires : goal.lowered-requires
lowered-requires c = (told (goal.at.lowered-requires c).In-Ok).0.old_sound.order_max

pub returns-in-Ok : goal.returns-in-Ok
returns-in-Ok c =
    start_accepted (lent c.args.problem) c.args.floor words room c.search-root.result _ _ c.fresh.ensures c.search-root.ensures _ c.in-Ok.is _ _ _ _
    c.first_minimum-minimum.ensures c.fresh-checkpoint.ensures c.max-own.ensures c.lowered.ensures

pub returns-in-Err : goal.returns-in-Err
returns-in-Err c =
    start_refused (lent c.args.problem) c.args.floor words room c.search-root.result _ _ c.fresh.ensures c.search-root.ensures _ c.in-Err.is _ c.fresh-in-Err.ensures
