-- `search::advance` meets its contract: the words of the checkpoint's path are rebuilt from those of the root, the visits are made, and the
-- ceiling there is that of the walk (`AdvancedCall`). Assumes nothing.
use mathlib.Core.Path.{◌≡◌, refl, ◌∙◌}
use native.Mathlib.Omega.{arith}
use borrow.Author.Rules.{rules}
use lib.ListN.{length}
use Rattle.problem.specs.Lent.{lent}
use Rattle.problem.proofs.VertexSets.{allowing_allowed}
use Rattle.search_tree.specs.Search.{search_of}
use Rattle.checkpoint.specs.Checkpoints.{state_of}
use Rattle.search.specs.Call.{visits}
use Rattle.search.specs.Walking.{Ready, Arrives, Starts}
use Rattle.search.proofs.AdvancedCall.{Accepted, call_setting, call_bounds, call_arrives}
use Rattle.search.proofs.ResumedWalk.{start_count}
use Rattle.search.proofs.VisitTurn.{ready_in_bounds}
use Rattle.search.proofs.WordLevels.{root_words}
use Rattle.search.proofs.advance.Goals as goal
use Rattle.search.proofs.advance.Goals.{After-ceiling-top, After-root_words, After-run-end, After-start-start, Start}

-- what the call starts from; that its arrays have 64 bytes comes with the checkpoint's type
given : (s : Start) → Accepted s.args.connected (lent s.args.problem) s.args.checkpoint
given s =
    record {
      sound = s.requires.sound_problem;
      shape = s.requires.in_shape;
      path_long = search rules;
      incumbent_long = search rules;
    }

-- the workspace keeps its length
root_whole : (c : After-root_words) → length c.root_words.new.workspace ≡ 4160
root_whole c = c.root_words.auto.workspace ∙ c.requires.workspace_len.0

-- the walk at its start is ready for a visit
started : (c : After-start-start)
    → Starts c.args.connected (lent c.args.problem) c.args.checkpoint c.start-start.result c.start-start.new.workspace
started c =
    let P = lent c.args.problem in
    let sound = c.requires.sound_problem in
    c.start-start.ensures.starts c.args.connected P (call_setting sound c.fill_masks.ensures) c.requires.in_shape
    (root_words P sound (c.root_words.ensures P refl (allowing_allowed c.args.problem sound c.allowed_sets-allowed.ensures)) c.args.checkpoint.path)

-- the visits are made
made : (c : After-run-end) → Ready c.args.connected (lent c.args.problem) c.start-start.result c.start-start.new.workspace
    → let k = c.start-start.result.checkpoint in
    Arrives c.args.connected (lent c.args.problem) k.minimum
    (visits (search_of c.args.connected (lent c.args.problem)) k.minimum c.args.budget (state_of (lent c.args.problem).old.order k)) c.run-end.result
    c.run-end.new.workspace
made c ready = c.run-end.ensures (lent c.args.problem) (call_setting c.requires.sound_problem c.fill_masks.ensures) ready

ceiling_whole : (c : After-ceiling-top) → length c.ceiling-top.new.workspace ≡ 4160
ceiling_whole c =
    c.ceiling-top.auto.workspace ∙ c.run-end.auto.workspace ∙ c.start-start.auto.workspace ∙ c.root_words.auto.workspace ∙ c.requires.workspace_len.0

pub start-start-requires : goal.start-start-requires
start-start-requires c =
    let at = goal.at.start-start-requires c in
    let g = given at.Start in record {
      in_bounds = call_bounds g c.fill_masks.ensures (omega (arith, root_whole at.After-root_words));
      lengths = (g.incumbent_long, c.no_pairs-trail.ensures);
    }

pub run-end-requires : goal.run-end-requires
run-end-requires c =
    let begun = started (goal.at.run-end-requires c).After-start-start in (
      rw begun.checkpoint_is (start_count c.args.checkpoint c.args.budget c.requires.workspace_len.1),
      record { problem = lent c.args.problem; setting = call_setting c.requires.sound_problem c.fill_masks.ensures; ready = begun.ready },
      rw begun.checkpoint_is c.start-start.ensures.trail,
    )

pub ceiling-top-requires : goal.ceiling-top-requires
ceiling-top-requires c =
    let at = goal.at.ceiling-top-requires c in
    let ready = (made at.After-run-end (started at.After-start-start).ready).ready in
    record { in_bounds = ready_in_bounds (call_setting c.requires.sound_problem c.fill_masks.ensures) ready; bound_bound = ready.small }

pub returns : goal.returns
returns c =
    let at = goal.at.returns c in
    let begun = started at.After-start-start in
    let there = made at.After-run-end begun.ready in
    let setting = call_setting c.requires.sound_problem c.fill_masks.ensures in
    call_arrives (given at.Start) c.args.budget c.ceiling-top.result c.args.workspace.now c.ceiling-top.new.workspace setting
    begun.checkpoint_is begun.ready there (c.ceiling-top.ensures c.args.connected (lent c.args.problem) setting there.ready)
    c.requires.workspace_len.0 (ceiling_whole at.After-ceiling-top) c.clear_words.ensures
