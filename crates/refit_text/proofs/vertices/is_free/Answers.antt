-- `refit_text::vertices::is_free` meets its contract: every entry is another vertex. Assumes nothing.
use mathlib.Core.Path.{◌∙◌}
use mathlib.Core.Bool.{not}
use lib.Dec.{eqb}
use Rattle.std.proofs.Common.{rules, tests}
use Rattle.std.proofs.lemmas.Iterator.Search.{all_from_yields_List}
use Rattle.std.proofs.lemmas.Iterator.{YieldsList-from_slice}
use Rattle.refit_text.specs.Lines.{is_free}
use Rattle.refit_text.proofs.FreeVertices.{all_entries}
use Rattle.refit_text.proofs.vertices.is_free.Goals as goal

pub returns : goal.returns
unfolding is_free
returns c =
    let l = c.args.mapping.now in
    all_from_yields_List (λ x. not (eqb x c.args.w.0)) _ _ _ c.all.ensures.ran (YieldsList-from_slice l cc) (λ x b q k. search (rules, tests))
    ∙ all_entries _ l
