use Rattle.std.proofs.Common.{ap, map, ◌∙◌}
use Rattle.journal_text.specs.Folds.{FoldView}
use Rattle.journal_text.proofs.FoldedBack.{folded_back}
use Rattle.row_cuts.specs.Cuts.{lines_cut}
use Rattle.row_cuts.proofs.Folding.{folds}
use Rattle.row_cuts.proofs.laws.journals_fold_to_exports.Goals as goal

pub returns : goal.returns
returns c h cuts is lines few follow view fold =
    ap (λ (v : FoldView). v.export) ((folded_back h (map lines_cut cuts) is lines few).only view fold) ∙ folds h.places h.rows cuts follow
