use Rattle.std.proofs.Common.{◌%◌, Bool, cond, sym, ap, ◌∙◌}
use Rattle.std.proofs.lemmas.Bool.{eq-eqb}
use Rattle.history_model.specs.declared.phase.Phase.TheVariants.{Free}
use Rattle.history_model.specs.Phase.{said_phase}
use Rattle.history_model.proofs.PhaseWords.{said_none}
use Rattle.history_model.proofs.phase.phase_shown.Goals as goal

pub returns-in-None : goal.returns-in-None
returns-in-None c =
    said_none (c.args.word % 16) (λ ph e. c.in-None.ensures.none ph e) ∙ sym (ap (λ (t : Bool). cond t (said_phase (c.args.word % 16)) Free) (eq-eqb _ _ (c.if-word-from.false ∙ c.from.ensures)))
