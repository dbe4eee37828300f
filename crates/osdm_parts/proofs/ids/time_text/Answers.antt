use Rattle.std.proofs.Common.{sym, subst, IsAscii, List, ℕ}
use Rattle.osdm_parts.specs.Times.{time_text}
use Rattle.osdm_parts.proofs.Ascii.{IsAscii-time_text}
use Rattle.osdm_parts.proofs.ids.time_text.Goals as goal

pub returns-clause-text : goal.returns-clause-text
unfolding time_text
returns-clause-text c = c.write_moment.ensures.text

pub returns-clause-ascii : goal.returns-clause-ascii
unfolding time_text
returns-clause-ascii c = subst (λ (bs : List ℕ). IsAscii bs) (sym c.write_moment.ensures.text) (IsAscii-time_text c.args.moment c.write_moment.ensures.in_years)
