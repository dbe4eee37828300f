use Rattle.std.proofs.Common.{sym, subst, IsAscii, List, ℕ}
use Rattle.offer_codes.specs.Exchanges.{exchange_view}
use Rattle.osdm_parts.specs.Ids.{exchange_id}
use Rattle.osdm_parts.proofs.Ascii.{IsAscii-exchange_id}
use Rattle.osdm_parts.proofs.ids.exchange_id.Goals as goal

pub returns-clause-text : goal.returns-clause-text
unfolding exchange_id
returns-clause-text c = c.write_exchange.ensures.spelling

pub returns-clause-ascii : goal.returns-clause-ascii
unfolding exchange_id
returns-clause-ascii c = subst (λ (bs : List ℕ). IsAscii bs) (sym c.write_exchange.ensures.spelling) (IsAscii-exchange_id (exchange_view c.args.code.now) c.requires.ranges)
