use Rattle.trade_service.proofs.Settling.{readied_home}
use Rattle.trade_service.proofs.exchanges.check.Goals as goal

pub returns-in-Fine-clause-home : goal.returns-in-Fine-clause-home
returns-in-Fine-clause-home c = let did = c.ready_exchange.ensures in readied_home _ _ _ _ _ c.ready_exchange.result _ _ _ did.own did.entries did.holds did.endings c.requires.home

pub returns-in-Unknown-clause-home : goal.returns-in-Unknown-clause-home
returns-in-Unknown-clause-home c = let did = c.ready_exchange.ensures in readied_home _ _ _ _ _ c.ready_exchange.result _ _ _ did.own did.entries did.holds did.endings c.requires.home

pub returns-in-WrongState-clause-home : goal.returns-in-WrongState-clause-home
returns-in-WrongState-clause-home c = let did = c.ready_exchange.ensures in readied_home _ _ _ _ _ c.ready_exchange.result _ _ _ did.own did.entries did.holds did.endings c.requires.home

pub returns-in-QuoteStale-clause-home : goal.returns-in-QuoteStale-clause-home
returns-in-QuoteStale-clause-home c = let did = c.ready_exchange.ensures in readied_home _ _ _ _ _ c.ready_exchange.result _ _ _ did.own did.entries did.holds did.endings c.requires.home

pub returns-in-QuoteWrong-clause-home : goal.returns-in-QuoteWrong-clause-home
returns-in-QuoteWrong-clause-home c = let did = c.ready_exchange.ensures in readied_home _ _ _ _ _ c.ready_exchange.result _ _ _ did.own did.entries did.holds did.endings c.requires.home
