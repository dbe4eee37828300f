use Rattle.rail_service.specs.Listeners.{IsGiven}
use Rattle.host_serve.specs.Turns.{HandedAndClosed, HandedOut}
use Rattle.host_serve.proofs.Worded.{chained}
use Rattle.host_serve.proofs.books.finish_listener.Goals as goal

-- what becomes of the streams is forgotten
pub returns-in-Open-clause-turns : goal.returns-in-Open-clause-turns
returns-in-Open-clause-turns g c =
    let turns = c.drain_listener.ensures.turns in (
      turns.0,
      turns.1,
      chained (HandedAndClosed (IsGiven g.N.Named.gives) _) (HandedOut (IsGiven g.N.Named.gives)) (λ p so. so.0) c.args.common.cat.now _ _ _ turns.2,
    )
