use Rattle.rail_service.specs.Moments.{service_at}
use Rattle.rail_service.proofs.Connecting.{permits_any}
use Rattle.host_serve.proofs.serving.Server.take_turn.Goals as goal

-- the stream that was handed out is the one that was served and let go
pub returns-clause-turn : goal.returns-clause-turn
returns-clause-turn g c = (
  record { stream = _; sent = _; left = _; after = _ },
  (c.next_stream.new.self, c.in-Some.ensures.hands, c.let_go.ensures.lets_go),
  (_, c.serve_stream-finished.ensures.served),
)

-- the stream's outlet permits the replies of this desk
pub serve_stream-finished-requires-clause-permits : goal.serve_stream-finished-requires-clause-permits
serve_stream-finished-requires-clause-permits g c =
    permits_any _ _ _ _ _ _ _
    (c.in-Some.ensures.permits c.args.self.now.common.cat.now (service_at c.args.desk.now (g.C.Clock.told c.args.self.now.clock)))
