use Rattle.std.proofs.Common.{[], None, refl, inl, inr, rules}
use Rattle.session_loop.specs.Writes.{showing}
use Rattle.session_loop.proofs.WriteLemmas.{end_none}
use Rattle.session_loop.proofs.Handing.{handed_none}
use Rattle.session_loop.proofs.Serving.{front_none}
use Rattle.rail_service.proofs.Connecting.{served_there, idle_there, tidy_there}
use Rattle.plain_host.proofs.OwnWork.{alone_is_lone}
use Rattle.rail_service.proofs.Alone.{plainly_there}
use Rattle.rail_service.proofs.connection.serve_permitted.Goals as goal

pub returns-in_default-clause-handed : goal.returns-in_default-clause-handed
returns-in_default-clause-handed g c = (
  [],
  [],
  None,
  front_none (g.S.Source.told c.args.source.now),
  handed_none (showing g.K.Outlet.told g.K.Outlet.takes g.K.Outlet.held) c.args.sink.now,
  inl (refl, record { no_read = refl; no_write = refl; same = refl }),
)

pub returns-in_default-clause-served : goal.returns-in_default-clause-served
returns-in_default-clause-served g c = (
  [],
  [],
  None,
  front_none (g.S.Source.told c.args.source.now),
  end_none (g.K.Outlet.told c.args.sink.now),
  inl (refl, record { no_read = refl; no_write = refl; same = refl }),
)

pub returns-in_default-start_router-clause-handed : goal.returns-in_default-start_router-clause-handed
returns-in_default-start_router-clause-handed g c = (
  [],
  [],
  None,
  front_none (g.S.Source.told c.args.source.now),
  handed_none (showing g.K.Outlet.told g.K.Outlet.takes g.K.Outlet.held) c.args.sink.now,
  inl (refl, record { no_read = refl; no_write = refl; same = refl }),
)

pub returns-in_default-start_router-clause-served : goal.returns-in_default-start_router-clause-served
returns-in_default-start_router-clause-served g c = (
  [],
  [],
  None,
  front_none (g.S.Source.told c.args.source.now),
  end_none (g.K.Outlet.told c.args.sink.now),
  inl (refl, record { no_read = refl; no_write = refl; same = refl }),
)

pub returns-clause-idle : goal.returns-clause-idle
returns-clause-idle g c = idle_there c.serve.new.service c.desk-1.given.0 (search rules) c.serve.ensures.served.4.idle

pub returns-clause-tidy : goal.returns-clause-tidy
returns-clause-tidy g c = λ tidy. tidy_there c.serve.new.service c.desk-1.given.0 (search rules) (c.serve.ensures.tidy tidy)

pub returns-clause-served : goal.returns-clause-served
returns-clause-served g c =
    let did = c.serve.ensures.served in (
      did.0,
      did.1,
      c.serve.new.service.first,
      did.2,
      did.3.sent,
      inr (served_there g.C.Clock.told c.args.cat.now (record { desk = c.args.desk.now; first = None; clock = g.C.Clock.told c.args.clock.now }) c.serve.new.service
          _ _ did.0 _ did.1 c.serve.result (search rules) (search rules) did.4),
    )

pub returns-clause-handed : goal.returns-clause-handed
returns-clause-handed g c =
    let did = c.serve.ensures.served in (
      did.0,
      did.1,
      c.serve.new.service.first,
      did.2,
      did.3,
      inr (served_there g.C.Clock.told c.args.cat.now (record { desk = c.args.desk.now; first = None; clock = g.C.Clock.told c.args.clock.now }) c.serve.new.service
          _ _ did.0 _ did.1 c.serve.result (search rules) (search rules) did.4),
    )

pub returns-in_default-clause-one_thread : goal.returns-in_default-clause-one_thread
returns-in_default-clause-one_thread g c alone = (
  [],
  [],
  None,
  front_none (g.S.Source.told c.args.source.now),
  end_none (g.K.Outlet.told c.args.sink.now),
  inl (refl, refl, refl),
)

pub returns-in_default-start_router-clause-one_thread : goal.returns-in_default-start_router-clause-one_thread
returns-in_default-start_router-clause-one_thread g c alone = (
  [],
  [],
  None,
  front_none (g.S.Source.told c.args.source.now),
  end_none (g.K.Outlet.told c.args.sink.now),
  inl (refl, refl, refl),
)

pub returns-clause-one_thread : goal.returns-clause-one_thread
returns-clause-one_thread g c alone =
    let lone = alone_is_lone c.args.cat.now c.args.books.now c.args.desk.now c.requires.own alone c.requires.idle c.requires.rows c.requires.legs
    (record { places = c.places.ensures.most; legs = c.places.ensures.legs }) in
    let did = c.serve.ensures.served in (
      did.0,
      did.1,
      c.serve.new.service.first,
      did.2,
      did.3.sent,
      plainly_there g.C.Clock.told c.args.cat.now (record { desk = c.args.desk.now; first = None; clock = g.C.Clock.told c.args.clock.now }) c.serve.new.service
          c.desk-1.given.0 c.clock-1.given.0 did.0 _ did.1 c.serve.result (search rules) (search rules) lone did.4,
    )
