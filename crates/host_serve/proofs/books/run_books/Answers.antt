use Rattle.std.proofs.Common.{◌≡◌, ◌∙◌, ◌+◌, ◌<◌, ℕ, Bool, true, false, length, map, Option, Some, None, refl, sym, subst, ap, arith}
use Rattle.std.specs.Prelude.{IsSome}
use Rattle.claim_rule.specs.Rule.{BooksView}
use Rattle.cold_store.specs.Tidy.{AreSucceeded}
use Rattle.rail_io.specs.Faults.{Rose}
use Rattle.answer_gate.specs.declared.clock.GatedClock.{GatedClock}
use Rattle.rail_service.specs.Listeners.{Handing, IsGiven}
use Rattle.host_journal.specs.declared.end.BooksOutcome.{BooksOutcome}
use Rattle.host_serve.specs.Serve.{BooksEnd, IsServedWall, Left}
use Rattle.host_serve.proofs.Chaining.{until_asks}
use Rattle.worker_pool.proofs.Crewing.{complete, one_more}
use Rattle.host_serve.specs.Turns.{Asks, FitsBooks, TicksUntil, gated}
use Rattle.host_serve.proofs.Closing.{served_wall, all_looked, all_parts, all_rested, all_worked, has_clock}
use Rattle.host_serve.proofs.books.run_books.Goals as goal

pub returns : goal.returns
returns g c =
    let said = c.args.common.said in
    let members = c.crew_of-crew.ensures in
    let books = c.crew_of-crew.new.opened.books in
    let run = c.run_crew-desk.ensures.run in
    let hands : Handing = IsGiven g.N.Named.gives in
    let left = c.finish_listener-all.ensures in
    let whole = complete books run.crew c.run_crew-desk.result c.run_crew-desk.new.first c.finish_listener-all.new.desk c.meet.new.desk run.met c.meet.ensures.met
    (left.keeps.number ∙ run.is.desk.number) in
    let clocks = map g.C.Clock.told c.args.devices.clocks.items in
    let asks = Asks g.T.Ticker.ticked c.args.devices.ticker in
    let view = g.L.Listener.told c.finish_listener-all.new.ended.listener in
    let seen : Left = record {
      faults_before = g.L.Listener.faults c.args.devices.listener;
      before = g.L.Listener.told c.args.devices.listener;
      clocks = clocks;
      asks = asks;
      hands = hands;
      faults_after = g.L.Listener.faults c.finish_listener-all.new.ended.listener;
      after = view;
      watchers = length c.args.watchers.items;
      wall = Some c.close.result;
    } in
    let clocked = has_clock (record {
      told = gated g.C.Clock.told;
      handed = _;
      hands = λ s stream sent t. hands stream sent;
      lets_go = λ s left after t. t ≡ s;
      ticked = λ t s answer u. TicksUntil g.T.Ticker.ticked g.N.Named.over t.ticker s answer u.ticker;
    }) seen (λ s stream sent t given. given) c.args.common.cat.now said _ books c.crew_of-crew.result.crew.items _ _
    c.run_crew-desk.new.first c.run_crew-desk.result members.crew members.ready members.count c.requires.workers run in
    let clock_is : c.unwrap.result ≡ clocked.0 =
    (let e : Some c.unwrap.result ≡ Some clocked.0 = sym c.unwrap.ensures ∙ (c.into_clock.ensures.clock ∙ clocked.1) in cc) in
    let worked = all_worked (record {
      told = gated g.C.Clock.told;
      handed = _;
      hands = λ s stream sent t. hands stream sent;
      lets_go = λ s left after t. t ≡ s;
      ticked = λ t s answer u. TicksUntil g.T.Ticker.ticked g.N.Named.over t.ticker s answer u.ticker;
    }) seen (λ s stream sent t given. given) c.args.common.cat.now said _ books c.crew_of-crew.result.crew.items _ _
    c.run_crew-desk.new.first c.run_crew-desk.result members.crew members.ready members.count c.requires.workers run
    c.finish_listener-all.new.desk c.meet.new.desk (g.C.Clock.told c.new-clock.result.clock) (g.C.Clock.told c.finish_listener-all.new.clock.clock)
    (λ seconds n before after on last. subst (λ (t : g.row.T.Denot). Asks g.T.Ticker.ticked t seconds n) c.of.ensures
    (until_asks g.T.Ticker.ticked g.N.Named.over (λ t. t.ticker) seconds n _ before after on last))
    left.turns.0 c.into_clock.new.all.amount members.nothing c.into_clock.ensures.amount
    (let counted = c.into_listener-ended.ensures.counted in let more = left.turns.1 in omega (arith, counted, more))
    (c.new-clock.ensures.clock ∙ (c.into_inner-clock.ensures ∙ (ap (gated g.C.Clock.told) clock_is ∙ clocked.2))) left.keeps left.turns.2 left.own c.meet.ensures.met in
    let looked = all_looked (record {
      told = gated g.C.Clock.told;
      handed = _;
      hands = λ s stream sent t. hands stream sent;
      lets_go = λ s left after t. t ≡ s;
      ticked = λ t s answer u. TicksUntil g.T.Ticker.ticked g.N.Named.over t.ticker s answer u.ticker;
    }) seen (λ s stream sent t given. given) c.args.common.cat.now said _ books c.crew_of-crew.result.crew.items _ _
    c.run_crew-desk.new.first c.run_crew-desk.result members.crew members.ready members.count c.requires.workers run
    c.finish_listener-all.new.desk c.meet.new.desk (g.C.Clock.told c.new-clock.result.clock) (g.C.Clock.told c.finish_listener-all.new.clock.clock)
    (λ seconds n before after on last. subst (λ (t : g.row.T.Denot). Asks g.T.Ticker.ticked t seconds n) c.of.ensures
    (until_asks g.T.Ticker.ticked g.N.Named.over (λ t. t.ticker) seconds n _ before after on last)) c.meet.ensures.met in
    let rests = all_rested FitsBooks books run.crew c.run_crew-desk.result c.run_crew-desk.new.first c.finish_listener-all.new.desk c.meet.new.desk
    run.are run.met left.own left.tidy (left.keeps.number ∙ run.is.desk.number) c.meet.ensures.met in
    let count : length run.crew ≡ said.workers + 1 + length c.args.watchers.items = run.count ∙ members.count in
    let closed = c.close.ensures in
    let opening = subst (λ (b : BooksView). AreSucceeded b.layout.opening) (sym members.books) c.requires.opening in
    let of_books = served_wall c.args.common.cat.now said seen books c.meet.new.desk c.close.result c.meet.ensures.own (c.meet.ensures.tidy run.met.tidy) opening
    closed.layout (record { places = closed.places; legs = closed.legs; rows = closed.rows }) closed.history
    whole.0 (whole.1 ∙ count) (one_more c.run_crew-desk.new.first.number c.run_crew-desk.new.first.seen c.meet.new.desk.seen run.met.number c.meet.ensures.met.mine run.met.meets)
    worked looked (λ n low high. rests n low (omega (arith, high, count))) in
    let wall = subst (λ (b : BooksView). IsServedWall c.args.common.cat.now b.layout said seen c.close.result) members.books of_books in
    let faults = g.L.Listener.faults c.finish_listener-all.new.ended.listener in
    record {
      never_falls = omega (arith, c.requires.faults, c.into_listener-ended.ensures.never_falls, left.never_falls);
      ends = (elim c.finish_listener-all.result as (λ (b : Bool). c.finish_listener-all.result ≡ b → BooksEnd c.args.common.cat.now c.args.opened.books.layout said seen c.of-2.result) [
        | true ↦ λ is. subst (λ (o : BooksOutcome). BooksEnd c.args.common.cat.now c.args.opened.books.layout said seen o) (sym (c.of-2.ensures.all is)) (
          record {
            handed = left.spent is
                ∙ (ap (λ (n : ℕ). record { port = n; limit = g.N.Named.limit; handed = g.N.Named.limit }) c.requires.port
                ∙ ap (λ (n : ℕ). record { port = said.port; limit = n; handed = n }) c.requires.limit);
            steady = left.steady is ∙ c.requires.faults;
          },
          wall,
        )
        | false ↦ λ is. subst (λ (o : BooksOutcome). BooksEnd c.args.common.cat.now c.args.opened.books.layout said seen o) (sym (c.of-2.ensures.failed is)) (
          record {
            rose = subst (λ (n : ℕ). Rose n faults) c.requires.faults (left.failed is).0;
            port = left.port ∙ c.requires.port;
            limit = left.limit ∙ c.requires.limit;
            fewer = subst (λ (n : ℕ). view.handed < n) c.requires.limit (left.failed is).1;
          },
          wall,
        )
      ]) refl;
    }

-- the first member serves, so it has a clock
pub unwrap-requires : goal.unwrap-requires
unwrap-requires g c =
    let said = c.args.common.said in
    let members = c.crew_of-crew.ensures in
    let books = c.crew_of-crew.new.opened.books in
    let run = c.run_crew-desk.ensures.run in
    let hands : Handing = IsGiven g.N.Named.gives in
    let seen : Left = record {
      faults_before = 0;
      before = g.L.Listener.told c.args.devices.listener;
      clocks = map g.C.Clock.told c.args.devices.clocks.items;
      asks = Asks g.T.Ticker.ticked c.args.devices.ticker;
      hands = hands;
      faults_after = 0;
      after = g.L.Listener.told c.args.devices.listener;
      watchers = length c.args.watchers.items;
      wall = None;
    } in
    let clocked = has_clock (record {
      told = gated g.C.Clock.told;
      handed = _;
      hands = λ s stream sent t. hands stream sent;
      lets_go = λ s left after t. t ≡ s;
      ticked = λ t s answer u. TicksUntil g.T.Ticker.ticked g.N.Named.over t.ticker s answer u.ticker;
    }) seen (λ s stream sent t given. given) c.args.common.cat.now said _ books c.crew_of-crew.result.crew.items _ _
    c.run_crew-desk.new.first c.run_crew-desk.result members.crew members.ready members.count c.requires.workers run in
    subst (λ (o : Option (GatedClock g.row.R.Denot g.row.C.Denot)). IsSome o) (sym (c.into_clock.ensures.clock ∙ clocked.1)) refl

-- all members have given what they had
pub into_listener-ended-requires : goal.into_listener-ended-requires
into_listener-ended-requires g c =
    let said = c.args.common.said in
    let members = c.crew_of-crew.ensures in
    let books = c.crew_of-crew.new.opened.books in
    let run = c.run_crew-desk.ensures.run in
    let hands : Handing = IsGiven g.N.Named.gives in
    let seen : Left = record {
      faults_before = 0;
      before = g.L.Listener.told c.args.devices.listener;
      clocks = map g.C.Clock.told c.args.devices.clocks.items;
      asks = Asks g.T.Ticker.ticked c.args.devices.ticker;
      hands = hands;
      faults_after = 0;
      after = g.L.Listener.told c.args.devices.listener;
      watchers = length c.args.watchers.items;
      wall = None;
    } in
    let parts = all_parts (record {
      told = gated g.C.Clock.told;
      handed = _;
      hands = λ s stream sent t. hands stream sent;
      lets_go = λ s left after t. t ≡ s;
      ticked = λ t s answer u. TicksUntil g.T.Ticker.ticked g.N.Named.over t.ticker s answer u.ticker;
    }) seen (λ s stream sent t given. given) c.args.common.cat.now said _ books c.crew_of-crew.result.crew.items _ _
    c.run_crew-desk.new.first c.run_crew-desk.result members.crew members.ready members.count c.requires.workers run
    c.into_clock.new.all.parts members.parts c.into_clock.ensures.parts in
    record { whole = omega (arith, parts, c.requires.parts, c.requires.one_each) }
