use Rattle.std.proofs.Common.{◌≡◌, ℕ, ◌∙◌, List, Option, length, map, subst}
use mathlib.Core.Logic.{∥∥₁_map}
use Rattle.rail_service.proofs.Handing.{behind_a_call}
use Rattle.host_serve.specs.Serve.{BooksEnd, Left}
use Rattle.host_serve.specs.Turns.{Asks, HandedBy}
use Rattle.host_serve.proofs.Alone.{listens_of}
use Rattle.host_serve.proofs.Worded.{books_end}
use Rattle.host_serve.proofs.listening.listen_and_serve.Goals as goal

pub returns-clause-ends : goal.returns-clause-ends
returns-clause-ends g c =
    let left : Left = record {
      faults_before = g.L.Listener.faults c.args.devices.listener;
      before = g.L.Listener.told c.args.devices.listener;
      clocks = map g.C.Clock.told c.args.devices.clocks.items;
      asks = Asks g.T.Ticker.ticked c.args.devices.ticker;
      hands = HandedBy g.L.Listener.becomes g.L.Listener.hands c.args.devices.listener;
      faults_after = g.L.Listener.faults c.run_books-outcome.result.listener;
      after = g.L.Listener.told c.run_books-outcome.result.listener;
      watchers = length c.args.watchers.items;
      wall = c.run_books-outcome.result.wall;
    } in
    let becomes = g.L.Listener.becomes in
    let hands = g.L.Listener.hands in
    let goes : (stream sent : Option (List ℕ)) → HandedBy becomes hands c.bind.new.self stream sent → HandedBy becomes hands c.args.devices.listener stream sent =
    λ stream sent given. ∥∥₁_map given (λ on. behind_a_call becomes hands c.args.devices.listener c.set_limit.new.self c.set_limit.ensures.becomes stream sent
    (behind_a_call becomes hands c.set_limit.new.self c.bind.new.self c.bind.ensures.becomes stream sent on)) in
    let steady : g.L.Listener.faults c.bind.new.self ≡ g.L.Listener.faults c.args.devices.listener =
    c.bind.ensures.steady c.in_default.not-Failed ∙ c.set_limit.ensures.faults in
    let cat = c.args.common.cat.now in
    let plan = c.args.opened.books.layout in
    let numbers = c.args.common.said in
    let view = g.L.Listener.told c.bind.new.self in
    let began = subst (λ (n : ℕ). BooksEnd cat plan numbers (record left {
      faults_before = n;
      before = view;
      hands = HandedBy becomes hands c.bind.new.self;
    }) c.run_books-outcome.result.outcome) steady c.run_books-outcome.ensures.ends in
    listens_of cat plan numbers left c.run_books-outcome.result.outcome _ c.outcome.ensures
    (books_end (HandedBy becomes hands c.bind.new.self) left.hands goes cat left view plan numbers c.run_books-outcome.result.outcome began)
