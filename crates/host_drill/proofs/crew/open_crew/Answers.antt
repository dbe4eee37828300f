use Rattle.std.proofs.Common.{◌∙◌, ◌+◌, ◌∷◌, [], ℕ, List, length, sym, subst, ap}
use Rattle.std.proofs.lemmas.List.{length-append}
use Rattle.host_drill.specs.Meeting.{EachAt}
use Rattle.host_drill.proofs.Meetings.{first_parts}
use Rattle.host_drill.proofs.Workers.{each_push}
use Rattle.host_drill.specs.declared.connection.Connection.{Connection}
use Rattle.host_drill.specs.Connections.{IsReady}
use Rattle.host_drill.proofs.Serving.{ready_new}
use Rattle.host_drill.proofs.crew.open_crew.Goals as goal

pub returns-in_err-push-clause-idle : goal.returns-in_err-push-clause-idle
returns-in_err-push-clause-idle c = c.open_connection.ensures.idle.0 c.loop-worker.invariant.idle

pub loop-worker-preserved : goal.loop-worker-preserved
loop-worker-preserved c =
    let said = c.args.said in
    let inv = c.loop-worker.invariant in
    let crew = c.loop-worker.crew.items in
    let opened = c.open_connection.ensures in
    let connection = c.open_connection.result in
    let items = c.in_ok-push.ensures.items in
    let one : IsReady c.args.books.now said.seed said.size c.loop-worker.worker connection =
    ready_new c.args.books.now said.seed said.size c.loop-worker.worker c.loop-worker.desk c.open_connection.new.desk connection inv.first opened.own.1 opened.idle.1
    opened.same.2 opened.number opened.none opened.joined (opened.requests ∙ c.in_ok-requests.ensures) opened.fresh opened.clock in
    record {
      own = opened.own.0;
      idle = opened.idle.0 inv.idle;
      count = ap length items ∙ (length-append crew (connection ∷ []) ∙ ap (λ (n : ℕ). n + 1) inv.count);
      first = first_parts c.loop-worker.desk c.open_connection.new.desk c.loop-worker.worker inv.first opened.same.0 opened.same.2 opened.met;
      ready = subst (λ (l : List Connection). EachAt (IsReady c.args.books.now said.seed said.size) l) (sym items)
          (each_push (IsReady c.args.books.now said.seed said.size) crew connection inv.ready
          (subst (λ (n : ℕ). IsReady c.args.books.now said.seed said.size n connection) (sym inv.count) one));
    }
