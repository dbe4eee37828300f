use Rattle.std.proofs.Common.{rules, ◌≡◌, ◌≢◌, Bool, true, false, sym, ap, ◌∙◌}
use Rattle.booking_rows.specs.Views.{RowSeen}
use Rattle.offer_codes.specs.Exchanges.{ExchangeView, exchange_view}
use Rattle.refund_core.specs.Quotes.{phase_named}
use Rattle.exchange_core.proofs.Kept.{fine, in_other_phase, is_ready}
use Rattle.exchange_core.proofs.readying.ready_exchange.Goals as goal

pub returns-then-not-is_named-clause-entries : goal.returns-then-not-is_named-clause-entries
returns-then-not-is_named-clause-entries c =
    let amount : c.difference_at.result ≡ c.args.code.now.difference = search rules in
    let other : c.view.inside.phase ≢ phase_named c.args.code.now.fulfilled = λ e. let no : ◌≡◌ {A = Bool} false true = sym c.if-not-is_named.true ∙ c.is_named.ensures.named.1 e in cc in
    in_other_phase c.args.cat.now c.args.books.now.layout.rows c.args.retailer.0 c.args.now (exchange_view c.args.code.now) c.in-Some.view c.view.inside.phase c.args.desk.now c.find_booking.new.desk
    (sym c.is_stale.ensures.stale ∙ c.if-is_stale.false) (sym amount ∙ c.difference_at.ensures.value) (ap (λ (v : RowSeen). v.phase) (sym c.view.view_is)) other c.in-Some.ensures.entries

pub returns-clause-entries : goal.returns-clause-entries
returns-clause-entries c =
    let code = exchange_view c.args.code.now in
    let amount : c.difference_at.result ≡ c.args.code.now.difference = search rules in
    fine c.args.cat.now c.args.books.now.layout.rows c.args.retailer.0 c.args.now code c.in-Some.view (record { code = exchange_view c.copy_of_exchange.result; retailer = c.args.retailer.0; moment = c.args.now })
    c.args.desk.now c.find_booking.new.desk
    (ap (λ (x : ExchangeView). record { code = x; retailer = c.args.retailer.0; moment = c.args.now }) c.copy_of_exchange.ensures.same)
    (sym c.is_stale.ensures.stale ∙ c.if-is_stale.false) (sym amount ∙ c.difference_at.ensures.value) (ap (λ (v : RowSeen). v.phase) (sym c.view.view_is) ∙ c.is_named.ensures.named.0 c.if-not-is_named.false)
    c.in-Some.ensures.entries

pub returns-clause-ready : goal.returns-clause-ready
returns-clause-ready c =
    let code = exchange_view c.args.code.now in
    let amount : c.difference_at.result ≡ c.args.code.now.difference = search rules in
    is_ready c.args.books.now.layout c.find_booking.new.desk code c.args.retailer.0 c.args.now (record { code = exchange_view c.copy_of_exchange.result; retailer = c.args.retailer.0; moment = c.args.now }) c.difference_at.result
    (ap (λ (x : ExchangeView). record { code = x; retailer = c.args.retailer.0; moment = c.args.now }) c.copy_of_exchange.ensures.same)
    c.find_booking.ensures.own.layout c.in-Some.ensures.entries.1.0 c.in-Some.ensures.sealed amount c.difference_at.ensures.least c.difference_at.ensures.most
