use Rattle.std.proofs.Common.{◌∙◌, cond, arith, ap}
use Rattle.std.specs.Prelude.{pos}
use Rattle.std.proofs.lemmas.Int.{ints}
use Rattle.history_model.specs.Phase.{is_live}
use Rattle.settle_report.specs.declared.account.Account.{Account}
use Rattle.settle_report.specs.declared.account.Sale.{Sale}
use Rattle.settle_report.specs.Accounts.{is_exchanged, is_refunded, is_sold}
use Rattle.settle_report.proofs.AccountFacts.{account_more, few_if}
use Rattle.settle_report.proofs.account.Account.add.Goals as goal

pub returns : goal.returns
returns c = λ kept k old sale.
    let bookings = ap (λ (a : Account). a.bookings) old in
    let live = ap (λ (a : Account). a.live) old in
    let sold = ap (λ (a : Account). a.sold) old in
    let refunded = ap (λ (a : Account). a.refunded) old in
    let exchanged = ap (λ (a : Account). a.exchanged) old in
    let lives = c.live.ensures ∙ ap (λ (s : Sale). cond (is_live s.phase) 1 0) sale in
    let sells = c.sold.ensures ∙ ap (λ (s : Sale). cond (is_sold s.phase) s.total 0) sale in
    let refunds = c.refunded.ensures ∙ ap (λ (s : Sale). cond (is_refunded s.phase) s.amount (pos 0)) sale in
    let exchanges = c.exchanged.ensures ∙ ap (λ (s : Sale). cond (is_exchanged s.phase) s.amount (pos 0)) sale in
    let count = c.requires.room.1 in
    let before = c.requires.room.2.refunded in
    let plus = few_if (is_refunded c.args.sale.phase) c.refunded.result c.args.sale.amount c.refunded.ensures c.requires.sale.amount in
    let before2 = c.requires.room.2.exchanged in
    let plus2 = few_if (is_exchanged c.args.sale.phase) c.exchanged.result c.args.sale.amount c.exchanged.ensures c.requires.sale.amount in
    account_more _ kept k (omega (arith, bookings)) (omega (arith, live, lives)) (omega (arith, sold, sells))
    (omega (arith, ints, refunded, refunds, count, before.0, before.1, plus.0, plus.1))
    (omega (arith, ints, exchanged, exchanges, count, before2.0, before2.1, plus2.0, plus2.1))
