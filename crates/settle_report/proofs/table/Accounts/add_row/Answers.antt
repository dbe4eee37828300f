use Rattle.std.proofs.Common.{◌∙◌, ℕ, ◌+◌, arith, refl, sym, ap}
use Rattle.std.proofs.lemmas.Result.{on_ok_weaker}
use Rattle.settle_report.proofs.TableFacts.{given_few, has_room, is_fair, no_sale_more, one_sale_more}
use Rattle.settle_report.proofs.table.Accounts.add_row.Goals as goal

pub overflow_add-self : goal.overflow_add-self
overflow_add-self c =
    let few = given_few c.args.wall.now c.args.row c.requires.settled in
    let given = c.requires.below.given in
    let within = c.requires.row in
    let rows = c.requires.settled.rows in
    omega (arith, few, given, within, rows)

pub add_sale-requires-clause-room : goal.add_sale-requires-clause-room
add_sale-requires-clause-room c =
    has_room c.args.wall.now c.args.row c.args.self.now c.in-Some.sale c.requires.settled c.requires.row c.requires.below (sym c.in-Some.is ∙ c.shown_at-shown.ensures.sale)

pub add_sale-requires-clause-sale : goal.add_sale-requires-clause-sale
add_sale-requires-clause-sale c = is_fair c.args.wall.now c.args.row c.in-Some.sale c.requires.settled (sym c.in-Some.is ∙ c.shown_at-shown.ensures.sale)

pub returns-in-Some : goal.returns-in-Some
returns-in-Some c =
    on_ok_weaker c.add_sale.result
    (λ adds. one_sale_more c.args.wall.now c.args.row c.args.self.now _ c.in-Some.sale c.requires.below (sym c.in-Some.is ∙ c.shown_at-shown.ensures.sale) adds
    (ap (λ (m : ℕ). c.args.self.now.given_away + m) (c.from.ensures ∙ c.shown_at-shown.ensures.generation)))
    c.add_sale.ensures

pub returns-in-None : goal.returns-in-None
returns-in-None c =
    no_sale_more c.args.wall.now c.args.row c.args.self.now _ c.requires.below (sym c.shown_at-shown.ensures.sale ∙ c.in-None.is) refl
    (ap (λ (m : ℕ). c.args.self.now.given_away + m) (c.from.ensures ∙ c.shown_at-shown.ensures.generation))
