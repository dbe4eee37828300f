use Rattle.std.proofs.Common.{ap, sym, subst, ◌∙◌}
use Rattle.std.specs.Mem.Slots.{slots_items}
use Rattle.claim_rule.specs.declared.chronicle.Story.{Story}
use Rattle.claim_rule.specs.Rule.{BooksView, DeskView}
use Rattle.claim_rule.specs.Walls.{Finishes}
use Rattle.claim_rule.proofs.Finishing.{ends_as, tells, IsToldOf}
use Rattle.claim_rule.proofs.books.Books.finish.Goals as goal

pub recall-requires-clause-told : goal.recall-requires-clause-told
recall-requires-clause-told c =
    let t = c.self.inside.table.shared in
    let ws = slots_items c.close_with-closed.result.words in
    subst (λ (x : BooksView × DeskView). (s : Story) × IsToldOf x.0.layout x.1 ws s) (λ i. (sym c.of-was.ensures i, sym c.of-knew.ensures i))
    (tells c.args.self.layout c.args.desk ws
    (ends_as t.key c.args.self.layout c.desk.inside.seat c.desk.inside.kept c.desk.inside.past ws (slots_items c.close_with-closed.result.slots) c.args.desk c.desk.view_is (ap (λ (b : BooksView). b.layout) c.self.view_is) c.desk.invariant.fresh c.close_with-closed.ensures.values.2))

pub returns-clause-history : goal.returns-clause-history
returns-clause-history c =
    subst (λ (x : BooksView × DeskView). Finishes x.0.layout x.1 (slots_items c.close_with-closed.result.words) c.recall.new.chronicle.view.history) (λ i. (c.of-was.ensures i, c.of-knew.ensures i)) c.recall.ensures.1

pub returns-clause-layout : goal.returns-clause-layout
returns-clause-layout c = c.recall.ensures.0 ∙ ap (λ (b : BooksView). b.layout) c.of-was.ensures
