use Rattle.std.proofs.Common.{bit_and, sym, ap, ◌∙◌}
use Rattle.claim_rule.specs.Rule.{Added, BooksView}
use Rattle.claim_rule.proofs.Adds.{adds_at}
use Rattle.claim_rule.proofs.books.Books.and_as.Goals as goal
use Rattle.history_model.specs.Booking.{Layout}
use Rattle.history_model.specs.Words.{index, word_count}

pub fetch_and-requires : goal.fetch_and-requires
fetch_and-requires g c =
    let o = c.requires.own in
    let is = c.self.view_is in
    let t = c.self.inside.table.shared in
    let s = c.args.seat.now in
    let key = ap (λ (b : BooksView). b.layout) is ∙ o.1 in
    let a = adds_at g.N.Says.layout t.key c.args.at c.number_of-word.result t.table_id.words (λ n. bit_and n c.args.kept) (g.N.Says.step) (λ n w. Added g.N.Says.layout (g.N.Says.step n) s.me.0 w) t.table_id.slots s.id s.me.0 s.me.1 key (c.self.invariant.2 ∙ ap word_count key)
    c.requires.word (c.number_of-word.ensures ∙ ap (λ (l : Layout). index l c.args.at) o.1) o.2 (λ n w more _. more) c.requires.step in
    (o.0 ∙ sym (ap (λ (b : BooksView). b.table) is), a.0, a.1)
