use Rattle.std.proofs.Common.{◌==◌, sym, ap, ◌∙◌, subst}
use prog.Atomic.{either}
use Rattle.claim_rule.specs.Rule.{Added, BooksView, Found}
use Rattle.claim_rule.proofs.Adds.{adds_at}
use Rattle.claim_rule.proofs.books.Books.exchange_as.Goals as goal
use Rattle.history_model.specs.Booking.{Layout}
use Rattle.history_model.specs.Words.{index, word_count}
use Rattle.history_model.specs.declared.word.Word.{Word}

pub compare_exchange-requires : goal.compare_exchange-requires
compare_exchange-requires g c =
    let o = c.requires.own in
    let is = c.self.view_is in
    let t = c.self.inside.table.shared in
    let s = c.args.seat.now in
    let key = ap (λ (b : BooksView). b.layout) is ∙ o.1 in
    let a = adds_at g.N.Says.layout t.key c.args.at c.number_of-word.result t.table_id.words (λ n. either (n == c.args.old) c.args.new n) (g.N.Says.step) (λ n w. Added g.N.Says.layout (g.N.Says.step n) s.me.0 w × Found g.N.Says.layout g.N.Says.word n s.me.0 w) t.table_id.slots s.id s.me.0 s.me.1 key (c.self.invariant.2 ∙ ap word_count key)
    c.requires.word (c.number_of-word.ensures ∙ ap (λ (l : Layout). index l c.args.at) o.1) o.2 (λ n w more found. (more, subst (λ (x : Word). Found g.N.Says.layout x n s.me.0 w) c.requires.at found)) c.requires.step in
    (o.0 ∙ sym (ap (λ (b : BooksView). b.table) is), a.0, a.1)
