use Rattle.std.proofs.Common.{◌≡◌, ℕ, ◌+◌, ◌*◌, ◌<◌, length, sym, ap, ◌∙◌, arith}
use Rattle.claim_rule.specs.Rule.{DeskView, BooksView}
use Rattle.claim_rule.proofs.Telling.{tells}
use Rattle.claim_rule.proofs.books.Books.tell.Goals as goal

some_words : (w n r : ℕ) → w ≡ 2 * n + 64 * r → 0 < n → 0 < w
some_words w n r e l = omega arith

pub split_seat-seat-requires : goal.split_seat-seat-requires
split_seat-seat-requires c =
    let t = c.self.inside.table.shared in (
      ap (λ (d : DeskView). d.table) c.desk.view_is ∙ (c.requires.own.table ∙ sym (ap (λ (b : BooksView). b.table) c.self.view_is)),
      some_words t.table_id.words (length t.key.legs) t.key.rows c.self.invariant.2 c.self.invariant.3,
      tells t.key c.desk.inside.seat.id c.desk.inside.seat.me.0,
    )
