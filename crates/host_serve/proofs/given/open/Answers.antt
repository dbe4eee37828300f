use Rattle.std.proofs.Common.{List, ap, sym, subst}
use Rattle.std.proofs.lemmas.Result.{IfOk-weaker}
use Rattle.history_model.specs.Booking.{Layout}
use Rattle.history_model.specs.declared.entry.Entry.{Entry}
use Rattle.worker_pool.specs.Crews.{OnlyMet}
use Rattle.host_serve.proofs.given.open.Goals as goal

pub returns-clause-books : goal.returns-clause-books
returns-clause-books g c = IfOk-weaker c.load_books.result _ _ (λ t x. (x.0, x.1, x.2.layout)) c.load_books.ensures.ok

pub returns-clause-has : goal.returns-clause-has
returns-clause-has g c = IfOk-weaker c.load_books.result _ _
    (λ t x. record { legs = ap (λ (l : Layout). l.legs) x.2.layout; rows = ap (λ (l : Layout). l.rows) x.2.layout }) c.load_books.ensures.ok

pub returns-clause-opening : goal.returns-clause-opening
returns-clause-opening g c = IfOk-weaker c.load_books.result _ _ (λ t x. x.2.succeeded) c.load_books.ensures.ok

pub returns-clause-first : goal.returns-clause-first
returns-clause-first g c = IfOk-weaker c.load_books.result _ _ (λ t x. record {
  own = x.2.own;
  tidy = x.2.tidy;
  number = x.2.new.number;
  parted = x.2.new.parted;
  joined = x.2.new.joined;
  meets = subst (λ (es : List Entry). OnlyMet es) (sym x.2.new.seen) tt;
}) c.load_books.ensures.ok
