use Rattle.std.proofs.Common.{[], refl}
use Rattle.host_catalogue.proofs.Opened.{opened_new}
use Rattle.host_journal.proofs.keeping.new_found.Goals as goal

pub returns-clause-opened : goal.returns-clause-opened
returns-clause-opened c =
    let is = c.in_ok-books.ensures in
    opened_new c.args.cat.now c.in_ok-books.books c.in_ok-books.first is.own is.desk is.tidy is.fit is.layout

pub returns-clause-lines : goal.returns-clause-lines
returns-clause-lines c = ([], refl, (c.new.ensures.items, refl))
