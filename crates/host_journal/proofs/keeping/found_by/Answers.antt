use Rattle.std.proofs.Common.{List, ℕ, refl, subst}
use Rattle.std.proofs.lemmas.Result.{IfErr-weaker, IfOk-weaker}
use Rattle.std.specs.Prelude.{IfSome}
use Rattle.rail_io.specs.Journals.{Opens}
use Rattle.rail_io.specs.declared.journal.JournalOpened.{JournalOpened}
use Rattle.host_catalogue.specs.Opening.{export_name}
use Rattle.host_journal.specs.Left.{IsShutOut, LeavesIn}
use Rattle.host_journal.proofs.Left.{left_from, left_in, not_left_from, not_left_in, too_large}
use Rattle.host_journal.proofs.keeping.found_by.Goals as goal

pub returns-in-Text-clause-ok : goal.returns-in-Text-clause-ok
returns-in-Text-clause-ok g c =
    IfOk-weaker c.found_in.result _ _
    (λ found leaves told is. left_in (g.F.Shelf.told c.args.shelf.now) (export_name c.args.from) told c.args.cat.now c.in-Text.text 4_294_967_295 found.opened found.lines
    (subst (λ (o : JournalOpened). IfSome told (λ all. Opens all 4_294_967_295 o)) c.in-Text.is is) leaves.0
    (subst (λ (l : List ℕ). LeavesIn c.args.cat.now l found.opened found.lines) c.as_slice.ensures.value leaves.1)) c.found_in.ensures.ok

pub returns-in-Text-clause-err : goal.returns-in-Text-clause-err
returns-in-Text-clause-err g c =
    IfErr-weaker c.found_in.result _ _
    (λ fault not told is. not_left_in (g.F.Shelf.told c.args.shelf.now) (export_name c.args.from) told c.args.cat.now c.in-Text.text 4_294_967_295 fault
    (subst (λ (o : JournalOpened). IfSome told (λ all. Opens all 4_294_967_295 o)) c.in-Text.is is)
    (subst (λ (l : List ℕ). IsShutOut c.args.cat.now (export_name c.args.from) l fault) c.as_slice.ensures.value not)) c.found_in.ensures.err

pub returns-in-TooLarge-clause-err : goal.returns-in-TooLarge-clause-err
returns-in-TooLarge-clause-err g c told is =
    too_large (g.F.Shelf.told c.args.shelf.now) (export_name c.args.from) told c.args.cat.now 4_294_967_295 refl
    (subst (λ (o : JournalOpened). IfSome told (λ all. Opens all 4_294_967_295 o)) c.in-TooLarge.is is)
