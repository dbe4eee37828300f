use Rattle.std.proofs.Common.{sym, subst}
use Rattle.host_catalogue.specs.Opening.{IsNotImported}
use Rattle.host_catalogue.specs.declared.file.LoadFault.{LoadFault}
use Rattle.host_catalogue.proofs.Opened.{err_is, not_imported}
use Rattle.host_catalogue.proofs.opening.import.Goals as goal

pub returns-in_err-import_text-clause-err : goal.returns-in_err-import_text-clause-err
returns-in_err-import_text-clause-err c =
    let cat = c.args.catalogue.now in
    let cause = c.in_err-import_text.field-0.0 in
    err_is c.from_residual.result (λ fault same.
    subst (λ (f : LoadFault). IsNotImported cat c.args.text.now f) (sym same) (not_imported cat c.args.text.now cause c.in_err-import_text.ensures.err))
    c.from_residual.ensures.1
