use Rattle.settle_report.specs.Steps.{AreAccounts}
use Rattle.settle_report.proofs.table.read_accounts.Given as goal

abbrev pub invariant-loop-row : goal.invariant-loop-row
invariant-loop-row l = AreAccounts l.wall l.row l.accounts
