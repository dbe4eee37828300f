use Rattle.std.proofs.Common.{Result, Ok, Err, IfOk, OnOk, Vec, Global, ℕ, ◌≡◌}
use Rattle.std.specs.declared.alloc.AllocError.{AllocError}
use Rattle.std.specs.BTreeMap.{IsOrdered}
use Rattle.std.specs.Ordering.{nat_cmp}
use Rattle.claim_rule.specs.Walls.{WallView}
use Rattle.settle_report.specs.declared.table.Accounts.{Accounts}
use Rattle.settle_report.specs.Steps.{AreAccounts, text_of}
use Rattle.settle_report.specs.Table.{IsSettlement}
use Rattle.settle_report.proofs.TableFacts.{is_settlement}
use Rattle.settle_report.proofs.table.settlement.Goals as goal

settled : (w : WallView) (a : Accounts) (r : Result (Vec ℕ Global) AllocError) → AreAccounts w w.layout.rows a → IfOk r (λ text. text.items ≡ text_of a)
    → OnOk r (IsOrdered nat_cmp a.by_retailer) → IfOk r (λ text. IsSettlement w text.items)
settled w a (Ok text) are is ordered = is_settlement w a text.items are ordered is
settled w a (Err e) are is ordered = is

pub returns : goal.returns
returns c = settled c.args.wall.now c.in_ok-accounts.accounts c.write_table.result c.in_ok-accounts.ensures c.write_table.ensures.text c.write_table.ensures.ordered
