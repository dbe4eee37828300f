use Rattle.claim_rule.proofs.Out.{holds_then, endings_then}
use Rattle.availability.proofs.Rows.{counted_then}
use Rattle.availability.proofs.looks.look_at_two.Goals as goal

pub returns-clause-entries : goal.returns-clause-entries
returns-clause-entries c =
    let one = c.look_at_one-first in
    let other = c.look_at_one-second in
    counted_then c.args.desk.now one.new.desk other.new.desk c.args.place 1 1 c.args.parts.now one.result other.result one.ensures.entries other.ensures.entries

pub returns-clause-holds : goal.returns-clause-holds
returns-clause-holds c =
    let one = c.look_at_one-first in
    let other = c.look_at_one-second in
    holds_then c.args.desk.now one.new.desk other.new.desk one.ensures.holds other.ensures.holds

pub returns-clause-endings : goal.returns-clause-endings
returns-clause-endings c =
    let one = c.look_at_one-first in
    let other = c.look_at_one-second in
    endings_then c.args.desk.now one.new.desk other.new.desk one.ensures.endings other.ensures.endings
