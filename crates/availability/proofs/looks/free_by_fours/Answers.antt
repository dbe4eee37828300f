use Rattle.std.proofs.Common.{◌≡◌, ◌≤◌, ◌+◌, ◌-◌, ◌*◌, ◌/◌, arith}
use Rattle.claim_rule.proofs.Out.{holds_then, endings_then}
use Rattle.availability.proofs.Rows.{counted_thrice}
use Rattle.availability.proofs.looks.free_by_fours.Goals as goal

pub returns-clause-entries : goal.returns-clause-entries
returns-clause-entries c =
    let before = c.free_one_by_one-before in
    let between = c.free_fours-between in
    let behind = c.free_one_by_one-behind in
    let first = c.args.first in
    let count = c.args.count in
    let from = (first + 3) / 4 in
    let to = (first + count) / 4 in
    let begun : first ≤ 4 * from = omega arith in
    let within : 4 * to ≤ first + count = omega arith in
    let ordered = c.if-to-from.false in
    let rises : from ≤ to = omega (arith, ordered) in
    let one : 4 * from ≡ first + (4 * from - first) = omega (arith, begun) in
    let two : 4 * to ≡ first + (4 * from - first + 4 * (to - from)) = omega (arith, begun, rises) in
    let all : 4 * from - first + 4 * (to - from) + (first + count - 4 * to) ≡ count = omega (arith, begun, rises, within) in
    counted_thrice c.args.desk.now before.new.desk between.new.desk behind.new.desk first (4 * from - first) (4 * (to - from)) (first + count - 4 * to) (4 * from) (4 * to) count
    c.args.parts.now before.result between.result behind.result one two all before.ensures.entries between.ensures.entries behind.ensures.entries

pub returns-clause-holds : goal.returns-clause-holds
returns-clause-holds c =
    let before = c.free_one_by_one-before in
    let between = c.free_fours-between in
    let behind = c.free_one_by_one-behind in
    holds_then c.args.desk.now before.new.desk behind.new.desk before.ensures.holds
    (holds_then before.new.desk between.new.desk behind.new.desk between.ensures.holds behind.ensures.holds)

pub returns-clause-endings : goal.returns-clause-endings
returns-clause-endings c =
    let before = c.free_one_by_one-before in
    let between = c.free_fours-between in
    let behind = c.free_one_by_one-behind in
    endings_then c.args.desk.now before.new.desk behind.new.desk before.ensures.endings
    (endings_then before.new.desk between.new.desk behind.new.desk between.ensures.endings behind.ensures.endings)
