use Rattle.std.proofs.Common.{◌∙◌, ap, Option}
use Rattle.leg_masks.specs.Interval.{Interval}
use Rattle.claim_rule.proofs.Out.{holds_then, endings_then}
use Rattle.availability.specs.Looks.{listed}
use Rattle.availability.proofs.Looking.{one_looked, two_looked}
use Rattle.availability.proofs.looks.look_free.Goals as goal

pub returns-in-None-clause-entries : goal.returns-in-None-clause-entries
returns-in-None-clause-entries c =
    let x = c.args.first in
    let alone = c.requires.parts ∙ ap (λ (o : Option Interval). listed x o) c.in-None.is in
    one_looked c.args.desk.now c.look_piece-is_free.new.desk c.args.place c.args._span x c.look_piece-is_free.result alone c.look_piece-is_free.ensures.entries

pub returns-in-Some-clause-entries : goal.returns-in-Some-clause-entries
returns-in-Some-clause-entries c =
    let x = c.args.first in
    let y = c.in-Some.second in
    let two = c.requires.parts ∙ ap (λ (o : Option Interval). listed x o) c.in-Some.is in
    two_looked c.args.desk.now c.look_piece-is_free.new.desk c.look_piece-is_too.new.desk c.args.place c.args._span x y c.look_piece-is_free.result c.look_piece-is_too.result c.both.result two
    c.look_piece-is_free.ensures.entries c.look_piece-is_too.ensures.entries c.both.ensures.both

pub returns-in-Some-clause-holds : goal.returns-in-Some-clause-holds
returns-in-Some-clause-holds c = holds_then c.args.desk.now c.look_piece-is_free.new.desk c.look_piece-is_too.new.desk c.look_piece-is_free.ensures.holds c.look_piece-is_too.ensures.holds

pub returns-in-Some-clause-endings : goal.returns-in-Some-clause-endings
returns-in-Some-clause-endings c = endings_then c.args.desk.now c.look_piece-is_free.new.desk c.look_piece-is_too.new.desk c.look_piece-is_free.ensures.endings c.look_piece-is_too.ensures.endings
