use Rattle.std.proofs.Common.{◌≡◌, ◌∷◌, ◌++◌, [], length, rules}
use Rattle.host_drill.proofs.Taking.{last_done, not_first, takes_none, takes_one}
use Rattle.host_drill.proofs.crew.meet_all.Goals as goal

pub loop-connection-init : goal.loop-connection-init
loop-connection-init c =
    takes_none c.args.books.now c.args.cat.now c.args.said c.args.desk.now c.args.crew.items c.requires.own c.requires.idle c.requires.first c.requires.count c.requires.done

pub meet_one-requires-clause-own : goal.meet_one-requires-clause-own
meet_one-requires-clause-own c =
    let whole : c.loop-connection.left.items ≡ c.pop.new.self.items ++ c.in-Some.connection ∷ [] = search rules in
    let last = last_done c.args.books.now c.args.cat.now c.args.said c.loop-connection.left.items c.pop.new.self.items c.in-Some.connection c.loop-connection.invariant.done whole in
    (c.loop-connection.invariant.of, last.1.of)

pub meet_one-requires-clause-idle : goal.meet_one-requires-clause-idle
meet_one-requires-clause-idle c =
    let whole : c.loop-connection.left.items ≡ c.pop.new.self.items ++ c.in-Some.connection ∷ [] = search rules in
    let last = last_done c.args.books.now c.args.cat.now c.args.said c.loop-connection.left.items c.pop.new.self.items c.in-Some.connection c.loop-connection.invariant.done whole in
    (c.loop-connection.invariant.idle, last.1.idle)

pub meet_one-requires-clause-other : goal.meet_one-requires-clause-other
meet_one-requires-clause-other c =
    let whole : c.loop-connection.left.items ≡ c.pop.new.self.items ++ c.in-Some.connection ∷ [] = search rules in
    let last = last_done c.args.books.now c.args.cat.now c.args.said c.loop-connection.left.items c.pop.new.self.items c.in-Some.connection c.loop-connection.invariant.done whole in
    not_first (length c.pop.new.self.items) c.in-Some.connection.desk.number last.1.number

pub loop-connection-preserved : goal.loop-connection-preserved
loop-connection-preserved c =
    let whole : c.loop-connection.left.items ≡ c.pop.new.self.items ++ c.in-Some.connection ∷ [] = search rules in
    let met = c.in_ok-answers.ensures in
    takes_one c.args.books.now c.args.cat.now c.args.said c.loop-connection.desk c.meet_one.new.desk c.loop-connection.left.items c.pop.new.self.items c.in-Some.connection
    c.loop-connection.answers.refused c.loop-connection.answers.busy c.in_ok-answers.answers.refused c.in_ok-answers.answers.busy c.loop-connection.invariant whole
    met.own met.idle met.met met.done met.refused met.busy met.no_memory
