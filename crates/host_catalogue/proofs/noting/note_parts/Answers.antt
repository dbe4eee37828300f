use Rattle.std.proofs.Common.{◌≡◌, ℕ, ◌++◌, subst, refl, false}
use Rattle.rail_io.specs.Faults.{Rose}
use Rattle.host_catalogue.specs.Notes.{place_text}
use Rattle.host_catalogue.proofs.Written.{noted, writes_two}
use Rattle.host_catalogue.proofs.noting.note_parts.Goals as goal

pub returns-clause-noted : goal.returns-clause-noted
returns-clause-noted g c =
    let front = c.args.text.front.now in
    let rest = place_text c.args.text.place ++ c.args.text.end.now in
    let end = c.write_end-whole.result in
    let first = c.if-not-write_all.ensures in
    let start = g.E.Sink.faults c.args.notes.now in
    let last = g.E.Sink.faults c.write_end-whole.new.sink in
    let same : g.E.Sink.faults c.write_all.new.sink ≡ start = first.steady refl in
    noted (g.E.Sink.told c.args.notes.now) (g.E.Sink.told c.write_end-whole.new.sink) start last (front ++ rest) end
    (writes_two (g.E.Sink.told c.args.notes.now) (g.E.Sink.told c.write_all.new.sink) (g.E.Sink.told c.write_end-whole.new.sink) front rest end
    first.writes c.write_end-whole.ensures.writes)
    (λ failed. subst (λ (n : ℕ). Rose n last) same (c.write_end-whole.ensures.cause failed))
