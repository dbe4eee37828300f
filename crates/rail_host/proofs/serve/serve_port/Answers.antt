use Rattle.std.proofs.Common.{◌⊎◌, ℕ, List, None, inl, inr, refl, replicate, subst}
use Rattle.host_words.specs.Limits.{clock_count}
use Rattle.host_words.specs.Options.{words_texts}
use Rattle.host_serve.specs.Kept.{EndsAlone, EndsKept}
use Rattle.host_serve.specs.Serve.{left_by, some_count}
use Rattle.host_serve.specs.Turns.{Asks, Readings}
use Rattle.rail_host.specs.Commands.{scene}
use Rattle.plain_commands.specs.Devices.{Devices}
use Rattle.rail_host.proofs.Alone.{alone, unclocked}
use Rattle.rail_host.proofs.Untold.{untold}
use Rattle.rail_host.proofs.serve.serve_port.Goals as goal

-- there was no memory for the clocks
pub returns-in_default-clause-ended : goal.returns-in_default-clause-ended
returns-in_default-clause-ended g c =
    inl (unclocked _ _ _ _ c.end_command.ensures.status refl c.requires.fresh refl (record {
      between = g.E.Sink.told c.args.devices.now.notes;
      count = g.E.Sink.faults c.args.devices.now.notes;
      text = record { same = refl; steady = refl };
      note = c.end_command.ensures.noted;
    }) refl refl refl)

pub returns-clause-ended : goal.returns-clause-ended
returns-clause-ended g c =
    let e = c.serve_kept.ensures in
    let words = words_texts c.args.words.now in
    let status = c.serve_kept.result.status in
    let journal = g.J.Journal.told c.args.given.keeping.journal in
    let left = λ (clocks : List Readings) (n : ℕ). record
    (left_by g.L.Listener.told g.L.Listener.faults g.L.Listener.becomes g.L.Listener.hands clocks
    (Asks g.T.Ticker.ticked c.args.given.ticker) c.args.given.listener c.serve_kept.result.listener c.serve_kept.result.wall)
    { watchers = n } in
    let looked = some_count c.findings_of.result in
    let watch = some_count c.args.given.counters in
    let d : Devices _ _ _ _ = record {
      shelf = record {
        told = g.F.Shelf.told;
        faults = g.F.Shelf.faults;
        misses = g.F.Shelf.misses;
        old = c.args.devices.now.shelf;
        new = c.serve_kept.new.shelf;
      };
      input = record {
        told = g.S.Source.told;
        faults = g.S.Source.faults;
        old = c.args.devices.now.input;
        new = c.args.devices.now.input;
      };
      output = record {
        told = g.K.Sink.told;
        faults = g.K.Sink.faults;
        old = c.args.devices.now.output;
        new = c.args.devices.now.output;
      };
      notes = record {
        told = g.E.Sink.told;
        faults = g.E.Sink.faults;
        old = c.args.devices.now.notes;
        new = c.serve_kept.new.notes;
      };
    } in
    let with_looks = subst (λ (clocks : List Readings). EndsAlone (scene words (left clocks looked) d) status ⊎ EndsKept (scene words (left clocks looked) d) journal status)
    (untold (λ clock. None) (λ clock. refl) _ clock_count c.in-Ok.ensures) e.ended in
    let none = replicate clock_count None in
    let ended = subst (λ (n : ℕ). EndsAlone (scene words (left none n) d) status ⊎ EndsKept (scene words (left none n) d) journal status)
    c.findings_of.ensures with_looks in
    elim ended [
      | inl alone_so ↦ inl (alone words (left (replicate clock_count None) watch) status d alone_so e.never_falls e.files
          (λ two. record { unfetched = e.nothing_fetched two; unread = refl; unwritten = refl }) refl refl)
      | inr kept ↦ inr (record { kept = kept; never_falls = e.never_falls; same = e.files; unread = refl; unwritten = refl })
    ]

pub returns-clause-refused : goal.returns-clause-refused
returns-clause-refused g c two = c.serve_kept.ensures.words two
