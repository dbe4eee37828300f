use Rattle.std.proofs.Common.{◌≡◌, ◌∙◌, ℕ, List, Option, None, Some, ap, refl, subst, sym, arith}
use Rattle.std.specs.Prelude.{MatchOption}
use Rattle.host_words.specs.Options.{words_texts}
use Rattle.host_words.specs.Said.{said_in}
use Rattle.host_serve.specs.Kept.{EndsAlone, EndsKept, IsNotSaid, Scene, WritesKept}
use Rattle.host_serve.specs.Serve.{IsNoServe, Left, heard, left_of}
use Rattle.host_serve.specs.Telling.{Noting}
use Rattle.host_journal.specs.declared.end.KeptOutcome.{KeptOutcome}
use Rattle.host_journal.specs.declared.end.ServeOutcome.TheVariants.{NoMemory, Refused}
use Rattle.host_serve.proofs.Alone.{chosen, ended_alone, match_so, match_to, maybe, never_kept, never_refused, refused_said, unnamed, unread, unserved, was_refused}
use Rattle.host_serve.proofs.kept.serve_kept.Goals as goal

-- a journal that isn't missing has a name
a_name : (journal : Option (List ℕ)) → (journal ≡ None → ⊥) → (name : List ℕ) × (journal ≡ Some name)
a_name None not = absurd (not refl)
a_name (Some name) not = (name, refl)

pub returns-clause-ended : goal.returns-clause-ended
returns-clause-ended g c =
    let run = c.serve-outcome in
    let hear = heard g.L.Listener.told g.L.Listener.faults g.L.Listener.becomes g.L.Listener.hands in
    let left : Left = left_of hear g.C.Clock.told g.T.Ticker.ticked c.args.devices c.serve-outcome.result.listener c.serve-outcome.result.wall in
    let said = said_in c.in-Ok.said in
    let is = c.in-Ok.ensures.ok in
    let did = c.end_run-status.ensures in
    let notes : Noting = record {
      before = g.E.Sink.told c.args.notes.now;
      failed = g.E.Sink.faults c.args.notes.now;
      after = g.E.Sink.told c.end_run-status.new.notes;
      fails = g.E.Sink.faults c.end_run-status.new.notes;
    } in
    let scene : Scene = record {
      words = words_texts c.args.words.now;
      files = g.F.Shelf.told c.args.shelf.now;
      failed = g.F.Shelf.faults c.args.shelf.now;
      fails = g.F.Shelf.faults run.new.shelf;
      missed = g.F.Shelf.misses c.args.shelf.now;
      misses = g.F.Shelf.misses run.new.shelf;
      left = left;
      notes = notes;
    } in
    let m : Noting = record { before = notes.before; failed = notes.failed; after = did.1; fails = did.2 } in
    chosen c.args.keeping said.journal (EndsAlone scene c.end_run-status.result) (λ k. EndsKept scene (g.J.Journal.told k.journal) c.end_run-status.result)
    (λ none.
    let alone = run.ensures.alone none in
    ended_alone scene c.end_run-status.result did.0 did.1 did.2 did.4 did.5 did.6 said (record { command = is.command; is = is.is; alone = none })
    alone.0 alone.2 alone.3 alone.4
    (subst (λ (o : KeptOutcome). WritesKept said.export left.wall m o did.0) alone.1 did.3))
    (λ name named. match_so c.args.keeping _ _ _ _
    (λ refused. refused_said scene c.end_run-status.result did.0 did.1 did.2 did.4 did.5 did.6 said is name named
    (ap g.L.Listener.told refused.1) (ap g.L.Listener.faults refused.1) refused.2 (ap g.F.Shelf.faults refused.3)
    (subst (λ (o : KeptOutcome). WritesKept said.export left.wall m o did.0) refused.0 did.3))
    (λ k served. record {
      said = said;
      name = name;
      words_are = record { command = is.command; is = is.is; journal = named };
      served = run.result.outcome;
      ends = served.0;
      outcome = did.0;
      between = did.1;
      count = did.2;
      export = did.3;
      note = did.4;
      is = did.5;
      cause = served.1;
    })
    (run.ensures.kept name named))

pub returns-clause-words : goal.returns-clause-words
returns-clause-words g c two =
    let run = c.serve-outcome in
    let hear = heard g.L.Listener.told g.L.Listener.faults g.L.Listener.becomes g.L.Listener.hands in
    let left : Left = left_of hear g.C.Clock.told g.T.Ticker.ticked c.args.devices c.serve-outcome.result.listener c.serve-outcome.result.wall in
    let said = said_in c.in-Ok.said in
    let is = c.in-Ok.ensures.ok in
    let did = c.end_run-status.ensures in
    let was = was_refused said.export left.wall _ run.result.outcome did.0 did.3 (sym did.5 ∙ two) in
    let named : (name : List ℕ) × (said.journal ≡ Some name) = a_name said.journal (λ none. let alone = run.ensures.alone none in
    never_refused (g.F.Shelf.told c.args.shelf.now) said left run.result.outcome alone.0 was alone.1 alone.2) in
    match_so c.args.keeping _ (IsNoServe (words_texts c.args.words.now)) _ (λ _. IsNotSaid (words_texts c.args.words.now))
    (λ refused. unnamed (words_texts c.args.words.now) said named.0 is named.1)
    (λ k served. absurd (never_kept (g.F.Shelf.told c.args.shelf.now) said _ _ run.result.outcome was served.0))
    (run.ensures.kept named.0 named.1)

pub returns-clause-refused_wall : goal.returns-clause-refused_wall
returns-clause-refused_wall g c two =
    let run = c.serve-outcome in
    let hear = heard g.L.Listener.told g.L.Listener.faults g.L.Listener.becomes g.L.Listener.hands in
    let left : Left = left_of hear g.C.Clock.told g.T.Ticker.ticked c.args.devices c.serve-outcome.result.listener c.serve-outcome.result.wall in
    let said = said_in c.in-Ok.said in
    let is = c.in-Ok.ensures.ok in
    let did = c.end_run-status.ensures in
    let was = was_refused said.export left.wall _ run.result.outcome did.0 did.3 (sym did.5 ∙ two) in
    let named : (name : List ℕ) × (said.journal ≡ Some name) = a_name said.journal (λ none. let alone = run.ensures.alone none in
    never_refused (g.F.Shelf.told c.args.shelf.now) said left run.result.outcome alone.0 was alone.1 alone.2) in
    match_to c.args.keeping _ _ _ (λ refused. refused.2)
    (λ k served. absurd (never_kept (g.F.Shelf.told c.args.shelf.now) said _ _ run.result.outcome was served.0))
    (run.ensures.kept named.0 named.1)

pub returns-clause-nothing_fetched : goal.returns-clause-nothing_fetched
returns-clause-nothing_fetched g c two =
    let run = c.serve-outcome in
    let hear = heard g.L.Listener.told g.L.Listener.faults g.L.Listener.becomes g.L.Listener.hands in
    let left : Left = left_of hear g.C.Clock.told g.T.Ticker.ticked c.args.devices c.serve-outcome.result.listener c.serve-outcome.result.wall in
    let said = said_in c.in-Ok.said in
    let is = c.in-Ok.ensures.ok in
    let did = c.end_run-status.ensures in
    let was = was_refused said.export left.wall _ run.result.outcome did.0 did.3 (sym did.5 ∙ two) in
    let named : (name : List ℕ) × (said.journal ≡ Some name) = a_name said.journal (λ none. let alone = run.ensures.alone none in
    never_refused (g.F.Shelf.told c.args.shelf.now) said left run.result.outcome alone.0 was alone.1 alone.2) in
    match_to c.args.keeping _ _ _ (λ refused. refused.3)
    (λ k served. absurd (never_kept (g.F.Shelf.told c.args.shelf.now) said _ _ run.result.outcome was served.0))
    (run.ensures.kept named.0 named.1)

pub returns-clause-nothing_heard : goal.returns-clause-nothing_heard
returns-clause-nothing_heard g c two =
    let run = c.serve-outcome in
    let hear = heard g.L.Listener.told g.L.Listener.faults g.L.Listener.becomes g.L.Listener.hands in
    let left : Left = left_of hear g.C.Clock.told g.T.Ticker.ticked c.args.devices c.serve-outcome.result.listener c.serve-outcome.result.wall in
    let said = said_in c.in-Ok.said in
    let is = c.in-Ok.ensures.ok in
    let did = c.end_run-status.ensures in
    let was = was_refused said.export left.wall _ run.result.outcome did.0 did.3 (sym did.5 ∙ two) in
    let named : (name : List ℕ) × (said.journal ≡ Some name) = a_name said.journal (λ none. let alone = run.ensures.alone none in
    never_refused (g.F.Shelf.told c.args.shelf.now) said left run.result.outcome alone.0 was alone.1 alone.2) in
    match_to c.args.keeping _ _ _ (λ refused. refused.1)
    (λ k served. absurd (never_kept (g.F.Shelf.told c.args.shelf.now) said _ _ run.result.outcome was served.0))
    (run.ensures.kept named.0 named.1)

pub returns-in-Err-NoMemory-clause-ended : goal.returns-in-Err-NoMemory-clause-ended
returns-in-Err-NoMemory-clause-ended g c =
    let hear = heard g.L.Listener.told g.L.Listener.faults g.L.Listener.becomes g.L.Listener.hands in
    let left : Left = left_of hear g.C.Clock.told g.T.Ticker.ticked c.args.devices c.end_unread.result.listener c.end_unread.result.wall in
    let notes : Noting = record {
      before = g.E.Sink.told c.args.notes.now;
      failed = g.E.Sink.faults c.args.notes.now;
      after = g.E.Sink.told c.end_unread.new.notes;
      fails = g.E.Sink.faults c.end_unread.new.notes;
    } in
    let scene : Scene = record {
      words = words_texts c.args.words.now;
      files = g.F.Shelf.told c.args.shelf.now;
      failed = g.F.Shelf.faults c.args.shelf.now;
      fails = g.F.Shelf.faults c.args.shelf.now;
      missed = g.F.Shelf.misses c.args.shelf.now;
      misses = g.F.Shelf.misses c.args.shelf.now;
      left = left;
      notes = notes;
    } in
    let did = c.end_unread.ensures in
    maybe c.args.keeping (EndsAlone scene c.end_unread.result.status) _
    (unread scene c.end_unread.result.status NoMemory did.status
    (did.wall, ap (λ l. (g.L.Listener.told l).handed) did.listener ∙ c.requires.fresh, ap g.L.Listener.faults did.listener)
    (record { same = refl; steady = refl }) did.noted did.later refl)

pub returns-in-Err-NoMemory-clause-words : goal.returns-in-Err-NoMemory-clause-words
returns-in-Err-NoMemory-clause-words g c two = (let is = c.end_unread.ensures.status in absurd (omega (arith, is, two)))

pub returns-in-Err-Refused-clause-ended : goal.returns-in-Err-Refused-clause-ended
returns-in-Err-Refused-clause-ended g c =
    let hear = heard g.L.Listener.told g.L.Listener.faults g.L.Listener.becomes g.L.Listener.hands in
    let left : Left = left_of hear g.C.Clock.told g.T.Ticker.ticked c.args.devices c.end_unread-in-Err-Refused.result.listener c.end_unread-in-Err-Refused.result.wall in
    let notes : Noting = record {
      before = g.E.Sink.told c.args.notes.now;
      failed = g.E.Sink.faults c.args.notes.now;
      after = g.E.Sink.told c.end_unread-in-Err-Refused.new.notes;
      fails = g.E.Sink.faults c.end_unread-in-Err-Refused.new.notes;
    } in
    let scene : Scene = record {
      words = words_texts c.args.words.now;
      files = g.F.Shelf.told c.args.shelf.now;
      failed = g.F.Shelf.faults c.args.shelf.now;
      fails = g.F.Shelf.faults c.args.shelf.now;
      missed = g.F.Shelf.misses c.args.shelf.now;
      misses = g.F.Shelf.misses c.args.shelf.now;
      left = left;
      notes = notes;
    } in
    let did = c.end_unread-in-Err-Refused.ensures in
    let unsaid = c.in-Err-Refused.ensures.refused c.in-Err-Refused.field-0-is in
    maybe c.args.keeping (EndsAlone scene c.end_unread-in-Err-Refused.result.status) _
    (unread scene c.end_unread-in-Err-Refused.result.status Refused did.status
    (unserved scene.words unsaid, ap g.L.Listener.told did.listener, ap g.L.Listener.faults did.listener, did.wall)
    (record { same = refl; steady = refl }) did.noted did.later refl)

pub returns-in-Err-Refused-clause-words : goal.returns-in-Err-Refused-clause-words
returns-in-Err-Refused-clause-words g c two =
    let unsaid = c.in-Err-Refused.ensures.refused c.in-Err-Refused.field-0-is in
    both c.args.keeping unsaid
  where
    both : {K : Type 0} (keeping : Option K) → IsNotSaid (words_texts c.args.words.now)
        → MatchOption keeping (IsNoServe (words_texts c.args.words.now)) (λ _. IsNotSaid (words_texts c.args.words.now))
    both None not = unserved (words_texts c.args.words.now) not
    both (Some k) not = not
