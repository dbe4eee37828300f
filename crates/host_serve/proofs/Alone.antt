-- How a run without a journal ended.
use Rattle.std.proofs.Common.{◌≡◌, ◌⊎◌, ◌≤◌, ◌∙◌, ℕ, Bool, true, false, List, Option, Some, None, inl, inr, refl, sym, ap, subst, arith}
use Rattle.std.specs.Prelude.{IfSome, IsSomeAnd, MatchOption}
use Rattle.claim_rule.specs.Walls.{WallView}
use Rattle.claim_rule.specs.Openings.{KeptBooking, layout_with}
use Rattle.history_model.specs.Booking.{Layout}
use Rattle.catalogue_contents.specs.Contents.{CatalogueView, legs_in}
use Rattle.host_words.specs.Serve.{ServeView}
use Rattle.host_words.specs.declared.serve.Serving.{Serving}
use Rattle.host_catalogue.specs.Files.{Files}
use Rattle.host_catalogue.specs.Opening.{HasBooks}
use Rattle.host_catalogue.specs.Ends.{note_of}
use Rattle.host_catalogue.specs.Noted.{IsNoted}
use Rattle.host_journal.specs.Ends.{end_of_kept, end_of_serve, outcome_of_books, status_of_kept, status_of_serve}
use Rattle.host_serve.specs.Kept.{EndsAlone, IsNotSaid, IsSaid, ListensTo, Scene, ServesKept, WritesKept}
use Rattle.host_journal.specs.Causes.{HasShelfCause}
use Rattle.host_serve.specs.Serve.{BooksEnd, Ends, HasWall, IsNoServe, IsServe, IsServedWall, Left, Runs}
use Rattle.host_serve.specs.Telling.{IsBefore, Noting, Tells, WritesExport, cut_short, without_text}
use Rattle.host_journal.specs.declared.end.BooksOutcome.{BooksOutcome}
use Rattle.host_journal.specs.declared.end.BooksOutcome.TheVariants as books
use Rattle.host_journal.specs.declared.end.KeptOutcome.{KeptOutcome}
use Rattle.host_journal.specs.declared.end.KeptOutcome.TheVariants as kept
use Rattle.host_journal.specs.declared.end.ServeOutcome.{ServeOutcome}
use Rattle.host_journal.specs.declared.end.ServeOutcome.TheVariants as end
use Rattle.host_catalogue.specs.declared.journal.JournalRefusal.TheVariants as journal
use Rattle.host_serve.proofs.Ending.{refused_by}
use Rattle.host_serve.proofs.Telling.{exported, runs_so, tells_plain}

-- books that were served ended so were listened for
pub listens_of : (cat : CatalogueView) (plan : Layout) (said : Serving) (left : Left) (o : BooksOutcome) (e : ServeOutcome) → e ≡ outcome_of_books o
    → BooksEnd cat plan said left o → ListensTo cat plan said left e
listens_of cat plan said left o e is ends = subst (λ (f : ServeOutcome). ListensTo cat plan said left f) (sym is) (go o ends)
  where
    go : (p : BooksOutcome) → BooksEnd cat plan said left p → ListensTo cat plan said left (outcome_of_books p)
    go books.Served r = r
    go books.AcceptFailed r = r
    go books.NoMemory r = r

-- the books of the words were listened for, so the words' run ended so
module _ (cat : CatalogueView) (bookings : List KeptBooking) (plan : Layout) (files : Files) (said : ServeView) (left : Left)
    (has_books : HasBooks files said.catalogue said.from cat bookings) (is : plan ≡ layout_with (legs_in cat) cat.rows bookings) where
  wall : IsSomeAnd left.wall (IsServedWall cat plan said.numbers left) → HasWall files said left
  wall has = record {
    cat = cat;
    kept = bookings;
    books = has_books;
    closed = subst (λ (l : Layout). IsSomeAnd left.wall (IsServedWall cat l said.numbers left)) is has;
  }

  pub ends_of : (o : ServeOutcome) → ListensTo cat plan said.numbers left o → Ends files said left o × IsBefore o
  ends_of end.Served r = ((r.0, wall r.1), tt)
  ends_of end.AcceptFailed r = ((r.0, wall r.1), tt)
  ends_of end.NotBound r = ((record { cat = cat; kept = bookings; books = has_books }, r.0, r.1), tt)
  ends_of end.NoMemory r = (r, tt)
  ends_of end.Refused r = absurd r
  ends_of (end.NotLoaded fault) r = absurd r
  ends_of end.NoText r = absurd r
  ends_of end.Unwritten r = absurd r

-- the shelf's count of faults is as it was
pub listened_cause : (cat : CatalogueView) (plan : Layout) (said : Serving) (left : Left) (failed fails missed misses : ℕ) → fails ≡ failed → (o : ServeOutcome)
    → ListensTo cat plan said left o → HasShelfCause o failed fails missed misses
listened_cause cat plan said left failed fails missed misses same end.Served r = same
listened_cause cat plan said left failed fails missed misses same end.AcceptFailed r = same
listened_cause cat plan said left failed fails missed misses same end.NotBound r = same
listened_cause cat plan said left failed fails missed misses same end.NoMemory r = same
listened_cause cat plan said left failed fails missed misses same end.Refused r = absurd r
listened_cause cat plan said left failed fails missed misses same (end.NotLoaded fault) r = absurd r
listened_cause cat plan said left failed fails missed misses same end.NoText r = absurd r
listened_cause cat plan said left failed fails missed misses same end.Unwritten r = absurd r

-- what holds of a served wall holds of the one that is left
some_so : (P Q : WallView → Type 0) (wall : Option WallView) → IsSomeAnd wall Q → ((w : WallView) → Q w → P w) → IfSome wall P
some_so P Q None is so = tt
some_so P Q (Some w) is so = so w is

pub none_so : (P : WallView → Type 0) (wall : Option WallView) → wall ≡ None → IfSome wall P
none_so P wall none = subst (λ (o : Option WallView). IfSome o P) (sym none) tt

pub wall_of : (P : WallView → Type 0) (cat : CatalogueView) (plan : Layout) (said : Serving) (left : Left) (o : ServeOutcome)
    → ListensTo cat plan said left o → ((w : WallView) → IsServedWall cat plan said left w → P w) → IfSome left.wall P
wall_of P cat plan said left end.Served r so = some_so P (IsServedWall cat plan said left) left.wall r.1 so
wall_of P cat plan said left end.AcceptFailed r so = some_so P (IsServedWall cat plan said left) left.wall r.1 so
wall_of P cat plan said left end.NotBound r so = none_so P left.wall r.1
wall_of P cat plan said left end.NoMemory r so = none_so P left.wall r.0
wall_of P cat plan said left end.Refused r so = absurd r
wall_of P cat plan said left (end.NotLoaded fault) r so = absurd r
wall_of P cat plan said left end.NoText r so = absurd r
wall_of P cat plan said left end.Unwritten r so = absurd r

-- words that name a journal aren't words without one
pub unnamed : (words : List (List ℕ)) (said : ServeView) (name : List ℕ) → IsSaid words said → said.journal ≡ Some name → IsNoServe words
unnamed words said name is named other so =
    let one : said ≡ other = (let e : Some said ≡ Some other = sym is.is ∙ so.is in cc) in
    let no : None ≡ Some name = sym so.alone ∙ (sym (ap (λ (v : ServeView). v.journal) one) ∙ named) in
    absurd cc

module _ (s : Scene) (status : ℕ) (outcome : KeptOutcome) (between : Option (List ℕ)) (count : ℕ)
    (note : IsNoted between s.notes.after count s.notes.fails (note_of (end_of_kept outcome)))
    (is_status : status ≡ status_of_kept outcome) (later : count ≤ s.notes.fails) where
  abbrev noting : Noting
  noting = record { before = s.notes.before; failed = s.notes.failed; after = between; fails = count }

  built : (p : ServeOutcome) → Runs s.words s.files s.left p → Tells s.words s.left.wall noting p
      → HasShelfCause p s.failed s.fails s.missed s.misses → outcome ≡ kept.Plain p → EndsAlone s status
  built p runs tells cause same = record {
    outcome = p;
    is = is_status ∙ ap status_of_kept same;
    runs = runs;
    told = record {
      between = between;
      count = count;
      text = tells;
      note = subst (λ (k : KeptOutcome). IsNoted between s.notes.after count s.notes.fails (note_of (end_of_kept k))) same note;
    };
    cause = cause;
    later = later;
  }

  -- the words' run ended, and its export was written, if they ask for it
  pub ended_alone : (said : ServeView) → IsServe s.words said → (o : ServeOutcome) → Ends s.files said s.left o → IsBefore o
      → HasShelfCause o s.failed s.fails s.missed s.misses → WritesKept said.export s.left.wall noting (kept.Plain o) outcome → EndsAlone s status
  ended_alone said is o ends before cause wrote = go said.export refl wrote
    where
      go : (b : Bool) → said.export ≡ b → WritesKept b s.left.wall noting (kept.Plain o) outcome → EndsAlone s status
      go false plain did = built o (runs_so s.words s.files s.left said o is ends) (tells_plain s.words s.left.wall noting o (said, is, plain) did.0 before) cause did.1
      go true asks did =
          let over = exported s.words s.files said noting is asks s.failed s.fails s.missed s.misses s.left o did.0 ends before cause did.1 in
          built did.0 (runs_so s.words s.files s.left said did.0 is over.0) over.1 over.2 did.2

  -- they name a journal, and there is none to have: they are refused
  pub refused_said : (said : ServeView) → IsSaid s.words said → (name : List ℕ) → said.journal ≡ Some name → s.left.after ≡ s.left.before
      → s.left.faults_after ≡ s.left.faults_before → s.left.wall ≡ None → s.fails ≡ s.failed
      → WritesKept said.export s.left.wall noting (kept.Plain end.Refused) outcome → EndsAlone s status
  refused_said said is name named same steady none shelf wrote = go said.export s.left.wall none wrote
    where
      unsaid : IsNoServe s.words
      unsaid = unnamed s.words said name is named

      go : (b : Bool) (wall : Option WallView) → wall ≡ None → WritesKept b wall noting (kept.Plain end.Refused) outcome → EndsAlone s status
      go false wall gone did = built end.Refused (unsaid, same, steady, none) did.0 shelf did.1
      go true None gone did = built end.Refused (unsaid, same, steady, none) did.1.0 shelf (did.2 ∙ ap kept.Plain did.1.1)
      go true (Some w) gone did = absurd cc

-- The words were refused, or there was no memory to read them: nothing was done but the note.
pub unread : (s : Scene) (status : ℕ) (o : ServeOutcome) → status ≡ status_of_serve o → Runs s.words s.files s.left o
    → Tells s.words s.left.wall (record { before = s.notes.before; failed = s.notes.failed; after = s.notes.before; fails = s.notes.failed }) o
    → IsNoted s.notes.before s.notes.after s.notes.failed s.notes.fails (note_of (end_of_serve o)) → s.notes.failed ≤ s.notes.fails
    → HasShelfCause o s.failed s.fails s.missed s.misses → EndsAlone s status
unread s status o is runs tells note later cause = record {
  outcome = o;
  is = is;
  runs = runs;
  told = record { between = s.notes.before; count = s.notes.failed; text = tells; note = note };
  later = later;
  cause = cause;
}

pub maybe : {K : Type 0} (keeping : Option K) (Alone : Type 0) (Kept : K → Type 0) → Alone → MatchOption keeping Alone (λ k. Alone ⊎ Kept k)
maybe None Alone Kept is = is
maybe (Some k) Alone Kept is = inl is

-- an end with a journal stays, whatever was written of the export
pub stays_so : (wall : Option WallView) (n : Noting) (old : KeptOutcome) → ((o : ServeOutcome) → old ≡ kept.Plain o → ⊥) → (new : ServeOutcome)
    → WritesExport wall n end.AcceptFailed new → WritesKept true wall n old old
stays_so wall n (kept.Plain o) not new wrote = absurd (not o refl)
stays_so wall n kept.Locked not new wrote = (new, wrote, refl)
stays_so wall n kept.Exists not new wrote = (new, wrote, refl)
stays_so wall n kept.TooLarge not new wrote = (new, wrote, refl)
stays_so wall n (kept.Refused refusal) not new wrote = (new, wrote, refl)
stays_so wall n kept.Failed not new wrote = (new, wrote, refl)
stays_so wall n kept.Lost not new wrote = (new, wrote, refl)

-- Without a journal in the words a run is one alone, and with one it is one with the journal, where there is one to
-- have.
pub chosen : {K : Type 0} (keeping : Option K) (journal : Option (List ℕ)) (Alone : Type 0) (Kept : K → Type 0) → (journal ≡ None → Alone)
    → ((name : List ℕ) → journal ≡ Some name → MatchOption keeping Alone Kept) → MatchOption keeping Alone (λ k. Alone ⊎ Kept k)
chosen None None Alone Kept none some = none refl
chosen None (Some name) Alone Kept none some = some name refl
chosen (Some k) None Alone Kept none some = inl (none refl)
chosen (Some k) (Some name) Alone Kept none some = inr (some name refl)

-- what holds of a choice goes on
pub match_so : {K : Type 0} (o : Option K) (P A : Type 0) (Q B : K → Type 0) → (P → A) → ((k : K) → Q k → B k) → MatchOption o P Q → MatchOption o A B
match_so None P A Q B f h is = f is
match_so (Some k) P A Q B f h is = h k is

pub match_to : {K : Type 0} (o : Option K) (P A : Type 0) (Q : K → Type 0) → (P → A) → ((k : K) → Q k → A) → MatchOption o P Q → A
match_to None P A Q f h is = f is
match_to (Some k) P A Q f h is = h k is

pub match_some : {K : Type 0} (o : Option K) (k : K) (P : Type 0) (Q : K → Type 0) → o ≡ Some k → Q k → MatchOption o P Q
match_some {K} o k P Q is q = subst (λ (x : Option K). MatchOption x P Q) (sym is) q

-- words that aren't said name no journal either
pub unserved : (words : List (List ℕ)) → IsNotSaid words → IsNoServe words
unserved words not said is = not said (record { command = is.command; is = is.is })

-- an end with status 2 is that of refused words, and so was the run's
without_two : (o : ServeOutcome) → status_of_serve (without_text o) ≡ 2 → status_of_serve o ≡ 2
without_two end.Served e = absurd (omega (arith, e))
without_two end.Refused e = e
without_two end.NoMemory e = e
without_two (end.NotLoaded fault) e = e
without_two end.NotBound e = e
without_two end.AcceptFailed e = e
without_two end.NoText e = e
without_two end.Unwritten e = e

cut_two : (o : ServeOutcome) → status_of_serve (cut_short o) ≡ 2 → status_of_serve o ≡ 2
cut_two end.Served e = absurd (omega (arith, e))
cut_two end.Refused e = e
cut_two end.NoMemory e = e
cut_two (end.NotLoaded fault) e = e
cut_two end.NotBound e = e
cut_two end.AcceptFailed e = e
cut_two end.NoText e = e
cut_two end.Unwritten e = e

wrote_two : (wall : Option WallView) (n : Noting) (o new : ServeOutcome) → WritesExport wall n o new → status_of_serve new ≡ 2 → status_of_serve o ≡ 2
wrote_two None n o new wrote e = sym (ap status_of_serve wrote.1) ∙ e
wrote_two (Some w) n o new (inl wrote) e = without_two o (sym (ap status_of_serve wrote.1) ∙ e)
wrote_two (Some w) n o new (inr (inl wrote)) e = sym (ap status_of_serve wrote.1) ∙ e
wrote_two (Some w) n o new (inr (inr wrote)) e = cut_two o (sym (ap status_of_serve wrote.1) ∙ e)

refused_kept : (o : KeptOutcome) → status_of_kept o ≡ 2 → o ≡ kept.Plain end.Refused
refused_kept (kept.Plain o) e = ap kept.Plain (refused_by o e)
refused_kept kept.Locked e = absurd (omega (arith, e))
refused_kept kept.Exists e = absurd (omega (arith, e))
refused_kept kept.TooLarge e = absurd (omega (arith, e))
refused_kept (kept.Refused (journal.NoJournal f)) e = absurd (omega (arith, e))
refused_kept (kept.Refused journal.OtherCatalogue) e = absurd (omega (arith, e))
refused_kept (kept.Refused (journal.Export f)) e = absurd (omega (arith, e))
refused_kept (kept.Refused journal.NoMemory) e = absurd (omega (arith, e))
refused_kept kept.Failed e = absurd (omega (arith, e))
refused_kept kept.Lost e = absurd (omega (arith, e))

pub was_refused : (exports : Bool) (wall : Option WallView) (n : Noting) (old new : KeptOutcome) → WritesKept exports wall n old new → status_of_kept new ≡ 2
    → old ≡ kept.Plain end.Refused
was_refused false wall n old new wrote e = refused_kept old (sym (ap status_of_kept wrote.1) ∙ e)
was_refused true wall n (kept.Plain o) new wrote e =
    ap kept.Plain (refused_by o (wrote_two wall n o wrote.0 wrote.1 (sym (ap status_of_kept wrote.2) ∙ e)))
was_refused true wall n kept.Locked new wrote e = refused_kept kept.Locked (sym (ap status_of_kept wrote.2) ∙ e)
was_refused true wall n kept.Exists new wrote e = refused_kept kept.Exists (sym (ap status_of_kept wrote.2) ∙ e)
was_refused true wall n kept.TooLarge new wrote e = refused_kept kept.TooLarge (sym (ap status_of_kept wrote.2) ∙ e)
was_refused true wall n (kept.Refused refusal) new wrote e = refused_kept (kept.Refused refusal) (sym (ap status_of_kept wrote.2) ∙ e)
was_refused true wall n kept.Failed new wrote e = refused_kept kept.Failed (sym (ap status_of_kept wrote.2) ∙ e)
was_refused true wall n kept.Lost new wrote e = refused_kept kept.Lost (sym (ap status_of_kept wrote.2) ∙ e)

-- neither the words' run alone nor one with a journal ends as refused words do
pub never_refused : (files : Files) (said : ServeView) (left : Left) (outcome : KeptOutcome) (o : ServeOutcome) → outcome ≡ kept.Plain end.Refused
    → outcome ≡ kept.Plain o → Ends files said left o → ⊥
never_refused files said left outcome o is same ends =
    let one : end.Refused ≡ o = (let e : kept.Plain end.Refused ≡ kept.Plain o = sym is ∙ same in cc) in
    subst (λ (p : ServeOutcome). Ends files said left p) (sym one) ends

pub never_kept : (files : Files) (said : ServeView) (told : Option (List ℕ)) (left : Left) (outcome : KeptOutcome) → outcome ≡ kept.Plain end.Refused
    → ServesKept files said told left outcome → ⊥
never_kept files said told left outcome is serves =
    (subst (λ (o : KeptOutcome). ServesKept files said told left o) is serves).2.listens
