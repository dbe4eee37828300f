-- How serving with a journal ended.
use Rattle.std.proofs.Common.{◌≡◌, ◌∙◌, ◌≤◌, arith, ℕ, Bool, true, false, List, Option, Ok, inl, inr, ap, sym, subst}
use Rattle.std.specs.Prelude.{IfSome}
use Rattle.claim_rule.specs.Openings.{KeptBooking, layout_with}
use Rattle.claim_rule.specs.Rule.{BooksView, DeskView}
use Rattle.claim_rule.specs.Walls.{WallView}
use Rattle.history_model.specs.declared.entry.Entry.{Entry}
use Rattle.history_model.specs.Booking.{Layout}
use Rattle.catalogue_contents.specs.Contents.{CatalogueView, legs_in}
use Rattle.host_words.specs.Serve.{ServeView}
use Rattle.host_words.specs.declared.serve.Serving.{Serving}
use Rattle.host_catalogue.specs.Files.{Files, HasCause}
use Rattle.host_catalogue.specs.Loading.{Loads}
use Rattle.host_catalogue.specs.Opening.{IsOpened}
use Rattle.host_catalogue.specs.declared.file.LoadFault.{LoadFault}
use Rattle.host_catalogue.specs.declared.file.LoadFault.TheVariants as load
use Rattle.rail_io.specs.Faults.{Rose}
use Rattle.worker_pool.specs.Crews.{IsFirst, OnlyMet}
use Rattle.host_serve.specs.Turns.{HasCatalogue}
use Rattle.host_journal.specs.Ends.{lost_or, outcome_of_fault}
use Rattle.host_journal.specs.Causes.{HasKeptCause}
use Rattle.host_journal.specs.Left.{IsNotLeft, LeavesBookings, Sources}
use Rattle.host_serve.specs.Kept.{IsUnheard, ListensTo, ServesBooks, ServesKept, ServesLeft, sources_of}
use Rattle.host_serve.specs.Serve.{IsServedWall, Left}
use Rattle.host_journal.specs.declared.end.KeptOutcome.{KeptOutcome}
use Rattle.host_journal.specs.declared.end.KeptOutcome.TheVariants as kept
use Rattle.host_journal.specs.declared.end.ServeOutcome.{ServeOutcome}
use Rattle.host_journal.specs.declared.end.ServeOutcome.TheVariants as end
use Rattle.host_journal.specs.declared.keeping.KeepFault.{KeepFault}
use Rattle.host_journal.specs.declared.keeping.KeepFault.TheVariants as fault
use Rattle.host_serve.proofs.Alone.{none_so, wall_of}

module _ (cat : CatalogueView) (said : Serving) (s : Sources) (left : Left) where
  -- no books were opened with what the journal leaves
  pub not_left : (f : KeepFault) → IsNotLeft cat s f → IsUnheard left → left.after.handed ≡ 0
      → ServesBooks cat said s left (outcome_of_fault f)
  not_left fault.Locked is unheard fresh = unheard
  not_left fault.Exists is unheard fresh = (is, unheard)
  not_left fault.TooLarge is unheard fresh = (is, unheard)
  not_left (fault.Refused refusal) is unheard fresh = (is, unheard)
  not_left (fault.NotLoaded cause) is unheard fresh = (is, unheard)
  not_left fault.Failed is unheard fresh = unheard
  not_left fault.NoMemory is unheard fresh = (unheard.no_wall, fresh, unheard.steady)

  -- such books were listened for
  pub served_left : (bookings : List KeptBooking) (plan : Layout) → LeavesBookings s cat bookings → plan ≡ layout_with (legs_in cat) cat.rows bookings
      → (is_lost : Bool) (o : ServeOutcome) → ListensTo cat plan said left o → ServesBooks cat said s left (lost_or is_lost o)
  served_left bookings plan leaves is is_lost o listens = go is_lost o (subst (λ (l : Layout). ListensTo cat l said left o) is listens)
    where
      of : (p : ServeOutcome) → ListensTo cat (layout_with (legs_in cat) cat.rows bookings) said left p → ServesLeft cat said s left p
      of p r = record { kept = bookings; leaves = leaves; listens = r }

      go : (lost : Bool) (p : ServeOutcome) → ListensTo cat (layout_with (legs_in cat) cat.rows bookings) said left p → ServesBooks cat said s left (lost_or lost p)
      go true end.Served r = inl (of end.Served r)
      go true end.AcceptFailed r = inr (of end.AcceptFailed r)
      go true end.NotBound r = of end.NotBound r
      go true end.NoMemory r = r
      go true end.Refused r = absurd r
      go true (end.NotLoaded f) r = absurd r
      go true end.NoText r = absurd r
      go true end.Unwritten r = absurd r
      go false end.Served r = of end.Served r
      go false end.AcceptFailed r = of end.AcceptFailed r
      go false end.NotBound r = of end.NotBound r
      go false end.NoMemory r = r
      go false end.Refused r = absurd r
      go false (end.NotLoaded f) r = absurd r
      go false end.NoText r = absurd r
      go false end.Unwritten r = absurd r

  -- and the shelf's count of faults is as it was
  pub listened_kept : (failed fails missed misses : ℕ) (plan : Layout) → fails ≡ failed → (is_lost : Bool) (o : ServeOutcome) → ListensTo cat plan said left o
      → HasKeptCause (lost_or is_lost o) failed fails missed misses
  listened_kept failed fails missed misses plan same true end.Served r = same
  listened_kept failed fails missed misses plan same true end.AcceptFailed r = same
  listened_kept failed fails missed misses plan same true end.NotBound r = same
  listened_kept failed fails missed misses plan same true end.NoMemory r = same
  listened_kept failed fails missed misses plan same true end.Refused r = absurd r
  listened_kept failed fails missed misses plan same true (end.NotLoaded f) r = absurd r
  listened_kept failed fails missed misses plan same true end.NoText r = absurd r
  listened_kept failed fails missed misses plan same true end.Unwritten r = absurd r
  listened_kept failed fails missed misses plan same false end.Served r = same
  listened_kept failed fails missed misses plan same false end.AcceptFailed r = same
  listened_kept failed fails missed misses plan same false end.NotBound r = same
  listened_kept failed fails missed misses plan same false end.NoMemory r = same
  listened_kept failed fails missed misses plan same false end.Refused r = absurd r
  listened_kept failed fails missed misses plan same false (end.NotLoaded f) r = absurd r
  listened_kept failed fails missed misses plan same false end.NoText r = absurd r
  listened_kept failed fails missed misses plan same false end.Unwritten r = absurd r

  -- the wall that is left is free for an export
  wall_left : (P : WallView → Type 0) (o : ServeOutcome) → ServesLeft cat said s left o
      → ((plan : Layout) (w : WallView) → IsServedWall cat plan said left w → P w) → IfSome left.wall P
  wall_left P o r so = wall_of P cat (layout_with (legs_in cat) cat.rows r.kept) said left o r.listens (so (layout_with (legs_in cat) cat.rows r.kept))

  pub wall_kept : (P : WallView → Type 0) (o : KeptOutcome) → ServesBooks cat said s left o
      → ((plan : Layout) (w : WallView) → IsServedWall cat plan said left w → P w) → IfSome left.wall P
  wall_kept P (kept.Plain end.Served) r so = wall_left P end.Served r so
  wall_kept P (kept.Plain end.AcceptFailed) r so = wall_left P end.AcceptFailed r so
  wall_kept P (kept.Plain end.NotBound) r so = wall_left P end.NotBound r so
  wall_kept P (kept.Plain end.NoMemory) r so = none_so P left.wall r.0
  wall_kept P (kept.Plain end.Refused) r so = absurd r.listens
  wall_kept P (kept.Plain end.NoText) r so = absurd r.listens
  wall_kept P (kept.Plain end.Unwritten) r so = absurd r.listens
  wall_kept P (kept.Plain (end.NotLoaded f)) r so = none_so P left.wall r.1.no_wall
  wall_kept P kept.Locked r so = none_so P left.wall r.no_wall
  wall_kept P kept.Exists r so = none_so P left.wall r.1.no_wall
  wall_kept P kept.TooLarge r so = none_so P left.wall r.1.no_wall
  wall_kept P (kept.Refused refusal) r so = none_so P left.wall r.1.no_wall
  wall_kept P kept.Failed r so = none_so P left.wall r.no_wall
  wall_kept P kept.Lost (inl r) so = wall_left P end.Served r so
  wall_kept P kept.Lost (inr r) so = wall_left P end.AcceptFailed r so

-- the words' catalogue was loaded, and its books were served so
pub kept_of : (cat : CatalogueView) (told : Option (List ℕ)) (left : Left) (files : Files) (view : ServeView) → Loads files view.catalogue (Ok cat) → (o : KeptOutcome)
    → ServesBooks cat view.numbers (sources_of files view told) left o → ServesKept files view told left o
kept_of cat told left files view loads (kept.Plain end.Served) r = (cat, loads, r)
kept_of cat told left files view loads (kept.Plain end.AcceptFailed) r = (cat, loads, r)
kept_of cat told left files view loads (kept.Plain end.NotBound) r = (cat, loads, r)
kept_of cat told left files view loads (kept.Plain end.NoMemory) r = (cat, loads, r)
kept_of cat told left files view loads (kept.Plain end.Refused) r = (cat, loads, r)
kept_of cat told left files view loads (kept.Plain end.NoText) r = (cat, loads, r)
kept_of cat told left files view loads (kept.Plain end.Unwritten) r = (cat, loads, r)
kept_of cat told left files view loads (kept.Plain (end.NotLoaded f)) r = (inr (cat, loads, r.0), r.1)
kept_of cat told left files view loads kept.Locked r = (cat, loads, r)
kept_of cat told left files view loads kept.Exists r = (cat, loads, r)
kept_of cat told left files view loads kept.TooLarge r = (cat, loads, r)
kept_of cat told left files view loads (kept.Refused refusal) r = (cat, loads, r)
kept_of cat told left files view loads kept.Failed r = (cat, loads, r)
kept_of cat told left files view loads kept.Lost r = (cat, loads, r)

-- a shelf that gave the catalogue before didn't fail in that, and missed nothing that it forgot
rose_on : (missed between misses : ℕ) → missed ≤ between → Rose between misses → Rose missed misses
rose_on missed between misses low (inl rose) = inl (omega arith)
rose_on missed between misses low (inr last) = inr last

cause_on : (f : LoadFault) (failed now fails missed between misses : ℕ) → now ≡ failed → missed ≤ between → HasCause f now fails between misses → HasCause f failed fails missed misses
cause_on (load.Missing file) failed now fails missed between misses same low is = (is.0 ∙ same, rose_on missed between misses low is.1)
cause_on (load.TooLarge file) failed now fails missed between misses same low is = (is.0 ∙ same, rose_on missed between misses low is.1)
cause_on (load.Refused fault) failed now fails missed between misses same low is = is ∙ same
cause_on (load.RefusedExport fault) failed now fails missed between misses same low is = is ∙ same
cause_on load.Failed failed now fails missed between misses same low is = subst (λ (n : ℕ). Rose n fails) same is
cause_on load.NoMemory failed now fails missed between misses same low is = is ∙ same

pub kept_cause : (o : KeptOutcome) (failed now fails missed between misses : ℕ) → now ≡ failed → missed ≤ between → HasKeptCause o now fails between misses
    → HasKeptCause o failed fails missed misses
kept_cause (kept.Plain end.Served) failed now fails missed between misses same low is = is ∙ same
kept_cause (kept.Plain end.AcceptFailed) failed now fails missed between misses same low is = is ∙ same
kept_cause (kept.Plain end.NotBound) failed now fails missed between misses same low is = is ∙ same
kept_cause (kept.Plain end.NoMemory) failed now fails missed between misses same low is = is ∙ same
kept_cause (kept.Plain end.Refused) failed now fails missed between misses same low is = is ∙ same
kept_cause (kept.Plain end.NoText) failed now fails missed between misses same low is = is ∙ same
kept_cause (kept.Plain end.Unwritten) failed now fails missed between misses same low is = is ∙ same
kept_cause (kept.Plain (end.NotLoaded f)) failed now fails missed between misses same low is = cause_on f failed now fails missed between misses same low is
kept_cause kept.Locked failed now fails missed between misses same low is = is ∙ same
kept_cause kept.Exists failed now fails missed between misses same low is = is ∙ same
kept_cause kept.TooLarge failed now fails missed between misses same low is = is ∙ same
kept_cause (kept.Refused refusal) failed now fails missed between misses same low is = is ∙ same
kept_cause kept.Failed failed now fails missed between misses same low is = is ∙ same
kept_cause kept.Lost failed now fails missed between misses same low is = is ∙ same

-- so of the words' run
pub wall_said : (files : Files) (view : ServeView) (told : Option (List ℕ)) (left : Left) (P : WallView → Type 0) (o : KeptOutcome)
    → ServesKept files view told left o → ((cat : CatalogueView) (plan : Layout) (w : WallView) → IsServedWall cat plan view.numbers left w → P w)
    → IfSome left.wall P
wall_said files view told left P (kept.Plain end.Served) r so = wall_kept r.0 view.numbers (sources_of files view told) left P (kept.Plain end.Served) r.2 (so r.0)
wall_said files view told left P (kept.Plain end.AcceptFailed) r so = wall_kept r.0 view.numbers (sources_of files view told) left P (kept.Plain end.AcceptFailed) r.2 (so r.0)
wall_said files view told left P (kept.Plain end.NotBound) r so = wall_kept r.0 view.numbers (sources_of files view told) left P (kept.Plain end.NotBound) r.2 (so r.0)
wall_said files view told left P (kept.Plain end.NoMemory) r so = wall_kept r.0 view.numbers (sources_of files view told) left P (kept.Plain end.NoMemory) r.2 (so r.0)
wall_said files view told left P (kept.Plain end.Refused) r so = wall_kept r.0 view.numbers (sources_of files view told) left P (kept.Plain end.Refused) r.2 (so r.0)
wall_said files view told left P (kept.Plain end.NoText) r so = wall_kept r.0 view.numbers (sources_of files view told) left P (kept.Plain end.NoText) r.2 (so r.0)
wall_said files view told left P (kept.Plain end.Unwritten) r so = wall_kept r.0 view.numbers (sources_of files view told) left P (kept.Plain end.Unwritten) r.2 (so r.0)
wall_said files view told left P (kept.Plain (end.NotLoaded f)) r so = none_so P left.wall r.1.no_wall
wall_said files view told left P kept.Locked r so = wall_kept r.0 view.numbers (sources_of files view told) left P kept.Locked r.2 (so r.0)
wall_said files view told left P kept.Exists r so = wall_kept r.0 view.numbers (sources_of files view told) left P kept.Exists r.2 (so r.0)
wall_said files view told left P kept.TooLarge r so = wall_kept r.0 view.numbers (sources_of files view told) left P kept.TooLarge r.2 (so r.0)
wall_said files view told left P (kept.Refused refusal) r so = wall_kept r.0 view.numbers (sources_of files view told) left P (kept.Refused refusal) r.2 (so r.0)
wall_said files view told left P kept.Failed r so = wall_kept r.0 view.numbers (sources_of files view told) left P kept.Failed r.2 (so r.0)
wall_said files view told left P kept.Lost r so = wall_kept r.0 view.numbers (sources_of files view told) left P kept.Lost r.2 (so r.0)

-- books that were opened have the catalogue's places and rows, and their first desk has done nothing
pub opened_has : (cat : CatalogueView) (bookings : List KeptBooking) (books : BooksView) (desk : DeskView) → IsOpened cat bookings books desk → HasCatalogue books cat
opened_has cat bookings books desk is = record { legs = ap (λ (l : Layout). l.legs) is.layout; rows = ap (λ (l : Layout). l.rows) is.layout }

pub opened_first : (cat : CatalogueView) (bookings : List KeptBooking) (books : BooksView) (desk : DeskView) → IsOpened cat bookings books desk → IsFirst books 0 desk
opened_first cat bookings books desk is = record {
  own = is.own;
  tidy = is.tidy;
  number = is.new.number;
  parted = is.new.parted;
  joined = is.new.joined;
  meets = subst (λ (es : List Entry). OnlyMet es) (sym is.new.seen) tt;
}
