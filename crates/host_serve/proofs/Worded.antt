-- What holds of each stream that was served, in other words.
use Rattle.std.proofs.Common.{ℕ, List, [], ◌∷◌, Option, Some, None}
use Rattle.std.specs.Prelude.{IsSomeAnd}
use Rattle.history_model.specs.declared.entry.Entry.{Entry}
use Rattle.history_model.specs.Booking.{Layout}
use Rattle.claim_rule.specs.Rule.{BooksView}
use Rattle.claim_rule.specs.Walls.{WallView}
use Rattle.catalogue_contents.specs.Contents.{CatalogueView}
use Rattle.rail_service.specs.Listeners.{Handing, ListenerView}
use Rattle.host_words.specs.declared.serve.Serving.{Serving}
use Rattle.host_serve.specs.Turns.{Readings, Stand, Leads, Chain, Connection, ConnectionBy, HandedOut, Passed, Passing}
use Rattle.host_serve.specs.Serve.{AllWorked, BooksEnd, HasWorked, IsServedWall, Left}
use Rattle.host_journal.specs.declared.end.BooksOutcome.{BooksOutcome}
use Rattle.host_journal.specs.declared.end.BooksOutcome.TheVariants as books
use Rattle.host_serve.proofs.Chaining.{one_so}

module _ (here there : Passing) (goes : (p : Passed) → here p → there p) (cat : CatalogueView) where
  led : (old : Stand) (stands : List Stand) (new : Stand) → Leads (ConnectionBy here cat) old stands new → Leads (ConnectionBy there cat) old stands new
  led old [] new same = same
  led old (next ∷ later) new step = (one_so here there goes cat old next step.0, led next later new step.1)

  pub chained : (n : ℕ) (old new : Stand) → Chain (ConnectionBy here cat) n old new → Chain (ConnectionBy there cat) n old new
  chained n old new c = record { stands = c.stands; count = c.count; leads = led old c.stands new c.leads }

module _ (here there : Handing) (goes : (stream sent : Option (List ℕ)) → here stream sent → there stream sent) (cat : CatalogueView) where
  worked : (books : BooksView) (history : List Entry) (n : ℕ) (clock : Readings) (count : ℕ)
      → HasWorked (Connection here cat) books history n clock count → HasWorked (Connection there cat) books history n clock count
  worked books history n clock count w = record {
    began = w.began;
    began_clock = w.began_clock;
    began_of = w.began_of;
    number = w.number;
    none = w.none;
    began_front = w.began_front;
    ended = w.ended;
    ended_of = w.ended_of;
    ended_number = w.ended_number;
    ended_front = w.ended_front;
    turns = chained (HandedOut here) (HandedOut there) (λ p given. goes p.stream p.sent given) cat count w.began w.ended w.turns;
    entries = w.entries;
  }

  -- the same of what is left, but for where its streams came from, and what the listener told before
  module _ (left : Left) (view : ListenerView) where
    abbrev pub from_here : Left
    from_here = record left { before = view; hands = here }

    abbrev pub from_there : Left
    from_there = record left { hands = there }

    all_worked : (books : BooksView) (said : Serving) (history : List Entry) → AllWorked cat books said from_here history
        → AllWorked cat books said from_there history
    all_worked books said history all = record {
      served = all.served;
      serving = λ i less. worked books history _ _ _ (all.serving i less);
      together = all.together;
      sweeps = all.sweeps;
      sweeping = all.sweeping;
      asked = all.asked;
    }

    served_wall : (plan : Layout) (said : Serving) (wall : Option WallView) → IsSomeAnd wall (IsServedWall cat plan said from_here)
        → IsSomeAnd wall (IsServedWall cat plan said from_there)
    served_wall plan said None is = is
    served_wall plan said (Some wall) is = record {
      books = is.books;
      layout = is.layout;
      of = is.of;
      closed = is.closed;
      tidy = is.tidy;
      first = is.first;
      worked = all_worked is.books said wall.history is.worked;
      watched = is.watched;
      no_others = is.no_others;
    }

    pub books_end : (plan : Layout) (said : Serving) (o : BooksOutcome) → BooksEnd cat plan said from_here o → BooksEnd cat plan said from_there o
    books_end plan said books.Served ends = (ends.0, served_wall plan said left.wall ends.1)
    books_end plan said books.AcceptFailed ends = (ends.0, served_wall plan said left.wall ends.1)
    books_end plan said books.NoMemory ends = ends
