-- The finished books of a drill.
use Rattle.std.proofs.Common.{◌≡◌, ◌∙◌, ◌+◌, ◌*◌, ◌<◌, ◌≤◌, ℕ, List, [], length, sym, ap, subst, arith}
use Rattle.std.specs.List.{AllByRecursion}
use Rattle.history_model.specs.declared.entry.Entry.{Entry}
use Rattle.history_model.specs.declared.entry.Step.TheVariants.{Met}
use Rattle.history_model.specs.Booking.{Layout}
use Rattle.history_model.specs.History.{IsLegal, own, state_of}
use Rattle.history_model.specs.Laws.{NoDouble}
use Rattle.history_model.proofs.Legal.{NoDouble-from_WellFormed, WellFormed-history}
use Rattle.claim_rule.specs.Rule.{DeskView, IsWhole}
use Rattle.claim_rule.specs.Walls.{WallView, Finishes}
use Rattle.catalogue_contents.specs.Contents.{CatalogueView}
use Rattle.host_words.specs.declared.drill.DrillWords.{DrillWords}
use Rattle.host_drill.specs.Totals.{sold_of}
use Rattle.host_drill.specs.Meeting.{AreAnswered, IsFirst}
use Rattle.host_drill.specs.declared.line.Totals.{Totals}
use Rattle.host_drill.proofs.Doubles.{no_doubles}
use Rattle.host_drill.specs.Parts.{IsWholeCount}
use Rattle.host_drill.specs.Connections.{layout_of}
use Rattle.host_drill.specs.Fits.{HasPlaces}
use Rattle.host_drill.specs.Drilled.{IsCatalogue, IsDrilled, connection_of, state_at}
use Rattle.host_drill.specs.Worked.{all_replies_with}
use Rattle.host_drill.proofs.Summing.{AllWorked, AreCrew, crew_of, whole_of}

-- a first desk that has joined all has seen all
whole : (desk : DeskView) (n : ℕ) → IsFirst desk n 0 → IsWhole desk.number desk.parted desk.joined
whole desk n first = (first.number, λ j low high. first.joined j low (subst (λ (m : ℕ). j ≤ m) first.parted high))

pub drilled : (said : DrillWords) (cat : CatalogueView) (layout : Layout) (desk : DeskView) (wall : WallView) (totals : Totals) → IsCatalogue cat said
    → HasPlaces cat said.places → AllWorked cat said → said.size ≤ 2000 → said.workers ≤ 16
    → layout ≡ layout_of cat → wall.layout ≡ layout → Finishes layout desk wall.words wall.history
    → IsFirst desk said.workers 0 → AreAnswered (connection_of cat said) desk.seen said.workers 0 totals.refused totals.busy
    → totals.requests ≡ said.workers * said.size → totals.sold ≡ sold_of (state_at wall) cat.rows → totals.double ≡ 0 → IsDrilled said wall totals
drilled said cat layout desk wall totals catalogue has works size workers is same ends first answered requests sold double = record {
  cat = cat;
  catalogue = catalogue;
  layout = same ∙ is;
  desk = desk;
  first_desk = first;
  history = seen;
  books = books;
  first = mets;
  no_others = others;
  answered = all;
  replies = crew.replies;
  number = crew.number ∙ number;
  workers = crew.workers;
  requests = requests;
  sold = sold;
  refused = refused;
  busy = busy;
  no_double = no_double;
  double = double ∙ sym (no_doubles (state_at wall) cat.rows no_double);
  sum = sold ∙ (same_sold ∙ count.sold_is);
  all = adds_up;
  busy_none = busy ∙ (sym crew.busy ∙ count.none_busy);
  double_none = double;
}
  where
    seen : wall.history ≡ desk.seen
    seen = ends.whole (whole desk said.workers first)

    books : Finishes wall.layout desk wall.words wall.history
    books = subst (λ (g : Layout). Finishes g desk wall.words wall.history) (sym same) ends

    mets : AllByRecursion (λ e. e.step ≡ Met) (own wall.history 0)
    mets = subst (λ (h : List Entry). AllByRecursion (λ e. e.step ≡ Met) (own h 0)) (sym seen) first.mets

    others : (k : ℕ) → said.workers < k → own wall.history k ≡ []
    others k more = ends.no_others first.number k (subst (λ (n : ℕ). n < k) (sym first.parted) more)

    all : AreAnswered (connection_of cat said) wall.history said.workers 0 totals.refused totals.busy
    all = subst (λ (h : List Entry). AreAnswered (connection_of cat said) h said.workers 0 totals.refused totals.busy) (sym seen) answered

    number : length all.answered ≡ said.workers
    number = let e = all.number in omega (arith, e)

    no_double : NoDouble (state_at wall)
    no_double = NoDouble-from_WellFormed wall.layout (state_at wall) (WellFormed-history wall.layout wall.layout.opening wall.history books.legal.0.well_formed books.legal.1)

    crew : AreCrew cat said wall.history 0 all.answered
    crew = crew_of cat said wall.history has works 0 all.answered all.each all.no_memory

    legal : IsLegal (layout_of cat) wall.history
    legal = subst (λ (g : Layout). IsLegal g wall.history) is ends.legal

    count : IsWholeCount (sold_of (state_of (layout_of cat) wall.history) cat.rows) said.seed (said.workers * said.size) said.places crew.outcomes
    count = whole_of cat said wall.history has works all.answered size workers legal mets others number crew

    same_sold : sold_of (state_at wall) cat.rows ≡ sold_of (state_of (layout_of cat) wall.history) cat.rows
    same_sold = ap (λ (g : Layout). sold_of (state_of g wall.history) cat.rows) (same ∙ is)

    refused : totals.refused ≡ all_replies_with 409 crew.replies
    refused = all.refused_is ∙ crew.refused_lines

    busy : totals.busy ≡ all_replies_with 503 crew.replies
    busy = all.busy_is ∙ crew.busy_lines

    adds_up : totals.sold + totals.refused ≡ totals.requests
    adds_up =
        ap (λ (n : ℕ). n + totals.refused) (sold ∙ same_sold)
        ∙ (ap (λ (n : ℕ). sold_of (state_of (layout_of cat) wall.history) cat.rows + n) (refused ∙ sym crew.refused) ∙ (count.all ∙ sym requests))
