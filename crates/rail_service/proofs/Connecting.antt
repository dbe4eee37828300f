-- A connection, from the answers of its service.
use Rattle.std.proofs.Common.{◌≡◌, ℕ, true, List, Option, refl, sym, ◌∙◌, subst, inl, inr}
use Rattle.history_model.specs.History.{IsLegal}
use Rattle.history_model.proofs.Legal.{NoDouble-from_WellFormed, WellFormed-history}
use Rattle.history_model.proofs.Seen.{legal-front}
use Rattle.claim_rule.specs.Rule.{DeskView}
use Rattle.claim_rule.specs.Desks.{AddsSteps}
use Rattle.claim_rule.specs.Out.{IsTidy, IsIdle}
use Rattle.http_wire.specs.declared.request.WireFault.{WireFault}
use Rattle.http_wire.specs.Requests.{RequestText}
use Rattle.session_loop.specs.declared.end.ConnEnd.{ConnEnd}
use Rattle.session_loop.specs.declared.end.ConnEnd.TheVariants.{WriteFault}
use Rattle.session_loop.specs.Session.{IsEnd}
use Rattle.rail_io.specs.declared.clock.Reach.{Reach}
use Rattle.session_loop.specs.Writes.{Showing}
use Rattle.session_loop.specs.Moments.{Awaiting, Permitting, MayWrite}
use Rattle.session_loop.proofs.Keeping.{end_keeps}
use Rattle.session_loop.proofs.Views.{end_seen, moment_seen}
use Rattle.catalogue_contents.specs.Contents.{CatalogueView}
use Rattle.osdm_texts.specs.Answers.{problem}
use Rattle.rail_service.specs.Bytes.{reply_bytes}
use Rattle.rail_service.specs.declared.service.Service.{Service}
use Rattle.rail_service.specs.Refusals.{problem_of_wire}
use Rattle.rail_service.specs.Connections.{ServiceView, IsAnswer, answers_of, refusals_of, NeverDouble, IsServed}
use Rattle.rail_service.specs.Moments.{AnyCut, CutGiven, MayReply, PermitsReplies}
use Rattle.rail_service.specs.Responding.{view_of, Responds, Awaits, Declines}
use Rattle.rail_service.proofs.Owned.{Own, own_then, own_same}

never_double : (desk : DeskView) → IsLegal desk.layout desk.seen → NeverDouble desk
never_double desk legal history front =
    let l = legal-front desk.layout history front.0 (subst (IsLegal desk.layout) (sym front.1) legal) in
    NoDouble-from_WellFormed desk.layout _ (WellFormed-history desk.layout desk.layout.opening history l.0.well_formed l.1)

-- what a service keeps from the start of a connection on
pub record Through {C : Type 0} (start now : Service C) : Type 0 where
  pub cat : now.cat.now ≡ start.cat.now
  pub books : now.books.now ≡ start.books.now
  pub desk : now.desk.ghost_name ≡ start.desk.ghost_name
  pub clock : now.clock.ghost_name ≡ start.clock.ghost_name
  pub tidy : IsTidy start.desk.now → IsTidy now.desk.now
  pub own : Own start.desk.now now.desk.now

answered : {C : Type 0} (told : C → Option (ℕ → ℕ)) (start before : Service C) (request : RequestText) (text : List ℕ) (next : Service C) → before.cat.now ≡ start.cat.now → Responds told before request text next
    → (next.cat.now ≡ start.cat.now) × IsAnswer start.cat.now (view_of told before) request text (view_of told next)
answered {C} told start before request text next same is =
    (is.cat ∙ same, subst (λ (cat : CatalogueView). IsAnswer cat (view_of told before) request text (view_of told next)) same is.answer)

refused : {C : Type 0} (start now : Service C) (fault : WireFault) (text : List ℕ) → now.cat.now ≡ start.cat.now → Declines now fault text
    → text ≡ reply_bytes start.cat.now true (problem (problem_of_wire fault))
refused {C} start now fault text same is = subst (λ (cat : CatalogueView). text ≡ reply_bytes cat true (problem (problem_of_wire fault))) same is

module _ {C : Type 0} (told : C → Option (ℕ → ℕ)) (start after : Service C) (taken : List ℕ) (left : Option (List ℕ)) (written : List ℕ) (end : ConnEnd) where
  -- the service's session ended so
  abbrev pub Ended : Type 0
  Ended = IsEnd (λ (before : Service C) request text (next : Service C). Responds told before request text next) (λ (service : Service C) fault text. Declines service fault text) start after taken left written end

  pub through : IsLegal start.desk.now.layout start.desk.now.seen → Ended → Through start after
  through legal is = end_keeps (λ before request text next. Responds told before request text next) (λ service fault text. Declines service fault text) (Through start) on start after taken left written end
      (record { cat = refl; books = refl; desk = refl; clock = refl; tidy = λ t. t; own = own_same start.desk.now start.desk.now legal refl }) is
    where
      on : (before : Service C) (request : RequestText) (text : List ℕ) (next : Service C) → Through start before → Responds told before request text next → Through start next
      on before request text next t is = record {
        cat = is.cat ∙ t.cat;
        books = is.books ∙ t.books;
        desk = is.desk ∙ t.desk;
        clock = is.clock ∙ t.clock;
        tidy = λ tidy. is.tidy (t.tidy tidy);
        own = own_then start.desk.now before.desk.now next.desk.now t.own (is.answer.steps, is.answer.shape);
      }

  ended : Ended → IsEnd (answers_of start.cat.now) (refusals_of start.cat.now) (view_of told start) (view_of told after) taken left written end
  ended is = end_seen (λ before request text next. Responds told before request text next) (λ service fault text. Declines service fault text) (answers_of start.cat.now) (refusals_of start.cat.now)
      (view_of told) (λ (s : Service C). s.cat.now ≡ start.cat.now) (answered told start) (refused start) start after taken left written end refl is

  pub serves : IsLegal start.desk.now.layout start.desk.now.seen → IsIdle after.desk.now → Ended
      → IsServed start.cat.now (view_of told start) (view_of told after) taken left written end
  serves legal idle is =
      let t = through legal is in
      record {
        answered = ended is;
        steps = t.own.0;
        shape = t.own.1;
        no_double = never_double after.desk.now t.own.1.legal;
        idle = idle;
      }

-- the cut that a service's answer waits for, as its view shows it
await_seen : {C : Type 0} (told : C → Option (ℕ → ℕ)) (begun : C → Reach → Type 0) (ends : C → ℕ → C → Type 0) (start before : Service C) (cut : ℕ) (after : Service C)
    → before.cat.now ≡ start.cat.now → Awaits begun ends before cut after → CutGiven told begun ends (view_of told before) cut (view_of told after)
await_seen told begun ends start before cut after keeps (inl none) = inl none
await_seen told begun ends start before cut after keeps (inr given) = inr (after.clock.now, given, refl)

-- what may be handed over at a moment of a service's session is of a defined reply
pub may_reply : {C K : Type 0} (clock_told : C → Option (ℕ → ℕ)) (begun : C → Reach → Type 0) (ends : C → ℕ → C → Type 0) (shows : Showing K) (start : Service C) (source : Option (List ℕ)) (sink now : K) (piece : List ℕ)
    → IsLegal start.desk.now.layout start.desk.now.seen
    → MayWrite (λ (before : Service C) request text (next : Service C). Responds clock_told before request text next) (λ (service : Service C) fault text. Declines service fault text)
    (λ (before : Service C) (cut : ℕ) (after : Service C). Awaits begun ends before cut after) shows start source sink now piece
    → MayReply start.cat.now (CutGiven clock_told begun ends) shows (view_of clock_told start) source sink now piece
may_reply {C} {K} clock_told begun ends shows start source sink now piece legal m =
    let t = through clock_told start m.after m.taken m.left m.written WriteFault legal m.next in
    let seen = moment_seen (λ before request text next. Responds clock_told before request text next) (λ service fault text. Declines service fault text) (answers_of start.cat.now) (refusals_of start.cat.now)
    (view_of clock_told) (λ (s : Service C). s.cat.now ≡ start.cat.now) (answered clock_told start) (refused start)
    (λ (before : Service C) (cut : ℕ) (after : Service C). Awaits begun ends before cut after) (CutGiven clock_told begun ends) shows
    (await_seen clock_told begun ends start) start source sink now piece refl m in
    record {
      is = seen.0;
      steps = t.own.0;
      shape = subst (λ (v : ServiceView). AddsSteps start.desk.now v.desk t.own.0) (sym seen.1) t.own.1;
      no_double = subst (λ (v : ServiceView). NeverDouble v.desk) (sym seen.1) (never_double m.after.desk.now t.own.1.legal);
    }

-- an outlet that permits a reply whichever cut it waits for permits it where it waits for its own
pub permits_any : {K : Type 0} (permits : Permitting K) (cat : CatalogueView) (awaits : Awaiting ServiceView) (shows : Showing K) (before : ServiceView) (source : Option (List ℕ)) (sink : K)
    → PermitsReplies permits cat AnyCut shows before source sink → PermitsReplies permits cat awaits shows before source sink
permits_any {K} permits cat awaits shows before source sink may = λ now piece m. may now piece (record {
  is = record {
    taken = m.is.taken;
    left = m.is.left;
    reads = m.is.reads;
    after = m.is.after;
    written = m.is.written;
    sent = m.is.sent;
    next = m.is.next;
    rest = m.is.rest;
    cut = m.is.cut;
    awaited = tt;
    turn = m.is.turn;
    before_it = m.is.before_it;
    took = m.is.took;
  };
  steps = m.steps;
  shape = m.shape;
  no_double = m.no_double;
})

-- what the service held at its end is left at the desk and the clock
pub served_there : {C : Type 0} (told : C → Option (ℕ → ℕ)) (cat : CatalogueView) (before : ServiceView) (service : Service C) (desk : DeskView) (clock : C) (taken : List ℕ) (left : Option (List ℕ)) (written : List ℕ) (end : ConnEnd)
    → desk ≡ service.desk.now → clock ≡ service.clock.now → IsServed cat before (view_of told service) taken left written end
    → IsServed cat before (record { desk = desk; first = service.first; clock = told clock }) taken left written end
served_there {C} told cat before service desk clock taken left written end same_desk same_clock is =
    subst (λ (d : DeskView). IsServed cat before (record { desk = d; first = service.first; clock = told clock }) taken left written end) (sym same_desk)
    (subst (λ (k : C). IsServed cat before (record { desk = service.desk.now; first = service.first; clock = told k }) taken left written end) (sym same_clock) is)

pub idle_there : {C : Type 0} (service : Service C) (desk : DeskView) → desk ≡ service.desk.now → IsIdle service.desk.now → IsIdle desk
idle_there {C} service desk same idle = subst (λ (d : DeskView). IsIdle d) (sym same) idle

pub tidy_there : {C : Type 0} (service : Service C) (desk : DeskView) → desk ≡ service.desk.now → IsTidy service.desk.now → IsTidy desk
tidy_there {C} service desk same tidy = subst (λ (d : DeskView). IsTidy d) (sym same) tidy
