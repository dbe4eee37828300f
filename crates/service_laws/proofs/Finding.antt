-- A booking that has come so far is found so or further by whatever begins later.
use Rattle.std.proofs.Common.{◌≡◌, ℕ, ◌+◌, ◌<◌, ◌≤◌, ◌⊎◌, inl, inr, ⊎_elim, true, false, List, [], ◌∷◌, ◌++◌, map, Some, refl, sym, ap, ◌∙◌, subst, arith, append_assoc}
use Rattle.std.specs.List.{AllByRecursion}
use Rattle.std.proofs.lemmas.Bool.{cases_Bool}
use mathlib.Core.List.{IsPrefix}
use Rattle.rail_ids.specs.declared.RowNo.{RowNo}
use Rattle.history_model.specs.declared.entry.Entry.{Entry}
use Rattle.history_model.specs.declared.entry.Step.{Step}
use Rattle.history_model.specs.declared.entry.Step.TheVariants.{Look, Take, Give, Start, SawRow, Note, Seal, Turn, LostTurn, Close, Met}
use Rattle.history_model.specs.declared.phase.Phase.{Phase}
use Rattle.history_model.specs.Phase.{is_ended, is_sealed, phase_shown, row_word_of}
use Rattle.history_model.specs.Booking.{Booking, Layout, State, booking_at, key_of, next_generation, phase_at, present, stands_as, word_at}
use Rattle.history_model.specs.Words.{row_word}
use Rattle.history_model.specs.Allowed.{IsAllowedStep}
use Rattle.history_model.specs.Apply.{apply}
use Rattle.history_model.specs.History.{IsLegal, IsLegalFrom, entry, own, state_after, state_of}
use Rattle.history_model.specs.Laws.{IsInRange, IsPresentOrEnded}
use Rattle.history_model.specs.Life.{LeadsTo}
use Rattle.history_model.proofs.Generations.{key_at, present_key, present_latest, unended_present}
use Rattle.history_model.proofs.Keeping.{found}
use Rattle.history_model.proofs.Leading.{leads-history, leads_trans}
use Rattle.history_model.proofs.ListLemmas.{All-found, All-right}
use Rattle.history_model.proofs.PhaseWords.{present_shown, shown_back}
use Rattle.history_model.proofs.Ranges.{ranges_all}
use Rattle.history_model.proofs.Seen.{legal-rest, state_of-append}
use Rattle.history_model.proofs.Writing.{word_in}
use Rattle.claim_rule.specs.Rule.{BooksView, DeskView, OnBooking, state_seen}
use Rattle.claim_rule.specs.Desks.{AddsSteps, IsOf}
use Rattle.claim_rule.proofs.Moves.{is_sound}
use Rattle.booking_rows.specs.Views.{RowSeen, LooksNone, saw_phase, saw_words, words_read}
use Rattle.booking_rows.proofs.ViewLemmas.{sealed_not_free}
use Rattle.refund_core.specs.Quotes.{SeesNone, SeesOwn}
use Rattle.expiry_sweeper.specs.Complete.{BeginsAt}
use Rattle.service_laws.specs.Begun.{BeginsAfter}
use Rattle.service_laws.specs.Told.{HasCome, StandsFrom, IsOver, ShowsFurther, FindsFurther, BookingsAreFound, BookingsAreShown}
use Rattle.expiry_sweeper.proofs.Own.{first_of, rest_of, no_steps, steps_all, steps_since}
use Rattle.expiry_sweeper.proofs.Standing.{ShowsSeal, there, stands, seal_shown, phase_of, stands_so}
use Rattle.service_laws.proofs.QuoteLemmas.{shows_all}
use Rattle.service_laws.proofs.Honouring.{begun_at, both, looked_some}

-- where it goes

leads_between : (g : Layout) (s : State) (es : List Entry) (row : RowNo) (b c : Booking) → IsLegalFrom g s es → booking_at s row.row row.generation ≡ Some b → booking_at (state_after s es) row.row row.generation ≡ Some c → LeadsTo b.phase c.phase
leads_between g s es row b c l at then =
    subst (λ (p : Phase). LeadsTo p c.phase) (phase_of s row.row row.generation b at)
    (subst (LeadsTo (phase_at s row.row row.generation)) (phase_of (state_after s es) row.row row.generation c then) (leads-history g s es row.row row.generation l))

-- the booking after the entries
pub record Goes (s : State) (row : RowNo) (phase : Phase) (retailer : ℕ) (b : Booking) : Type 0 where
  pub booking : Booking
  pub at : booking_at s row.row row.generation ≡ Some booking
  pub come : HasCome phase retailer booking
  pub words : (w : ℕ) → ((1 ≤ w) × (w ≤ 4)) ⊎ (8 ≤ w) → word_at booking w ≡ word_at b w

pub goes : (g : Layout) (s : State) (es : List Entry) (row : RowNo) (phase : Phase) (retailer : ℕ) (b : Booking) → IsLegalFrom g s es → booking_at s row.row row.generation ≡ Some b → HasCome phase retailer b → Goes (state_after s es) row phase retailer b
goes g s es row phase retailer b l at come =
    let c = there g s es row.row row.generation b l at come.0 in
    record {
      booking = c.0;
      at = c.1;
      come = (
        c.2.still_sealed,
        c.2.sealed.words 1 (inl (let e : 1 ≤ 1 = omega arith in e, let e : 1 ≤ 4 = omega arith in e)) ∙ come.1,
        leads_trans phase b.phase c.0.phase come.2 (leads_between g s es row b c.0 l at c.1),
      );
      words = c.2.sealed.words;
    }

-- a history that goes on from one in which the booking has come so far
pub come_on : (g : Layout) (before after : List Entry) (row : RowNo) (phase : Phase) (retailer : ℕ) → IsLegal g (before ++ after) → OnBooking (state_of g before) row (HasCome phase retailer) → OnBooking (state_of g (before ++ after)) row (HasCome phase retailer)
come_on g before after row phase retailer legal on =
    let s = state_of g before in
    let f = found (booking_at s row.row row.generation) (HasCome phase retailer) on in
    let n = goes g s after row phase retailer f.0 (legal-rest g before after legal) f.1 f.2 in
    stands_so (state_after s after) (state_of g (before ++ after)) row n.booking (HasCome phase retailer) (state_of-append g before after) n.at n.come

pub stands_on : (row : RowNo) (phase : Phase) (retailer : ℕ) (old new : DeskView) (es : List Step) → AddsSteps old new es → StandsFrom phase retailer old row → StandsFrom phase retailer new row
stands_on row phase retailer old new es did on =
    let g = new.layout in
    let rest = did.front.0 in
    let was : OnBooking (state_of g old.seen) row (HasCome phase retailer) = subst (λ (l : Layout). OnBooking (state_of l old.seen) row (HasCome phase retailer)) (sym did.same.1) on in
    subst (λ (h : List Entry). OnBooking (state_of g h) row (HasCome phase retailer)) did.front.1 (come_on g old.seen rest row phase retailer (subst (IsLegal g) (sym did.front.1) did.legal) was)

-- what an entry finds of it

shown : (s : State) (row : RowNo) (phase : Phase) (b : Booking) (n : ℕ) → n ≡ row_word s row.row 0 → booking_at s row.row row.generation ≡ Some b → LeadsTo phase b.phase → ShowsFurther row phase n
shown s row phase b n is at leads kept =
    let c = present_shown s row.row row.generation (phase_shown row.generation n) kept (ap (phase_shown row.generation) (sym is)) in
    let its : booking_at s row.row row.generation ≡ Some c.0 = subst (λ (m : ℕ). booking_at s row.row m ≡ Some c.0) c.2 (present_key s row.row c.0 c.1) in
    let one : Some c.0 ≡ Some b = sym its ∙ at in
    let same : c.0 ≡ b = cc in
    subst (LeadsTo phase) (sym (ap (λ (x : Booking). x.phase) same) ∙ c.3) leads

further : (g : Layout) (s : State) (desk : ℕ) (row : RowNo) (phase : Phase) (b : Booking) (step : Step) → IsAllowedStep g s desk step → booking_at s row.row row.generation ≡ Some b → LeadsTo phase b.phase → FindsFurther row phase step
further g s desk row phase b (SawRow r w n) a at leads = λ is first. shown s row phase b n (a.2 ∙ (λ i. row_word s (is i) (first i))) at leads
further g s desk row phase b (LostTurn r wanted n) a at leads = λ is. shown s row phase b n (a.1 ∙ ap (λ (q : ℕ). row_word s q 0) is) at leads
further g s desk row phase b (Look place half n) a at leads = tt
further g s desk row phase b (Take q place span) a at leads = tt
further g s desk row phase b (Give q item) a at leads = tt
further g s desk row phase b (Start q generation) a at leads = tt
further g s desk row phase b (Note q w value) a at leads = tt
further g s desk row phase b (Seal q to) a at leads = tt
further g s desk row phase b (Turn q from to moment amount successor) a at leads = tt
further g s desk row phase b (Close q) a at leads = tt
further g s desk row phase b Met a at leads = tt

all_further : (g : Layout) (s : State) (es : List Entry) (row : RowNo) (phase : Phase) (retailer : ℕ) (b : Booking) → IsLegalFrom g s es → booking_at s row.row row.generation ≡ Some b → HasCome phase retailer b → AllByRecursion (λ (e : Entry). FindsFurther row phase e.step) es
all_further g s [] row phase retailer b l at come = tt
all_further g s (e ∷ es) row phase retailer b l at come =
    let n = goes g s (e ∷ []) row phase retailer b (l.0, tt) at come in
    (further g s e.desk row phase b e.step l.0 at come.2, all_further g (apply s e) es row phase retailer n.booking l.1 n.at n.come)

-- while it is its row's present booking, each look at word 0 shows it sealed

abbrev ShowsSealed : RowNo → Step → Type 0
ShowsSealed row (SawRow r w n) = r ≡ row.row → w ≡ 0 → is_sealed (phase_shown row.generation n) ≡ true
ShowsSealed row step = Unit {0}

looked_sealed : (g : Layout) (s : State) (desk : ℕ) (row : RowNo) (b : Booking) (step : Step) → IsAllowedStep g s desk step → present s row.row ≡ Some b → b.generation ≡ row.generation → is_sealed b.phase ≡ true → ShowsSealed row step
looked_sealed g s desk row b (SawRow r w n) a here its sealed = λ is first.
    let word : n ≡ row_word_of b.phase row.generation = a.2 ∙ (ap (λ (q : ℕ). word_in w (present s q)) is ∙ (ap (word_in w) here ∙ (ap (λ (v : ℕ). word_in v (Some b)) first ∙ ap (row_word_of b.phase) its))) in
    ap is_sealed (ap (phase_shown row.generation) word ∙ shown_back b.phase row.generation) ∙ sealed
looked_sealed g s desk row b (LostTurn r wanted n) a here its sealed = tt
looked_sealed g s desk row b (Look place half n) a here its sealed = tt
looked_sealed g s desk row b (Take q place span) a here its sealed = tt
looked_sealed g s desk row b (Give q item) a here its sealed = tt
looked_sealed g s desk row b (Start q generation) a here its sealed = tt
looked_sealed g s desk row b (Note q w value) a here its sealed = tt
looked_sealed g s desk row b (Seal q to) a here its sealed = tt
looked_sealed g s desk row b (Turn q from to moment amount successor) a here its sealed = tt
looked_sealed g s desk row b (Close q) a here its sealed = tt
looked_sealed g s desk row b Met a here its sealed = tt

sealed_shown : (g : Layout) (s : State) (es : List Entry) (row : RowNo) (b : Booking) → IsLegalFrom g s es → booking_at s row.row row.generation ≡ Some b → is_sealed b.phase ≡ true → next_generation (state_after s es) row.row ≡ row.generation + 1 → AllByRecursion (λ (e : Entry). ShowsSealed row e.step) es
sealed_shown g s [] row b l at sealed still = tt
sealed_shown g s (e ∷ es) row b l at sealed still =
    let here = stands g s (e ∷ es) row.row row.generation b l at still in
    let n = there g s (e ∷ []) row.row row.generation b (l.0, tt) at sealed in
    (looked_sealed g s e.desk row b e.step l.0 here.1 (key_at s row.row row.generation b at).1 sealed, sealed_shown g (apply s e) es row n.0 l.1 n.1 n.2.still_sealed still)

-- from what was told to where a later call ends
record Later (g : Layout) (row : RowNo) (phase : Phase) (retailer : ℕ) (new : DeskView) (d : ℕ) (steps : List Step) : Type 0 where
  pub before : List Entry
  pub more : List Entry
  pub rest : List Entry
  pub is : before ++ (more ++ rest) ≡ new.seen
  pub layout : new.layout ≡ g
  pub legal : IsLegal g (before ++ (more ++ rest))
  pub booking : Booking
  pub at : booking_at (state_of g before) row.row row.generation ≡ Some booking
  pub come : HasCome phase retailer booking
  pub mine : own rest d ≡ map (entry d) steps

later : (books : BooksView) (row : RowNo) (phase : Phase) (retailer : ℕ) (told old new : DeskView) (steps : List Step) (begun : List Entry) → IsOf books told → IsOf books old → StandsFrom phase retailer told row → AddsSteps old new steps → BeginsAt old new begun → IsPrefix told.seen begun → Later books.layout row phase retailer new old.number steps
later books row phase retailer told old new steps begun of_told of_old on did begins (more, e) =
    let g = books.layout in
    let rest = begins.goes_on.0 in
    let whole : told.seen ++ (more ++ rest) ≡ new.seen = sym (append_assoc told.seen more rest) ∙ (ap (λ (l : List Entry). l ++ rest) e ∙ begins.goes_on.1) in
    let same : new.layout ≡ g = did.same.1 ∙ of_old.layout in
    let f = found (booking_at (state_of g told.seen) row.row row.generation) (HasCome phase retailer) (subst (λ (l : Layout). OnBooking (state_of l told.seen) row (HasCome phase retailer)) of_told.layout on) in
    record {
      before = told.seen;
      more = more;
      rest = rest;
      is = whole;
      layout = same;
      legal = subst (IsLegal g) (sym whole) (subst (λ (l : Layout). IsLegal l new.seen) same did.legal);
      booking = f.0;
      at = f.1;
      come = f.2;
      mine = steps_since old new begun rest steps did begins.none_yet begins.goes_on.1;
    }

all_found : (g : Layout) (row : RowNo) (phase : Phase) (retailer : ℕ) (new : DeskView) (d : ℕ) (steps : List Step) → Later g row phase retailer new d steps → AllByRecursion (FindsFurther row phase) steps
all_found g row phase retailer new d steps a =
    let s = state_of g a.before in
    let T : Entry → Type 0 = λ (e : Entry). FindsFurther row phase e.step in
    let all = all_further g s (a.more ++ a.rest) row phase retailer a.booking (legal-rest g a.before (a.more ++ a.rest) a.legal) a.at a.come in
    steps_all (FindsFurther row phase) d a.rest steps a.mine (All-right T a.more a.rest all)

pub bookings_found : BookingsAreFound
bookings_found books row phase retailer told old new steps of_told of_old on did (inl none) = subst (AllByRecursion (FindsFurther row phase)) (sym (no_steps old new steps did none)) tt
bookings_found books row phase retailer told old new steps of_told of_old on did (inr (begun, begins, front)) =
    all_found books.layout row phase retailer new old.number steps (later books row phase retailer told old new steps begun of_told of_old on did begins front)

-- a show

in_range : (g : Layout) (history : List Entry) (row : RowNo) (b : Booking) → IsLegal g history → booking_at (state_of g history) row.row row.generation ≡ Some b → row.row < g.rows
in_range g history row b legal at =
    let s = state_of g history in
    let fits = All-found (IsInRange g) (stands_as row.row row.generation) s b at (ranges_all g history legal) in
    subst (λ (r : ℕ). r < g.rows) (key_at s row.row row.generation b at).0 fits.row

-- while the booking is its row's present one, a look for it sees it
looks_none : (row : RowNo) (es : List Step) → LooksNone row es → AllByRecursion (ShowsSealed row) es → ⊥
looks_none row es (inl (n, unsealed, is)) all =
    both (first_of (ShowsSealed row) (SawRow row.row 0 n) [] (subst (AllByRecursion (ShowsSealed row)) is all) refl refl) unsealed
looks_none row es (inr (ws, last, read, free, is)) all =
    let P = ShowsSealed row in
    let final = SawRow row.row 0 last ∷ [] in
    let late = All-right P (words_read row.row ws) final (rest_of P (saw_phase row ws.phase) (words_read row.row ws ++ final) (subst (AllByRecursion P) is all)) in
    both (first_of P (SawRow row.row 0 last) [] late refl refl) (ap is_sealed free)

sees_none : (rows : ℕ) (row : RowNo) (retailer : ℕ) (b : Booking) (es : List Step) → row.row < rows → word_at b 1 ≡ retailer → SeesNone rows row retailer es → AllByRecursion (ShowsSealed row) es → AllByRecursion (ShowsSeal row.row b) es → ⊥
sees_none rows row retailer b es here its (inl (past, is)) all seals = omega (arith, past, here)
sees_none rows row retailer b es here its (inr (in_row, inl none)) all seals = looks_none row es none all
sees_none rows row retailer b es here its (inr (in_row, inr (w, other, looks))) all seals =
    let shows = shows_all row b w (SawRow row.row 0 looks.1.0 ∷ []) (subst (AllByRecursion (ShowsSeal row.row b)) looks.1.2 seals) in
    other (shows.retailer ∙ its)

over : (g : Layout) (rows : ℕ) (row : RowNo) (phase : Phase) (retailer : ℕ) (new : DeskView) (d : ℕ) (steps : List Step) → row.row < rows → SeesNone rows row retailer steps → Later g row phase retailer new d steps → IsOver new row
over g rows row phase retailer new d steps here none a =
    let since = a.more ++ a.rest in
    let s = state_of g a.before in
    let t = state_after s since in
    let b = a.booking in
    let l : IsLegalFrom g s since = legal-rest g a.before since a.legal in
    let n = goes g s since row phase retailer b l a.at a.come in
    let c = n.booking in
    let last : state_of g (a.before ++ since) ≡ t = state_of-append g a.before since in
    let final : state_seen new ≡ t = ap (λ (l : Layout). state_of l new.seen) a.layout ∙ (ap (state_of g) (sym a.is) ∙ last) in
    let P = ShowsSealed row in
    let Q = ShowsSeal row.row b in
    let given_away : next_generation t row.row ≡ row.generation + 1 → ⊥ = λ still.
    let sealed = All-right (λ (e : Entry). P e.step) a.more a.rest (sealed_shown g s since row b l a.at a.come.0 still) in
    let seals = All-right (λ (e : Entry). Q e.step) a.more a.rest (seal_shown g s since row.row row.generation b b l a.at a.come.0 (λ k _. refl) still) in
    sees_none rows row retailer b steps here a.come.1 none (steps_all P d a.rest steps a.mine sealed) (steps_all Q d a.rest steps a.mine seals) in
    let earlier = subst (λ (x : State). AllByRecursion (IsPresentOrEnded (map key_of x)) x) last (is_sound g (a.before ++ since) a.legal).earlier in
    let ended : is_ended c.phase ≡ true = ⊎_elim
    (λ (is : is_ended c.phase ≡ true). is)
    (λ (unended : is_ended c.phase ≡ false).
    let here_now = unended_present t row.row row.generation c earlier n.at unended in
    absurd (given_away (sym (present_latest t row.row c here_now).1 ∙ ap (λ (k : ℕ). k + 1) (key_at t row.row row.generation c n.at).1)))
    (cases_Bool (is_ended c.phase)) in (
      stands_so t (state_seen new) row c (λ x. is_ended x.phase ≡ true) final n.at ended,
      λ still. given_away (ap (λ (x : State). next_generation x row.row) (sym final) ∙ still),
    )

pub shows_it : (row : RowNo) (phase : Phase) (retailer : ℕ) (w : RowSeen) (es : List Step) → SeesOwn row retailer w es → AllByRecursion (FindsFurther row phase) es → LeadsTo phase w.phase
shows_it row phase retailer w es sees all =
    let P = FindsFurther row phase in
    let back = shown_back w.phase row.generation in
    let first = first_of P (saw_phase row w.phase) (saw_words row.row w ++ SawRow row.row 0 sees.1.1.0 ∷ []) (subst (AllByRecursion P) sees.1.1.2 all) refl refl in
    subst (LeadsTo phase) back (first (λ e. sealed_not_free w.phase sees.1.0.sealed (sym back ∙ e)))

row_in_books : (books : BooksView) (row : RowNo) (phase : Phase) (retailer rows : ℕ) (told : DeskView) → IsOf books told → rows ≡ books.layout.rows → StandsFrom phase retailer told row → row.row < rows
row_in_books books row phase retailer rows told of_told same on =
    let f = found (booking_at (state_seen told) row.row row.generation) (HasCome phase retailer) on in
    subst (λ (n : ℕ). row.row < n) (ap (λ (l : Layout). l.rows) of_told.layout ∙ sym same) (in_range told.layout told.seen row f.0 of_told.legal f.1)

pub bookings_shown : BookingsAreShown
bookings_shown cat books row phase retailer now reply told old new of_told of_old rows on (inl ((es, none, did), is)) after =
    let here = row_in_books books row phase retailer cat.rows told of_told rows on in
    let b = begun_at es told old new did (looked_some cat.rows row retailer es here none) after in
    inr (inr (is, over books.layout cat.rows row phase retailer new old.number es here none (later books row phase retailer told old new es b.0 of_told of_old on did b.1 b.2)))
bookings_shown cat books row phase retailer now reply told old new of_told of_old rows on (inr (w, mid, (es, (in_row, sees), did), inl (same, is))) after =
    inl (w, sees.0, shows_it row phase retailer w es sees (bookings_found books row phase retailer told old mid es of_told of_old on did (subst (BeginsAfter told old) same after)), is)
bookings_shown cat books row phase retailer now reply told old new of_told of_old rows on (inr (w, mid, found, inr (same, is))) after = inr (inl is)
