-- A booking that a command made stands as its retailer's.
use Rattle.std.proofs.Common.{◌≡◌, ℕ, ◌≤◌, inl, inr, Bool, true, false, List, [], ◌∷◌, ◌++◌, map, length, None, Some, IsSomeAnd, cond, eq-eqb, suc, refl, sym, ap, ◌∙◌, subst, arith, append_assoc, get_or-set_other, get_or-set_same, zero}
use mathlib.Core.List.{append_cancel_left}
use Rattle.leg_masks.specs.Interval.{PlacedSpan as Item}
use Rattle.rail_ids.specs.declared.RowNo.{RowNo}
use Rattle.history_model.specs.declared.entry.Entry.{Entry}
use Rattle.history_model.specs.declared.entry.Step.{Step}
use Rattle.history_model.specs.declared.entry.Step.TheVariants.{Start, SawRow, Note, Seal}
use Rattle.history_model.specs.declared.phase.Phase.{Phase}
use Rattle.history_model.specs.declared.phase.Phase.TheVariants.{Making, Prebooked, Confirmed, Ending}
use Rattle.history_model.specs.declared.phase.EndKind.{EndKind}
use Rattle.history_model.specs.declared.phase.EndKind.TheVariants.{Exchange}
use Rattle.history_model.specs.declared.booking.End.{End}
use Rattle.history_model.specs.WholeEnds.{end_turn}
use Rattle.history_model.specs.Phase.{is_sealed, is_turn}
use Rattle.history_model.specs.Booking.{Booking, Layout, State, booking_at, present, word_at, limit_of}
use Rattle.history_model.specs.Allowed.{IsAllowedStep, IsMadeBy, MayNote, TurnsWith}
use Rattle.history_model.specs.Apply.{apply_step, in_phase, noted, turned}
use Rattle.history_model.specs.History.{IsLegal, IsLegalFrom, entry, own, state_after, state_of}
use Rattle.history_model.specs.Laws.{IsWellFormed}
use Rattle.history_model.specs.Life.LeadsTo.{leads_here}
use Rattle.history_model.specs.Quiet.{AllQuiet}
use Rattle.history_model.specs.Work.{NoStep}
use Rattle.history_model.proofs.Forward.{legal_left, legal_right, state-append}
use Rattle.history_model.proofs.Generations.{present_key, present-changed, present-changed_other}
use Rattle.history_model.proofs.Keeping.{found}
use Rattle.history_model.proofs.Owners.{firm_making, quiet_stays}
use Rattle.history_model.proofs.Seen.{legal-front, legal-rest, own-append, state_of-append}
use Rattle.history_model.proofs.Writing.{sound_of}
use Rattle.claim_rule.specs.Rule.{DeskView, OnBooking}
use Rattle.claim_rule.specs.Calls.{AddsStepsBy}
use Rattle.claim_rule.specs.Desks.{AddsSteps}
use Rattle.claim_rule.specs.Endings.{item_looks, items_read}
use Rattle.claim_rule.specs.EndSteps.{closing, ending_steps, gives_from}
use Rattle.claim_rule.specs.Out.{SealsItems, IsSealedAs}
use Rattle.claim_rule.proofs.Moves.{is_sound}
use Rattle.claim_rule.proofs.Shapes.{shape_rest, shape_then}
use Rattle.booking_rows.specs.Starts.{Misses, misses_steps, Passed, search_steps, StartsHold}
use Rattle.booking_rows.specs.Views.{RowSeen}
use Rattle.booking_rows.specs.Notes.{detail_notes}
use Rattle.booking_rows.specs.declared.notes.Detail.{Detail}
use Rattle.offer_codes.specs.Offers.{OfferView}
use Rattle.train_runs.specs.declared.segment.Segment.{Segment}
use Rattle.catalogue_contents.specs.Contents.{CatalogueView}
use Rattle.osdm_texts.specs.Seen.{made_view}
use Rattle.reservation_service.specs.Holding.{HoldsPlaces}
use Rattle.reservation_service.specs.Reserving.{detail_of}
use Rattle.reservation_service.specs.declared.holding.Placing.{Placing}
use Rattle.reservation_service.proofs.Adding.{places_only}
use Rattle.exchange_core.specs.Accepting.{exchange_end}
use Rattle.refund_core.specs.Quotes.{phase_named}
use Rattle.trade_service.specs.Exchanges.{ready_of}
use Rattle.service_laws.specs.Told.{HasCome, StandsFrom, CreatedIsSo, ExchangedIsSo}
use Rattle.service_laws.proofs.Finding.{come_on}
use Rattle.expiry_sweeper.proofs.Own.{around}
use Rattle.expiry_sweeper.proofs.Standing.{stands_so}

-- the row's present booking is in the making of the desk, and has this retailer
pub record Made (s : State) (d row retailer : ℕ) : Type 0 where
  pub booking : Booking
  pub here : present s row ≡ Some booking
  pub making : IsMadeBy d booking
  pub its : word_at booking 1 ≡ retailer

-- the notes of its detail

made_booking : (g : Layout) (s : State) (d row n : ℕ) → IsAllowedStep g s d (Note row 1 n) → (b : Booking) × (present s row ≡ Some b) × IsMadeBy d b
made_booking g s d row n a = let f = found (present s row) (MayNote d 1) a.1 in (f.0, f.1, may f.0 f.2)
  where
    may : (b : Booking) → MayNote d 1 b → IsMadeBy d b
    may b (inl (m, w)) = m
    may b (inr (e, w)) = absurd (let l : 5 ≤ 1 = w.0 in omega (arith, l))

noted_first : (g : Layout) (s : State) (d row n : ℕ) → IsWellFormed g s → IsAllowedStep g s d (Note row 1 n) → Made (apply_step s d (Note row 1 n)) d row n
noted_first g s d row n good a =
    let m = made_booking g s d row n a in
    let words : length m.0.words ≡ 64 = (sound_of g s row m.0 good m.1).words in
    record { booking = noted 1 n m.0; here = present-changed s row (noted 1 n) m.0 (λ _. refl) m.1; making = m.2; its = get_or-set_same m.0.words 1 n 0 (omega (arith, words)) }

noted_other : (s : State) (d row retailer w n : ℕ) → (1 ≡ w → ⊥) → Made s d row retailer → Made (apply_step s d (Note row w n)) d row retailer
noted_other s d row retailer w n other m =
    record { booking = noted w n m.booking; here = present-changed s row (noted w n) m.booking (λ _. refl) m.here; making = m.making; its = get_or-set_other m.booking.words w 1 n 0 other ∙ m.its }

made_stays : (g : Layout) (s : State) (es : List Entry) (d row retailer : ℕ) (sts : List Step) → Made s d row retailer → own es d ≡ map (entry d) sts → AllQuiet row sts → IsLegalFrom g s es → Made (state_after s es) d row retailer
made_stays g s es d row retailer sts m mine quiet l = record {
  booking = m.booking;
  here = quiet_stays g s row m.booking es sts m.here (firm_making m.booking.phase m.making.0) (subst (λ (k : ℕ). own es k ≡ map (entry k) sts) (sym m.making.1) mine) quiet l;
  making = m.making;
  its = m.its;
}

-- what is left of the entries after one of the desk's steps, with the booking as it is then
pub record From (g : Layout) (s : State) (es : List Entry) (d row retailer : ℕ) (sts : List Step) : Type 0 where
  pub mid : State
  pub rest : List Entry
  pub made : Made mid d row retailer
  pub mine : own rest d ≡ map (entry d) sts
  pub legal : IsLegalFrom g mid rest
  pub last : state_after s es ≡ state_after mid rest

first_note : (g : Layout) (before es : List Entry) (d row retailer : ℕ) (hs sts : List Step) → IsLegal g (before ++ es) → own es d ≡ map (entry d) (hs ++ Note row 1 retailer ∷ sts) → From g (state_of g before) es d row retailer sts
first_note g before es d row retailer hs sts legal mine =
    let note = Note row 1 retailer in
    let e = entry d note in
    let s = state_of g before in
    let a = around d es hs note sts mine in
    let lawful : IsLegal g (before ++ (a.before ++ e ∷ a.after)) = subst (λ (l : List Entry). IsLegal g (before ++ l)) a.is legal in
    let l : IsLegalFrom g s (a.before ++ e ∷ a.after) = legal-rest g before (a.before ++ e ∷ a.after) lawful in
    let then = legal_right g s a.before (e ∷ a.after) l in
    let front = legal-front g (before ++ a.before) (e ∷ a.after) (subst (IsLegal g) (sym (append_assoc before a.before (e ∷ a.after))) lawful) in
    let good : IsWellFormed g (state_after s a.before) = subst (IsWellFormed g) (state_of-append g before a.before) (is_sound g (before ++ a.before) front) in
    record {
      mid = apply_step (state_after s a.before) d note;
      rest = a.after;
      made = noted_first g (state_after s a.before) d row retailer good then.0;
      mine = a.last;
      legal = then.1;
      last = ap (state_after s) a.is ∙ state-append s a.before (e ∷ a.after);
    }

next_note : (g : Layout) (s : State) (es : List Entry) (d row retailer w n : ℕ) (sts : List Step) → (1 ≡ w → ⊥) → Made s d row retailer → own es d ≡ map (entry d) (Note row w n ∷ sts) → IsLegalFrom g s es → From g s es d row retailer sts
next_note g s es d row retailer w n sts other made mine legal =
    let note = Note row w n in
    let e = entry d note in
    let a = around d es [] note sts mine in
    let l : IsLegalFrom g s (a.before ++ e ∷ a.after) = subst (IsLegalFrom g s) a.is legal in
    let then = legal_right g s a.before (e ∷ a.after) l in
    let m = made_stays g s a.before d row retailer [] made a.first tt (legal_left g s a.before (e ∷ a.after) l) in
    record {
      mid = apply_step (state_after s a.before) d note;
      rest = a.after;
      made = noted_other (state_after s a.before) d row retailer w n other m;
      mine = a.last;
      legal = then.1;
      last = ap (state_after s) a.is ∙ state-append s a.before (e ∷ a.after);
    }

-- after the notes of a detail
pub all_noted : (g : Layout) (before es : List Entry) (d row count : ℕ) (x : Detail) (hs sts : List Step) → IsLegal g (before ++ es) → own es d ≡ map (entry d) (hs ++ (detail_notes row x count ++ sts)) → From g (state_of g before) es d row x.retailer.0 sts
all_noted g before es d row count x hs sts legal mine =
    let r = x.retailer.0 in
    let one = first_note g before es d row r hs (Note row 2 x.limit ∷ Note row 3 x.total ∷ Note row 4 count ∷ sts) legal mine in
    let two = next_note g one.mid one.rest d row r 2 x.limit (Note row 3 x.total ∷ Note row 4 count ∷ sts) (λ e. omega (arith, e)) one.made one.mine one.legal in
    let three = next_note g two.mid two.rest d row r 3 x.total (Note row 4 count ∷ sts) (λ e. omega (arith, e)) two.made two.mine two.legal in
    let four = next_note g three.mid three.rest d row r 4 count sts (λ e. omega (arith, e)) three.made three.mine three.legal in
    record { mid = four.mid; rest = four.rest; made = four.made; mine = four.mine; legal = four.legal; last = one.last ∙ (two.last ∙ (three.last ∙ four.last)) }

-- and where what follows leaves the row alone
pub made_all : (g : Layout) (s : State) (es : List Entry) (d row retailer : ℕ) (sts : List Step) → AllQuiet row sts → From g s es d row retailer sts → Made (state_after s es) d row retailer
made_all g s es d row retailer sts quiet f = subst (λ (t : State). Made t d row retailer) (sym f.last) (made_stays g f.mid f.rest d row retailer sts f.made f.mine quiet f.legal)

-- the seal

abbrev pub is_seal : Step → Bool
is_seal (Seal row phase) = true
is_seal _ = false

one_seal : (step : Step) (row : ℕ) (phase : Phase) → is_seal step ≡ false → step ≡ Seal row phase → ⊥
one_seal step row phase none is = let no : false ≡ true = sym none ∙ ap is_seal is in cc

-- where of a desk's steps one alone is a seal, the entries before a seal are those of the steps before it
before_seal : (d row : ℕ) (phase : Phase) (zs ts : List Step) (xs ys : List Entry) → NoStep is_seal zs → NoStep is_seal ts → xs ++ entry d (Seal row phase) ∷ ys ≡ map (entry d) (zs ++ Seal row phase ∷ ts) → xs ≡ map (entry d) zs
before_seal d row phase [] ts [] ys none last is = refl
before_seal d row phase [] ts (x ∷ xs) ys none last is =
    let rest : xs ++ entry d (Seal row phase) ∷ ys ≡ map (entry d) ts = cc in
    absurd (no_seal ts xs last rest)
  where
    no_seal : (ts : List Step) (xs : List Entry) → NoStep is_seal ts → xs ++ entry d (Seal row phase) ∷ ys ≡ map (entry d) ts → ⊥
    no_seal [] [] all is = let no : entry d (Seal row phase) ∷ ys ≡ [] = is in cc
    no_seal [] (x ∷ xs) all is = let no : x ∷ (xs ++ entry d (Seal row phase) ∷ ys) ≡ [] = is in cc
    no_seal (t ∷ ts) [] all is = let same : entry d t ≡ entry d (Seal row phase) = cc in one_seal t row phase all.0 (ap (λ (e : Entry). e.step) same)
    no_seal (t ∷ ts) (x ∷ xs) all is = let rest : xs ++ entry d (Seal row phase) ∷ ys ≡ map (entry d) ts = cc in no_seal ts xs all.1 rest
before_seal d row phase (z ∷ zs) ts [] ys none last is = let same : entry d z ≡ entry d (Seal row phase) = cc in absurd (one_seal z row phase none.0 (ap (λ (e : Entry). e.step) same))
before_seal d row phase (z ∷ zs) ts (x ∷ xs) ys none last is =
    let here : x ≡ entry d z = cc in
    let rest : xs ++ entry d (Seal row phase) ∷ ys ≡ map (entry d) (zs ++ Seal row phase ∷ ts) = cc in
    let more = before_seal d row phase zs ts xs ys none.1 last rest in
    λ i. here i ∷ more i

-- what the call had done when it sealed the booking, and that the booking stands then so
pub record Sealing (old new : DeskView) (row : RowNo) (phase : Phase) (items : List Item) (zs : List Step) : Type 0 where
  pub front : List Entry
  pub after : List Entry
  pub is : (old.seen ++ front) ++ entry old.number (Seal row.row phase) ∷ after ≡ new.seen
  pub mine : own front old.number ≡ map (entry old.number) zs
  pub on : IsSomeAnd (present (state_of new.layout ((old.seen ++ front) ++ entry old.number (Seal row.row phase) ∷ [])) row.row) (IsSealedAs row.generation old.number phase items)

pub sealing : (old new : DeskView) (row : RowNo) (phase : Phase) (items : List Item) (zs ts : List Step) → AddsSteps old new (zs ++ Seal row.row phase ∷ ts) → NoStep is_seal zs → NoStep is_seal ts → SealsItems old new row phase items → Sealing old new row phase items zs
sealing old new row phase items zs ts did none last (before, after, (front, at), is, on) =
    let d = old.number in
    let e = entry d (Seal row.row phase) in
    let g = new.layout in
    let whole : old.seen ++ (front ++ e ∷ after) ≡ new.seen = sym (append_assoc old.seen front (e ∷ after)) ∙ (ap (λ (l : List Entry). l ++ e ∷ after) at ∙ sym is) in
    let x = shape_rest old new (zs ++ Seal row.row phase ∷ ts) did in
    let same : front ++ e ∷ after ≡ did.front.0 = append_cancel_left old.seen (front ++ e ∷ after) did.front.0 (whole ∙ sym did.front.1) in
    let mine : own front d ++ own (e ∷ after) d ≡ map (entry d) (zs ++ Seal row.row phase ∷ ts) = sym (own-append front (e ∷ after) d) ∙ (ap (λ (l : List Entry). own l d) same ∙ x.1) in
    let split : own front d ++ e ∷ own after d ≡ map (entry d) (zs ++ Seal row.row phase ∷ ts) = ap (λ (l : List Entry). own front d ++ l) (sym (own_first d e after)) ∙ mine in
    record {
      front = front;
      after = after;
      is = append_assoc old.seen front (e ∷ after) ∙ whole;
      mine = before_seal d row.row phase zs ts (own front d) (own after d) none last split;
      on = subst (λ (h : List Entry). IsSomeAnd (present (state_of g (h ++ e ∷ [])) row.row) (IsSealedAs row.generation d phase items)) (sym at)
          (subst (λ (l : Layout). IsSomeAnd (present (state_of l (before ++ e ∷ [])) row.row) (IsSealedAs row.generation d phase items)) (sym did.same.1) on);
    }
  where
    own_first : (d : ℕ) (e : Entry) (es : List Entry) → own (e ∷ es) e.desk ≡ e ∷ own es e.desk
    own_first d e es = ap (λ (c : Bool). cond c (e ∷ own es e.desk) (own es e.desk)) (eq-eqb e.desk e.desk refl)

pub sealed_stands : (old new : DeskView) (row : RowNo) (phase : Phase) (retailer : ℕ) (items : List Item) (zs : List Step) → IsLegal new.layout new.seen → is_sealed phase ≡ true → (x : Sealing old new row phase items zs) → Made (state_of new.layout (old.seen ++ x.front)) old.number row.row retailer → StandsFrom phase retailer new row
sealed_stands old new row phase retailer items zs legal sealed x made =
    let g = new.layout in
    let d = old.number in
    let e = entry d (Seal row.row phase) in
    let before = old.seen ++ x.front in
    let s = state_of g before in
    let t = state_of g (before ++ e ∷ []) in
    let c = found (present t row.row) (IsSealedAs row.generation d phase items) x.on in
    let b = in_phase phase made.booking in
    let now : present (apply_step s d (Seal row.row phase)) row.row ≡ Some b = present-changed s row.row (in_phase phase) made.booking (λ _. refl) made.here in
    let then : present t row.row ≡ Some b = ap (λ (y : State). present y row.row) (state_of-append g before (e ∷ [])) ∙ now in
    let one : Some c.0 ≡ Some b = sym c.1 ∙ then in
    let same : c.0 ≡ b = cc in
    let its : word_at c.0 1 ≡ retailer = ap (λ (y : Booking). word_at y 1) same ∙ made.its in
    let at : booking_at t row.row row.generation ≡ Some c.0 = subst (λ (n : ℕ). booking_at t row.row n ≡ Some c.0) c.2.0 (present_key t row.row c.0 c.1) in
    let come : HasCome phase retailer c.0 = (ap is_sealed c.2.2 ∙ sealed, its, leads_here c.0.phase c.2.2) in
    let whole : (before ++ e ∷ []) ++ x.after ≡ new.seen = append_assoc before (e ∷ []) x.after ∙ x.is in
    subst (λ (h : List Entry). OnBooking (state_of g h) row (HasCome phase retailer)) whole
    (come_on g (before ++ e ∷ []) x.after row phase retailer (subst (IsLegal g) (sym whole) legal) (stands_so t t row c.0 (HasCome phase retailer) refl at come))

-- what is legal before a call sealed
pub front_legal : (old new : DeskView) (row : RowNo) (phase : Phase) (items : List Item) (zs : List Step) → IsLegal new.layout new.seen → (x : Sealing old new row phase items zs) → IsLegal new.layout (old.seen ++ x.front)
front_legal old new row phase items zs legal x = legal-front new.layout (old.seen ++ x.front) (entry old.number (Seal row.row phase) ∷ x.after) (subst (IsLegal new.layout) (sym x.is) legal)

-- a new booking

append : (xs ys : List Step) → NoStep is_seal xs → NoStep is_seal ys → NoStep is_seal (xs ++ ys)
append [] ys p q = q
append (x ∷ xs) ys p q = (p.0, append xs ys p.1 q)

misses : (ms : Misses) → NoStep is_seal (misses_steps ms)
misses [] = tt
misses ((row, word) ∷ rest) = (refl, misses rest)

searched : (row : ℕ) (passed : List Passed) → NoStep is_seal (search_steps row passed)
searched row [] = tt
searched row ((n, None) ∷ ps) = (refl, searched (suc row) ps)
searched row ((n, Some m) ∷ ps) = (refl, (refl, searched (suc row) ps))

starts : (old mid : DeskView) (row : RowNo) (es : List Step) → StartsHold old mid (Some row) es → NoStep is_seal es
starts old mid row es (inl (makes, is)) = subst (NoStep is_seal) (sym is) tt
starts old mid row es (inr (inl (none, first, least, found))) =
    subst (NoStep is_seal) (sym found.2) (append (misses_steps found.0) (Start row.row 0 ∷ []) (misses found.0) (refl, tt))
starts old mid row es (inr (inr (none, full, (ms, rest, are, (n, may, next, (passed, many, each, steps)), is)))) =
    subst (NoStep is_seal) (sym is) (append (misses_steps ms) rest (misses ms)
    (subst (NoStep is_seal) (sym steps) (append (search_steps 0 passed) (SawRow row.row 0 n ∷ Start row.row row.generation ∷ []) (searched 0 passed) (refl, (refl, tt)))))

abbrev SealsNot : Step → Type 0
SealsNot st = is_seal st ≡ false

holds : (cat : CatalogueView) (o : OfferView) (together : Bool) (segments : List Segment) (row : RowNo) (p : Placing) (items : List Item) (old new : DeskView)
    → HoldsPlaces cat o together segments row p items old new → AddsStepsBy (NoStep is_seal) old new
holds cat o together segments row p items old new (mid, started, placed) =
    let more = places_only SealsNot cat o together row [] segments p items mid new (record { look = λ place half shown. refl; take = λ place span. refl; note = λ word value. refl; give = λ item. refl }) started.2.legal placed in
    (started.0 ++ more.0, append started.0 more.0 (starts old mid row started.0 started.1) more.1, shape_then old mid new started.0 more.0 started.2 more.2)

pub created_so : CreatedIsSo
created_so cat retailer now o together row v old new (inl (r, items, mid, held, seals, is)) (sealed, places) =
    let d = detail_of cat o retailer now in
    let notes = detail_notes r.row d (length items) in
    let hs = holds cat o together o.segments r _ items old mid held in
    let seal = Seal r.row Prebooked ∷ [] in
    let all : AddsSteps old new (hs.0 ++ (notes ++ seal)) = shape_then old mid new hs.0 (notes ++ seal) hs.2 seals in
    let did : AddsSteps old new ((hs.0 ++ notes) ++ seal) = subst (AddsSteps old new) (sym (append_assoc hs.0 notes seal)) all in
    let at : row ≡ r = cc in
    let view : v ≡ made_view Prebooked d items = cc in
    let its : SealsItems old new r Prebooked items = subst (λ (y : RowNo × RowSeen). SealsItems old new y.0 Prebooked y.1.items) (λ i. (at i, view i)) sealed in
    let x = sealing old new r Prebooked items (hs.0 ++ notes) [] did (append hs.0 notes hs.1 (refl, (refl, (refl, (refl, tt))))) tt its in
    let g = new.layout in
    let mine : own x.front old.number ≡ map (entry old.number) (hs.0 ++ (notes ++ [])) = x.mine in
    let f = all_noted g old.seen x.front old.number r.row (length items) d hs.0 [] (front_legal old new r Prebooked items (hs.0 ++ notes) did.legal x) mine in
    let made = subst (λ (s : State). Made s old.number r.row retailer) (sym (state_of-append g old.seen x.front)) (made_all g (state_of g old.seen) x.front old.number r.row retailer [] tt f) in
    subst (λ (y : RowNo × RowSeen). StandsFrom y.1.phase retailer new y.0) (λ i. (sym at i, sym view i)) (sealed_stands old new r Prebooked retailer items (hs.0 ++ notes) did.legal refl x made)
created_so cat retailer now o together row v old new (inr (inl (inl (none, is)))) sealed = absurd cc
created_so cat retailer now o together row v old new (inr (inl (inr (r, p, reason, items, mid, held, why, back, is)))) sealed = absurd cc
created_so cat retailer now o together row v old new (inr (inr (faltered, is))) sealed = absurd cc

-- an exchange

other_turn : (g : Layout) (s : State) (d row retailer q : ℕ) (from : Phase) (kind : EndKind) (end : End) → IsAllowedStep g s d (end_turn q from (Ending kind) end) → Made s d row retailer → Made (apply_step s d (end_turn q from (Ending kind) end)) d row retailer
other_turn g s d row retailer q from kind end a m =
    let f = found (present s q) (λ b. (b.phase ≡ from) × TurnsWith s d (limit_of b) (Ending kind) end) a.3 in
    let apart : row ≡ q → ⊥ = λ is.
    let one : Some f.0 ≡ Some m.booking = sym f.1 ∙ (ap (present s) (sym is) ∙ m.here) in
    let same : f.0 ≡ m.booking = cc in
    let making : from ≡ Making = sym f.2.0 ∙ (ap (λ (b : Booking). b.phase) same ∙ m.making.0) in
    let no : false ≡ true = ap (λ (p : Phase). is_turn p (Ending kind)) (sym making) ∙ a.1 in
    cc in
    record { booking = m.booking; here = present-changed_other s q row (turned d (Ending kind) end) (λ _. refl) apart ∙ m.here; making = m.making; its = m.its }

next_turn : (g : Layout) (s : State) (es : List Entry) (d row retailer q : ℕ) (from : Phase) (kind : EndKind) (end : End) (sts : List Step) → From g s es d row retailer (end_turn q from (Ending kind) end ∷ sts) → From g s es d row retailer sts
next_turn g s es d row retailer q from kind end sts f =
    let turn = end_turn q from (Ending kind) end in
    let e = entry d turn in
    let a = around d f.rest [] turn sts f.mine in
    let l : IsLegalFrom g f.mid (a.before ++ e ∷ a.after) = subst (IsLegalFrom g f.mid) a.is f.legal in
    let then = legal_right g f.mid a.before (e ∷ a.after) l in
    let m = made_stays g f.mid a.before d row retailer [] f.made a.first tt (legal_left g f.mid a.before (e ∷ a.after) l) in
    record {
      mid = apply_step (state_after f.mid a.before) d turn;
      rest = a.after;
      made = other_turn g (state_after f.mid a.before) d row retailer q from kind end then.0 m;
      mine = a.last;
      legal = then.1;
      last = f.last ∙ (ap (state_after f.mid) a.is ∙ state-append f.mid a.before (e ∷ a.after));
    }

items_quiet : (row q w : ℕ) (items : List Item) → AllQuiet row (item_looks q w items) × NoStep is_seal (item_looks q w items)
items_quiet row q w [] = (tt, tt)
items_quiet row q w (x ∷ xs) = let rest = items_quiet row q (suc w) xs in ((refl, rest.0), (refl, rest.1))

given : (q item n : ℕ) → NoStep is_seal (gives_from q item n)
given q item zero = tt
given q item (suc n) = (refl, given q (suc item) n)

pub exchanged_so : ExchangedIsSo
exchanged_so cat retailer now code row v difference replaced old new (inl (a, p, readies, why, is)) = absurd cc
exchanged_so cat retailer now code row v difference replaced old new (inr (mid, readied, inl (inl (none, is)))) = absurd cc
exchanged_so cat retailer now code row v difference replaced old new (inr (mid, readied, inl (inr (r, p, reason, items, held, holds, why, back, is)))) = absurd cc
exchanged_so cat retailer now code row v difference replaced old new (inr (mid, readied, inr (r, items, held, holds, inr (back, is)))) = absurd cc
exchanged_so cat retailer now code row v difference replaced old new (inr (mid, readied, inr (r, items, held, holds, inl (noted, notes, inr (shown, hold, lost, loses, back, is))))) = absurd cc
exchanged_so cat retailer now code row v difference replaced old new (inr (mid, readied, inr (r, items, held, holds, inl (noted, notes, inl (made, more, (es, (one, two, (olds, few, steps)), accepts), seals, is))))) =
    let ready = ready_of retailer code now in
    let x = detail_of cat code.offer retailer now in
    let q = code.row.row in
    let d = held.number in
    let end = exchange_end ready r in
    let from = phase_named code.fulfilled in
    let turn = end_turn q from (Ending Exchange) end in
    let looks = items_read q olds in
    let seal = Seal r.row Confirmed in
    let ts = ending_steps q Exchange end olds in
    let zs = detail_notes r.row x (length items) ++ (turn ∷ looks) in
    let all : AddsSteps held new (detail_notes r.row x (length items) ++ (turn ∷ looks ++ seal ∷ ts)) = shape_then held noted new (detail_notes r.row x (length items)) (turn ∷ looks ++ seal ∷ ts) notes (subst (AddsSteps noted new) steps accepts) in
    let did : AddsSteps held new (zs ++ seal ∷ ts) = all in
    let quiet = items_quiet r.row q 8 olds in
    let y = sealing held new r Confirmed items zs ts did (refl, (refl, (refl, (refl, (refl, (refl, quiet.1)))))) (append (gives_from q 0 (length olds)) (closing q Exchange end) (given q 0 (length olds)) (refl, (refl, (refl, (refl, tt))))) seals in
    let g = new.layout in
    let f = all_noted g held.seen y.front d r.row (length items) x [] (turn ∷ looks) (front_legal held new r Confirmed items zs did.legal y) y.mine in
    let then = next_turn g (state_of g held.seen) y.front d r.row retailer q from Exchange end looks f in
    let its = subst (λ (s : State). Made s d r.row retailer) (sym (state_of-append g held.seen y.front)) (made_all g (state_of g held.seen) y.front d r.row retailer looks (refl, quiet.0) then) in
    let at : row ≡ r = cc in
    let view : v ≡ made_view Confirmed x items = cc in
    subst (λ (z : RowNo × RowSeen). StandsFrom z.1.phase retailer new z.0) (λ i. (sym at i, sym view i)) (sealed_stands held new r Confirmed retailer items zs did.legal refl y its)
