-- A booking that was seen for a quote, and what the looks of a later call show of it.
use Rattle.std.proofs.Common.{◌≡◌, ℕ, suc, ◌+◌, ◌≤◌, ◌⊎◌, inl, inr, Bool, cond, true, List, [], ◌∷◌, ◌++◌, map, length, Some, refl, sym, ap, ◌∙◌, subst, arith, append_assoc, append-nil, eq-eqb}
use Rattle.std.specs.List.{AllByRecursion}
use mathlib.Core.List.{IsPrefix}
use Rattle.leg_masks.specs.Interval.{PlacedSpan as Item, item_word}
use Rattle.leg_masks.proofs.Items.{one_item}
use Rattle.rail_ids.specs.declared.RowNo.{RowNo}
use Rattle.history_model.specs.declared.entry.Entry.{Entry}
use Rattle.history_model.specs.declared.entry.Step.{Step}
use Rattle.history_model.specs.declared.entry.Step.TheVariants.{SawRow}
use Rattle.history_model.specs.declared.phase.Phase.{Phase}
use Rattle.history_model.specs.declared.phase.Phase.TheVariants.{Free}
use Rattle.history_model.specs.Phase.{is_sealed, is_live, phase_shown}
use Rattle.history_model.specs.Booking.{Booking, Layout, State, booking_at, next_generation, word_at}
use Rattle.history_model.specs.History.{IsLegal, IsLegalFrom, entry, own, state_after, state_of}
use Rattle.history_model.specs.Words.{row_word}
use Rattle.history_model.proofs.Generations.{present_key, present_latest}
use Rattle.history_model.proofs.ListLemmas.{All-left, All-right}
use Rattle.history_model.proofs.PhaseWords.{present_shown}
use Rattle.history_model.proofs.Seen.{legal-front, legal-rest, state_of-append}
use Rattle.history_model.proofs.Forward.{legal_left, legal_right}
use Rattle.history_model.proofs.Writing.{booking_of_word}
use Rattle.claim_rule.specs.Endings.{item_looks, items_read}
use Rattle.claim_rule.specs.Rule.{DeskView, state_seen}
use Rattle.claim_rule.specs.Desks.{AddsSteps}
use Rattle.claim_rule.proofs.Shapes.{shape_rest}
use Rattle.booking_rows.specs.Views.{RowSeen, HasWord, saw_end, saw_phase, saw_row, saw_words}
use Rattle.booking_rows.proofs.ViewLemmas.{sealed_not_free}
use Rattle.refund_core.specs.Quotes.{SeesOwn}
use Rattle.expiry_sweeper.specs.Complete.{BeginsAt, HasLeft}
use Rattle.expiry_sweeper.proofs.Own.{first_of, rest_of, steps_all, steps_since, around}
use Rattle.expiry_sweeper.proofs.Standing.{ShowsSeal, LeavesPhase, there, seal_shown, phase_left, phase_of, still_there, stands_so}

-- The quote's first look found the booking. From it on, with the other looks of the quote, the history goes on to
-- where the later call begins
pub record Asked (row : RowNo) (v : RowSeen) (g : Layout) (begun : List Entry) : Type 0 where
  pub before : List Entry
  pub quote : List Entry
  pub more : List Entry
  pub is : before ++ (quote ++ more) ≡ begun
  pub booking : Booking
  pub at : booking_at (state_of g before) row.row row.generation ≡ Some booking
  pub in_phase : booking.phase ≡ v.phase
  pub sealed : is_sealed v.phase ≡ true
  pub desk : ℕ
  pub last : ℕ
  pub looks : own quote desk ≡ map (entry desk) (saw_row row v last)

pub asked_of : (row : RowNo) (retailer : ℕ) (v : RowSeen) (es : List Step) (asking asked : DeskView) (g : Layout) (begun : List Entry) → IsLegal g begun → AddsSteps asking asked es → SeesOwn row retailer v es → IsPrefix asked.seen begun → Asked row v g begun
asked_of row retailer v es asking asked g begun legal did sees (more, on) =
    let last = sees.1.1.0 in
    let d = asking.number in
    let x = shape_rest asking asked es did in
    let first = saw_phase row v.phase in
    let others = saw_words row.row v ++ SawRow row.row 0 last ∷ [] in
    let mine : own did.front.0 d ≡ map (entry d) (first ∷ others) = subst (λ (l : List Step). own did.front.0 d ≡ map (entry d) l) sees.1.1.2 x.1 in
    let a = around d did.front.0 [] first others mine in
    let before = asking.seen ++ a.before in
    let quote = entry d first ∷ a.after in
    let seen : before ++ quote ≡ asked.seen = append_assoc asking.seen a.before quote ∙ (ap (λ (l : List Entry). asking.seen ++ l) (sym a.is) ∙ did.front.1) in
    let whole : before ++ (quote ++ more) ≡ begun = sym (append_assoc before quote more) ∙ (ap (λ (l : List Entry). l ++ more) seen ∙ on) in
    let l : IsLegalFrom g (state_of g before) (quote ++ more) = legal-rest g before (quote ++ more) (subst (IsLegal g) (sym whole) legal) in
    let s = state_of g before in
    let b = booking_of_word s row.row v.phase row.generation (sealed_not_free v.phase sees.1.0.sealed) (sym l.0.2) in
    record {
      before = before;
      quote = quote;
      more = more;
      is = whole;
      booking = b.0;
      at = subst (λ (n : ℕ). booking_at s row.row n ≡ Some b.0) b.3 (present_key s row.row b.0 b.1);
      in_phase = b.2;
      sealed = sees.1.0.sealed;
      desk = d;
      last = last;
      looks = ap (λ (c : Bool). cond c (entry d first ∷ own a.after d) (own a.after d)) (eq-eqb d d refl) ∙ ap (λ (l : List Entry). entry d first ∷ l) a.last;
    }

-- what looks at all words of a seal show

word_here : (row w n : ℕ) (b : Booking) (more : List Step) → ((1 ≤ w) × (w ≤ 4)) ⊎ (8 ≤ w) → AllByRecursion (ShowsSeal row b) (SawRow row w n ∷ more) → (n ≡ word_at b w) × AllByRecursion (ShowsSeal row b) more
word_here row w n b more seal all = ((first_of (ShowsSeal row b) (SawRow row w n) more all) refl seal, rest_of (ShowsSeal row b) (SawRow row w n) more all)

pub record ShowsAll (row : ℕ) (b : Booking) (v : RowSeen) : Type 0 where
  pub retailer : v.retailer ≡ word_at b 1
  pub total : v.total ≡ word_at b 3
  pub count : length v.items ≡ word_at b 4
  pub items : AllByRecursion (ShowsSeal row b) (item_looks row 8 v.items)

pub shows_all : (row : RowNo) (b : Booking) (v : RowSeen) (rest : List Step) → AllByRecursion (ShowsSeal row.row b) (saw_phase row v.phase ∷ saw_words row.row v ++ rest) → ShowsAll row.row b v
shows_all row b v rest all =
    let r = row.row in
    let ends = saw_end r v.phase v.ended in
    let items = item_looks r 8 v.items in
    let P = ShowsSeal r b in
    let words = All-left P (saw_words r v) rest (rest_of P (saw_phase row v.phase) (saw_words r v ++ rest) all) in
    let one = word_here r 1 v.retailer b (SawRow r 2 v.limit ∷ SawRow r 3 v.total ∷ items_read r v.items ++ ends) (inl (let e : 1 ≤ 1 = omega arith in e, let e : 1 ≤ 4 = omega arith in e)) words in
    let two = word_here r 2 v.limit b (SawRow r 3 v.total ∷ items_read r v.items ++ ends) (inl (let e : 1 ≤ 2 = omega arith in e, let e : 2 ≤ 4 = omega arith in e)) one.1 in
    let three = word_here r 3 v.total b (items_read r v.items ++ ends) (inl (let e : 1 ≤ 3 = omega arith in e, let e : 3 ≤ 4 = omega arith in e)) two.1 in
    let four = word_here r 4 (length v.items) b (items ++ ends) (inl (let e : 1 ≤ 4 = omega arith in e, let e : 4 ≤ 4 = omega arith in e)) three.1 in
    record { retailer = one.0; total = three.0; count = four.0; items = All-left P items ends four.1 }

same_items : (row w : ℕ) (b : Booking) (xs ys : List Item) → 8 ≤ w → length xs ≡ length ys → AllByRecursion HasWord xs → AllByRecursion HasWord ys → AllByRecursion (ShowsSeal row b) (item_looks row w xs) → AllByRecursion (ShowsSeal row b) (item_looks row w ys) → xs ≡ ys
same_items row w b [] [] high many p q f g = refl
same_items row w b [] (y ∷ ys) high many p q f g = absurd cc
same_items row w b (x ∷ xs) [] high many p q f g = absurd cc
same_items row w b (x ∷ xs) (y ∷ ys) high many p q f g =
    let here : item_word x.place x.span ≡ item_word y.place y.span = f.0 refl (inr high) ∙ sym (g.0 refl (inr high)) in
    let fewer : length xs ≡ length ys = cc in
    let one = one_item x.place y.place x.span y.span p.0.1 p.0.2 q.0.1 q.0.2 here in
    let rest = same_items row (suc w) b xs ys (omega (arith, high)) fewer p.1 q.1 f.1 g.1 in
    λ i. record { place = one.0 i; span = one.1 i } ∷ rest i

-- histories in other parts

parted : (a m b f : List Entry) → a ++ ((m ++ b) ++ f) ≡ (a ++ m) ++ (b ++ f)
parted a m b f = ap (λ (l : List Entry). a ++ l) (append_assoc m b f) ∙ sym (append_assoc a m (b ++ f))

legal_as : (g : Layout) (xs ys : List Entry) → xs ≡ ys → IsLegal g ys → IsLegal g xs
legal_as g xs ys is legal = subst (IsLegal g) (sym is) legal

-- a look that shows the booking finds it present
pub still_shown : (t : State) (row : RowNo) (n : ℕ) → n ≡ row_word t row.row 0 → (phase_shown row.generation n ≡ Free → ⊥) → next_generation t row.row ≡ row.generation + 1
still_shown t row n is kept =
    let c = present_shown t row.row row.generation (phase_shown row.generation n) kept (ap (phase_shown row.generation) (sym is)) in
    sym (present_latest t row.row c.0 c.1).1 ∙ ap (λ (k : ℕ). k + 1) c.2

-- the quote and the later call saw one total, and the same items

pub record SeesSame (v w : RowSeen) : Type 0 where
  pub total : v.total ≡ w.total
  pub items : v.items ≡ w.items

pub sees_same : (row : RowNo) (retailer : ℕ) (v w : RowSeen) (es qs : List Step) (asking asked old new : DeskView) (begun : List Entry) → AddsSteps asking asked qs → SeesOwn row retailer v qs → IsPrefix asked.seen begun → AddsSteps old new es → SeesOwn row retailer w es → BeginsAt old new begun → SeesSame v w
sees_same row retailer v w es qs asking asked old new begun asks saw on did sees begins =
    let g = new.layout in
    let d = old.number in
    let rest = begins.goes_on.0 in
    let all : begun ++ rest ≡ new.seen = begins.goes_on.1 in
    let legal : IsLegal g (begun ++ rest) = legal_as g (begun ++ rest) new.seen all did.legal in
    let a = asked_of row retailer v qs asking asked g begun (legal-front g begun rest legal) asks saw on in
    let last = sees.1.1.0 in
    let looks = saw_phase row w.phase ∷ saw_words row.row w in
    let mine : own rest d ≡ map (entry d) (looks ++ SawRow row.row 0 last ∷ []) = subst (λ (l : List Step). own rest d ≡ map (entry d) l) sees.1.1.2 (steps_since old new begun rest es did begins.none_yet all) in
    let r = around d rest looks (SawRow row.row 0 last) [] mine in
    let final = entry d (SawRow row.row 0 last) ∷ r.after in
    let s = state_of g a.before in
    let between = (a.quote ++ a.more) ++ r.before in
    let whole : a.before ++ (between ++ final) ≡ begun ++ rest = parted a.before (a.quote ++ a.more) r.before final ∙ (λ i. a.is i ++ sym r.is i) in
    let l : IsLegalFrom g s (between ++ final) = legal-rest g a.before (between ++ final) (legal_as g (a.before ++ (between ++ final)) (begun ++ rest) whole legal) in
    let first = legal_left g s between final l in
    let then = legal_right g s between final l in
    let t = state_after s between in
    let still = still_shown t row last then.0.2 sees.1.1.1 in
    let b = a.booking in
    let P = ShowsSeal row.row b in
    let shows = seal_shown g s between row.row row.generation b b first a.at (ap is_sealed a.in_phase ∙ a.sealed) (λ k _. refl) still in
    let Q : Entry → Type 0 = λ (e : Entry). P e.step in
    let early = All-left Q a.quote a.more (All-left Q (a.quote ++ a.more) r.before shows) in
    let late = All-right Q (a.quote ++ a.more) r.before shows in
    let one = shows_all row b v (SawRow row.row 0 a.last ∷ []) (steps_all P a.desk a.quote (saw_row row v a.last) a.looks early) in
    let two = shows_all row b w [] (subst (AllByRecursion P) (sym (none_after looks)) (steps_all P d r.before looks r.first late)) in
    record {
      total = one.total ∙ sym two.total;
      items = same_items row.row 8 b v.items w.items (let e : 8 ≤ 8 = omega arith in e) (one.count ∙ sym two.count) saw.1.0.items sees.1.0.items one.items two.items;
    }
  where
    none_after : (xs : List Step) → xs ++ [] ≡ xs
    none_after xs = append-nil xs

-- where the booking is still in its phase, all of the later call's steps are such as leave it there
pub record Unmoved (row : RowNo) (retailer : ℕ) (phase : Phase) (es : List Step) : Type 0 where
  pub booking : Booking
  pub its : retailer ≡ word_at booking 1
  pub seals : AllByRecursion (ShowsSeal row.row booking) es
  pub phases : AllByRecursion (LeavesPhase row.row row.generation phase) es

pub has_left : (row : RowNo) (retailer : ℕ) (v : RowSeen) (es qs : List Step) (asking asked old new : DeskView) (begun : List Entry) → AddsSteps asking asked qs → SeesOwn row retailer v qs → IsPrefix asked.seen begun → AddsSteps old new es → BeginsAt old new begun → is_live v.phase ≡ true → (Unmoved row retailer v.phase es → ⊥) → HasLeft v.phase (state_seen new) row
has_left row retailer v es qs asking asked old new begun asks saw on did begins live moved =
    let g = new.layout in
    let rest = begins.goes_on.0 in
    let all : begun ++ rest ≡ new.seen = begins.goes_on.1 in
    let legal : IsLegal g (begun ++ rest) = legal_as g (begun ++ rest) new.seen all did.legal in
    let a = asked_of row retailer v qs asking asked g begun (legal-front g begun rest legal) asks saw on in
    let s = state_of g a.before in
    let since = (a.quote ++ a.more) ++ rest in
    let whole : a.before ++ since ≡ begun ++ rest = sym (append_assoc a.before (a.quote ++ a.more) rest) ∙ ap (λ (l : List Entry). l ++ rest) a.is in
    let lawful : IsLegal g (a.before ++ since) = legal_as g (a.before ++ since) (begun ++ rest) whole legal in
    let l : IsLegalFrom g s since = legal-rest g a.before since lawful in
    let b = a.booking in
    let sealed : is_sealed b.phase ≡ true = ap is_sealed a.in_phase ∙ a.sealed in
    let c = there g s since row.row row.generation b l a.at sealed in
    let last : state_of g (a.before ++ since) ≡ state_after s since = state_of-append g a.before since in
    let final : state_seen new ≡ state_after s since = ap (state_of g) (sym (whole ∙ all)) ∙ last in
    stands_so (state_after s since) (state_seen new) row c.0 (λ y. y.phase ≡ v.phase → ⊥) final c.1 (λ (is : c.0.phase ≡ v.phase).
    let later : booking_at (state_of g (a.before ++ since)) row.row row.generation ≡ Some c.0 = ap (λ (x : State). booking_at x row.row row.generation) last ∙ c.1 in
    let still = ap (λ (x : State). next_generation x row.row) (sym last) ∙ still_there g (a.before ++ since) row.row row.generation c.0 lawful later (ap is_live is ∙ live) in
    let P = ShowsSeal row.row b in
    let R = LeavesPhase row.row row.generation v.phase in
    let Q : Entry → Type 0 = λ (e : Entry). P e.step in
    let T : Entry → Type 0 = λ (e : Entry). R e.step in
    let seals = seal_shown g s since row.row row.generation b b l a.at sealed (λ k _. refl) still in
    let phases = phase_left g s since row.row row.generation v.phase b l a.at a.in_phase live still (phase_of (state_after s since) row.row row.generation c.0 c.1 ∙ is) in
    let early = All-left Q a.quote a.more (All-left Q (a.quote ++ a.more) rest seals) in
    let one = shows_all row b v (SawRow row.row 0 a.last ∷ []) (steps_all P a.desk a.quote (saw_row row v a.last) a.looks early) in
    let mine = steps_since old new begun rest es did begins.none_yet all in
    moved (record {
      booking = b;
      its = sym saw.0 ∙ one.retailer;
      seals = steps_all P old.number rest es mine (All-right Q (a.quote ++ a.more) rest seals);
      phases = steps_all R old.number rest es mine (All-right T (a.quote ++ a.more) rest phases);
    }))
