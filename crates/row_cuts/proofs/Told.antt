-- What was told before a cut is there when the books open again.
use Rattle.std.proofs.Common.{◌≡◌, ◌≢◌, ◌⊎◌, inl, inr, ⊎_elim, ℕ, zero, suc, ◌+◌, ◌<◌, ◌≤◌, ◌==◌, Bool, true, false, cond, eq-eqb, ne_eqb, if◌then◌else◌, List, [], ◌∷◌, ◌++◌, filter_map, length, map, Option, Some, None, IfSome, IsSomeAnd, refl, sym, ap, ◌∙◌, subst, arith}
use Rattle.std.specs.Prelude.{option_and_then}
use Rattle.std.specs.Option.{option_map_or}
use Rattle.std.specs.List.{AllByRecursion, cons_option, range_with_len}
use Rattle.std.proofs.lemmas.Bool.{cases_eq}
use mathlib.Core.List.{IsPrefix}
use Rattle.history_model.specs.declared.booking.BookedItem.{BookedItem}
use Rattle.history_model.specs.declared.booking.End.{End}
use Rattle.history_model.specs.declared.entry.Entry.{Entry}
use Rattle.history_model.specs.declared.phase.EndKind.{EndKind}
use Rattle.history_model.specs.declared.phase.Phase.{Phase}
use Rattle.history_model.specs.declared.phase.Phase.TheVariants.{Free, Making, Prebooked, Confirmed, Fulfilled, Ending, Ended}
use Rattle.history_model.specs.Booking.{Booking, Layout, State, booking_at, phase_at, present}
use Rattle.history_model.specs.History.{IsLegal, IsLegalFrom, state_after, state_of}
use Rattle.history_model.specs.Laws.{IsInRange, IsSound, KeepsSeal, Stays, unmarked}
use Rattle.history_model.specs.Life.{LeadsTo}
use Rattle.history_model.specs.Phase.{is_ended, is_sealed}
use Rattle.history_model.proofs.Forward.{stays_all}
use Rattle.history_model.proofs.Generations.{free_next, generation_below, key_at, present_key, present_latest}
use Rattle.history_model.proofs.Keeping.{found}
use Rattle.history_model.proofs.Leading.{leads-history}
use Rattle.history_model.proofs.Ranges.{all_found, ended_stays, ranges_all, row_of}
use Rattle.history_model.proofs.Seen.{legal-rest, state_of-append}
use Rattle.claim_rule.specs.Openings.{AreRising, KeptBooking, booked, end_in, kept_as, kept_bookings, kept_in, kept_of_row, layout_with, opening_booking, opening_of, placed, stub}
use Rattle.claim_rule.specs.Walls.{WallView}
use Rattle.claim_rule.proofs.Moves.{is_sound}
use Rattle.claim_rule.proofs.OpeningKept.{kept_at, present_found}
use Rattle.cold_store.specs.Exports.{state_on}
use Rattle.cold_store.specs.Imports.{OpensAs}
use Rattle.line_text.specs.Lines.{SaidBooking}
use Rattle.cold_store.specs.Right.{kept_of}
use Rattle.cold_store.proofs.Opens.{may_open}
use Rattle.row_cuts.specs.Cuts.{Cut, folded_text}
use Rattle.row_cuts.specs.Told.{EndsAt, GoOnFrom, HasAllOf, IsStillIt, StandsOrIsFollowed}
use Rattle.row_cuts.proofs.ReadBack.{all_read_back}

-- what an opening has of a booking that is kept

placed_booked : (t : Bool) (is : List BookedItem) → map placed (map (booked t) (map placed is)) ≡ map placed is
placed_booked t [] = refl
placed_booked t (i ∷ is) = ap (λ (js : List _). placed i ∷ js) (placed_booked t is)

placed_unmarked : (is : List BookedItem) → map placed (map unmarked is) ≡ map placed is
placed_unmarked [] = refl
placed_unmarked (i ∷ is) = ap (λ (js : List _). placed i ∷ js) (placed_unmarked is)

same_placed : (b c : Booking) → KeepsSeal b c → map placed c.items ≡ map placed b.items
same_placed b c same = sym (placed_unmarked c.items) ∙ (ap (λ (is : List BookedItem). map placed is) same.items ∙ placed_unmarked b.items)

sealed_kept : (phase : Phase) (c : Booking) → is_sealed phase ≡ true → kept_in phase c ≡ Some (kept_as c)
sealed_kept Free c sealed = absurd (let no : false ≡ true = sealed in cc)
sealed_kept Making c sealed = absurd (let no : false ≡ true = sealed in cc)
sealed_kept Prebooked c sealed = refl
sealed_kept Confirmed c sealed = refl
sealed_kept Fulfilled c sealed = refl
sealed_kept (Ending kind) c sealed = refl
sealed_kept (Ended kind) c sealed = refl

opening_end : (kind : EndKind) (phase : Phase) (end : End) → phase ≡ Ended kind → end_in phase (end_in phase end) ≡ end
opening_end kind phase end is = ap (λ (p : Phase). end_in p (end_in p end)) is

-- a row that serves for a later generation than the first keeps something of it
later_kept : (phase : Phase) (p : Booking) → phase ≢ Free → 1 ≤ p.generation → (k : KeptBooking) × (kept_in phase p ≡ Some k) × (k.generation ≡ p.generation)
later_kept Free p other some = absurd (other refl)
later_kept Making p other some =
    let more : p.generation ≢ 0 = λ e. (let l = some in omega arith) in
    (stub p.row p.generation, ap (λ (t : Bool). cond t None (Some (stub p.row p.generation))) (ne_eqb p.generation 0 more), refl)
later_kept Prebooked p other some = (kept_as p, refl, refl)
later_kept Confirmed p other some = (kept_as p, refl, refl)
later_kept Fulfilled p other some = (kept_as p, refl, refl)
later_kept (Ending kind) p other some = (kept_as p, refl, refl)
later_kept (Ended kind) p other some = (kept_as p, refl, refl)

kept_now : (s : State) (row : ℕ) (b : Booking) → present s row ≡ Some b → kept_of_row s row ≡ kept_in b.phase b
kept_now s row b at = ap (λ (o : Option Booking). option_and_then (λ b. kept_in b.phase b) o) at

some_same : {A : Type 0} (x y : A) → Some x ≡ Some y → x ≡ y
some_same x y same = cc

phase_found : (s : State) (row generation : ℕ) (b : Booking) → booking_at s row generation ≡ Some b → phase_at s row generation ≡ b.phase
phase_found s row generation b at = ap (λ (o : Option Booking). option_map_or (λ (b : Booking). b.phase) o Free) at

module _ (g : Layout) (s : State) (more : List Entry) (row generation : ℕ) (legal : IsLegalFrom g s more) (b : Booking) (at : booking_at s row generation ≡ Some b) (sealed : is_sealed b.phase ≡ true) where
  stays : (c : Booking) × (booking_at (state_after s more) row generation ≡ Some c) × Stays b c
  stays =
      let all = stays_all g s more row generation legal in
      let here = subst (λ (o : Option Booking). IfSome o (λ b. is_sealed b.phase ≡ true → IsSomeAnd (booking_at (state_after s more) row generation) (Stays b))) at all in
      found (booking_at (state_after s more) row generation) (Stays b) (here sealed)

  still_it : (c : Booking) → booking_at (state_after s more) row generation ≡ Some c → Stays b c → IsStillIt b (opening_booking (kept_as c))
  still_it c here stay =
      let keys = key_at s row generation b at in
      let now = key_at (state_after s more) row generation c here in
      let words = stay.sealed.words in
      record {
        generation = now.1 ∙ sym keys.1;
        phase = subst (λ (p : Phase). LeadsTo b.phase p) (phase_found (state_after s more) row generation c here)
            (subst (λ (p : Phase). LeadsTo p (phase_at (state_after s more) row generation)) (phase_found s row generation b at) (leads-history g s more row generation legal));
        retailer = words 1 (inl (omega arith, omega arith));
        limit = words 2 (inl (omega arith, omega arith));
        total = words 3 (inl (omega arith, omega arith));
        items = placed_booked (is_ended c.phase) c.items ∙ same_placed b c stay.sealed;
        end = λ kind is.
            let end = found (booking_at (state_after s more) row generation) (λ c. (c.phase ≡ Ended kind) × (c.end ≡ b.end)) (ended_stays g s more row generation kind b legal at is) in
            let same : end.0 ≡ c = some_same end.0 c (sym end.1 ∙ here) in
            opening_end kind c.phase c.end (ap (λ (x : Booking). x.phase) (sym same) ∙ end.2.0) ∙ (ap (λ (x : Booking). x.end) (sym same) ∙ end.2.1);
      }

  -- what the later state keeps of the row
  kept_later : AllByRecursion (IsSound g) (state_after s more) → (k : KeptBooking) × (kept_of_row (state_after s more) row ≡ Some k) × ((b.generation < k.generation) ⊎ IsStillIt b (opening_booking k))
  kept_later sounds = go (present (state_after s more) row) refl
    where
      go : (o : Option Booking) → present (state_after s more) row ≡ o → (k : KeptBooking) × (kept_of_row (state_after s more) row ≡ Some k) × ((b.generation < k.generation) ⊎ IsStillIt b (opening_booking k))
      go None none =
          let n = generation_below (state_after s more) row generation stays.0 stays.1 in
          let zero_next = free_next (state_after s more) row none in absurd (omega arith)
      go (Some p) one = ⊎_elim
          (λ (same : p.generation ≡ generation).
          let is : p ≡ stays.0 = some_same p stays.0 (sym (present_key (state_after s more) row p one) ∙ (ap (booking_at (state_after s more) row) same ∙ stays.1)) in
          let c = stays.0 in
          (kept_as c, kept_now (state_after s more) row p one ∙ (ap (λ (x : Booking). kept_in x.phase x) is ∙ sealed_kept c.phase c stays.2.still_sealed), inr (still_it c stays.1 stays.2)))
          (λ (other : p.generation ≡ generation → ⊥).
          let below = generation_below (state_after s more) row generation stays.0 stays.1 in
          let latest = (present_latest (state_after s more) row p one).1 in
          let above : generation < p.generation = omega (arith, other, below, latest) in
          let k = later_kept p.phase p (all_found (IsSound g) (state_after s more) row p sounds one).started (omega arith) in
          let its = (key_at s row generation b at).1 in
          let more_of = k.2 in
          (k.0, kept_now (state_after s more) row p one ∙ k.1, inl (omega (arith, above, its, more_of))))
          (cases_eq p.generation generation)

-- the list of all that is kept has it

row_kept : (phase : Phase) (p : Booking) (k : KeptBooking) → kept_in phase p ≡ Some k → k.row ≡ p.row
row_kept Free p k e = absurd (let no : ◌≡◌ {A = Option KeptBooking} None (Some k) = e in cc)
row_kept Making p k e = go (p.generation == 0) e
  where
    go : (t : Bool) → (if t then None else Some (stub p.row p.generation)) ≡ Some k → k.row ≡ p.row
    go true f = absurd (let no : ◌≡◌ {A = Option KeptBooking} None (Some k) = f in cc)
    go false f = ap (λ (x : KeptBooking). x.row) (sym (some_same (stub p.row p.generation) k f))
row_kept Prebooked p k e = ap (λ (x : KeptBooking). x.row) (sym (some_same (kept_as p) k e))
row_kept Confirmed p k e = ap (λ (x : KeptBooking). x.row) (sym (some_same (kept_as p) k e))
row_kept Fulfilled p k e = ap (λ (x : KeptBooking). x.row) (sym (some_same (kept_as p) k e))
row_kept (Ending kind) p k e = ap (λ (x : KeptBooking). x.row) (sym (some_same (kept_as p) k e))
row_kept (Ended kind) p k e = ap (λ (x : KeptBooking). x.row) (sym (some_same (kept_as p) k e))

row_of_kept : (s : State) (row : ℕ) (k : KeptBooking) → kept_of_row s row ≡ Some k → k.row ≡ row
row_of_kept s row k e = go (present s row) refl
  where
    go : (o : Option Booking) → present s row ≡ o → k.row ≡ row
    go None none = absurd (let no : ◌≡◌ {A = Option KeptBooking} None (Some k) = ap (λ (o : Option Booking). option_and_then (λ b. kept_in b.phase b) o) (sym none) ∙ e in cc)
    go (Some p) at = row_kept p.phase p k (sym (kept_now s row p at) ∙ e) ∙ row_of s row p at

kept_in_list : (s : State) (row from n : ℕ) (k : KeptBooking) → kept_of_row s row ≡ Some k → from ≤ row → row < from + n → kept_at (filter_map (kept_of_row s) (range_with_len from n)) row ≡ Some k
kept_in_list s row from zero k e low high = absurd (omega arith)
kept_in_list s row from (suc n) k e low high = ⊎_elim
    (λ (here : from ≡ row).
    let is : kept_of_row s from ≡ Some k = ap (kept_of_row s) here ∙ e in
    let found_here = eq-eqb k.row row (row_of_kept s row k e) in
    ap (λ (o : Option KeptBooking). kept_at (cons_option o (filter_map (kept_of_row s) (range_with_len (from + 1) n))) row) is
    ∙ ap (λ (t : Bool). cond t (Some k) (kept_at (filter_map (kept_of_row s) (range_with_len (from + 1) n)) row)) found_here)
    (λ (other : from ≡ row → ⊥). go other (kept_of_row s from) refl (kept_in_list s row (from + 1) n k e (omega (arith, low, other)) (omega arith)))
    (cases_eq from row)
  where
    rest : List KeptBooking
    rest = filter_map (kept_of_row s) (range_with_len (from + 1) n)

    go : (from ≡ row → ⊥) → (o : Option KeptBooking) → kept_of_row s from ≡ o → kept_at (filter_map (kept_of_row s) (range_with_len (from + 1) n)) row ≡ Some k
        → kept_at (cons_option (kept_of_row s from) (filter_map (kept_of_row s) (range_with_len (from + 1) n))) row ≡ Some k
    go other None none more = ap (λ (o : Option KeptBooking). kept_at (cons_option o (filter_map (kept_of_row s) (range_with_len (from + 1) n))) row) none ∙ more
    go other (Some j) some more =
        let differs = ne_eqb j.row row (λ is. other (sym (row_of_kept s from j some) ∙ is)) in
        ap (λ (o : Option KeptBooking). kept_at (cons_option o (filter_map (kept_of_row s) (range_with_len (from + 1) n))) row) some
        ∙ (ap (λ (t : Bool). cond t (Some j) (kept_at (filter_map (kept_of_row s) (range_with_len (from + 1) n)) row)) differs ∙ more)

-- so the books that open with it have all bookings of what was told

has_all : (g : Layout) (told more : List Entry) (kept : List KeptBooking) → IsLegal g (told ++ more) → AreRising kept → kept ≡ kept_bookings g.rows (state_of g (told ++ more))
    → HasAllOf (state_of g told) (opening_of kept)
has_all g told more kept legal rising is row generation = go (booking_at (state_of g told) row generation) refl
  where
    parts : state_of g (told ++ more) ≡ state_after (state_of g told) more
    parts = state_of-append g told more

    go : (o : Option Booking) → booking_at (state_of g told) row generation ≡ o → IfSome o (λ b. is_sealed b.phase ≡ true → StandsOrIsFollowed (opening_of kept) b)
    go None none = tt
    go (Some b) at = λ sealed.
        let s = state_of g told in
        let on = legal-rest g told more legal in
        let its = (key_at s row generation b at).0 in
        let sounds = subst (λ (x : State). AllByRecursion (IsSound g) x) parts (is_sound g (told ++ more) legal).each in
        let k = kept_later g s more row generation on b at sealed sounds in
        let kept_there : kept_of_row (state_of g (told ++ more)) row ≡ Some k.0 = ap (λ (x : State). kept_of_row x row) parts ∙ k.1 in
        let inside = row_inside (state_of g (told ++ more)) (ranges_all g (told ++ more) legal) k.0 kept_there in
        let listed : kept_at kept row ≡ Some k.0 = ap (λ (ks : List KeptBooking). kept_at ks row) is ∙ kept_in_list (state_of g (told ++ more)) row 0 g.rows k.0 kept_there (omega arith) (omega arith) in
        let there : present (opening_of kept) b.row ≡ Some (opening_booking k.0) = ap (present (opening_of kept)) its ∙ present_found kept row k.0 rising listed in
        subst (λ (o : Option Booking). IsSomeAnd o (λ c. (b.generation < c.generation) ⊎ IsStillIt b c)) (sym there) k.2
      where
        row_inside : (s : State) → AllByRecursion (IsInRange g) s → (k : KeptBooking) → kept_of_row s row ≡ Some k → row < g.rows
        row_inside s all k e = within (present s row) refl
          where
            within : (o : Option Booking) → present s row ≡ o → row < g.rows
            within None none = absurd (let no : ◌≡◌ {A = Option KeptBooking} None (Some k) = ap (λ (o : Option Booking). option_and_then (λ b. kept_in b.phase b) o) (sym none) ∙ e in cc)
            within (Some p) at = subst (λ (r : ℕ). r < g.rows) (row_of s row p at) (all_found (IsInRange g) s row p all at).row

pub goes_on : (w : WallView) (cuts : List Cut) (told : List Entry) (opened : Layout) → EndsAt w cuts → IsPrefix told w.history
    → OpensAs w.layout.legs w.layout.rows (folded_text (length w.layout.legs) w.layout.rows cuts) opened → GoOnFrom w told opened
goes_on w cuts told opened ends (more, whole) (said, right, is) =
    let legs = w.layout.legs in
    let rows = w.layout.rows in
    let read = all_read_back w cuts ends.sizes ends.begun ends.closed ends.tidy ends.follow ends.last in
    let same = (read.only (length legs) rows said right.sized).2 in
    let kept : map kept_of said ≡ kept_bookings rows (state_on w) = ap (λ (xs : List SaidBooking). map kept_of xs) same ∙ read.kept in
    let rising = (may_open legs rows said right.sized.each right.sized.rising right.right right.apart).rising in
    let history : kept_bookings rows (state_on w) ≡ kept_bookings rows (state_of w.layout (told ++ more)) = ap (λ (h : List Entry). kept_bookings rows (state_of w.layout h)) (sym whole) in
    record {
      opens = is ∙ ap (layout_with legs rows) kept;
      have = subst (λ (x : Layout). HasAllOf (state_of w.layout told) x.opening) (sym is)
          (has_all w.layout told more (map kept_of said) (subst (IsLegal w.layout) (sym whole) ends.closed.legal) rising (kept ∙ history));
    }
