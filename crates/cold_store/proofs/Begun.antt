-- The books that an export opens: their bookings are kept ones, and each exchange among them has its new booking.
use Rattle.std.proofs.Common.{◌≡◌, ◌≢◌, ◌⊎◌, inl, inr, ⊎_elim, ℕ, zero, suc, ◌+◌, ◌*◌, ◌<◌, ◌≤◌, Bool, true, false, List, [], ◌∷◌, ◌++◌, map, length, Option, Some, None, IfSome, refl, sym, ap, ◌∙◌, subst, arith}
use Rattle.std.specs.Prelude.{Contains, slice_index_or}
use Rattle.std.specs.List.{AllByRecursion}
use Rattle.std.specs.Option.{option_map_or}
use Rattle.std.proofs.lemmas.Bool.{cases_eq}
use Rattle.history_model.specs.declared.booking.End.{End}
use Rattle.history_model.specs.declared.phase.Phase.{Phase}
use Rattle.history_model.specs.declared.phase.Phase.TheVariants.{Free, Making, Prebooked, Confirmed, Fulfilled, Ending, Ended}
use Rattle.history_model.specs.declared.phase.EndKind.{EndKind}
use Rattle.history_model.specs.declared.phase.EndKind.TheVariants.{Exchange}
use Rattle.history_model.specs.Lists.{Pairwise}
use Rattle.history_model.specs.Booking.{Booking, Layout, State, booking_at, most_rows, next_generation, phase_at, successor_rows, successor_word}
use Rattle.history_model.specs.Laws.{IsOpening, IsSound, is_owners, stage}
use Rattle.history_model.proofs.ListLemmas.{All-both, All-found, All-map, All-of_map}
use Rattle.history_model.proofs.Generations.{generation_below, stands_there}
use Rattle.claim_rule.specs.Openings.{AreRising, HasOwnEnd, KeptBooking, MayOpen, end_in, layout_with, opening_booking, opening_of}
use Rattle.line_text.specs.declared.ends.SaidEnd.{SaidEnd}
use Rattle.line_text.specs.declared.ends.SaidRow.{SaidRow}
use Rattle.cold_store.specs.Imports.{IsRightText}
use Rattle.line_text.specs.Lines.{IsEndSaid, IsSayable, SaidBooking}
use Rattle.cold_store.specs.Right.{HasLine, IsRight, kept_of}
use Rattle.cold_store.specs.Tidy.{AreSucceeded, HasSuccessor, IsExchanged, IsMade}

rising_kept : (said : List SaidBooking) → Pairwise (λ (a b : SaidBooking). a.row < b.row) said → AreRising (map kept_of said)
rising_kept [] rising = tt
rising_kept (b ∷ bs) rising = (All-of_map (λ (k : KeptBooking). b.row < k.row) kept_of bs rising.0, rising_kept bs rising.1)

abbrev end_of : SaidEnd → End
end_of e =
    record {
      moment = e.moment;
      amount = e.amount;
      successor = option_map_or (λ (s : SaidRow). successor_word s.row s.generation) e.successor 0;
    }

own_end : (phase : Phase) (e : SaidEnd) → IsEndSaid phase e → end_of e ≡ end_in phase (end_of e)
own_end Free e is = ap end_of is
own_end Making e is = ap end_of is
own_end Prebooked e is = ap end_of is
own_end Confirmed e is = ap end_of is
own_end Fulfilled e is = ap end_of is
own_end (Ending kind) e is = ap end_of is
own_end (Ended kind) e is = refl

-- where an element of a list stands
stands_in_list : {X : Type 0} (xs : List X) (x : X) → Contains xs x → (front rest : List X) × (xs ≡ front ++ x ∷ rest)
stands_in_list [] x (k, below, is) = absurd (omega (arith, below))
stands_in_list (y ∷ ys) x (zero, below, is) = ([], ys, ap (λ z. z ∷ ys) is)
stands_in_list (y ∷ ys) x (suc k, below, is) =
    let r = stands_in_list ys x (k, (omega (arith, below)), is) in (y ∷ r.0, r.1, ap (λ l. y ∷ l) r.2)

opening_parts : (front : List SaidBooking) (b : SaidBooking) (rest : List SaidBooking)
    → opening_of (map kept_of (front ++ b ∷ rest)) ≡ opening_of (map kept_of front) ++ opening_booking (kept_of b) ∷ opening_of (map kept_of rest)
opening_parts [] b rest = refl
opening_parts (x ∷ xs) b rest = ap (λ (l : State). opening_booking (kept_of x) ∷ l) (opening_parts xs b rest)

settled_stage : (phase : Phase) → phase ≢ Free → is_owners phase ≡ false → 2 ≤ stage phase
settled_stage Free started still = absurd (started refl)
settled_stage Making started still = absurd cc
settled_stage Prebooked started still = omega arith
settled_stage Confirmed started still = omega arith
settled_stage Fulfilled started still = omega arith
settled_stage (Ending kind) started still = omega arith
settled_stage (Ended kind) started still = omega arith

exchanged_phase : (phase : Phase) → is_owners phase ≡ false → (phase ≡ Ending Exchange) ⊎ (phase ≡ Ended Exchange) → phase ≡ Ended Exchange
exchanged_phase phase still (inl ending) = absurd (let bad : true ≡ false = sym (ap is_owners ending) ∙ still in cc)
exchanged_phase phase still (inr ended) = ended

among : (P : SaidBooking → Type 0) (front : List SaidBooking) (c : SaidBooking) (rest : List SaidBooking) → AllByRecursion P (front ++ c ∷ rest) → P c
among P [] c rest all = all.0
among P (x ∷ xs) c rest all = among P xs c rest all.1

module _ (legs : List ℕ) (rows : ℕ) (text : List ℕ) (said : List SaidBooking) (sound : IsRightText legs rows text said) (few : rows ≤ most_rows)
    (opening : IsOpening (layout_with legs rows (map kept_of said)) (opening_of (map kept_of said))) where
  abbrev pub s : State
  s = opening_of (map kept_of said)

  ends : AllByRecursion HasOwnEnd (map kept_of said)
  ends = All-of_map HasOwnEnd kept_of said (All-map {Q = λ (b : SaidBooking). HasOwnEnd (kept_of b)} (λ (b : SaidBooking) (is : IsSayable b). own_end b.phase b.end is.end) said sound.sized.each)

  pub may_open : MayOpen legs rows (map kept_of said)
  may_open = record { rising = rising_kept said sound.sized.rising; ends = ends; opening = opening }

  -- a booking whose row has a line of no lower generation is made
  line_made : (c : SaidBooking) (row generation : ℕ) → Contains said c → c.row ≡ row → generation ≤ c.generation → IsMade s row generation
  line_made c row generation is at low =
      let parts = stands_in_list said c is in
      let b : Booking = opening_booking (kept_of c) in
      let where_is : s ≡ opening_of (map kept_of parts.0) ++ b ∷ opening_of (map kept_of parts.1) = ap (λ (l : List SaidBooking). opening_of (map kept_of l)) parts.2 ∙ opening_parts parts.0 c parts.1 in
      let there : booking_at s c.row c.generation ≡ Some b = stands_there s (opening_of (map kept_of parts.0)) b (opening_of (map kept_of parts.1)) opening.well_formed.keys where_is in
      let here : booking_at s row c.generation ≡ Some b = subst (λ (r : ℕ). booking_at s r c.generation ≡ Some b) at there in
      ⊎_elim
      (λ (same : c.generation ≡ generation).
      let now : booking_at s row generation ≡ Some b = subst (λ (j : ℕ). booking_at s row j ≡ Some b) same here in
      let its : phase_at s row generation ≡ c.phase = ap (λ (o : Option Booking). option_map_or (λ (x : Booking). x.phase) o Free) now in
      let started : c.phase ≢ Free = (All-found (IsSound (layout_with legs rows (map kept_of said))) _ s b now opening.well_formed.each).started in
      let still : is_owners c.phase ≡ false = All-found (λ (x : Booking). is_owners x.phase ≡ false) _ s b now opening.settled in
      inr (subst (λ (ph : Phase). 2 ≤ stage ph) (sym its) (settled_stage c.phase started still)))
      (λ (other : c.generation ≡ generation → ⊥). let above = generation_below s row c.generation b here in inl (omega (arith, above, low, other)))
      (cases_eq c.generation generation)

  all_right : (c : SaidBooking) → Contains said c → IsRight legs rows said c
  all_right c is =
      let parts = stands_in_list said c is in
      among (IsRight legs rows said) parts.0 c parts.1 (subst (λ (l : List SaidBooking). AllByRecursion (IsRight legs rows said) l) parts.2 sound.right)

  next_made : (successor : Option SaidRow) (row generation : ℕ) → row < successor_rows → IfSome successor (HasLine said)
      → option_map_or (λ (n : SaidRow). successor_word n.row n.generation) successor 0 ≡ successor_word row generation → IsMade s row generation
  next_made None row generation small has word =
      let bad : 0 ≡ 1 + row + 4294967296 * generation = word in absurd (omega (arith, bad))
  next_made (Some n) row generation small (c, is, at, low) word =
      let right : IsRight legs rows said c = all_right c is in
      let below : c.row < rows = right.alone.head.row in
      let same : 1 + n.row + 4294967296 * n.generation ≡ 1 + row + 4294967296 * generation = word in
      let one_row : n.row ≡ row = omega (arith, same, below, at, few, small) in
      let one_generation : n.generation ≡ generation = omega (arith, same, below, at, few, small) in
      line_made c row generation is (at ∙ one_row) (omega (arith, low, one_generation))

  succeeds : (b : SaidBooking) → IsRight legs rows said b → is_owners b.phase ≡ false → HasSuccessor s (opening_booking (kept_of b))
  succeeds b right still exchanged row generation small word =
      let ended : b.phase ≡ Ended Exchange = exchanged_phase b.phase still exchanged in
      let its : end_in b.phase (end_of b.end) ≡ end_of b.end = ap (λ (ph : Phase). end_in ph (end_of b.end)) ended in
      next_made b.end.successor row generation small right.successor (sym (ap (λ (e : End). e.successor) its) ∙ word)

  pub succeeded : AreSucceeded s
  succeeded = over said sound.right opening.settled
    where
      over : (some : List SaidBooking) → AllByRecursion (IsRight legs rows said) some → AllByRecursion (λ (b : Booking). is_owners b.phase ≡ false) (opening_of (map kept_of some))
          → AllByRecursion (HasSuccessor s) (opening_of (map kept_of some))
      over [] right still = tt
      over (b ∷ bs) right still = (succeeds b right.0 still.0, over bs right.1 still.1)
