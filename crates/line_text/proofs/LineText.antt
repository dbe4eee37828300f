-- A line of an export has no line feed.
use Rattle.std.proofs.Common.{◌≡◌, ◌≢◌, ℕ, ◌+◌, false, nat_eq, ℤ, pos, negsuc, List, [], ◌∷◌, ◌++◌, length, codes, decimal, Option, Some, None, refl, sym, ap, ◌∙◌, arith, true≢false}
use Rattle.std.specs.Char.{is_ascii_digit}
use Rattle.std.specs.List.{AllByRecursion}
use Rattle.history_model.specs.declared.phase.Phase.{Phase}
use Rattle.history_model.specs.declared.phase.Phase.TheVariants.{Free, Making, Prebooked, Confirmed, Fulfilled, Ending, Ended}
use Rattle.history_model.specs.declared.phase.EndKind.TheVariants.{Release, Expire, Refund, Exchange}
use Rattle.history_model.proofs.ListLemmas.{All-append}
use Rattle.line_text.specs.declared.heads.SaidItem.{SaidItem}
use Rattle.line_text.specs.declared.ends.SaidEnd.{SaidEnd}
use Rattle.line_text.specs.declared.ends.SaidRow.{SaidRow}
use Rattle.line_text.specs.Lines.{AreItemNumbers, AreSuccessorNumbers, IsAmountNumber, IsEndSaid, IsLine, IsNumber, IsSayable, SaidBooking, amount_text, booking_line, end_fields, first_line, head_text, item_field, item_text, items_fields, last_line, number_field, phase_text, successor_text}
use Rattle.line_text.proofs.Numbers.{AreDigits, AreDigits-decimal}

both : (a b : List ℕ) → IsLine a → IsLine b → IsLine (a ++ b)
both = All-append (λ c. c ≢ 10)

-- a byte that isn't 10
plain : (c : ℕ) → nat_eq c 10 ≡ false → c ≢ 10
plain c other e = true≢false (sym (ap (λ (x : ℕ). nat_eq x 10) e) ∙ other)

digits : (ds : List ℕ) → AreDigits ds → IsLine ds
digits [] are = tt
digits (d ∷ ds) are = ((λ e. true≢false (sym are.0 ∙ ap is_ascii_digit e)), digits ds are.1)

number : (n : ℕ) → IsNumber n → IsLine (decimal n)
number n fits = digits (decimal n) (AreDigits-decimal n (omega arith))

field_line : (text : List ℕ) → IsLine text → IsLine (32 ∷ text)
field_line text h = (plain 32 refl, h)

number_line : (n : ℕ) → IsNumber n → IsLine (number_field n)
number_line n fits = field_line (decimal n) (number n fits)

phase_line : (phase : Phase) → IsLine (phase_text phase)
phase_line Prebooked = (plain 80 refl, tt)
phase_line Confirmed = (plain 67 refl, tt)
phase_line Fulfilled = (plain 70 refl, tt)
phase_line (Ended Release) = (plain 114 refl, tt)
phase_line (Ended Expire) = (plain 101 refl, tt)
phase_line (Ended Refund) = (plain 102 refl, tt)
phase_line (Ended Exchange) = (plain 120 refl, tt)
phase_line Free = tt
phase_line Making = tt
phase_line (Ending kind) = tt

behind_dot : (text : List ℕ) → IsLine text → IsLine (46 ∷ text)
behind_dot text h = (plain 46 refl, h)

item_line : (i : SaidItem) → AreItemNumbers i → IsLine (item_field i)
item_line i are =
    let to = behind_dot (decimal i.to) (number i.to are.2) in
    let from = behind_dot (decimal i.from ++ 46 ∷ decimal i.to) (both (decimal i.from) (46 ∷ decimal i.to) (number i.from are.1) to) in
    field_line (item_text i) (both (decimal i.place) (46 ∷ (decimal i.from ++ 46 ∷ decimal i.to)) (number i.place are.0) from)

items_line : (items : List SaidItem) → AllByRecursion AreItemNumbers items → IsLine (items_fields items)
items_line [] are = tt
items_line (i ∷ items) are = both (item_field i) (items_fields items) (item_line i are.0) (items_line items are.1)

amount_line : (amount : ℤ) → IsAmountNumber amount → IsLine (amount_text amount)
amount_line (pos n) fits = (plain 112 refl, number n fits)
amount_line (negsuc n) fits = (plain 109 refl, number (n + 1) (omega arith))

successor_line : (successor : Option SaidRow) → AreSuccessorNumbers successor → IsLine (successor_text successor)
successor_line None are = (plain 45 refl, tt)
successor_line (Some s) are =
    both (decimal s.row) (46 ∷ decimal s.generation) (number s.row are.0) (behind_dot (decimal s.generation) (number s.generation are.1))

end_line : (phase : Phase) (end : SaidEnd) → IsEndSaid phase end → IsLine (end_fields phase end)
end_line (Ended kind) end is =
    let successor = field_line (successor_text end.successor) (successor_line end.successor is.2) in
    let moment = number_line end.moment is.1 in
    both (32 ∷ amount_text end.amount) (number_field end.moment ++ 32 ∷ successor_text end.successor)
    (field_line (amount_text end.amount) (amount_line end.amount is.0))
    (both (number_field end.moment) (32 ∷ successor_text end.successor) moment successor)
end_line _ end is = tt

head_line : (b : SaidBooking) → IsSayable b → IsLine (head_text b.row b.generation b.phase)
head_line b s =
    let phase = field_line (phase_text b.phase) (phase_line b.phase) in
    let generation = both (number_field b.generation) (32 ∷ phase_text b.phase) (number_line b.generation s.generation) phase in
    let rows = both (number_field b.row) (number_field b.generation ++ 32 ∷ phase_text b.phase) (number_line b.row s.row) generation in
    (plain 114 refl, (plain 111 refl, (plain 119 refl, rows)))

pub IsLine-booking : (b : SaidBooking) → IsSayable b → IsLine (booking_line b)
IsLine-booking b s =
    let ends = both (items_fields b.items) (end_fields b.phase b.end) (items_line b.items s.items) (end_line b.phase b.end s.end) in
    let counted = both (number_field (length b.items)) _ (number_line (length b.items) s.count) ends in
    let summed = both (number_field b.total) _ (number_line b.total s.total) counted in
    let limited = both (number_field b.limit) _ (number_line b.limit s.limit) summed in
    let sold = both (number_field b.retailer) _ (number_line b.retailer s.retailer) limited in
    both (head_text b.row b.generation b.phase) _ (head_line b s) sold

pub IsLine-first : (places rows : ℕ) → IsNumber places → IsNumber rows → IsLine (first_line places rows)
IsLine-first places rows p r =
    let word : IsLine (codes "rail-export 1") =
    (plain 114 refl, (plain 97 refl, (plain 105 refl, (plain 108 refl, (plain 45 refl, (plain 101 refl, (plain 120 refl, (plain 112 refl, (plain 111 refl, (plain 114 refl, (plain 116 refl, (plain 32 refl, (plain 49 refl, tt))))))))))))) in
    both (codes "rail-export 1") (number_field places ++ number_field rows) word
    (both (number_field places) (number_field rows) (number_line places p) (number_line rows r))

pub IsLine-last : (count : ℕ) → IsNumber count → IsLine (last_line count)
IsLine-last count c =
    both (codes "end") (number_field count) (plain 101 refl, (plain 110 refl, (plain 100 refl, tt))) (number_line count c)
