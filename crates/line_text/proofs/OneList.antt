-- A text is the export of one list of bookings.
use Rattle.std.proofs.Common.{◌≡◌, ℕ, ◌+◌, ◌^◌, ◌<◌, ◌==◌, ℤ, pos, negsuc, List, [], ◌∷◌, ◌++◌, map, length, find, codes, decimal, Option, Some, None, refl, sym, ap, ◌∙◌, subst, arith, append_assoc}
use Rattle.std.specs.List.{AllByRecursion}
use Rattle.std.specs.Option.{option_map_or}
use Rattle.std.proofs.lemmas.Fmt.{decimal_nonempty}
use Rattle.std.proofs.lemmas.List.{append_cancel_left}
use Rattle.history_model.specs.declared.phase.EndKind.{EndKind}
use Rattle.history_model.specs.declared.phase.EndKind.TheVariants.{Release, Expire, Refund, Exchange}
use Rattle.history_model.specs.declared.phase.Phase.{Phase}
use Rattle.history_model.specs.declared.phase.Phase.TheVariants.{Free, Making, Prebooked, Confirmed, Fulfilled, Ending, Ended}
use Rattle.line_text.specs.declared.heads.SaidItem.{SaidItem}
use Rattle.line_text.specs.declared.ends.SaidEnd.{SaidEnd}
use Rattle.line_text.specs.declared.ends.SaidRow.{SaidRow}
use Rattle.line_text.specs.Lines.{AreItemNumbers, AreSuccessorNumbers, HasLetter, IsAmountNumber, IsEndSaid, IsExportOf, IsNumber, IsSayable, SaidBooking, amount_text, booking_line, end_fields, export_text_of, field, item_text, items_fields, last_line, number_field, phase_text, successor_text, text_of}
use Rattle.line_text.specs.Reads.{IsCut}
use Rattle.line_text.proofs.Numbers.{AreDigits-decimal, no_digit, same_number}

behind : (c : ℕ) {x y : List ℕ} → c ∷ x ≡ c ∷ y → x ≡ y
behind c {x} {y} e = append_cancel_left (c ∷ []) x y e

-- the two texts tell apart what they are of, and what stands behind them
abbrev Tells : {A : Type 0} → (A → List ℕ) → A → A → List ℕ → List ℕ → Type 0
Tells t a b x y = t a ++ x ≡ t b ++ y → (a ≡ b) × (x ≡ y)

number_told : (m n : ℕ) (x y : List ℕ) → IsNumber m → IsNumber n → IsCut x → IsCut y → Tells number_field m n x y
number_told m n x y p q cx cy e = same_number m n x y p q cx cy (behind 32 e)

no_sign : (c n : ℕ) (x y : List ℕ) → IsNumber n → IsCut (c ∷ x) → decimal n ++ y ≡ c ∷ x → ⊥
no_sign c n x y fits cut e =
    no_digit (decimal n) y (decimal_nonempty n fits) (AreDigits-decimal n (let f : n < 2 ^ 64 = fits in omega arith)) (subst IsCut (sym e) cut)

-- phases

letter : Phase → ℕ
letter Prebooked = 80
letter Confirmed = 67
letter Fulfilled = 70
letter (Ended Release) = 114
letter (Ended Expire) = 101
letter (Ended Refund) = 102
letter (Ended Exchange) = 120
letter _ = 0

lettered : List Phase
lettered = Prebooked ∷ Confirmed ∷ Fulfilled ∷ Ended Release ∷ Ended Expire ∷ Ended Refund ∷ Ended Exchange ∷ []

with_letter : ℕ → Phase
with_letter n = option_map_or (λ ph. ph) (find (λ ph. letter ph == n) lettered) Free

letter_text : (ph : Phase) → HasLetter ph → (phase_text ph ≡ letter ph ∷ []) × (with_letter (letter ph) ≡ ph)
unfolding letter lettered with_letter
letter_text Prebooked h = (refl, refl)
letter_text Confirmed h = (refl, refl)
letter_text Fulfilled h = (refl, refl)
letter_text (Ended Release) h = (refl, refl)
letter_text (Ended Expire) h = (refl, refl)
letter_text (Ended Refund) h = (refl, refl)
letter_text (Ended Exchange) h = (refl, refl)
letter_text Free h = absurd (h refl)
letter_text Making h = absurd (h refl)
letter_text (Ending kind) h = absurd (h refl)

first_same : (a b : ℕ) (x y : List ℕ) → a ∷ x ≡ b ∷ y → (a ≡ b) × (x ≡ y)
first_same a b x y e = let h : a ≡ b = cc in let t : x ≡ y = cc in (h, t)

phase_told : (p q : Phase) (x y : List ℕ) → HasLetter p → HasLetter q → Tells (λ ph. field (phase_text ph)) p q x y
phase_told p q x y hp hq e =
    let a = letter_text p hp in
    let b = letter_text q hq in
    let same = first_same (letter p) (letter q) x y (ap (λ t. t ++ x) (sym a.0) ∙ (behind 32 e ∙ ap (λ t. t ++ y) b.0)) in
    (sym a.1 ∙ (ap with_letter same.0 ∙ b.1), same.1)

-- items

item_end : (i : SaidItem) (x : List ℕ) → item_text i ++ x ≡ decimal i.place ++ (46 ∷ (decimal i.from ++ (46 ∷ (decimal i.to ++ x))))
item_end i x = simp append_assoc

item_told : (i j : SaidItem) (x y : List ℕ) → AreItemNumbers i → AreItemNumbers j → IsCut x → IsCut y → Tells item_text i j x y
item_told i j x y p q cx cy e =
    let a = same_number i.place j.place _ _ p.0 q.0 refl refl (sym (item_end i x) ∙ (e ∙ item_end j y)) in
    let b = same_number i.from j.from _ _ p.1 q.1 refl refl (behind 46 a.1) in
    let c = same_number i.to j.to x y p.2 q.2 cx cy (behind 46 b.1) in
    ((λ k. record { place = a.0 k; from = b.0 k; to = c.0 k }), c.1)

items_cut : (is : List SaidItem) (x : List ℕ) → IsCut x → IsCut (items_fields is ++ x)
items_cut [] x cut = cut
items_cut (i ∷ is) x cut = refl

items_end : (i : SaidItem) (is : List SaidItem) (x : List ℕ) → items_fields (i ∷ is) ++ x ≡ 32 ∷ (item_text i ++ (items_fields is ++ x))
items_end i is x = ap (λ t. 32 ∷ t) (append_assoc (item_text i) (items_fields is) x)

items_told : (is js : List SaidItem) (x y : List ℕ) → length is ≡ length js → AllByRecursion AreItemNumbers is → AllByRecursion AreItemNumbers js → IsCut x → IsCut y → Tells items_fields is js x y
items_told [] [] x y long p q cx cy e = (refl, e)
items_told [] (j ∷ js) x y long p q cx cy e = absurd (omega arith)
items_told (i ∷ is) [] x y long p q cx cy e = absurd (omega arith)
items_told (i ∷ is) (j ∷ js) x y long p q cx cy e =
    let a = item_told i j (items_fields is ++ x) (items_fields js ++ y) p.0 q.0 (items_cut is x cx) (items_cut js y cy) (behind 32 (sym (items_end i is x) ∙ (e ∙ items_end j js y))) in
    let b = items_told is js x y (omega arith) p.1 q.1 cx cy a.1 in
    (ap (λ (k : SaidItem). k ∷ is) a.0 ∙ ap (λ ks. j ∷ ks) b.0, b.1)

-- ends

amount_told : (a b : ℤ) (x y : List ℕ) → IsAmountNumber a → IsAmountNumber b → IsCut x → IsCut y → Tells amount_text a b x y
amount_told (pos m) (pos n) x y p q cx cy e = let h = same_number m n x y p q cx cy (behind 112 e) in (ap pos h.0, h.1)
amount_told (negsuc m) (negsuc n) x y p q cx cy e =
    let h = same_number (m + 1) (n + 1) x y (let a : m + 1 < 2 ^ 64 = omega (arith, p) in a) (let a : n + 1 < 2 ^ 64 = omega (arith, q) in a) cx cy (behind 109 e) in
    (ap negsuc (let s = h.0 in let t : m ≡ n = omega (arith, s) in t), h.1)
amount_told (pos m) (negsuc n) x y p q cx cy e = absurd (let no = (first_same 112 109 (decimal m ++ x) (decimal (n + 1) ++ y) e).0 in omega (arith, no))
amount_told (negsuc m) (pos n) x y p q cx cy e = absurd (let no = (first_same 109 112 (decimal (m + 1) ++ x) (decimal n ++ y) e).0 in omega (arith, no))

row_end : (s : SaidRow) (x : List ℕ) → successor_text (Some s) ++ x ≡ decimal s.row ++ (46 ∷ (decimal s.generation ++ x))
row_end s x = append_assoc (decimal s.row) (46 ∷ decimal s.generation) x

successor_told : (a b : Option SaidRow) (x y : List ℕ) → AreSuccessorNumbers a → AreSuccessorNumbers b → IsCut x → IsCut y → Tells successor_text a b x y
successor_told None None x y p q cx cy e = (refl, behind 45 e)
successor_told None (Some t) x y p q cx cy e = absurd (no_sign 45 t.row x _ q.0 refl (sym (e ∙ row_end t y)))
successor_told (Some s) None x y p q cx cy e = absurd (no_sign 45 s.row y _ p.0 refl (sym (row_end s x) ∙ e))
successor_told (Some s) (Some t) x y p q cx cy e =
    let a = same_number s.row t.row _ _ p.0 q.0 refl refl (sym (row_end s x) ∙ (e ∙ row_end t y)) in
    let b = same_number s.generation t.generation x y p.1 q.1 cx cy (behind 46 a.1) in
    (ap Some (λ k. record { row = a.0 k; generation = b.0 k }), b.1)

abbrev ended_text : SaidEnd → List ℕ → List ℕ
ended_text e x = 32 ∷ (amount_text e.amount ++ (32 ∷ (decimal e.moment ++ (32 ∷ (successor_text e.successor ++ x)))))

ended_end : (kind : EndKind) (e : SaidEnd) (x : List ℕ) → end_fields (Ended kind) e ++ x ≡ ended_text e x
ended_end kind e x =
    ap (λ t. 32 ∷ t) (append_assoc (amount_text e.amount) (32 ∷ (decimal e.moment ++ (32 ∷ successor_text e.successor))) x
    ∙ ap (λ t. amount_text e.amount ++ (32 ∷ t)) (append_assoc (decimal e.moment) (32 ∷ successor_text e.successor) x))

end_cut : (ph : Phase) (e : SaidEnd) (x : List ℕ) → IsCut x → IsCut (end_fields ph e ++ x)
end_cut (Ended kind) e x cut = refl
end_cut Free e x cut = cut
end_cut Making e x cut = cut
end_cut Prebooked e x cut = cut
end_cut Confirmed e x cut = cut
end_cut Fulfilled e x cut = cut
end_cut (Ending kind) e x cut = cut

end_told : (ph : Phase) (a b : SaidEnd) (x y : List ℕ) → IsEndSaid ph a → IsEndSaid ph b → IsCut x → IsCut y → Tells (end_fields ph) a b x y
end_told (Ended kind) a b x y p q cx cy e =
    let s = amount_told a.amount b.amount _ _ p.0 q.0 refl refl (behind 32 (sym (ended_end kind a x) ∙ (e ∙ ended_end kind b y))) in
    let t = same_number a.moment b.moment _ _ p.1 q.1 refl refl (behind 32 s.1) in
    let u = successor_told a.successor b.successor x y p.2 q.2 cx cy (behind 32 t.1) in
    ((λ k. record { amount = s.0 k; moment = t.0 k; successor = u.0 k }), u.1)
end_told Free a b x y p q cx cy e = (p ∙ sym q, e)
end_told Making a b x y p q cx cy e = (p ∙ sym q, e)
end_told Prebooked a b x y p q cx cy e = (p ∙ sym q, e)
end_told Confirmed a b x y p q cx cy e = (p ∙ sym q, e)
end_told Fulfilled a b x y p q cx cy e = (p ∙ sym q, e)
end_told (Ending kind) a b x y p q cx cy e = (p ∙ sym q, e)

-- a line

regroup : (a b c d e f h k l x : List ℕ) → ((a ++ (b ++ c)) ++ (d ++ (e ++ (f ++ (h ++ (k ++ l)))))) ++ x ≡ a ++ (b ++ (c ++ (d ++ (e ++ (f ++ (h ++ (k ++ (l ++ x))))))))
regroup a b c d e f h k l x = simp append_assoc

abbrev behind_count : SaidBooking → List ℕ → List ℕ
behind_count b x = items_fields b.items ++ (end_fields b.phase b.end ++ x)

abbrev behind_phase : SaidBooking → List ℕ → List ℕ
behind_phase b x = number_field b.retailer ++ (number_field b.limit ++ (number_field b.total ++ (number_field (length b.items) ++ behind_count b x)))

abbrev behind_word : SaidBooking → List ℕ → List ℕ
behind_word b x = number_field b.row ++ (number_field b.generation ++ (field (phase_text b.phase) ++ behind_phase b x))

line_end : (b : SaidBooking) (x : List ℕ) → booking_line b ++ x ≡ 114 ∷ 111 ∷ 119 ∷ behind_word b x
line_end b x = ap (λ t. 114 ∷ 111 ∷ 119 ∷ t)
    (regroup (number_field b.row) (number_field b.generation) (field (phase_text b.phase)) (number_field b.retailer) (number_field b.limit) (number_field b.total) (number_field (length b.items)) (items_fields b.items) (end_fields b.phase b.end) x)

-- the items and the end
record ToldBehind (a b : SaidBooking) (x y : List ℕ) : Type 0 where
  items : a.items ≡ b.items
  end : a.end ≡ b.end
  rest : x ≡ y

behind_told : (a b : SaidBooking) (x y : List ℕ) → IsSayable a → IsSayable b → IsCut x → IsCut y → a.phase ≡ b.phase → length a.items ≡ length b.items → behind_count a x ≡ behind_count b y → ToldBehind a b x y
behind_told a b x y p q cx cy phase long e =
    let s = items_told a.items b.items _ _ long p.items q.items (end_cut a.phase a.end x cx) (end_cut b.phase b.end y cy) e in
    let t = end_told b.phase a.end b.end x y (subst (λ (ph : Phase). IsEndSaid ph a.end) phase p.end) q.end cx cy (ap (λ (ph : Phase). end_fields ph a.end ++ x) (sym phase) ∙ s.1) in
    record { items = s.0; end = t.0; rest = t.1 }

booking_told : (a b : SaidBooking) (x y : List ℕ) → IsSayable a → IsSayable b → IsCut x → IsCut y → Tells booking_line a b x y
booking_told a b x y p q cx cy e =
    let row = number_told a.row b.row _ _ p.row q.row refl refl (append_cancel_left (114 ∷ 111 ∷ 119 ∷ []) (behind_word a x) (behind_word b y) (sym (line_end a x) ∙ (e ∙ line_end b y))) in
    let generation = number_told a.generation b.generation _ _ p.generation q.generation refl refl row.1 in
    let phase = phase_told a.phase b.phase _ _ p.phase q.phase generation.1 in
    let retailer = number_told a.retailer b.retailer _ _ p.retailer q.retailer refl refl phase.1 in
    let limit = number_told a.limit b.limit _ _ p.limit q.limit refl refl retailer.1 in
    let total = number_told a.total b.total _ _ p.total q.total refl refl limit.1 in
    let count = number_told (length a.items) (length b.items) _ _ p.count q.count
    (items_cut a.items _ (end_cut a.phase a.end x cx)) (items_cut b.items _ (end_cut b.phase b.end y cy)) total.1 in
    let last = behind_told a b x y p q cx cy phase.0 count.0 count.1 in
    ((λ i. record { row = row.0 i; generation = generation.0 i; phase = phase.0 i; retailer = retailer.0 i; limit = limit.0 i; total = total.0 i; items = last.items i; end = last.end i }), last.rest)

-- all lines behind the first

abbrev lines_of : List SaidBooking → ℕ → List ℕ
lines_of said n = text_of (map booking_line said ++ last_line n ∷ [])

more_lines : (b : SaidBooking) (bs : List SaidBooking) (n : ℕ) → lines_of (b ∷ bs) n ≡ booking_line b ++ (10 ∷ lines_of bs n)
more_lines b bs n = append_assoc (booking_line b) (10 ∷ []) (lines_of bs n)

last_end : (n : ℕ) → lines_of [] n ≡ codes "end" ++ (number_field n ++ 10 ∷ [])
last_end n = ap (λ t. 101 ∷ 110 ∷ 100 ∷ 32 ∷ t) (append_assoc (decimal n) (10 ∷ []) [])

lines_told : (js ks : List SaidBooking) (m n : ℕ) → AllByRecursion IsSayable js → AllByRecursion IsSayable ks → lines_of js m ≡ lines_of ks n → js ≡ ks
lines_told [] [] m n p q e = refl
lines_told [] (b ∷ ks) m n p q e = absurd (let no = (first_same 101 114 _ _ (sym (last_end m) ∙ (e ∙ (more_lines b ks n ∙ line_end b _)))).0 in omega (arith, no))
lines_told (a ∷ js) [] m n p q e = absurd (let no = (first_same 114 101 _ _ (sym (more_lines a js m ∙ line_end a _) ∙ (e ∙ last_end n))).0 in omega (arith, no))
lines_told (a ∷ js) (b ∷ ks) m n p q e =
    let s = booking_told a b (10 ∷ lines_of js m) (10 ∷ lines_of ks n) p.0 q.0 refl refl (sym (more_lines a js m) ∙ (e ∙ more_lines b ks n)) in
    let t = lines_told js ks m n p.1 q.1 (behind 10 s.1) in
    ap (λ (k : SaidBooking). k ∷ js) s.0 ∙ ap (λ ls. b ∷ ls) t

first_regroup : (a b c d x : List ℕ) → ((a ++ (b ++ c)) ++ d) ++ x ≡ a ++ (b ++ (c ++ (d ++ x)))
first_regroup a b c d x = simp append_assoc

first_end : (places rows : ℕ) (said : List SaidBooking) → export_text_of places rows said ≡ codes "rail-export 1" ++ (number_field places ++ (number_field rows ++ (10 ∷ lines_of said (length said))))
first_end places rows said = first_regroup (codes "rail-export 1") (number_field places) (number_field rows) (10 ∷ []) (lines_of said (length said))

pub one_list : (text : List ℕ) (places rows : ℕ) (said : List SaidBooking) (all more : ℕ) (others : List SaidBooking) → IsExportOf text places rows said → IsExportOf text all more others
    → (places ≡ all) × (rows ≡ more) × (said ≡ others)
one_list text places rows said all more others p q =
    let e = append_cancel_left (codes "rail-export 1") _ _ (sym (first_end places rows said) ∙ (sym p.is ∙ (q.is ∙ first_end all more others))) in
    let s = number_told places all _ _ p.sizes.0 q.sizes.0 refl refl e in
    let t = number_told rows more _ _ p.sizes.1 q.sizes.1 refl refl s.1 in
    (s.0, t.0, lines_told said others (length said) (length others) p.each q.each (behind 10 t.1))
