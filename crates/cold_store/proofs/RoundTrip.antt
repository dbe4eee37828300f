-- What an export writes is read back.
use Rattle.std.proofs.Common.{◌≡◌, ◌≢◌, ◌⊎◌, inl, inr, ⊎_elim, ℕ, ◌+◌, ◌-◌, ◌*◌, ◌/◌, ◌%◌, ◌^◌, ◌<◌, ◌≤◌, ◌≤ℤ◌, ◌==◌, ℤ, pos, negsuc, nat_abs, Bool, true, false, cond, nat_eq, List, [], ◌∷◌, map, length, Option, Some, None, IfSome, IsSomeAnd, is_some, option_and_then, refl, sym, ap, ◌∙◌, subst, arith, eq-eqb, ne_eqb}
use Rattle.std.specs.List.{AllByRecursion}
use Rattle.std.specs.Option.{option_map_or}
use Rattle.std.proofs.lemmas.List.{length-map}
use Rattle.std.proofs.lemmas.List.Elements.{All-from_recursion}
use Rattle.std.proofs.lemmas.Bool.{cases_eq, eqb-true}
use Rattle.std.proofs.lemmas.Int.{ints}
use Rattle.leg_masks.specs.Interval.{PlacedSpan as Item}
use Rattle.history_model.specs.declared.booking.BookedItem.{BookedItem}
use Rattle.history_model.specs.declared.booking.End.{End}
use Rattle.history_model.specs.declared.phase.EndKind.{EndKind}
use Rattle.history_model.specs.declared.phase.EndKind.TheVariants.{Release, Expire, Refund, Exchange}
use Rattle.history_model.specs.declared.phase.Phase.{Phase}
use Rattle.history_model.specs.declared.phase.Phase.TheVariants.{Free, Making, Prebooked, Confirmed, Fulfilled, Ending, Ended}
use Rattle.history_model.specs.Allowed.{IsAmountOf, IsRow}
use Rattle.rail_ids.specs.Spelling.{last_generation}
use Rattle.history_model.specs.Booking.{Booking, Layout, State, key_of, last_moment, limit_of, next_generation, present, stands_in, successor_rows, successor_word, word_at}
use Rattle.history_model.specs.Laws.{AreClear as AreClearItems, AreInRange, HasAmountFor, IsInRange, IsSound as IsSoundBooking, IsSuccessorIn, IsWellFormed, LiesWithin}
use Rattle.history_model.specs.Lists.{Across, Pairwise}
use Rattle.history_model.specs.Phase.{is_live, is_sealed}
use Rattle.history_model.proofs.Generations.{present_latest}
use Rattle.history_model.proofs.Legal.{NoDouble-from_WellFormed, WellFormed-history}
use Rattle.history_model.proofs.Ranges.{ranges_all}
use Rattle.history_model.proofs.ListLemmas.{All-found, All-map, All-of_map}
use Rattle.claim_rule.specs.Openings.{KeptBooking, end_in, kept_as, kept_bookings, kept_in, kept_of_row, placed, stub}
use Rattle.claim_rule.specs.Walls.{WallView}
use Rattle.claim_rule.proofs.OpeningKept.{IsSettled}
use Rattle.line_text.specs.declared.ends.SaidEnd.{SaidEnd}
use Rattle.line_text.specs.declared.ends.SaidRow.{SaidRow}
use Rattle.cold_store.specs.Exports.{IsClosed, IsExport, IsOpenBooking, IsUnmade, NoneBelow, NoneOpen, said_on, state_on, text_on}
use Rattle.cold_store.specs.Imports.{IsRightText}
use Rattle.cold_store.specs.Laws.{HasBegun, HasSizes}
use Rattle.cold_store.specs.Written.{said_of}
use Rattle.line_text.specs.Lines.{AreItemNumbers, AreRowNumbers, AreSuccessorNumbers, HasLetter, IsEndSaid, IsNumber, IsSayable, SaidBooking, nothing, said_item, said_successor}
use Rattle.cold_store.specs.Right.{AreClear, AreClearAt, HasLine, IsApartAt, IsEndIn, IsRight, IsRightAlone, IsWithin, OwnsSuccessor, kept_item, kept_of}
use Rattle.cold_store.proofs.Listed.{contains_map, contains_read, count_read, each_read, pair_found, pairs_read, Across-flip, Across-both}
use Rattle.cold_store.proofs.Steady.{AreSteady, EndsRight, IsRightEnd, IsSteady, steady_all}
use Rattle.cold_store.proofs.Began.{steady_begun}

-- the line of what is kept says just that

abbrev said_end : End → SaidEnd
said_end e = record { amount = e.amount; moment = e.moment; successor = said_successor e.successor }

abbrev word_of : Option SaidRow → ℕ
word_of o = option_map_or (λ (s : SaidRow). successor_word s.row s.generation) o 0

successor_back : (w : ℕ) → word_of (said_successor w) ≡ w
successor_back w = ⊎_elim
    (λ (none : w ≡ 0). ap (λ t. word_of (cond t None (Some (record { row = (w - 1) % successor_rows; generation = (w - 1) / successor_rows })))) (eq-eqb w 0 none) ∙ sym none)
    (λ (some : w ≡ 0 → ⊥). ap (λ t. word_of (cond t None (Some (record { row = (w - 1) % successor_rows; generation = (w - 1) / successor_rows })))) (ne_eqb w 0 some) ∙ parts w some)
    (cases_eq w 0)
  where
    parts : (w : ℕ) → (w ≡ 0 → ⊥) → 1 + (w - 1) % 4294967296 + 4294967296 * ((w - 1) / 4294967296) ≡ w
    parts w some = omega (arith, some)

items_back : (k : KeptBooking) → map kept_item (map said_item k.items) ≡ k.items
items_back k = go k.items
  where
    go : (is : List Item) → map kept_item (map said_item is) ≡ is
    go [] = refl
    go (i ∷ is) = ap (λ js. i ∷ js) (go is)

pub said_back : (k : KeptBooking) → kept_of (said_of k) ≡ k
said_back k = λ i. record {
  row = k.row;
  generation = k.generation;
  phase = k.phase;
  retailer = k.retailer;
  limit = k.limit;
  total = k.total;
  items = items_back k i;
  end = record { moment = k.end.moment; amount = k.end.amount; successor = successor_back k.end.successor i };
}

pub all_back : (ks : List KeptBooking) → map kept_of (map said_of ks) ≡ ks
all_back [] = refl
all_back (k ∷ ks) = ap (λ j. j ∷ map kept_of (map said_of ks)) (said_back k) ∙ ap (λ js. k ∷ js) (all_back ks)

-- ends

said_none : (w : ℕ) → w ≡ 0 → said_successor w ≡ None
said_none w e = ap said_successor e

said_some : (r j w : ℕ) → r < 4294967296 → w ≡ successor_word r j → said_successor w ≡ Some (record { row = r; generation = j })
said_some r j w small e =
    ap said_successor e
    ∙ (ap (λ t. cond t None (Some (record { row = (successor_word r j - 1) % successor_rows; generation = (successor_word r j - 1) / successor_rows }))) (ne_eqb (successor_word r j) 0 (λ z. omega (arith, z)))
    ∙ ap Some (λ i. record { row = row r j small i; generation = generation r j small i }))
  where
    row : (r j : ℕ) → r < 4294967296 → (1 + r + 4294967296 * j - 1) % 4294967296 ≡ r
    row r j small = omega arith

    generation : (r j : ℕ) → r < 4294967296 → (1 + r + 4294967296 * j - 1) / 4294967296 ≡ j
    generation r j small = omega arith

end_right : (g : Layout) (ks : List (ℕ × ℕ)) (row limit : ℕ) (kind : EndKind) (e : End) → g.rows ≤ 262144 → IsRightEnd g ks row limit kind e → e.moment ≤ last_moment → IsAmountOf kind e.amount → IsEndIn kind limit (said_end e)
end_right g ks row limit Release e few is moment amount = record { moment = moment; amount = amount; expired = λ no. cc; exchanged = λ no. cc; others = λ _. said_none e.successor is }
end_right g ks row limit Expire e few is moment amount = record { moment = moment; amount = amount; expired = λ _. is.0; exchanged = λ no. cc; others = λ _. said_none e.successor is.1 }
end_right g ks row limit Refund e few is moment amount = record { moment = moment; amount = amount; expired = λ no. cc; exchanged = λ no. cc; others = λ _. said_none e.successor is }
end_right g ks row limit Exchange e few (r, j, in_row, other, low, word) moment amount = record {
  moment = moment;
  amount = amount;
  expired = λ no. cc;
  exchanged = λ _. ap is_some (said_some r j e.successor (omega arith) word);
  others = λ no. absurd (no refl);
}

amount_number : (kind : EndKind) (a : ℤ) → IsAmountOf kind a → IsNumber (nat_abs a)
amount_number Release a is = subst (λ (x : ℤ). nat_abs x < 2 ^ 64) (sym is) (omega arith)
amount_number Expire a is = subst (λ (x : ℤ). nat_abs x < 2 ^ 64) (sym is) (omega arith)
amount_number Refund (pos n) is = let m : pos n ≤ℤ pos 99999999999 = is.1 in let l : n < 2 ^ 64 = omega (arith, ints) in l
amount_number Refund (negsuc n) is = let m : pos 0 ≤ℤ negsuc n = is.0 in absurd (omega (arith, ints))
amount_number Exchange (pos n) is = let m : pos n ≤ℤ pos 100009999999 = is.1 in let l : n < 2 ^ 64 = omega (arith, ints) in l
amount_number Exchange (negsuc n) is = let m : negsuc 99999999998 ≤ℤ negsuc n = is.0 in let l : n + 1 < 2 ^ 64 = omega (arith, ints) in omega (arith, l)

successor_numbers : (g : Layout) (w : ℕ) → g.rows ≤ 262144 → IsSuccessorIn g w → AreSuccessorNumbers (said_successor w)
successor_numbers g w few is = ⊎_elim
    (λ (none : w ≡ 0). subst (λ (o : Option SaidRow). IfSome o AreRowNumbers) (sym (said_none w none)) tt)
    (λ (some : (row generation : ℕ) × IsRow g row × (generation ≤ last_generation) × (w ≡ successor_word row generation)).
    let low = some.2 in let gen = some.3 in
    subst (λ (o : Option SaidRow). IfSome o AreRowNumbers) (sym (said_some some.0 some.1 w (omega (arith, low)) some.4))
    ((let n : some.0 < 2 ^ 64 = omega (arith, low) in n), (let n : some.1 < 2 ^ 64 = omega (arith, gen) in n)))
    is

end_said : (g : Layout) (ph : Phase) (e : End) → g.rows ≤ 262144 → HasAmountFor ph e.amount → e.moment ≤ last_moment → IsSuccessorIn g e.successor → IsEndSaid ph (said_end (end_in ph e))
end_said g Free e few a m s = refl
end_said g Making e few a m s = refl
end_said g Prebooked e few a m s = refl
end_said g Confirmed e few a m s = refl
end_said g Fulfilled e few a m s = refl
end_said g (Ending kind) e few a m s = refl
end_said g (Ended kind) e few a m s = (amount_number kind e.amount a, (let n : e.moment < 2 ^ 64 = omega arith in n), successor_numbers g e.successor few s)

letter_of : (ph : Phase) → IsSettled ph → HasLetter ph
letter_of Free s = absurd (s.0 refl)
letter_of Making s = absurd (let no : true ≡ false = s.1 in cc)
letter_of Prebooked s = λ e. cc
letter_of Confirmed s = λ e. cc
letter_of Fulfilled s = λ e. cc
letter_of (Ending kind) s = absurd (let no : true ≡ false = s.1 in cc)
letter_of (Ended Release) s = λ e. cc
letter_of (Ended Expire) s = λ e. cc
letter_of (Ended Refund) s = λ e. cc
letter_of (Ended Exchange) s = λ e. cc

-- items

all_within : (g : Layout) (is : List BookedItem) → AllByRecursion (LiesWithin g) is → AllByRecursion (IsWithin g.legs) (map said_item (map placed is))
all_within g [] h = tt
all_within g (i ∷ is) h = (record { place = h.0.place; some = h.0.some; piece = h.0.piece; within = h.0.legs }, all_within g is h.1)

clear_said : (i : BookedItem) (js : List BookedItem) → AllByRecursion (AreClearItems i) js → AllByRecursion (AreClear (said_item (placed i))) (map said_item (map placed js))
clear_said i [] h = tt
clear_said i (j ∷ js) h = (h.0, clear_said i js h.1)

all_apart : (is : List BookedItem) → Pairwise AreClearItems is → Pairwise AreClear (map said_item (map placed is))
all_apart [] h = tt
all_apart (i ∷ is) h = (clear_said i is h.0, all_apart is h.1)

all_numbers : (g : Layout) → HasSizes g → (is : List BookedItem) → AllByRecursion (LiesWithin g) is → AllByRecursion AreItemNumbers (map said_item (map placed is))
all_numbers g sizes [] h = tt
all_numbers g sizes (i ∷ is) h =
    let most = (sizes.legs i.place 0 h.0.place).1 in
    let place = h.0.place in let some = h.0.some in let legs = h.0.legs in let places = sizes.places.1 in
    (((let a : i.place < 2 ^ 64 = omega arith in a), (let a : i.span.from < 2 ^ 64 = omega arith in a), (let a : i.span.to < 2 ^ 64 = omega arith in a)), all_numbers g sizes is h.1)

length-said : (is : List BookedItem) → length (map said_item (map placed is)) ≡ length is
length-said is = length-map (map placed is) said_item ∙ length-map is placed

IfSome-map : {X : Type 0} (P Q : X → Type 0) (o : Option X) → ((x : X) → P x → Q x) → IfSome o P → IfSome o Q
IfSome-map P Q None f h = tt
IfSome-map P Q (Some x) f h = f x h

Pairwise-of_map : {X Y : Type 0} (R : Y → Y → Type 0) (f : X → Y) (xs : List X) → Pairwise (λ x y. R (f x) (f y)) xs → Pairwise R (map f xs)
Pairwise-of_map R f [] h = tt
Pairwise-of_map R f (x ∷ xs) h = (All-of_map (R (f x)) f xs h.0, Pairwise-of_map R f xs h.1)

-- what is kept of a row

-- what a wall has that a table was closed to, whose books began right, and none of whose rows is open
record IsGood (w : WallView) : Type 0 where
  sizes : HasSizes w.layout
  good : IsWellFormed w.layout (state_on w)
  range : AreInRange w.layout (state_on w)
  steady : AreSteady w.layout (state_on w)
  none : NoneOpen w

-- a successor that the line of a row may name
record IsNext (w : WallView) (row : ℕ) (x : SaidRow) : Type 0 where
  in_row : x.row < w.layout.rows
  other : x.row ≢ row
  low : x.generation + 1 ≤ next_generation (state_on w) x.row
  made : ¬ IsUnmade (state_on w) x.row x.generation

-- where the booking lives
abbrev LivesIn : WallView → ℕ → KeptBooking → Type 0
LivesIn w row k = (b : Booking) × (present (state_on w) row ≡ Some b) × (is_live b.phase ≡ true) × (k.items ≡ map placed b.items)

record IsKeptRight (w : WallView) (row : ℕ) (k : KeptBooking) : Type 0 where
  row_is : k.row ≡ row
  alone : IsRightAlone w.layout.legs w.layout.rows (said_of k)
  say : IsSayable (said_of k)
  successor : IfSome (said_of k).end.successor (IsNext w k.row)
  live : is_live k.phase ≡ true → LivesIn w row k

module _ (w : WallView) (is : IsGood w) where
  abbrev g : Layout
  g = w.layout

  abbrev s : State
  s = state_on w

  few : g.rows ≤ 262144
  few = is.sizes.rows.1

  stub_right : (row generation : ℕ) → row < g.rows → generation ≤ last_generation → IsKeptRight w row (stub row generation)
  stub_right row generation low gen = record {
    row_is = refl;
    alone = record {
      head = record { row = low; generation = gen; retailer = omega arith; limit = omega arith; total = omega arith };
      some = omega arith;
      few = omega arith;
      items = (record { place = is.sizes.places.0; some = omega arith; piece = inl (omega arith); within = (is.sizes.legs 0 0 is.sizes.places.0).0 }, tt);
      apart = (tt, tt);
      end = λ kind e. let same : Release ≡ kind = (let d : Ended Release ≡ Ended kind = e in cc) in
          subst (λ (k : EndKind). IsEndIn k 0 nothing) same (record { moment = omega arith; amount = refl; expired = λ no. cc; exchanged = λ no. cc; others = λ _. refl });
    };
    say = record {
      row = (let n : row < 2 ^ 64 = let f = few in omega (arith, f) in n);
      generation = (let n : generation < 2 ^ 64 = omega arith in n);
      phase = λ e. cc;
      retailer = omega arith;
      limit = omega arith;
      total = omega arith;
      count = omega arith;
      items = ((omega arith, omega arith, omega arith), tt);
      end = (omega arith, omega arith, tt);
    };
    successor = tt;
    live = λ t. absurd (let no : false ≡ true = t in cc);
  }

  -- the successor of a booking that is kept
  next_right : (row : ℕ) (b : Booking) → row < g.rows → present s row ≡ Some b → (ph : Phase) → b.phase ≡ ph → EndsRight g (map key_of s) b.row (limit_of b) ph b.end → IfSome (said_successor (end_in ph b.end).successor) (IsNext w b.row)
  next_right row b low at Free e end = tt
  next_right row b low at Making e end = tt
  next_right row b low at Prebooked e end = tt
  next_right row b low at Confirmed e end = tt
  next_right row b low at Fulfilled e end = tt
  next_right row b low at (Ending kind) e end = tt
  next_right row b low at (Ended Release) e end = subst (λ (o : Option SaidRow). IfSome o (IsNext w b.row)) (sym (said_none b.end.successor end)) tt
  next_right row b low at (Ended Expire) e end = subst (λ (o : Option SaidRow). IfSome o (IsNext w b.row)) (sym (said_none b.end.successor end.1)) tt
  next_right row b low at (Ended Refund) e end = subst (λ (o : Option SaidRow). IfSome o (IsNext w b.row)) (sym (said_none b.end.successor end)) tt
  next_right row b low at (Ended Exchange) e (r, j, in_row, other, below, word) =
      subst (λ (o : Option SaidRow). IfSome o (IsNext w b.row)) (sym (said_some r j b.end.successor (let f = few in omega (arith, f, in_row)) word)) (record {
        in_row = in_row;
        other = other;
        low = below;
        made = λ u. is.none row low (subst (λ (o : Option Booking). IsSomeAnd o (IsOpenBooking s)) (sym at) (inr (e, (r, j, (let f = few in omega (arith, f, in_row)), word, u))));
      })

  kept_right : (row : ℕ) (b : Booking) → row < g.rows → present s row ≡ Some b → IsSettled b.phase → is_sealed b.phase ≡ true → IsKeptRight w row (kept_as b)
  kept_right row b low at settled sealed =
      let sound = All-found (IsSoundBooking g) (stands_in s row) s b at is.good.each in
      let range = All-found (IsInRange g) (stands_in s row) s b at is.range in
      let steady = All-found (IsSteady g (map key_of s)) (stands_in s row) s b at is.steady in
      let seal = sound.sealed sealed in
      let long = length-said b.items in
      record {
        row_is = (present_latest s row b at).0;
        alone = record {
          head = record { row = range.row; generation = sound.generation; retailer = seal.retailer; limit = seal.limit; total = seal.total };
          some = (let n = seal.some in omega (arith, n, long));
          few = (let n = sound.count in omega (arith, n, long));
          items = all_within g b.items sound.within;
          apart = all_apart b.items steady.apart;
          end = λ kind e. subst (λ (ph : Phase). IsEndIn kind (limit_of b) (said_end (end_in ph b.end))) (sym e)
              (end_right g (map key_of s) b.row (limit_of b) kind b.end few (subst (λ (ph : Phase). EndsRight g (map key_of s) b.row (limit_of b) ph b.end) e steady.end) range.moment
              (subst (λ (ph : Phase). HasAmountFor ph b.end.amount) e range.amount));
        };
        say = record {
          row = (let n : b.row < 2 ^ 64 = let f = few in let r = range.row in omega (arith, f, r) in n);
          generation = (let n : b.generation < 2 ^ 64 = let r = sound.generation in omega (arith, r) in n);
          phase = letter_of b.phase settled;
          retailer = (let n : word_at b 1 < 2 ^ 64 = let r = seal.retailer in omega (arith, r) in n);
          limit = (let n : word_at b 2 < 2 ^ 64 = let r = seal.limit in omega (arith, r) in n);
          total = (let n : word_at b 3 < 2 ^ 64 = let r = seal.total in omega (arith, r) in n);
          count = (let n = sound.count in omega (arith, n, long));
          items = all_numbers g is.sizes b.items sound.within;
          end = end_said g b.phase b.end few range.amount range.moment range.successor;
        };
        successor = next_right row b low at b.phase refl steady.end;
        live = λ t. (b, at, t, refl);
      }

  settled_sealed : (ph : Phase) → ph ≢ Free → ph ≢ Making → ((kind : EndKind) → ph ≢ Ending kind) → IsSettled ph × (is_sealed ph ≡ true)
  settled_sealed Free free making ending = absurd (free refl)
  settled_sealed Making free making ending = absurd (making refl)
  settled_sealed Prebooked free making ending = ((free, refl), refl)
  settled_sealed Confirmed free making ending = ((free, refl), refl)
  settled_sealed Fulfilled free making ending = ((free, refl), refl)
  settled_sealed (Ending kind) free making ending = absurd (ending kind refl)
  settled_sealed (Ended kind) free making ending = ((free, refl), refl)

  -- no row is ending
  not_ending : (row : ℕ) (b : Booking) → row < g.rows → present s row ≡ Some b → (kind : EndKind) → b.phase ≢ Ending kind
  not_ending row b low at kind e = is.none row low (subst (λ (o : Option Booking). IsSomeAnd o (IsOpenBooking s)) (sym at) (inl (kind, e)))

  started : (row : ℕ) (b : Booking) → present s row ≡ Some b → b.phase ≢ Free
  started row b at = (All-found (IsSoundBooking g) (stands_in s row) s b at is.good.each).started

  from_as : (row : ℕ) (b : Booking) (k : KeptBooking) → row < g.rows → present s row ≡ Some b → b.phase ≢ Making → kept_as b ≡ k → IsKeptRight w row k
  from_as row b k low at making same =
      let t = settled_sealed b.phase (started row b at) making (not_ending row b low at) in
      subst (IsKeptRight w row) same (kept_right row b low at t.0 t.1)

  from_stub : (row : ℕ) (b : Booking) (k : KeptBooking) (t : Bool) → row < g.rows → present s row ≡ Some b → cond t None (Some (stub b.row b.generation)) ≡ Some k → IsKeptRight w row k
  from_stub row b k true low at e = absurd cc
  from_stub row b k false low at e =
      let same : stub b.row b.generation ≡ k = cc in
      let here : b.row ≡ row = (present_latest s row b at).0 in
      let gen = (All-found (IsSoundBooking g) (stands_in s row) s b at is.good.each).generation in
      subst (IsKeptRight w row) (ap (λ (r : ℕ). stub r b.generation) (sym here) ∙ same) (stub_right row b.generation low gen)

  phase_right : (row : ℕ) (b : Booking) (k : KeptBooking) (ph : Phase) → row < g.rows → present s row ≡ Some b → b.phase ≡ ph → kept_in ph b ≡ Some k → IsKeptRight w row k
  phase_right row b k Free low at e is_k = absurd cc
  phase_right row b k Making low at e is_k = from_stub row b k (b.generation == 0) low at is_k
  phase_right row b k Prebooked low at e is_k = from_as row b k low at (λ m. let no : Prebooked ≡ Making = sym e ∙ m in cc) cc
  phase_right row b k Confirmed low at e is_k = from_as row b k low at (λ m. let no : Confirmed ≡ Making = sym e ∙ m in cc) cc
  phase_right row b k Fulfilled low at e is_k = from_as row b k low at (λ m. let no : Fulfilled ≡ Making = sym e ∙ m in cc) cc
  phase_right row b k (Ending kind) low at e is_k = absurd (not_ending row b low at kind e)
  phase_right row b k (Ended kind) low at e is_k = from_as row b k low at (λ m. let no : Ended kind ≡ Making = sym e ∙ m in cc) cc

  row_right : (row : ℕ) (k : KeptBooking) → row < g.rows → kept_of_row s row ≡ Some k → IsKeptRight w row k
  row_right row k low e = go (present s row) refl e
    where
      go : (o : Option Booking) → present s row ≡ o → option_and_then (λ (b : Booking). kept_in b.phase b) o ≡ Some k → IsKeptRight w row k
      go None at f = absurd cc
      go (Some b) at f = phase_right row b k b.phase low at refl f

  -- the row of a successor has a line of no lower generation

  abbrev HasKept : ℕ → ℕ → Type 0
  HasKept r j = (k : KeptBooking) × (kept_of_row s r ≡ Some k) × (j ≤ k.generation)

  stub_there : (r j : ℕ) (b : Booking) (t : Bool) → nat_eq b.generation 0 ≡ t → present s r ≡ Some b → j ≤ b.generation → b.generation ≢ j → (k : KeptBooking) × (cond t None (Some (stub b.row b.generation)) ≡ Some k) × (j ≤ k.generation)
  stub_there r j b true e at low other = absurd (let z = eqb-true b.generation 0 e in omega (arith, z, low, other))
  stub_there r j b false e at low other = (stub b.row b.generation, refl, low)

  kept_there : (r j : ℕ) (b : Booking) (ph : Phase) → r < g.rows → present s r ≡ Some b → b.phase ≡ ph → j ≤ b.generation → ¬ IsUnmade s r j → (k : KeptBooking) × (kept_in ph b ≡ Some k) × (j ≤ k.generation)
  kept_there r j b Free low at e below made = absurd (started r b at e)
  kept_there r j b Making low at e below made =
      stub_there r j b (nat_eq b.generation 0) refl at below (λ same. made (subst (λ (o : Option Booking). (o ≡ None) ⊎ IsSomeAnd o (λ b. (b.phase ≡ Making) × (b.generation ≡ j))) (sym at) (inr (e, same))))
  kept_there r j b Prebooked low at e below made = (kept_as b, refl, below)
  kept_there r j b Confirmed low at e below made = (kept_as b, refl, below)
  kept_there r j b Fulfilled low at e below made = (kept_as b, refl, below)
  kept_there r j b (Ending kind) low at e below made = absurd (not_ending r b low at kind e)
  kept_there r j b (Ended kind) low at e below made = (kept_as b, refl, below)

  line_there : (r j : ℕ) → r < g.rows → j + 1 ≤ next_generation s r → ¬ IsUnmade s r j → HasKept r j
  line_there r j low next made = go (present s r) refl
    where
      go : (o : Option Booking) → present s r ≡ o → (k : KeptBooking) × (option_and_then (λ (b : Booking). kept_in b.phase b) o ≡ Some k) × (j ≤ k.generation)
      go None at = absurd (made (inl at))
      go (Some b) at = let top = (present_latest s r b at).1 in kept_there r j b b.phase low at refl (omega (arith, top)) made

  -- the list

  abbrev kept : List KeptBooking
  kept = kept_bookings g.rows s

  abbrev said : List SaidBooking
  said = said_on w

  has_line : (x : SaidRow) (row : ℕ) → IsNext w row x → HasLine said x
  has_line x row next =
      let k = line_there x.row x.generation next.in_row next.low next.made in (
        said_of k.0,
        contains_map said_of kept k.0 (contains_read (kept_of_row s) 0 g.rows x.row k.0 (omega arith) (let l = next.in_row in omega (arith, l)) k.1),
        (row_right x.row k.0 next.in_row k.1).row_is,
        k.2,
      )

  all_right : AllByRecursion (IsRight g.legs g.rows said) said
  all_right = All-of_map (IsRight g.legs g.rows said) said_of kept (each_read (λ k. IsRight g.legs g.rows said (said_of k)) (kept_of_row s) 0 g.rows (λ row k lo hi e.
      let r = row_right row k (omega arith) e in record {
        alone = r.alone;
        successor = IfSome-map (IsNext w k.row) (HasLine said) (said_of k).end.successor (λ x next. has_line x k.row next) r.successor;
      }))

  all_sayable : AllByRecursion IsSayable said
  all_sayable = All-of_map IsSayable said_of kept (each_read (λ k. IsSayable (said_of k)) (kept_of_row s) 0 g.rows (λ row k lo hi e. (row_right row k (omega arith) e).say))

  all_rising : Pairwise (λ (a b : SaidBooking). a.row < b.row) said
  all_rising = Pairwise-of_map (λ (a b : SaidBooking). a.row < b.row) said_of kept (pairs_read (λ (j k : KeptBooking). j.row < k.row) (kept_of_row s) 0 g.rows
      (λ q r j k lo mid hi d e. let a = (row_right q j (omega arith) d).row_is in let b = (row_right r k (omega arith) e).row_is in omega (arith, a, b, mid)))

  all_others : NoneBelow g.rows (OwnsSuccessor said)
  all_others row low (b, (k, below, at), here, own) =
      let Other : SaidBooking → Type 0 = λ b. IsSomeAnd b.end.successor (λ x. x.row ≡ b.row) → ⊥ in
      let each : AllByRecursion Other said = All-of_map Other said_of kept (each_read (λ k. Other (said_of k)) (kept_of_row s) 0 g.rows (λ row k lo hi e.
      let r = row_right row k (omega arith) e in not_own (said_of k).end.successor k.row r.successor)) in
      subst Other at (All-from_recursion Other said each k b below) (subst (λ (r : ℕ). IsSomeAnd b.end.successor (λ x. x.row ≡ r)) (sym here) own)
    where
      not_own : (o : Option SaidRow) (row : ℕ) → IfSome o (IsNext w row) → IsSomeAnd o (λ x. x.row ≡ row) → ⊥
      not_own None row next own = own
      not_own (Some x) row next own = next.other own

  -- live bookings don't overlap

  abbrev Clear : Booking → Booking → Type 0
  Clear b c = is_live b.phase ≡ true → is_live c.phase ≡ true → Across AreClearItems b.items c.items

  clear_of : (i : BookedItem) (js : List BookedItem) → AllByRecursion (λ j. AreClearItems j i) js → AllByRecursion (AreClearItems i) js
  clear_of i js h = All-map {P = λ j. AreClearItems j i} (λ j p same meet. p (sym same) (meet.0, meet.2, meet.1)) js h

  clear_back : (b c : Booking) → Clear b c → Clear c b
  clear_back b c clear live_c live_b =
      All-map (λ i row. clear_of i b.items row) c.items (Across-flip AreClearItems b.items c.items (clear live_b live_c))

  two_clear : (place q r : ℕ) (b c : Booking) → q < r → present s q ≡ Some b → present s r ≡ Some c → is_live b.phase ≡ true → is_live c.phase ≡ true
      → Across (AreClearAt place) (map said_item (map placed b.items)) (map said_item (map placed c.items))
  two_clear place q r b c less at on live_b live_c =
      let other : b ≡ c → ⊥ = λ same.
      let x = (present_latest s q b at).0 in let y = (present_latest s r c on).0 in let z = ap (λ (d : Booking). d.row) same in omega (arith, x, y, z, less) in
      let clear = pair_found Clear clear_back (stands_in s q) (stands_in s r) s b c other at on (NoDouble-from_WellFormed g s is.good) live_b live_c in
      Across-both (λ i j. AreClearAt place (said_item i) (said_item j)) (AreClearAt place) said_item (λ i j p. p) (map placed b.items) (map placed c.items)
      (Across-both AreClearItems (λ i j. AreClearAt place (said_item i) (said_item j)) placed (λ i j p here there. p (here ∙ sym there)) b.items c.items clear)

  apart_at : (place : ℕ) → IsApartAt said place
  apart_at place = Pairwise-of_map (λ (a b : SaidBooking). is_live a.phase ≡ true → is_live b.phase ≡ true → Across (AreClearAt place) a.items b.items) said_of kept
      (pairs_read (λ (j k : KeptBooking). is_live j.phase ≡ true → is_live k.phase ≡ true → Across (AreClearAt place) (map said_item j.items) (map said_item k.items)) (kept_of_row s) 0 g.rows
      (λ q r j k lo mid hi d e live_j live_k.
      let b = (row_right q j (omega arith) d).live live_j in
      let c = (row_right r k (omega arith) e).live live_k in
      subst (λ (x : List Item × List Item). Across (AreClearAt place) (map said_item x.0) (map said_item x.1)) (λ i. (sym b.3 i, sym c.3 i))
      (two_clear place q r b.0 c.0 mid b.1 c.1 b.2 c.2)))

  sound : (text : List ℕ) → text ≡ text_on w → IsRightText g.legs g.rows text said
  sound text same = record {
    sized = record {
      sizes = ((let n : length g.legs < 2 ^ 64 = let p = is.sizes.places.1 in omega (arith, p) in n), (let n : g.rows < 2 ^ 64 = let f = few in omega (arith, f) in n));
      each = all_sayable;
      rising = all_rising;
      count = (let f = few in let n = count_read (kept_of_row s) 0 g.rows in let l = length-map kept said_of in omega (arith, f, n, l));
      is = same;
    };
    right = all_right;
    apart = λ place low no. no (apart_at place);
    others = all_others;
  }

good_wall : (w : WallView) → HasSizes w.layout → HasBegun w.layout → IsClosed w → NoneOpen w → IsGood w
good_wall w sizes begun closed none = record {
  sizes = sizes;
  good = WellFormed-history w.layout w.layout.opening w.history closed.legal.0.well_formed closed.legal.1;
  range = ranges_all w.layout w.history closed.legal;
  steady = steady_all w.layout w.history closed.legal (steady_begun w.layout begun);
  none = none;
}

pub read_back : (w : WallView) (text : List ℕ) → HasSizes w.layout → HasBegun w.layout → IsClosed w → IsExport w text → IsRightText w.layout.legs w.layout.rows text (said_on w)
read_back w text sizes begun closed is = sound w (good_wall w sizes begun closed is.0) text is.2
