-- One look a piece, and the end of each try.
use Rattle.std.proofs.Common.{◌≡◌, ◌≢◌, inl, inr, ℕ, ◌+◌, ◌-◌, ◌≤◌, ◌<◌, Bool, true, false, not, ◌||◌, ◌&&◌, ne_eqb, List, [], ◌∷◌, ◌++◌, length, take, Some, refl, sym, ap, ◌∙◌, subst, ⊎_elim, arith, length-append}
use Rattle.std.specs.List.{AllByRecursion, list_any}
use mathlib.Core.List.{map-append}
use Rattle.leg_masks.specs.Interval.{Interval, IsPiece, is_piece, IsClear, half_of, has_leg, item_word, pieces}
use Rattle.leg_masks.proofs.HalfLegs.{cases_piece, pieces-whole, pieces-border, ends-border, before_border, behind_border}
use Rattle.history_model.specs.declared.entry.Step.{Step}
use Rattle.history_model.specs.declared.booking.BookedItem.{BookedItem}
use Rattle.history_model.specs.declared.phase.Phase.TheVariants.{Making}
use Rattle.history_model.specs.declared.word.Word.TheVariants.{Place}
use Rattle.history_model.specs.Lists.{Pairwise}
use Rattle.history_model.specs.Allowed.{IsMadeBy}
use Rattle.history_model.specs.Apply.{item_taken, noted, given}
use Rattle.history_model.specs.Booking.{Booking, Layout, State, change, first_item_word, most_items, present, occupies, is_occupied}
use Rattle.history_model.specs.History.{IsLegalFrom, entry, state_after}
use Rattle.history_model.specs.Words.{place_word}
use Rattle.history_model.proofs.Bits.{place_word-same}
use Rattle.history_model.proofs.Changes.{occupied_kept, occupied-take}
use Rattle.history_model.proofs.Forward.{state-append, legal_left, legal_right}
use Rattle.history_model.proofs.Generations.{present-changed}
use Rattle.history_model.proofs.Items.{any-append}
use Rattle.history_model.proofs.Keeping.{found, items_around, given_making}
use Rattle.history_model.proofs.Writing.{left_item, take_writes}
use Rattle.claim_rule.proofs.Holding.{take_front}
use Rattle.hold_core.specs.declared.tries.Outcome.{Outcome}
use Rattle.hold_core.specs.declared.tries.Outcome.TheVariants.{Won, Refused, Contended}
use Rattle.hold_core.specs.Tries.{Part, Try, IsPart, AreParts, IsTry, IsOutcome, AllClear, AreMoving, looks_at, part_steps, parts_steps, undone, try_steps, won_steps}
use Rattle.hold_core.specs.Places.{tries_steps, tried, won_by}
use Rattle.lone_desk.specs.Lone.{entries_of, after_steps}
use Rattle.lone_desk.specs.Decided.{EndsBy, IsFreeAt, ShowsWord, IsDecided}
use Rattle.lone_desk.proofs.Clear.{AllClearAt, open_is_clear, same_open}

-- steps one after the other

pub after-append : (s : State) (desk : ℕ) (xs ys : List Step) → after_steps s desk (xs ++ ys) ≡ after_steps (after_steps s desk xs) desk ys
after-append s desk xs ys = ap (state_after s) (map-append (entry desk) xs ys) ∙ state-append s (entries_of desk xs) (entries_of desk ys)

pub legal_parts : (g : Layout) (s : State) (desk : ℕ) (xs ys : List Step) → IsLegalFrom g s (entries_of desk (xs ++ ys)) → IsLegalFrom g s (entries_of desk xs) × IsLegalFrom g (after_steps s desk xs) (entries_of desk ys)
legal_parts g s desk xs ys legal =
    let both : IsLegalFrom g s (entries_of desk xs ++ entries_of desk ys) = subst (IsLegalFrom g s) (map-append (entry desk) xs ys) legal in
    (legal_left g s (entries_of desk xs) (entries_of desk ys) both, legal_right g s (entries_of desk xs) (entries_of desk ys) both)

pub after_looks : (s : State) (desk place : ℕ) (piece : Interval) (shown : List ℕ) → after_steps s desk (looks_at place piece shown) ≡ s
after_looks s desk place piece [] = refl
after_looks s desk place piece (word ∷ more) = after_looks s desk place piece more

pub after_part : (s : State) (desk row k place : ℕ) (t : Part) → after_steps s desk (part_steps row k place t) ≡ after_steps s desk (won_steps row k place t.piece t.outcome)
after_part s desk row k place t =
    after-append s desk (looks_at place t.piece t.shown) (won_steps row k place t.piece t.outcome)
    ∙ ap (λ (u : State). after_steps u desk (won_steps row k place t.piece t.outcome)) (after_looks s desk place t.piece t.shown)

-- looks at one half of a place with nothing between them show its word, and change nothing
pub looks_show : (g : Layout) (s : State) (desk place : ℕ) (piece : Interval) (shown : List ℕ) → IsLegalFrom g s (entries_of desk (looks_at place piece shown)) → AllByRecursion (λ word. word ≡ place_word s place (half_of piece)) shown
looks_show g s desk place piece [] legal = tt
looks_show g s desk place piece (word ∷ more) legal = (legal.0.2, looks_show g s desk place piece more legal.1)

-- so there is one of them
pub one_look : (n : ℕ) (shown : List ℕ) → 1 ≤ length shown → AreMoving shown → AllByRecursion (λ word. word ≡ n) shown → shown ≡ n ∷ []
one_look n [] some moving same = absurd (omega (arith, some))
one_look n (a ∷ []) some moving same = ap (λ (word : ℕ). word ∷ []) same.0
one_look n (a ∷ b ∷ rest) some moving same = absurd (moving.0 (same.1.0 ∙ sym same.0))

last_one : (front : List ℕ) (last n : ℕ) → front ++ last ∷ [] ≡ n ∷ [] → last ≡ n
last_one [] last n e = cc
last_one (a ∷ front) last n e = absurd (omega (arith, ap length e, length-append front (last ∷ [])))

ends_by : (n : ℕ) (piece : Interval) (shown : List ℕ) (o : Outcome) → IsOutcome piece shown o → shown ≡ n ∷ [] → EndsBy (IsClear n piece) o
ends_by n piece shown Won is e = (subst (AllClear piece) e is.1).0
ends_by n piece shown Refused (few, (front, last, clear, taken, is)) e =
    let same : last ≡ n = last_one front last n (sym is ∙ e) in
    subst (λ (k : ℕ). ¬ IsClear k piece) same taken
ends_by n piece shown Contended is e = absurd (omega (arith, is.0, ap length e))

-- one part, by its word
pub record PartDecided (s : State) (place : ℕ) (t : Part) : Type 0 where
  pub one : ShowsWord s place t
  pub ends : EndsBy (IsClear (place_word s place (half_of t.piece)) t.piece) t.outcome

part_decided : (g : Layout) (s : State) (desk row k place : ℕ) (t : Part) → IsPart t → IsLegalFrom g s (entries_of desk (part_steps row k place t)) → PartDecided s place t
part_decided g s desk row k place t is legal =
    let looked = legal_parts g s desk (looks_at place t.piece t.shown) (won_steps row k place t.piece t.outcome) legal in
    let n : ℕ = place_word s place (half_of t.piece) in
    let one = one_look n t.shown is.some is.moving (looks_show g s desk place t.piece t.shown looked.0) in
    record { one = one; ends = ends_by n t.piece t.shown t.outcome is.outcome one }

-- what the steps of a win change

module _ (g : Layout) (s : State) (desk row k place : ℕ) (piece : Interval) (legal : IsLegalFrom g s (entries_of desk (won_steps row k place piece Won))) where
  abbrev now : State
  now = after_steps s desk (won_steps row k place piece Won)

  -- the booking that takes
  pub record Taking : Type 0 where
    pub b : Booking
    pub at : present s row ≡ Some b
    pub making : b.phase ≡ Making
    pub some : piece.from < piece.to
    pub is : IsPiece piece

  taking : Taking
  taking =
      let b = found (present s row) (λ (b : Booking). IsMadeBy desk b × (length b.items < most_items)) legal.0.2 in
      record { b = b.0; at = b.1; making = b.2.0.0; some = legal.0.3; is = legal.0.4 }

  -- nothing at another place
  pub won_elsewhere : (q : ℕ) → q ≢ place → (leg : ℕ) → is_occupied now q leg ≡ is_occupied s q leg
  won_elsewhere q other leg =
      let t : State = change s row (item_taken place piece) in
      occupied_kept t row (noted (first_item_word + k) (item_word place piece)) (λ _. refl) q leg
      ∙ (occupied-take s row taking.b place piece taking.at q leg
      ∙ (ap (λ (c : Bool). is_occupied s q leg || (c && has_leg piece leg)) (ne_eqb place q (λ e. other (sym e))) ∙ or_false (is_occupied s q leg)))
    where
      or_false : (a : Bool) → (a || false) ≡ a
      or_false true = refl
      or_false false = refl

  -- nor in the other half of the place
  pub won_other_half : piece.to ≤ 126 → (h : ℕ) → h ≢ half_of piece → place_word now place h ≡ place_word s place h
  won_other_half fits h other =
      let t : State = change s row (item_taken place piece) in
      place_word-same t now place h (λ leg. occupied_kept t row (noted (first_item_word + k) (item_word place piece)) (λ _. refl) place leg)
      ∙ (take_writes s row place piece taking.b taking.at taking.some fits taking.is).rest (Place place h) (λ e. other (half_in place h place (half_of piece) e))
    where
      half_in : (p h q j : ℕ) → Place p h ≡ Place q j → h ≡ j
      half_in p h q j e = cc

-- the row's booking is in the making, and its last item is at the place
pub record LastAt (s : State) (row place : ℕ) : Type 0 where
  pub b : Booking
  pub at : present s row ≡ Some b
  pub making : b.phase ≡ Making
  pub front : List BookedItem
  pub last : BookedItem
  pub items : b.items ≡ front ++ last ∷ []
  pub here : last.place ≡ place

won_last : (g : Layout) (s : State) (desk row k place : ℕ) (piece : Interval) → IsLegalFrom g s (entries_of desk (won_steps row k place piece Won)) → LastAt (after_steps s desk (won_steps row k place piece Won)) row place
won_last g s desk row k place piece legal =
    let b = taking g s desk row k place piece legal in
    let w : ℕ = first_item_word + k in
    let n : ℕ = item_word place piece in
    let one = present-changed s row (item_taken place piece) b.b (λ _. refl) b.at in
    record {
      b = noted w n (item_taken place piece b.b);
      at = present-changed (change s row (item_taken place piece)) row (noted w n) (item_taken place piece b.b) (λ _. refl) one;
      making = b.making;
      front = b.b.items;
      last = left_item place piece;
      items = refl;
      here = refl;
    }

-- a give of it changes nothing at another place
give_elsewhere : (s : State) (row place k q : ℕ) → LastAt s row place → q ≢ place → (leg : ℕ) → is_occupied (change s row (given k)) q leg ≡ is_occupied s q leg
give_elsewhere s row place k q is other leg =
    let p : BookedItem → Bool = occupies q leg in
    let around = items_around s row is.b is.at in
    let less : (given k is.b).items ≡ is.front =
    ap (λ (x : Booking). x.items) (given_making k is.b is.making) ∙ (ap (λ (l : List BookedItem). take (length l - 1) l) is.items ∙ take_front is.front is.last) in
    let none : p is.last ≡ false = ap (λ (c : Bool). c && (not is.last.given_back && has_leg is.last.span leg)) (ne_eqb is.last.place q (λ e. other (sym e ∙ is.here))) in
    let same : list_any p is.b.items ≡ list_any p is.front =
    ap (list_any p) is.items ∙ (any-append p is.front (is.last ∷ []) ∙ (ap (λ (c : Bool). list_any p is.front || (c || false)) none ∙ or_false (list_any p is.front))) in
    ap (list_any p) (around.changed (given k))
    ∙ (any-append p around.before ((given k is.b).items ++ around.after)
    ∙ (ap (λ (c : Bool). list_any p around.before || c) (any-append p (given k is.b).items around.after
    ∙ ap (λ (c : Bool). c || list_any p around.after) (ap (list_any p) less ∙ sym same)
    ∙ sym (any-append p is.b.items around.after))
    ∙ sym (any-append p around.before (is.b.items ++ around.after))))
    ∙ ap (list_any p) (sym around.is)
  where
    or_false : (a : Bool) → (a || false) ≡ a
    or_false true = refl
    or_false false = refl

-- the parts of a candidate

part_elsewhere : (g : Layout) (s : State) (desk row k place q : ℕ) (piece : Interval) (o : Outcome) → q ≢ place → IsLegalFrom g s (entries_of desk (won_steps row k place piece o)) → (leg : ℕ) → is_occupied (after_steps s desk (won_steps row k place piece o)) q leg ≡ is_occupied s q leg
part_elsewhere g s desk row k place q piece Won other legal leg = won_elsewhere g s desk row k place piece legal q other leg
part_elsewhere g s desk row k place q piece Refused other legal leg = refl
part_elsewhere g s desk row k place q piece Contended other legal leg = refl

won_of : (g : Layout) (s : State) (desk row k place : ℕ) (t : Part) → IsLegalFrom g s (entries_of desk (part_steps row k place t)) → IsLegalFrom g s (entries_of desk (won_steps row k place t.piece t.outcome))
won_of g s desk row k place t legal =
    subst (λ (u : State). IsLegalFrom g u (entries_of desk (won_steps row k place t.piece t.outcome))) (after_looks s desk place t.piece t.shown)
    (legal_parts g s desk (looks_at place t.piece t.shown) (won_steps row k place t.piece t.outcome) legal).1

pub parts_elsewhere : (g : Layout) (s : State) (desk row k place q : ℕ) (ts : List Part) → q ≢ place → IsLegalFrom g s (entries_of desk (parts_steps row k place ts)) → (leg : ℕ) → is_occupied (after_steps s desk (parts_steps row k place ts)) q leg ≡ is_occupied s q leg
parts_elsewhere g s desk row k place q [] other legal leg = refl
parts_elsewhere g s desk row k place q (t ∷ ts) other legal leg =
    let both = legal_parts g s desk (part_steps row k place t) (parts_steps row (k + 1) place ts) legal in
    ap (λ (u : State). is_occupied u q leg) (after-append s desk (part_steps row k place t) (parts_steps row (k + 1) place ts))
    ∙ (parts_elsewhere g (after_steps s desk (part_steps row k place t)) desk row (k + 1) place q ts other both.1 leg
    ∙ (ap (λ (u : State). is_occupied u q leg) (after_part s desk row k place t) ∙ part_elsewhere g s desk row k place q t.piece t.outcome other (won_of g s desk row k place t both.0) leg))

last_through : (g : Layout) (s : State) (desk row k place : ℕ) (piece : Interval) (o : Outcome) → LastAt s row place → IsLegalFrom g s (entries_of desk (won_steps row k place piece o)) → LastAt (after_steps s desk (won_steps row k place piece o)) row place
last_through g s desk row k place piece Won was legal = won_last g s desk row k place piece legal
last_through g s desk row k place piece Refused was legal = was
last_through g s desk row k place piece Contended was legal = was

parts_last : (g : Layout) (s : State) (desk row k place : ℕ) (ts : List Part) → LastAt s row place → IsLegalFrom g s (entries_of desk (parts_steps row k place ts)) → LastAt (after_steps s desk (parts_steps row k place ts)) row place
parts_last g s desk row k place [] was legal = was
parts_last g s desk row k place (t ∷ ts) was legal =
    let both = legal_parts g s desk (part_steps row k place t) (parts_steps row (k + 1) place ts) legal in
    let one = subst (λ (u : State). LastAt u row place) (sym (after_part s desk row k place t)) (last_through g s desk row k place t.piece t.outcome was (won_of g s desk row k place t both.0)) in
    subst (λ (u : State). LastAt u row place) (sym (after-append s desk (part_steps row k place t) (parts_steps row (k + 1) place ts)))
    (parts_last g (after_steps s desk (part_steps row k place t)) desk row (k + 1) place ts one both.1)

-- where the first part is won, the last item is at the place
first_last : (g : Layout) (s : State) (desk row k place : ℕ) (t : Part) (ts : List Part) → t.outcome ≡ Won → IsLegalFrom g s (entries_of desk (parts_steps row k place (t ∷ ts))) → LastAt (after_steps s desk (parts_steps row k place (t ∷ ts))) row place
first_last g s desk row k place t ts won legal =
    let both = legal_parts g s desk (part_steps row k place t) (parts_steps row (k + 1) place ts) legal in
    let mine = subst (λ (o : Outcome). IsLegalFrom g s (entries_of desk (won_steps row k place t.piece o))) won (won_of g s desk row k place t both.0) in
    let one : LastAt (after_steps s desk (part_steps row k place t)) row place =
    subst (λ (u : State). LastAt u row place) (sym (after_part s desk row k place t ∙ ap (λ (o : Outcome). after_steps s desk (won_steps row k place t.piece o)) won)) (won_last g s desk row k place t.piece mine) in
    subst (λ (u : State). LastAt u row place) (sym (after-append s desk (part_steps row k place t) (parts_steps row (k + 1) place ts)))
    (parts_last g (after_steps s desk (part_steps row k place t)) desk row (k + 1) place ts one both.1)

undone_elsewhere : (s : State) (desk row k place q : ℕ) (o : Outcome) (ts : List Part) → ((t u : Part) (rest : List Part) → ts ≡ t ∷ u ∷ rest → LastAt s row place) → q ≢ place → (leg : ℕ) → is_occupied (after_steps s desk (undone row k o ts)) q leg ≡ is_occupied s q leg
undone_elsewhere s desk row k place q Won ts last other leg = refl
undone_elsewhere s desk row k place q Refused [] last other leg = refl
undone_elsewhere s desk row k place q Refused (t ∷ []) last other leg = refl
undone_elsewhere s desk row k place q Refused (t ∷ u ∷ rest) last other leg = give_elsewhere s row place k q (last t u rest refl) other leg
undone_elsewhere s desk row k place q Contended [] last other leg = refl
undone_elsewhere s desk row k place q Contended (t ∷ []) last other leg = refl
undone_elsewhere s desk row k place q Contended (t ∷ u ∷ rest) last other leg = give_elsewhere s row place k q (last t u rest refl) other leg

-- of more than one part the first is won
first_won : (ps : List Interval) (o : Outcome) (t u : Part) (rest : List Part) → AreParts ps (t ∷ u ∷ rest) o → t.outcome ≡ Won
first_won [] o t u rest are = absurd are
first_won (p ∷ ps) o t u rest (same, is, inl w) = w.0
first_won (p ∷ ps) o t u rest (same, is, inr n) = absurd (let no : u ∷ rest ≡ [] = n.1 in cc)

-- a try changes nothing at other places
pub try_elsewhere : (g : Layout) (s : State) (desk row k q : ℕ) (span : Interval) (t : Try) → IsTry span t → q ≢ t.place → IsLegalFrom g s (entries_of desk (try_steps row k t)) → (leg : ℕ) → is_occupied (after_steps s desk (try_steps row k t)) q leg ≡ is_occupied s q leg
try_elsewhere g s desk row k q span t is other legal leg =
    let parts = parts_steps row k t.place t.parts in
    let both = legal_parts g s desk parts (undone row k t.outcome t.parts) legal in
    let mid : State = after_steps s desk parts in
    let last = λ (a b : Part) (rest : List Part) (e : t.parts ≡ a ∷ b ∷ rest).
    subst (λ (l : List Part). LastAt (after_steps s desk (parts_steps row k t.place l)) row t.place) (sym e)
    (first_last g s desk row k t.place a (b ∷ rest) (first_won (pieces span) t.outcome a b rest (subst (λ (l : List Part). AreParts (pieces span) l t.outcome) e is))
    (subst (λ (l : List Part). IsLegalFrom g s (entries_of desk (parts_steps row k t.place l))) e both.0)) in
    ap (λ (u : State). is_occupied u q leg) (after-append s desk parts (undone row k t.outcome t.parts))
    ∙ (undone_elsewhere mid desk row k t.place q t.outcome t.parts last other leg ∙ parts_elsewhere g s desk row k t.place q t.parts other both.0 leg)

-- the parts end by the words that the state had before them

abbrev pub AreApartHalves : List Interval → Type 0
AreApartHalves ps = Pairwise (λ p q. half_of q ≢ half_of p) ps

words_same : (s t : State) (place : ℕ) (ps : List Interval) → AllByRecursion (λ p. place_word t place (half_of p) ≡ place_word s place (half_of p)) ps → AllClearAt t place ps → AllClearAt s place ps
words_same s t place [] same all = tt
words_same s t place (p ∷ ps) same all = (subst (λ (n : ℕ). IsClear n p) same.0 all.0, words_same s t place ps same.1 all.1)

halves_same : (s t : State) (place : ℕ) (p : Interval) (ps : List Interval) → ((h : ℕ) → h ≢ half_of p → place_word t place h ≡ place_word s place h) → AllByRecursion (λ q. half_of q ≢ half_of p) ps → AllByRecursion (λ q. place_word t place (half_of q) ≡ place_word s place (half_of q)) ps
halves_same s t place p [] same apart = tt
halves_same s t place p (q ∷ ps) same apart = (same (half_of q) apart.0, halves_same s t place p ps same apart.1)

shows_same : (s t : State) (place : ℕ) (ps : List Interval) (ts : List Part) (o : Outcome) → AreParts ps ts o → AllByRecursion (λ q. place_word t place (half_of q) ≡ place_word s place (half_of q)) ps → AllByRecursion (ShowsWord t place) ts → AllByRecursion (ShowsWord s place) ts
shows_same s t place ps [] o are same all = tt
shows_same s t place [] (u ∷ us) o are same all = absurd are
shows_same s t place (p ∷ ps) (u ∷ us) o (is, part, go) same all = (
  all.0 ∙ ap (λ (n : ℕ). n ∷ []) (subst (λ (x : Interval). place_word t place (half_of x) ≡ place_word s place (half_of x)) (sym is) same.0),
  ⊎_elim (λ w. shows_same s t place ps us o w.1 same.1 all.1) (λ n. subst (AllByRecursion (ShowsWord s place)) (sym n.1) tt) go,
)

ends_later : (P Q R : Type 0) (o : Outcome) → P → (Q → R) → (R → Q) → EndsBy Q o → EndsBy (P × R) o
ends_later P Q R Won p to back q = (p, to q)
ends_later P Q R Refused p to back never = λ x. never (back x.1)
ends_later P Q R Contended p to back never = never

ends_here : (P R : Type 0) (o : Outcome) → o ≢ Won → EndsBy P o → EndsBy (P × R) o
ends_here P R Won ne e = absurd (ne refl)
ends_here P R Refused ne e = λ x. e x.0
ends_here P R Contended ne e = e

words_back : (s t : State) (place : ℕ) (ps : List Interval) → AllByRecursion (λ p. place_word t place (half_of p) ≡ place_word s place (half_of p)) ps → AllClearAt s place ps → AllClearAt t place ps
words_back s t place [] same all = tt
words_back s t place (p ∷ ps) same all = (subst (λ (n : ℕ). IsClear n p) (sym same.0) all.0, words_back s t place ps same.1 all.1)

pub parts_decided : (g : Layout) (s : State) (desk row k place : ℕ) (ps : List Interval) (ts : List Part) (o : Outcome) → AllByRecursion (λ p. p.to ≤ 126) ps → AreApartHalves ps → AreParts ps ts o → IsLegalFrom g s (entries_of desk (parts_steps row k place ts))
    → AllByRecursion (ShowsWord s place) ts × EndsBy (AllClearAt s place ps) o
parts_decided g s desk row k place [] [] o fits apart are legal = (tt, subst (EndsBy (AllClearAt s place [])) (sym are) tt)
parts_decided g s desk row k place [] (t ∷ ts) o fits apart are legal = absurd are
parts_decided g s desk row k place (p ∷ ps) [] o fits apart are legal = absurd are
parts_decided g s desk row k place (p ∷ ps) (t ∷ ts) o fits apart (is, part, go) legal =
    let both = legal_parts g s desk (part_steps row k place t) (parts_steps row (k + 1) place ts) legal in
    let here = part_decided g s desk row k place t part both.0 in
    let ends : EndsBy (IsClear (place_word s place (half_of p)) p) t.outcome = subst (λ (x : Interval). EndsBy (IsClear (place_word s place (half_of x)) x) t.outcome) is here.ends in
    ⊎_elim
    (λ w.
    let mine = subst (λ (x : Outcome). IsLegalFrom g s (entries_of desk (won_steps row k place t.piece x))) w.0 (won_of g s desk row k place t both.0) in
    let mid : State = after_steps s desk (part_steps row k place t) in
    let its : mid ≡ after_steps s desk (won_steps row k place t.piece Won) = after_part s desk row k place t ∙ ap (λ (x : Outcome). after_steps s desk (won_steps row k place t.piece x)) w.0 in
    let halves = λ (h : ℕ) (other : h ≢ half_of p).
    ap (λ (u : State). place_word u place h) its ∙ won_other_half g s desk row k place t.piece mine (subst (λ (x : Interval). x.to ≤ 126) (sym is) fits.0) h (subst (λ (x : Interval). h ≢ half_of x) (sym is) other) in
    let same = halves_same s mid place p ps halves apart.0 in
    let rest = parts_decided g mid desk row (k + 1) place ps ts o fits.1 apart.1 w.1 both.1 in (
      (here.one, shows_same s mid place ps ts o w.1 same rest.0),
      ends_later (IsClear (place_word s place (half_of p)) p) (AllClearAt mid place ps) (AllClearAt s place ps) o (subst (EndsBy (IsClear (place_word s place (half_of p)) p)) w.0 ends)
          (words_same s mid place ps same) (words_back s mid place ps same) rest.1,
    ))
    (λ n. (
      (here.one, subst (AllByRecursion (ShowsWord s place)) (sym n.1) tt),
      subst (EndsBy (AllClearAt s place (p ∷ ps))) (sym n.2) (ends_here (IsClear (place_word s place (half_of p)) p) (AllClearAt s place ps) t.outcome n.0 ends),
    ))
    go

pieces_fit : (span : Interval) → span.to ≤ 126 → AllByRecursion (λ p. p.to ≤ 126) (pieces span)
pieces_fit span fits = ⊎_elim
    (λ (p : IsPiece span). subst (AllByRecursion (λ (q : Interval). q.to ≤ 126)) (sym (pieces-whole span p)) (fits, tt))
    (λ (b : is_piece span ≡ false). subst (AllByRecursion (λ (q : Interval). q.to ≤ 126)) (sym (pieces-border span b)) (omega arith, (fits, tt)))
    (cases_piece span)

pieces_apart : (span : Interval) → AreApartHalves (pieces span)
pieces_apart span = ⊎_elim
    (λ (p : IsPiece span). subst AreApartHalves (sym (pieces-whole span p)) (tt, tt))
    (λ (b : is_piece span ≡ false). let ends = ends-border span b in subst AreApartHalves (sym (pieces-border span b)) (((λ e. unlike span.from ends.0 e), tt), (tt, tt)))
    (cases_piece span)
  where
    unlike : (from : ℕ) → from < 63 → half_of (behind_border span) ≡ half_of (before_border (record span { from = from })) → ⊥
    unlike from l e = omega (arith, l, e)

ends_as : (P Q : Type 0) (o : Outcome) → (P → Q) → (Q → P) → EndsBy P o → EndsBy Q o
ends_as P Q Won to back e = to e
ends_as P Q Refused to back e = λ q. e (back q)
ends_as P Q Contended to back e = e

decided : (g : Layout) (s : State) (desk row k : ℕ) (span : Interval) (t : Try) → span.to ≤ 126 → IsTry span t → IsLegalFrom g s (entries_of desk (try_steps row k t)) → IsDecided s span t
decided g s desk row k span t fits is legal =
    let both = legal_parts g s desk (parts_steps row k t.place t.parts) (undone row k t.outcome t.parts) legal in
    let d = parts_decided g s desk row k t.place (pieces span) t.parts t.outcome (pieces_fit span fits) (pieces_apart span) is both.0 in
    let words = open_is_clear s t.place span fits in
    record { one = d.0; ends = ends_as (AllClearAt s t.place (pieces span)) (IsFreeAt s span t.place) t.outcome words.0 words.1 d.1 }

still_shown : (s t : State) (place : ℕ) (ts : List Part) → ((leg : ℕ) → is_occupied t place leg ≡ is_occupied s place leg) → AllByRecursion (ShowsWord t place) ts → AllByRecursion (ShowsWord s place) ts
still_shown s t place [] same all = tt
still_shown s t place (x ∷ xs) same all = (all.0 ∙ ap (λ (n : ℕ). n ∷ []) (place_word-same s t place (half_of x.piece) same), still_shown s t place xs same all.1)

still_decided : (s t : State) (span : Interval) (p : ℕ) (ts : List Try) → ((q : ℕ) → q ≢ p → (leg : ℕ) → is_occupied t q leg ≡ is_occupied s q leg)
    → AllByRecursion (λ q. p ≢ q) (tried ts) → AllByRecursion (IsDecided t span) ts → AllByRecursion (IsDecided s span) ts
still_decided s t span p [] same apart all = tt
still_decided s t span p (x ∷ ts) same apart all =
    let here = same x.place (λ e. apart.0 (sym e)) in (
      record {
        one = still_shown s t x.place x.parts here all.0.one;
        ends = ends_as (IsFreeAt t span x.place) (IsFreeAt s span x.place) x.outcome (same_open t s x.place span (λ leg. sym (here leg))) (same_open s t x.place span here) all.0.ends;
      },
      still_decided s t span p ts same apart.1 all.1,
    )

-- The tries of unlike places that a lone desk makes have one look at each piece, and end by what was free before them.
pub tries_decided : (g : Layout) (s : State) (desk row k : ℕ) (span : Interval) (ts : List Try) → span.to ≤ 126
    → AllByRecursion (IsTry span) ts → Pairwise (λ p q. p ≢ q) (tried ts) → IsLegalFrom g s (entries_of desk (tries_steps row k span ts))
    → AllByRecursion (IsDecided s span) ts
tries_decided g s desk row k span [] fits each apart legal = tt
tries_decided g s desk row k span (t ∷ ts) fits each apart legal =
    let steps = try_steps row k t in
    let rest = tries_steps row (k + length (won_by span t)) span ts in
    let both = legal_parts g s desk steps rest legal in
    let later = tries_decided g (after_steps s desk steps) desk row (k + length (won_by span t)) span ts fits each.1 apart.1 both.1 in (
      decided g s desk row k span t fits each.0 both.0,
      still_decided s (after_steps s desk steps) span t.place ts (λ q other. try_elsewhere g s desk row k q span t each.0 other both.0) apart.0 later,
    )
