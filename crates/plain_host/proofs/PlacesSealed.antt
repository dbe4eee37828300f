-- The row that a lone desk seals stands then in the list, with what was noted.
use Rattle.std.proofs.Common.{◌≡◌, ℕ, ◌<◌, List, [], ◌∷◌, ◌++◌, length, map, Option, None, refl, ap, ◌∙◌, inl, arith}
use Rattle.std.specs.List.{AllByRecursion}
use Rattle.std.proofs.lemmas.List.{get_or-set_same, length-set}
use Rattle.rail_ids.specs.declared.RowNo.{RowNo}
use Rattle.leg_masks.specs.Interval.{PlacedSpan as Item}
use Rattle.history_model.specs.declared.booking.End.{End}
use Rattle.history_model.specs.declared.entry.Step.{Step}
use Rattle.history_model.specs.declared.entry.Step.TheVariants.{Note, Seal}
use Rattle.history_model.specs.declared.phase.Phase.{Phase}
use Rattle.history_model.specs.declared.phase.Phase.TheVariants.{Making, Prebooked}
use Rattle.history_model.specs.Apply.{noted, in_phase}
use Rattle.history_model.specs.Booking.{Booking, State, change, word_at}
use Rattle.history_model.proofs.Keeping.{other_word}
use Rattle.history_model.proofs.ListLemmas.{All-append}
use Rattle.claim_rule.specs.Holds.{held}
use Rattle.lone_desk.specs.Lone.{after_steps}
use Rattle.plain_host.specs.Plain.{Standing}
use Rattle.plain_host.specs.PlainOf.{item_of, end_in, row_of, standing_of}
use Rattle.plain_host.specs.Settled.{IsStanding, IsSettled}
use Rattle.plain_host.proofs.PlacesRows.{IsLatest, IsMaking, change_last}

same_word : (b : Booking) (w value : ℕ) → w < length b.words → word_at (noted w value b) w ≡ value
same_word b w value inside = get_or-set_same b.words w value 0 inside

items_back : (items : List Item) → map item_of (map held items) ≡ items
items_back [] = refl
items_back (i ∷ is) = ap (λ (l : List Item). i ∷ l) (items_back is)

abbrev pub note_steps : ℕ → ℕ → ℕ → ℕ → ℕ → List Step
note_steps row retailer limit total count = Note row 1 retailer ∷ Note row 2 limit ∷ Note row 3 total ∷ Note row 4 count ∷ []

abbrev pub seal_steps : ℕ → ℕ → ℕ → ℕ → ℕ → List Step
seal_steps row retailer limit total count = note_steps row retailer limit total count ++ Seal row Prebooked ∷ []

-- the booking as it then stands
abbrev pub shown_as : RowNo → Phase → ℕ → ℕ → ℕ → List Item → Option End → Standing
shown_as row phase retailer limit total items end =
    record { row = row; view = record { phase = phase; retailer = retailer; limit = limit; total = total; items = items; ended = end } }

pub record HasSealed (standing : State) (phase : Phase) (row : RowNo) (retailer limit total : ℕ) (items : List Item) (s : State) : Type 0 where
  pub last : Booking
  pub stands : IsStanding last
  pub latest : IsLatest standing row
  pub shows : standing_of last ≡ shown_as row phase retailer limit total items None
  pub is : s ≡ standing ++ last ∷ []

-- the booking in the making has these words and items
pub record IsNoted (row : RowNo) (retailer limit total : ℕ) (items : List Item) (b : Booking) : Type 0 where
  pub row_is : row_of b ≡ row
  pub retailer_is : word_at b 1 ≡ retailer
  pub limit_is : word_at b 2 ≡ limit
  pub total_is : word_at b 3 ≡ total
  pub items_are : map item_of b.items ≡ items

pub record HasNotedLast (standing : State) (row : RowNo) (retailer limit total : ℕ) (items : List Item) (s : State) : Type 0 where
  pub last : Booking
  pub latest : IsLatest standing row
  pub making : last.phase ≡ Making
  pub noted : IsNoted row retailer limit total items last
  pub is : s ≡ standing ++ last ∷ []

pub notes_making : (standing : State) (row : RowNo) (desk retailer limit total count : ℕ) (items : List Item) (s : State) → (m : IsMaking standing row (map held items) s)
    → 4 < length m.last.words → HasNotedLast standing row retailer limit total items (after_steps s desk (note_steps row.row retailer limit total count))
notes_making standing row desk retailer limit total count items s m long =
    let b = m.last in
    let b1 = noted 1 retailer b in
    let b2 = noted 2 limit b1 in
    let b3 = noted 3 total b2 in
    let b4 = noted 4 count b3 in
    let n1 : length b1.words ≡ length b.words = length-set b.words 1 retailer in
    let n2 : length b2.words ≡ length b.words = length-set b1.words 2 limit ∙ n1 in
    let w1 : word_at b4 1 ≡ retailer =
    other_word b3 4 count 1 (λ e. omega (arith, e)) ∙ (other_word b2 3 total 1 (λ e. omega (arith, e))
    ∙ (other_word b1 2 limit 1 (λ e. omega (arith, e)) ∙ same_word b 1 retailer (omega (arith, long)))) in
    let w2 : word_at b4 2 ≡ limit =
    other_word b3 4 count 2 (λ e. omega (arith, e)) ∙ (other_word b2 3 total 2 (λ e. omega (arith, e)) ∙ same_word b1 2 limit (omega (arith, long, n1))) in
    let w3 : word_at b4 3 ≡ total = other_word b3 4 count 3 (λ e. omega (arith, e)) ∙ same_word b2 3 total (omega (arith, long, n2)) in
    record {
      last = b4;
      latest = m.latest;
      making = m.making;
      noted = record { row_is = m.row_is; retailer_is = w1; limit_is = w2; total_is = w3; items_are = ap (map item_of) m.items_are ∙ items_back items };
      is = ap (λ (t : State). change (change (change (change t row.row (noted 1 retailer)) row.row (noted 2 limit)) row.row (noted 3 total)) row.row (noted 4 count)) m.is
          ∙ (ap (λ (t : State). change (change (change t row.row (noted 2 limit)) row.row (noted 3 total)) row.row (noted 4 count))
          (change_last standing b row (noted 1 retailer) m.row_is m.latest)
          ∙ (ap (λ (t : State). change (change t row.row (noted 3 total)) row.row (noted 4 count))
          (change_last standing b1 row (noted 2 limit) m.row_is m.latest)
          ∙ (ap (λ (t : State). change t row.row (noted 4 count)) (change_last standing b2 row (noted 3 total) m.row_is m.latest)
          ∙ change_last standing b3 row (noted 4 count) m.row_is m.latest)));
    }

-- what was noted is shown in a phase without an end
pub noted_shows : (phase : Phase) (row : RowNo) (retailer limit total : ℕ) (items : List Item) (b : Booking) → ((e : End) → end_in phase e ≡ None) → IsNoted row retailer limit total items b
    → standing_of (in_phase phase b) ≡ shown_as row phase retailer limit total items None
noted_shows phase row retailer limit total items b none is =
    λ i. shown_as (is.row_is i) phase (is.retailer_is i) (is.limit_is i) (is.total_is i) (is.items_are i) (none b.end i)

pub seals_making : (standing : State) (row : RowNo) (desk retailer limit total count : ℕ) (items : List Item) (s : State) → (m : IsMaking standing row (map held items) s)
    → 4 < length m.last.words → HasSealed standing Prebooked row retailer limit total items (after_steps s desk (seal_steps row.row retailer limit total count))
seals_making standing row desk retailer limit total count items s m long =
    let n = notes_making standing row desk retailer limit total count items s m long in
    record {
      last = in_phase Prebooked n.last;
      latest = m.latest;
      stands = record { sealed = refl; still = refl };
      shows = noted_shows Prebooked row retailer limit total items n.last (λ e. refl) n.noted;
      is = ap (λ (t : State). change t row.row (in_phase Prebooked)) n.is ∙ change_last standing n.last row (in_phase Prebooked) n.noted.row_is m.latest;
    }

-- a booking more stands
pub one_more : (standing : State) (phase : Phase) (row : RowNo) (retailer limit total : ℕ) (items : List Item) (s : State) → AllByRecursion IsStanding standing
    → (has : HasSealed standing phase row retailer limit total items s) → AllByRecursion IsStanding (standing ++ has.last ∷ [])
one_more standing phase row retailer limit total items s each has = All-append IsStanding standing (has.last ∷ []) each (has.stands, tt)

pub settles_sealed : (standing : State) (phase : Phase) (row : RowNo) (retailer limit total : ℕ) (items : List Item) (s : State) → AllByRecursion IsStanding standing
    → HasSealed standing phase row retailer limit total items s → IsSettled s
settles_sealed standing phase row retailer limit total items s each has = record {
  standing = standing ++ has.last ∷ [];
  each = one_more standing phase row retailer limit total items s each has;
  is = inl has.is;
}
