-- A drill of one request and one place: its history meets what the law asks.
use Rattle.std.proofs.Common.{◌≡◌, ◌∙◌, ◌+◌, ◌*◌, ◌<◌, ◌≤◌, inl, inr, ℕ, List, [], ◌∷◌, replicate, take, refl, sym, arith}
use Rattle.std.proofs.lemmas.Bool.{ne_eqb}
use Rattle.leg_masks.specs.Interval.{halves, item_word, word_legs}
use Rattle.history_model.specs.declared.entry.Entry.{Entry}
use Rattle.history_model.specs.declared.entry.Step.{Step}
use Rattle.history_model.specs.declared.entry.Step.TheVariants.{Look, Take, Start, Note, Seal, Met}
use Rattle.history_model.specs.declared.phase.Phase.TheVariants.{Prebooked}
use Rattle.history_model.specs.declared.word.Word.TheVariants.{Place}
use Rattle.history_model.specs.Booking.{Layout, first_item_word, most_items}
use Rattle.history_model.specs.Words.{place_word}
use Rattle.history_model.specs.Allowed.{IsAllowedStep}
use Rattle.history_model.specs.Apply.{started, words_of_row}
use Rattle.history_model.specs.History.{IsLegal, entry, own, state_of}
use Rattle.history_model.proofs.Bits.{place_word-same}
use Rattle.history_model.proofs.Writing.{empty_value}
use Rattle.host_drill.specs.Generator.{drill_legs, drill_rows}
use Rattle.host_drill.specs.Totals.{sold_of}
use Rattle.host_drill.specs.Parts.Outcome.{Sold}
use Rattle.host_drill.specs.Parts.{AllWork, IsSale, IsWholeCount, on_leg}
use Rattle.host_drill.proofs.Law.{law}

abbrev one_place : Layout
one_place = record { legs = replicate 1 drill_legs; rows = drill_rows; opening = [] }

abbrev one_request : List Step
one_request = Start 0 0 ∷ Look 0 0 0 ∷ Take 0 0 (on_leg 0) ∷ Note 0 4 1 ∷ Note 0 8 (item_word 0 (on_leg 0)) ∷ Seal 0 Prebooked ∷ []

abbrev one_history : List Entry
one_history =
    entry 1 (Start 0 0) ∷ entry 1 (Look 0 0 0) ∷ entry 1 (Take 0 0 (on_leg 0)) ∷ entry 1 (Note 0 4 1) ∷ entry 1 (Note 0 8 (item_word 0 (on_leg 0)))
    ∷ entry 1 (Seal 0 Prebooked) ∷ entry 0 Met ∷ []

nothing_taken : 0 ≡ place_word (started 0 0 1 (words_of_row [] 0) ∷ []) 0 0
nothing_taken = sym (place_word-same [] (started 0 0 1 (words_of_row [] 0) ∷ []) 0 0 (λ i. refl) ∙ empty_value (Place 0 0))

a_row : 0 < 32768
a_row = omega arith

may_take : IsAllowedStep one_place (started 0 0 1 (words_of_row [] 0) ∷ []) 1 (Take 0 0 (on_leg 0))
may_take = (
  a_row,
  (let e : 0 < 1 = omega arith in e),
  ((refl, refl), (let e : 0 < most_items = omega arith in e)),
  (let e : 0 < 1 = omega arith in e),
  inl (let e : 1 ≤ word_legs = omega arith in e),
  (let e : 1 ≤ drill_legs = omega arith in e),
  tt,
)

one_legal : IsLegal one_place one_history
one_legal = (
  record { well_formed = record { keys = tt; earlier = tt; apart = tt; each = tt }; settled = tt; owner = tt; in_range = tt },
  ((a_row, inl (refl, refl)), (((let e : 0 < 1 = omega arith in e), (let e : 0 < halves = omega arith in e), nothing_taken), (may_take, (note_count, (note_item, (seal, (tt, tt))))))),
)
  where
    note_count : IsAllowedStep one_place (state_of one_place (take 3 one_history)) 1 (Note 0 4 1)
    note_count = (a_row, inl ((refl, refl), inl ((let e : 1 ≤ 4 = omega arith in e), (let e : 4 ≤ 4 = omega arith in e))))

    note_item : IsAllowedStep one_place (state_of one_place (take 4 one_history)) 1 (Note 0 8 (item_word 0 (on_leg 0)))
    note_item = (a_row, inl ((refl, refl), inr ((let e : 8 ≤ 8 = omega arith in e), (let e : 8 < first_item_word + most_items = omega arith in e))))

    seal : IsAllowedStep one_place (state_of one_place (take 5 one_history)) 1 (Seal 0 Prebooked)
    seal = (
      a_row,
      (
        (refl, refl),
        record {
          some = (let e : 1 ≤ 1 = omega arith in e);
          retailer = (let e : 0 ≤ 4294967295 = omega arith in e);
          limit = (let e : 0 ≤ 4102444799 = omega arith in e);
          total = (let e : 0 ≤ 99999999999 = omega arith in e);
          count = refl;
          items = refl;
        },
        inl refl,
      ),
    )

one_part : IsSale 1 0 one_request
one_part = record {
  front = Start 0 0 ∷ Look 0 0 0 ∷ [];
  middle = Note 0 4 1 ∷ Note 0 8 (item_word 0 (on_leg 0)) ∷ [];
  row = 0;
  place = 0;
  within = (let e : 0 < 1 = omega arith in e);
  are = refl;
  minor = ((refl, (refl, tt)), (refl, (refl, tt)));
  starts = (let e : 1 ≤ 1 = omega arith in e);
}

one_work : AllWork one_place one_history 1 0 1 0 ((Sold ∷ []) ∷ [])
one_work = (record { steps = one_request; own = refl; number = refl; parts = (one_request, [], refl, one_part, refl) }, tt)

none_beyond : (k : ℕ) → 1 < k → own one_history k ≡ []
none_beyond k past = rw (ne_eqb 1 k (λ e. let f : ⊥ = omega (arith, past, e) in f), ne_eqb 0 k (λ e. let f : ⊥ = omega (arith, past, e) in f)) refl

one_sale : IsWholeCount (sold_of (state_of one_place one_history) one_place.rows) 0 (1 * 1) 1 ((Sold ∷ []) ∷ [])
one_sale = law one_place one_history 0 1 1 1 ((Sold ∷ []) ∷ []) refl refl refl (let e : 1 ≤ 2000 = omega arith in e) (let e : 1 ≤ 16 = omega arith in e) one_legal (refl, tt) none_beyond refl one_work
