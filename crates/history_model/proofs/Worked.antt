-- Worked cases, computed from the definitions: two desks on one place, the first stretch, and a refund with its end.
use Rattle.std.proofs.Common.{◌≡◌, ℕ, pos, List, [], ◌∷◌, refl}
use Rattle.leg_masks.specs.Interval.{Interval}
use Rattle.history_model.specs.declared.entry.Entry.{Entry}
use Rattle.history_model.specs.declared.entry.Step.{Step}
use Rattle.history_model.specs.declared.entry.Step.TheVariants.{Look, Take, Give, Start, Note, Seal, Turn, Close, Met}
use Rattle.history_model.specs.declared.phase.Phase.TheVariants.{Free, Prebooked, Confirmed, Ending, Ended}
use Rattle.history_model.specs.declared.phase.EndKind.TheVariants.{Refund}
use Rattle.history_model.specs.Phase.{phase_shown}
use Rattle.history_model.specs.Booking.{State, phase_at, successor_word}
use Rattle.history_model.specs.Words.{number_of_bits, place_word, row_word}
use Rattle.history_model.specs.History.{state_after}

abbrev legs : ℕ → ℕ → Interval
legs from to = record { from = from; to = to }

abbrev entry : ℕ → Step → Entry
entry desk step = record { desk = desk; step = step }

-- A starts row 0, B row 1; A looks; B takes leg 1, A misses and then takes leg 0
abbrev both_taken : List Entry
both_taken =
    entry 0 (Start 0 0) ∷ entry 1 (Start 1 0) ∷ entry 0 (Look 0 0 0) ∷ entry 1 (Take 1 0 (legs 1 2)) ∷ entry 0 (Look 0 0 2) ∷ entry 0 (Take 0 0 (legs 0 1)) ∷ []

abbrev both_given : List Entry
both_given = entry 0 (Give 0 0) ∷ entry 1 (Give 1 0) ∷ entry 0 Met ∷ []

pub taken_word : place_word (state_after [] both_taken) 0 0 ≡ 3
unfolding number_of_bits
taken_word = refl

pub given_word : place_word (state_after (state_after [] both_taken) both_given) 0 0 ≡ 0
unfolding number_of_bits
given_word = refl

pub making_words : row_word (state_after (state_after [] both_taken) both_given) 1 0 ≡ 1
making_words = refl

-- legs 0 and 1 of place 0 are sold to retailer 1, in row 0
abbrev first_stretch : List Entry
first_stretch =
    entry 0 (Start 0 0) ∷ entry 0 (Take 0 0 (legs 0 2)) ∷ entry 0 (Note 0 1 1) ∷ entry 0 (Note 0 2 0) ∷ entry 0 (Note 0 3 0) ∷ entry 0 (Note 0 4 1) ∷ entry 0 (Note 0 8 2) ∷ entry 0 (Seal 0 Prebooked) ∷ []

pub stretch_word : place_word (state_after [] first_stretch) 0 0 ≡ 3
unfolding number_of_bits
stretch_word = refl

pub stretch_other_place : place_word (state_after [] first_stretch) 1 0 ≡ 0
unfolding number_of_bits
stretch_other_place = refl

pub stretch_phase : row_word (state_after [] first_stretch) 0 0 ≡ 2
stretch_phase = refl

pub stretch_retailer : row_word (state_after [] first_stretch) 0 1 ≡ 1
stretch_retailer = refl

pub stretch_item : row_word (state_after [] first_stretch) 0 8 ≡ 2
stretch_item = refl

pub stretch_next_row : row_word (state_after [] first_stretch) 1 0 ≡ 0
stretch_next_row = refl

-- it is confirmed, refunded with 3187 by another desk, given back and closed
abbrev refunded : List Entry
refunded =
    entry 0 (Turn 0 Prebooked Confirmed 0 (pos 0) 0) ∷ entry 3 (Turn 0 Confirmed (Ending Refund) 950 (pos 3187) 0) ∷ entry 3 (Give 0 0) ∷ entry 3 (Note 0 6 3187) ∷ entry 3 (Note 0 7 950) ∷ entry 3 (Close 0) ∷ []

pub refunded_place : place_word (state_after (state_after [] first_stretch) refunded) 0 0 ≡ 0
unfolding number_of_bits
refunded_place = refl

pub refunded_phase : row_word (state_after (state_after [] first_stretch) refunded) 0 0 ≡ 11
refunded_phase = refl

pub refunded_amount : row_word (state_after (state_after [] first_stretch) refunded) 0 6 ≡ 3187
refunded_amount = refl

pub refunded_item : row_word (state_after (state_after [] first_stretch) refunded) 0 8 ≡ 2
refunded_item = refl

-- the row is started again, and legs 0 and 1 of place 0 are sold once more
abbrev sold_again : List Entry
sold_again =
    entry 0 (Start 0 1) ∷ entry 0 (Take 0 0 (legs 0 2)) ∷ entry 0 (Note 0 4 1) ∷ entry 0 (Note 0 8 2) ∷ entry 0 (Seal 0 Prebooked) ∷ []

abbrev after_sold_again : State
after_sold_again = state_after (state_after (state_after [] first_stretch) refunded) sold_again

pub again_phase : row_word after_sold_again 0 0 ≡ 18
again_phase = refl

-- a word that nobody noted is still that of the booking before
pub again_amount : row_word after_sold_again 0 6 ≡ 3187
again_amount = refl

pub again_shown : phase_shown 1 (row_word after_sold_again 0 0) ≡ Prebooked
again_shown = refl

pub again_other : phase_shown 0 (row_word after_sold_again 0 0) ≡ Free
again_other = refl

pub earlier_booking : phase_at after_sold_again 0 0 ≡ Ended Refund
earlier_booking = refl

pub again_successor : successor_word 0 1 ≡ 4294967297
again_successor = refl

-- legs 62 and 63 of place 1, an item in each half
abbrev over_the_border : List Entry
over_the_border =
    entry 0 (Start 0 0) ∷ entry 0 (Look 1 0 0) ∷ entry 0 (Take 0 1 (legs 62 63)) ∷ entry 0 (Look 1 1 0) ∷ entry 0 (Take 0 1 (legs 63 64)) ∷ []

pub border_first : place_word (state_after [] over_the_border) 1 0 ≡ 4611686018427387904
unfolding number_of_bits
border_first = refl

pub border_second : place_word (state_after [] over_the_border) 1 1 ≡ 1
unfolding number_of_bits
border_second = refl

pub border_first_given : place_word (state_after (state_after [] over_the_border) (entry 0 (Give 0 1) ∷ [])) 1 1 ≡ 0
unfolding number_of_bits
border_first_given = refl
