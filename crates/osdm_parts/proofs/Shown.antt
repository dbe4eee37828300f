-- The items of a booking, joined again at each place.
use Rattle.std.proofs.Common.{◌≡◌, ◌≢◌, Bool, true, false, List, [], ◌∷◌, ◌++◌, if◌then◌else◌, map, refl, ap, ◌∙◌}
use Rattle.std.specs.List.{AllByRecursion, flat_map}
use Rattle.std.proofs.lemmas.Bool.{eq-eqb, ne_eqb}
use Rattle.leg_masks.specs.Interval.{PlacedSpan, word_legs, is_piece, items_at}
use Rattle.history_model.specs.Lists.{Pairwise}
use Rattle.osdm_parts.specs.Reservations.{reservations}

-- the items of placed spans, in order
abbrev items_of : List PlacedSpan → List PlacedSpan
items_of placed = flat_map (λ r. items_at r.span r.place) placed

-- the items of one, by whether its legs lie in one half
abbrev parts : PlacedSpan → Bool → List PlacedSpan
parts r one =
    map (λ piece. record { place = r.place; span = piece })
    (if one then r.span ∷ [] else record { from = r.span.from; to = word_legs } ∷ record { from = word_legs; to = r.span.to } ∷ [])

-- an item before one of another place is shown by itself
shown_before : (a b : PlacedSpan) (rest : List PlacedSpan) → a.place ≢ b.place → reservations (a ∷ b ∷ rest) ≡ a ∷ reservations (b ∷ rest)
shown_before a b rest apart = rw (ne_eqb a.place b.place apart) refl

-- so it is before the items of spans at other places
shown_alone : (a : PlacedSpan) (placed : List PlacedSpan) → AllByRecursion (λ b. a.place ≢ b.place) placed → reservations (a ∷ items_of placed) ≡ a ∷ reservations (items_of placed)
shown_alone a [] apart = refl
shown_alone a (b ∷ rest) apart = by_parts (is_piece b.span)
  where
    by_parts : (one : Bool) → reservations (a ∷ (parts b one ++ items_of rest)) ≡ a ∷ reservations (parts b one ++ items_of rest)
    by_parts true = shown_before a b (items_of rest) apart.0
    by_parts false = shown_before a _ (_ ∷ items_of rest) apart.0

-- the items of the first are shown as one
shown_first : (a : PlacedSpan) (rest : List PlacedSpan) (one : Bool) → reservations (a ∷ items_of rest) ≡ a ∷ reservations (items_of rest)
    → reservations (parts a one ++ items_of rest) ≡ a ∷ reservations (items_of rest)
shown_first a rest true alone = alone
shown_first a rest false alone = rw (eq-eqb a.place a.place refl) refl

pub shown_once : (placed : List PlacedSpan) → Pairwise (λ a b. a.place ≢ b.place) placed → reservations (items_of placed) ≡ placed
shown_once [] apart = refl
shown_once (a ∷ rest) apart =
    shown_first a rest (is_piece a.span) (shown_alone a rest apart.0) ∙ ap (λ (l : List PlacedSpan). a ∷ l) (shown_once rest apart.1)
