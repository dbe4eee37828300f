-- The line of a booking from its parts.
use Rattle.std.proofs.Common.{◌≡◌, List, [], ◌∷◌, ◌++◌, append_assoc, length, map, refl, ap, ◌∙◌, ℕ}
use Rattle.std.proofs.lemmas.List.{length-map}
use Rattle.leg_masks.specs.Interval.{PlacedSpan as Item}
use Rattle.cold_store.specs.declared.line.BookingLine.{BookingLine}
use Rattle.line_text.specs.Lines.{booking_line, end_fields, head_text, items_fields, number_field, said_item}
use Rattle.cold_store.specs.Written.{item_written, items_written, kept_text, line_numbers, said_end, said_line, said_of}

all_written : (is : List Item) → items_fields (map said_item is) ≡ items_written is
all_written [] = refl
all_written (i ∷ is) = ap (λ (t : List ℕ). item_written i ++ t) (all_written is)

pub line_is : (l : BookingLine) → kept_text (said_line l)
    ≡ head_text l.row l.generation l.phase ++ (line_numbers l ++ (items_written l.items.now ++ (end_fields l.phase (said_end l.end) ++ 10 ∷ [])))
line_is l =
    (λ j. (head_text l.row l.generation l.phase ++ (number_field l.retailer ++ (number_field l.limit ++ (number_field l.total ++ (number_field (length-map l.items.now said_item j) ++ (all_written l.items.now j ++ end_fields l.phase (said_end l.end))))))) ++ 10 ∷ [])
    ∙ grouped (head_text l.row l.generation l.phase) (number_field l.retailer) (number_field l.limit) (number_field l.total)
    (number_field (length l.items.now)) (items_written l.items.now) (end_fields l.phase (said_end l.end)) (10 ∷ [])
  where
    grouped : (h a b c d i e l : List ℕ) → (h ++ (a ++ (b ++ (c ++ (d ++ (i ++ e)))))) ++ l ≡ h ++ ((a ++ (b ++ (c ++ d))) ++ (i ++ (e ++ l)))
    grouped h a b c d i e l = simp append_assoc
