-- What is written as the line of a booking.
use Rattle.std.specs.Prelude.{ℕ, List, [], ◌∷◌, ◌++◌, flat_map, length, map}
use Rattle.leg_masks.specs.Interval.{PlacedSpan as Item}
use Rattle.history_model.specs.WholeEnds.{end_at}
use Rattle.claim_rule.specs.Openings.{KeptBooking}
use Rattle.line_text.specs.declared.ends.SaidEnd.{SaidEnd}
use Rattle.cold_store.specs.declared.line.BookingLine.{BookingLine}
use Rattle.cold_store.specs.declared.line.LineEnd.{LineEnd}
use Rattle.line_text.specs.Lines.{SaidBooking, booking_line, item_field, number_field, said_item, said_successor}

-- what a line says of an end
abbrev pub said_end : LineEnd → SaidEnd
said_end e = record { amount = e.amount; moment = e.moment; successor = said_successor e.successor }

-- the booking of which a line says this
abbrev pub said_line : BookingLine → KeptBooking
said_line l =
    record {
      row = l.row;
      generation = l.generation;
      phase = l.phase;
      retailer = l.retailer;
      limit = l.limit;
      total = l.total;
      items = l.items.now;
      end = end_at l.end.moment l.end.amount l.end.successor;
    }

-- what the line of a kept booking says
abbrev pub said_of : KeptBooking → SaidBooking
said_of k =
    record {
      row = k.row;
      generation = k.generation;
      phase = k.phase;
      retailer = k.retailer;
      limit = k.limit;
      total = k.total;
      items = map said_item k.items;
      end = record { amount = k.end.amount; moment = k.end.moment; successor = said_successor k.end.successor };
    }

-- the line of a booking, with its line feed
abbrev pub kept_text : KeptBooking → List ℕ
kept_text k = booking_line (said_of k) ++ 10 ∷ []

-- the four fields before the items, and those of the items
abbrev pub line_numbers : BookingLine → List ℕ
line_numbers l =
    number_field l.retailer ++ (number_field l.limit ++ (number_field l.total ++ number_field (length l.items.now)))

abbrev pub item_written : Item → List ℕ
item_written i = item_field (said_item i)

abbrev pub items_written : List Item → List ℕ
items_written items = flat_map item_written items
