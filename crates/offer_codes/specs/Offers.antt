-- The one spelling of an offer.
use Rattle.std.specs.Prelude.{ℕ, ◌+◌, ◌&&◌, nat_le, nat_lt, Bool, List, [], ◌∷◌, ◌++◌, length, codes}
use Rattle.leg_masks.specs.Interval.{most_legs}
use Rattle.std.specs.List.{list_all}
use Rattle.place_map.specs.declared.coach.Class.{Class}
use Rattle.place_map.specs.declared.coach.Class.TheVariants.{First, Second}
use Rattle.offer_codes.specs.Marked.{marked}
use Rattle.train_runs.specs.declared.segment.Segment.{Segment}
use Rattle.offer_codes.specs.declared.code.OfferCode.{OfferCode}

-- an offer, as contracts see it
pub record OfferView : Type 0 where
  pub made : ℕ
  pub adults : ℕ
  pub children : ℕ
  pub class : Class
  pub wanted : ℕ
  pub segments : List Segment

abbrev pub offer_view : OfferCode → OfferView
offer_view c =
    record {
      made = c.made;
      adults = c.adults;
      children = c.children;
      class = c.class;
      wanted = c.wanted;
      segments = c.segments.items;
    }

-- a run of the greatest catalogue, and legs of it
abbrev pub is_segment : Segment → Bool
is_segment s = nat_le s.run.0 4095 && (nat_lt s.span.from s.span.to && nat_le s.span.to most_legs)

-- how many passengers an offer is for at most
abbrev pub most_passengers : ℕ
most_passengers = 8

-- for how many seconds an offer and a quote stand
abbrev pub valid_seconds : ℕ
valid_seconds = 900

-- one to eight passengers
abbrev pub is_party : ℕ → ℕ → Bool
is_party adults children = nat_le 1 (adults + children) && nat_le (adults + children) most_passengers

-- the ranges of an offer that has a spelling
abbrev pub is_offer : OfferView → Bool
is_offer o =
    nat_le o.made 4_102_444_799 && (is_party o.adults o.children && (nat_le o.wanted 31
    && (nat_le 1 (length o.segments) && (nat_le (length o.segments) 3 && list_all is_segment o.segments))))

abbrev pub class_number : Class → ℕ
class_number First = 1
class_number Second = 2

abbrev pub segment_marks : List ℕ → Segment → List (List ℕ × ℕ)
segment_marks mark s = (mark, s.run.0) ∷ (codes ".", s.span.from) ∷ (codes ".", s.span.to) ∷ []

-- the first segment after its mark, and each later one after `_`
abbrev pub segments_marks : List ℕ → List Segment → List (List ℕ × ℕ)
segments_marks mark [] = []
segments_marks mark (s ∷ rest) = segment_marks mark s ++ segments_marks (codes "_") rest

abbrev pub offer_marks : List ℕ → OfferView → List (List ℕ × ℕ)
offer_marks mark o =
    (mark, o.made) ∷ (codes "-", o.adults) ∷ (codes "-", o.children) ∷ (codes "-", class_number o.class)
    ∷ (codes "-", o.wanted)
    ∷ segments_marks (codes "-") o.segments

-- `O` made `-` adults `-` children `-` class `-` wanted `-` segments
abbrev pub offer_text : OfferView → List ℕ
offer_text o = marked (offer_marks (codes "O") o)
