-- The tokens of a booking, part by part.
use Rattle.std.proofs.Common.{◌≡◌, pos, List, ◌∷◌, ◌++◌, map, codes, Option, Some, None, refl, sym, ap}
use Rattle.json.specs.Token.{Token, begin_object, key, string}
use Rattle.serde_json.specs.Data.{boolean, array, Members, member}
use Rattle.serde_json.specs.Data as json_data
use Rattle.serde_json.specs.View.{items_of}
use Rattle.history_model.specs.declared.booking.End.{End}
use Rattle.rail_ids.specs.declared.RowNo.{RowNo}
use Rattle.booking_rows.specs.Views.{RowSeen}
use Rattle.catalogue_contents.specs.Contents.{CatalogueView}
use Rattle.osdm_parts.specs.Times.{time_text}
use Rattle.osdm_parts.specs.Ids.{booking_id}
use Rattle.osdm_parts.specs.Statuses.{phase_text}
use Rattle.osdm_parts.specs.Amounts.{amount_tree}
use Rattle.osdm_parts.specs.Reservations.{reservations, reservation_tree}
use Rattle.osdm_texts.specs.Bookings.{is_settled, end_members, successor_members, booking_tree}
use Rattle.osdm_parts.specs.Appends.{tokens_of, members_of}
use Rattle.osdm_texts.specs.EndTokens.{end_tokens}

end_members-tokens : (cat : CatalogueView) (e : Option End) (rest : Members) → members_of (end_members cat e rest) ≡ end_tokens cat e ++ members_of rest
end_members-tokens cat None rest = refl
end_members-tokens cat (Some e) rest = refl

-- the members from the id on
abbrev pub later_members : CatalogueView → RowNo → RowSeen → Members
later_members cat row v =
    member (codes "id") (json_data.string (booking_id row)) (member (codes "price") (amount_tree cat.currency (pos v.total))
    (member (codes "reservations") (array (items_of (map (reservation_tree cat) (reservations v.items))))
    (member (codes "settled") (boolean (is_settled v.phase)) (member (codes "status") (json_data.string (phase_text v.phase))
    (successor_members v.phase v.ended)))))

pub booking_tokens : (cat : CatalogueView) (row : RowNo) (v : RowSeen)
    → begin_object ∷ key (codes "confirmableUntil") ∷ string (time_text v.limit) ∷ (end_tokens cat v.ended ++ members_of (later_members cat row v)) ≡ tokens_of (booking_tree cat row v)
booking_tokens cat row v =
    ap (λ (l : List Token). begin_object ∷ key (codes "confirmableUntil") ∷ string (time_text v.limit) ∷ l) (sym (end_members-tokens cat v.ended (later_members cat row v)))
