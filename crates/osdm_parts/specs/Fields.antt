-- The names of fields.
use Rattle.std.specs.Prelude.{ℕ, List, codes}
use Rattle.osdm_parts.specs.declared.field.FieldName.{FieldName}
use Rattle.osdm_parts.specs.declared.field.FieldName.TheVariants.{Adults, Children, Class, Wanted, Origin, Destination, Earliest, Latest, OfferId, Run, Count, From, To, Together, Status, BookingId, ExchangeOfferId, Id, Offer, Body}

abbrev pub name_of : FieldName → List ℕ
name_of Adults = codes "adults"
name_of Children = codes "children"
name_of Class = codes "class"
name_of Wanted = codes "wanted"
name_of Origin = codes "origin"
name_of Destination = codes "destination"
name_of Earliest = codes "earliest"
name_of Latest = codes "latest"
name_of OfferId = codes "offerId"
name_of Run = codes "run"
name_of Count = codes "count"
name_of From = codes "from"
name_of To = codes "to"
name_of Together = codes "together"
name_of Status = codes "status"
name_of BookingId = codes "bookingId"
name_of ExchangeOfferId = codes "exchangeOfferId"
name_of Id = codes "id"
name_of Offer = codes "offer"
name_of Body = codes "body"
