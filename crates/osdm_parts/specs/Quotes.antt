-- The JSON of refund offers and exchange offers.
use Rattle.std.specs.Prelude.{pos, codes}
use Rattle.serde_json.specs.Data.{Data, string, object, no_members, member}
use Rattle.offer_codes.specs.declared.code.RefundCode.{RefundCode}
use Rattle.offer_codes.specs.declared.code.ExchangeCode.{ExchangeCode}
use Rattle.offer_codes.specs.Exchanges.{exchange_view}
use Rattle.catalogue_contents.specs.Contents.{CatalogueView}
use Rattle.osdm_parts.specs.Times.{time_text}
use Rattle.osdm_parts.specs.Ids.{refund_id, exchange_id}
use Rattle.osdm_parts.specs.Amounts.{amount_tree}
use Rattle.osdm_parts.specs.Offers.{valid_until}

abbrev pub refund_tree : CatalogueView → RefundCode → Data
refund_tree cat c =
    object (member (codes "amount") (amount_tree cat.currency (pos c.amount))
    (member (codes "id") (string (refund_id c))
    (member (codes "validUntil") (string (time_text (valid_until c.made))) no_members)))

abbrev pub exchange_tree : CatalogueView → ExchangeCode → Data
exchange_tree cat c =
    object (member (codes "difference") (amount_tree cat.currency c.difference)
    (member (codes "id") (string (exchange_id (exchange_view c)))
    (member (codes "validUntil") (string (time_text (valid_until c.made))) no_members)))
