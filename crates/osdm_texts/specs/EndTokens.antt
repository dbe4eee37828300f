-- The tokens of the members that say how a booking ended.
use Rattle.std.specs.Prelude.{List, [], ◌∷◌, ◌++◌, Option, Some, None, codes}
use Rattle.json.specs.Token.{Token, key, string}
use Rattle.history_model.specs.declared.booking.End.{End}
use Rattle.catalogue_contents.specs.Contents.{CatalogueView}
use Rattle.osdm_parts.specs.Times.{time_text}
use Rattle.osdm_parts.specs.Amounts.{amount_tree}
use Rattle.osdm_parts.specs.Appends.{tokens_of}

abbrev pub end_tokens : CatalogueView → Option End → List Token
end_tokens cat None = []
end_tokens cat (Some e) =
    (key (codes "endAmount") ∷ tokens_of (amount_tree cat.currency e.amount)) ++ key (codes "endedAt")
    ∷ string (time_text e.moment) ∷ []
