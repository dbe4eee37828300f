use Rattle.osdm_json.specs.declared.command.Command.TheVariants as command
use Rattle.plain_host.proofs.PlacesLaws.{reserve_plain, offers_plain, places_plain}
use Rattle.plain_host.proofs.AllLaws.{command_plain}
use Rattle.plain_host.proofs.places.places_are_plain.Goals as goal

pub returns : goal.returns
returns c = record {
  book = λ cat retailer now offer together readable.
      command_plain cat retailer now (command.Book offer together) readable;
  reserve = reserve_plain;
  offers = offers_plain;
  places = places_plain;
  exchange = λ cat retailer now row code readable.
      command_plain cat retailer now (command.AcceptExchange row code) readable;
}
