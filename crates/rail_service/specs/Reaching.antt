-- What a command has to do with bookings.
use Rattle.std.specs.Prelude.{ℕ}
use Rattle.catalogue_contents.specs.Contents.{CatalogueView}
use Rattle.history_model.specs.History.{IsLegal}
use Rattle.claim_rule.specs.Rule.{DeskView}
use Rattle.claim_rule.specs.Calls.{AddsStepsBy}
use Rattle.claim_rule.specs.Out.{AllLooks}
use Rattle.rail_io.specs.declared.clock.Reach.{Reach}
use Rattle.rail_io.specs.declared.clock.Reach.TheVariants.{Apart, Tells, Changes}
use Rattle.rail_io.specs.declared.clock.RouteName.{RouteName}
use Rattle.rail_io.specs.declared.clock.RouteName.TheVariants as name
use Rattle.osdm_json.specs.declared.route.Route.{Route}
use Rattle.osdm_json.specs.declared.route.Route.TheVariants as route
use Rattle.osdm_json.specs.declared.command.Command.{Command}
use Rattle.osdm_json.specs.declared.command.Command.TheVariants as command
use Rattle.osdm_texts.specs.Answers.{Reply}
use Rattle.service_rules.specs.Answering.{Answers}

-- a route by its name alone
abbrev pub name_of : Route → RouteName
name_of route.Offers = name.Offers
name_of route.Book = name.Book
name_of route.Reserve = name.Reserve
name_of (route.Show id) = name.Show
name_of (route.Release id) = name.Release
name_of (route.Confirm id) = name.Confirm
name_of (route.Fulfil id) = name.Fulfil
name_of (route.QuoteRefund id) = name.QuoteRefund
name_of (route.AcceptRefund id offer) = name.AcceptRefund
name_of route.QuoteExchange = name.QuoteExchange
name_of (route.AcceptExchange id) = name.AcceptExchange
name_of (route.Places run from to) = name.Places
name_of route.Sweep = name.Sweep

-- how far a command reaches
abbrev pub reach_of : Command → Reach
reach_of (command.Offers trip adults children class wanted) = Apart
reach_of (command.Places segment) = Apart
reach_of (command.Show row) = Tells
reach_of (command.QuoteRefund row) = Tells
reach_of (command.QuoteExchange row offer) = Tells
reach_of (command.Book offer together) = Changes
reach_of (command.Reserve segment class count wanted together) = Changes
reach_of (command.Release row) = Changes
reach_of (command.Confirm row) = Changes
reach_of (command.Fulfil row) = Changes
reach_of (command.AcceptRefund row code) = Changes
reach_of (command.AcceptExchange row code) = Changes
reach_of command.Sweep = Changes

-- whoever asks it, whenever and of whichever catalogue: all that a desk does for the command's reply is to look
abbrev pub LooksAlone : Command → Type 0
LooksAlone c =
    (cat : CatalogueView) (retailer now : ℕ) (old new : DeskView) (reply : Reply) → IsLegal old.layout old.seen
    → Answers cat retailer now c old new reply → AddsStepsBy AllLooks old new
