-- What is said of a command, by the desk's own entries.
use Rattle.std.specs.Prelude.{◌≡◌, ℕ, Result}
use mathlib.Core.List.{IsPrefix}
use Rattle.catalogue_contents.specs.Contents.{CatalogueView}
use Rattle.claim_rule.specs.Rule.{DeskView}
use Rattle.osdm_parts.specs.declared.problem.Problem.{Problem}
use Rattle.osdm_texts.specs.Answers.{Reply, Told, reply_told}
use Rattle.service_rules.specs.Ordered as order
use Rattle.service_rules.specs.Answering.{AnswersBy, BooksBy}

-- what was ordered is carried out, or refused, and a booking has all its places or none
abbrev pub Says : CatalogueView → ℕ → ℕ → Result order.Ordered Problem → DeskView → DeskView → Told → Type 0
Says cat retailer now o old new said =
    (reply : Reply) × AnswersBy cat retailer now o old new reply × BooksBy cat now o old new reply
    × (said ≡ reply_told cat reply)

-- what the desk had seen begins what it has seen, and it stays with its number and with the desks that it has parted
-- and joined
pub record GoesOn (old new : DeskView) : Type 0 where
  pub front : IsPrefix old.seen new.seen
  pub number : new.number ≡ old.number
  pub parted : new.parted ≡ old.parted
  pub joined : new.joined ≡ old.joined
