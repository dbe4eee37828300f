-- A desk that is alone answers as a host of one thread.
use Rattle.std.specs.Prelude.{◌≡◌, ◌⊎◌, ℕ, Some, Result, Ok}
use Rattle.history_model.specs.History.{IsLegal}
use Rattle.claim_rule.specs.Rule.{DeskView, state_seen}
use Rattle.booking_rows.specs.SealedRows.{FitWords}
use Rattle.catalogue_contents.specs.Contents.{CatalogueView, legs_in}
use Rattle.osdm_parts.specs.declared.problem.Problem.{Problem}
use Rattle.osdm_parts.specs.declared.problem.Problem.TheVariants.{NoMemory}
use Rattle.osdm_texts.specs.Answers.{Reply, problem}
use Rattle.service_rules.specs.Ordered as order
use Rattle.service_rules.specs.Answering.{AnswersBy}
use Rattle.lone_desk.specs.Lone.{IsAlone}
use Rattle.plain_host.specs.Plain.{Plain, Choice, choice_for, keeping}
use Rattle.plain_host.specs.Outcomes.{outcome_by}
use Rattle.plain_host.specs.PlainOf.{plain_of}
use Rattle.plain_host.specs.Settled.{IsSettled}

-- A desk between two commands that is alone at the books of a catalogue: it has seen a legal history, and its bookings
-- are settled.
pub record IsLone (cat : CatalogueView) (desk : DeskView) : Type 0 where
  pub alone : IsAlone desk
  pub legal : IsLegal desk.layout desk.seen
  pub settled : IsSettled (state_seen desk)
  pub rows : desk.layout.rows ≡ cat.rows
  pub legs : desk.layout.legs ≡ legs_in cat
  pub fit : FitWords desk.layout

-- all is as before; or the row that the booking came to was chosen, and is kept
abbrev pub MayKeepRow : ℕ → Plain → Plain → Type 0
MayKeepRow rows before after =
    (after ≡ before) ⊎ ((c : Choice) × (choice_for rows before ≡ Some c) × (after ≡ keeping c))

-- what an order without memory leaves: all as before, or as it is once a booking's row was chosen
abbrev pub MayKeep : ℕ → Result order.Ordered Problem → Plain → Plain → Type 0
MayKeep rows (Ok (order.book code together)) before after = MayKeepRow rows before after
MayKeep rows (Ok (order.reserve r)) before after = MayKeepRow rows before after
MayKeep rows (Ok (order.accept_exchange code)) before after = MayKeepRow rows before after
MayKeep rows o before after = after ≡ before

-- the reply and the list are the outcome at the list before; or there was no memory
abbrev pub IsPlainly : CatalogueView → ℕ → ℕ → Result order.Ordered Problem → DeskView → DeskView → Reply → Type 0
IsPlainly cat retailer now o old new reply =
    (let it = outcome_by cat retailer now o (plain_of old) in (reply ≡ it.reply) × (plain_of new ≡ it.plain))
    ⊎ ((reply ≡ problem NoMemory) × MayKeep cat.rows o (plain_of old) (plain_of new))

-- whatever a lone desk's reply to the order or the refusal is, it is that of a host of one thread, and the desk is then
-- as before between two commands
abbrev pub AnswersPlainly : CatalogueView → ℕ → ℕ → Result order.Ordered Problem → Type 0
AnswersPlainly cat retailer now o =
    (old new : DeskView) (reply : Reply) → IsLone cat old → AnswersBy cat retailer now o old new reply
    → IsPlainly cat retailer now o old new reply × IsLone cat new
