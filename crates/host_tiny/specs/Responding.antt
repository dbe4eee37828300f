-- How the run with its reservations answers.
use Rattle.std.specs.Prelude.{◌≡◌, ℕ, List}
use Rattle.http_wire.specs.declared.request.WireFault.{WireFault}
use Rattle.http_wire.specs.Requests.{RequestText}
use Rattle.host_tiny.specs.declared.responder.Tiny.{Tiny}
use Rattle.host_tiny.specs.Tiny.{AnswersTiny, Refuses}

-- a request is answered so, and the run stays the same
pub record Responds (before : Tiny) (request : RequestText) (text : List ℕ) (after : Tiny) : Type 0 where
  pub answer : AnswersTiny before.run.legs before.run.places before.run.held request text after.run.held
  pub legs : after.run.legs ≡ before.run.legs
  pub places : after.run.places ≡ before.run.places

abbrev pub Declines : Tiny → WireFault → List ℕ → Type 0
Declines tiny fault text = Refuses tiny.run.held fault text
