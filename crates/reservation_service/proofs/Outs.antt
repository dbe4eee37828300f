-- A hold that stays out through two calls.
use Rattle.claim_rule.specs.Rule.{BooksView, DeskView}
use Rattle.claim_rule.specs.Holds.{HoldView}
use Rattle.claim_rule.proofs.Out.{endings_then}
use Rattle.reservation_service.specs.Outs.{StaysOut}

pub out_then : (books : BooksView) (old mid new : DeskView) (held hold : HoldView) → StaysOut books old mid held → StaysOut books mid new hold → StaysOut books old new hold
out_then books old mid new held hold first second = record { out = second.out; endings = endings_then old mid new first.endings second.endings }
