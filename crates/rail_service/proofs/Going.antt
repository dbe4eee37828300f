-- What is so of a desk after each of its answers.
use Rattle.claim_rule.specs.Rule.{DeskView}
use Rattle.rail_service.specs.Commands.{GoesOn}
use Rattle.rail_service.proofs.Owned.{Own}

pub goes_on : (old new : DeskView) → Own old new → GoesOn old new
goes_on old new own =
    let same = own.1.same in
    record {
      front = own.1.front;
      number = same.2;
      parted = same.4;
      joined = same.3;
    }
