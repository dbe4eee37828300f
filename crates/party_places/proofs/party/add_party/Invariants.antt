use Rattle.std.proofs.Common.{◌≡◌, ◌<◌, ◌≤◌, length, map}
use Rattle.std.specs.Prelude.{All, slice_index}
use Rattle.claim_rule.specs.Desks.{IsOf}
use Rattle.claim_rule.specs.Out.{IsHolding, HasNotedItems, KeepsEndings}
use Rattle.hold_core.specs.Tries.{place_number}
use Rattle.party_places.specs.Parties.{asked}
use Rattle.party_places.proofs.Trying.{Tried}
use Rattle.party_places.proofs.party.add_party.Given as goal

abbrev pub invariant-loop-end : goal.invariant-loop-end
invariant-loop-end l = record {
  own : IsOf l.books l.desk;
  hold : IsHolding l.desk l.hold;
  same : l.hold ≡ l.fn.hold;
  noted : HasNotedItems l.fn.desk l.fn.hold → HasNotedItems l.desk l.hold;
  endings : KeepsEndings l.fn.desk l.desk;
  places : All (λ p. (p.0 < length l.books.layout.legs) × (l.span.to ≤ slice_index l.books.layout.legs p.0)) l.left;
  tried : Tried (asked l.places l.fn.hold l.span l.count l.candidates) l.fn.desk l.desk (map place_number l.left);
}

abbrev pub decreases-loop-end : goal.decreases-loop-end
decreases-loop-end l = length l.left
