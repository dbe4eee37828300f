use Rattle.std.proofs.Common.{◌<◌}
use Rattle.claim_rule.specs.Desks.{IsOf}
use Rattle.claim_rule.specs.Out.{KeepsHolds, KeepsEndings}
use Rattle.party_places.proofs.Searching.{Searched}
use Rattle.party_places.proofs.searches.find_stretch.Given as goal

abbrev pub invariant-loop-at : goal.invariant-loop-at
invariant-loop-at l = record {
  own : IsOf l.books l.desk;
  holds : KeepsHolds l.fn.desk l.desk;
  endings : KeepsEndings l.fn.desk l.desk;
  few : l.together < l.count;
  searched : Searched l.places l.count l.span l.candidates l.fn.desk l.desk l.at l.together l.before;
}
