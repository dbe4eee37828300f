use Rattle.std.specs.Prelude.{◌≡◌, List}
use Rattle.claim_rule.specs.Openings.{KeptBooking, OpensWith, opening_of}
use Rattle.claim_rule.proofs.books.plan_of.Given as goal

abbrev pub ghosts-choose : goal.ghosts-choose
ghosts-choose a = record {
  opens = λ s. (kept : List KeptBooking) × OpensWith a._legs.now a._rows a._words.now kept × (s ≡ opening_of kept);
}
