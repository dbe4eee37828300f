use Rattle.claim_rule.specs.Seats.{turn_step}
use Rattle.claim_rule.proofs.books.Books.turn_at.Given as goal

abbrev pub ghosts-exchange_as : goal.ghosts-exchange_as
ghosts-exchange_as a = record { layout = a.self.now.layout; word = a.at; step = turn_step a.old a._hit }
