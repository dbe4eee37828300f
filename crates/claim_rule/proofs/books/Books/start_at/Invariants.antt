use Rattle.claim_rule.specs.Seats.{either_step}
use Rattle.claim_rule.proofs.books.Books.start_at.Given as goal

abbrev pub ghosts-exchange_as : goal.ghosts-exchange_as
ghosts-exchange_as a = record { layout = a.self.now.layout; word = a.at; step = either_step a.old a._hit a.at }
