use Rattle.claim_rule.specs.Seats.{seeing}
use Rattle.claim_rule.proofs.books.Books.step_read.Given as goal

abbrev pub ghosts-load_as : goal.ghosts-load_as
ghosts-load_as a = record { layout = a.self.now.layout; word = a.at; step = seeing a.at }
