use Rattle.claim_rule.proofs.books.Books.close_at.Given as goal

abbrev pub ghosts-exchange_as : goal.ghosts-exchange_as
ghosts-exchange_as a = record { layout = a.self.now.layout; word = a.at; step = λ _. a._hit }
