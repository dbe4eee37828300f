use Rattle.claim_rule.proofs.books.Books.undo_at.Given as goal

abbrev pub ghosts-and_as : goal.ghosts-and_as
ghosts-and_as a = record { layout = a.self.now.layout; word = a.at; step = λ _. a._step }
