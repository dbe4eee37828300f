use Rattle.claim_rule.proofs.books.Books.note_at.Given as goal

abbrev pub ghosts-store_as : goal.ghosts-store_as
ghosts-store_as a = record { layout = a.self.now.layout; word = a.at; step = λ _. a._step }
