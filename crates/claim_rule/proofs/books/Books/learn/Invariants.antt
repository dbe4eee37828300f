use Rattle.claim_rule.proofs.books.Books.learn.Given as goal
use Rattle.history_model.specs.declared.entry.Step.TheVariants.{Met}

abbrev pub ghosts-load_as : goal.ghosts-load_as
ghosts-load_as a = record { layout = a.self.now.layout; word = a.at; step = λ _. Met }
