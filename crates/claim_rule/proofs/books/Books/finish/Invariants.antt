use Rattle.std.specs.Mem.Slots.{slots_items}
use Rattle.claim_rule.proofs.Finishing.{IsToldOf}
use Rattle.claim_rule.proofs.books.Books.finish.Given as goal

abbrev pub ghosts-recall : goal.ghosts-recall
ghosts-recall a = record { told = IsToldOf a._books.now.value.layout a._desk.now.value (slots_items a._closed.now.words) }
