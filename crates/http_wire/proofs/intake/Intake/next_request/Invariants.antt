use Rattle.http_wire.proofs.intake.Intake.next_request.Given as goal

abbrev pub ghosts-next_of_ledger : goal.ghosts-next_of_ledger
ghosts-next_of_ledger g a = record { name = a.blank.name; parts = a.blank.parts }
