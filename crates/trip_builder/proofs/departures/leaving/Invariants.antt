use Rattle.trip_builder.proofs.departures.leaving.Given as goal

abbrev pub ghosts-leaving_from : goal.ghosts-leaving_from
ghosts-leaving_from a = record { name = a.blank.name; parts = a.blank.parts }
