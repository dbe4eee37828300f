use Rattle.std.proofs.lemmas.List.{take_rest}
use Rattle.place_map.proofs.OwnPlaces.{places_of-own}
use Rattle.place_map.proofs.map.own_places.Goals as goal

pub returns : goal.returns
returns c =
    places_of-own c.args.run.0 c.first_of_run-first.result c.end_of_run.result c.args.places.now _ (take_rest c.args.places.now c.first_of_run-first.result)
    c.first_of_run-first.ensures.splits c.end_of_run.ensures.splits
