use Rattle.std.proofs.Common.{ltb, rules, tests}
use Rattle.std.proofs.lemmas.List.Sorted.{IsPartitionPoint-from_clause, IsPartitionedBy-ltb}
use Rattle.place_map.specs.Places.{run_number}
use Rattle.place_map.proofs.map.first_of_run.Goals as goal

pub returns-clause-splits : goal.returns-clause-splits
returns-clause-splits c =
    IsPartitionPoint-from_clause (λ p. ltb (run_number p) c.args.run.0) c.args.places.now _ c.partition_point.ensures.partitioned (IsPartitionedBy-ltb run_number c.args.places.now c.args.run.0 c.requires.by_run) (λ a r f' k. search (rules, tests))
