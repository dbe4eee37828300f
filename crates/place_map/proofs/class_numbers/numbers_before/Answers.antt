use Rattle.std.proofs.Common.{rules, tests, ltb}
use Rattle.std.proofs.lemmas.List.Sorted.{IsPartitionPoint-from_clause}
use Rattle.rail_ids.specs.declared.PlaceNo.{PlaceNo}
use Rattle.place_map.proofs.class_numbers.numbers_before.Goals as goal

pub returns-clause-splits : goal.returns-clause-splits
returns-clause-splits c = IsPartitionPoint-from_clause (λ (n : PlaceNo). ltb n.0 c.args.limit) c.args.numbers.now _ c.partition_point.ensures.partitioned c.requires.in_order (λ a r f' k. search (rules, tests))
