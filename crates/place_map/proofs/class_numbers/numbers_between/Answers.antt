use Rattle.std.proofs.Common.{ltb, length, take, drop, ◌-◌, List, subst, sym}
use Rattle.std.specs.List.Sorted.{IsPartitionedBy}
use Rattle.std.proofs.lemmas.List.{take_rest}
use Rattle.rail_ids.specs.declared.PlaceNo.{PlaceNo}
use Rattle.place_map.proofs.Classes.{between_is, split_by_number, rest_splits}
use Rattle.place_map.proofs.class_numbers.numbers_between.Goals as goal

pub numbers_before-start-requires : goal.numbers_before-start-requires
numbers_before-start-requires c = record { in_order = split_by_number c.args.numbers.now c.args.first c.requires }

pub numbers_before-requires : goal.numbers_before-requires
numbers_before-requires c =
    let numbers = c.args.numbers.now in
    let p = c.numbers_before-start.result in
    record { in_order = subst (λ (l : List PlaceNo). IsPartitionedBy (λ (n : PlaceNo). ltb n.0 c.args.end) l) (sym (take_rest numbers p)) (rest_splits numbers p c.args.end c.requires) }

pub returns : goal.returns
returns c =
    let numbers = c.args.numbers.now in
    let p = c.numbers_before-start.result in
    between_is numbers (take (length numbers - p) (drop p numbers)) c.args.first c.args.end p c.numbers_before.result (take_rest numbers p) c.numbers_before-start.ensures.splits c.numbers_before.ensures.splits
