use Rattle.std.proofs.Common.{◌≡◌, min, take, sum_by}
use Rattle.place_map.specs.Places.{group_size}
use Rattle.place_map.proofs.map.size_of_groups.Given as goal

abbrev pub invariant-loop-group : goal.invariant-loop-group
invariant-loop-group l = l.size ≡ min (sum_by group_size (take l.group-index l.groups)) 4_194_305
