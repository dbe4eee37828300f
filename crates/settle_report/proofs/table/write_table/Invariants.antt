use Rattle.std.specs.Prelude.{◌++◌, flat_map, map}
use Rattle.std.specs.Map.Iter.{deref_pair}
use Rattle.settle_report.specs.Steps.{HasText, entry_line}
use Rattle.settle_report.specs.Table.{head_fields, line_of}
use Rattle.settle_report.proofs.table.write_table.Given as goal

abbrev pub invariant-loop-retailer : goal.invariant-loop-retailer
invariant-loop-retailer l = HasText l.writer (line_of head_fields ++ flat_map entry_line (map deref_pair l.yielded))
