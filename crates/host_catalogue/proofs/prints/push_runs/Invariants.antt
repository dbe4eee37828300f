use Rattle.std.proofs.Common.{◌≡◌, ◌++◌, take}
use Rattle.host_catalogue.specs.Prints.{runs_text}
use Rattle.host_catalogue.proofs.prints.push_runs.Given as goal

abbrev pub invariant-loop-number : goal.invariant-loop-number
invariant-loop-number l = l.text.items ≡ l.fn.text.items ++ runs_text l.runs (take l.number l.runs.runs)
