use Rattle.std.proofs.Common.{◌≡◌, ◌++◌, take}
use Rattle.host_window.specs.Routes.{times_text}
use Rattle.host_window.proofs.route_texts.push_times.Given as goal

abbrev pub invariant-loop-time : goal.invariant-loop-time
invariant-loop-time l = l.text.items ≡ l.fn.text.items ++ times_text (take l.time-index l.times)
