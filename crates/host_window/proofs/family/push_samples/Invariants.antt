use Rattle.std.proofs.Common.{◌≡◌, ◌++◌, take}
use Rattle.host_window.specs.Texts.{samples_text}
use Rattle.host_window.proofs.family.push_samples.Given as goal

abbrev pub invariant-loop-sample : goal.invariant-loop-sample
invariant-loop-sample l = l.text.items ≡ l.fn.text.items ++ samples_text l.name (take l.sample-index l.samples)
