use Rattle.std.proofs.Common.{◌≡◌, ◌++◌, take}
use Rattle.host_window.specs.Routes.{buckets_text}
use Rattle.host_window.proofs.route_texts.push_buckets.Given as goal

abbrev pub invariant-loop-bucket : goal.invariant-loop-bucket
invariant-loop-bucket l = l.text.items ≡ l.fn.text.items ++ buckets_text (take l.bucket-index l.buckets)
