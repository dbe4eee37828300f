use Rattle.std.proofs.Common.{◌++◌}
use Rattle.host_window.proofs.Joining.{joined, joined_ok}
use Rattle.host_window.specs.Texts.{head_text}
use Rattle.host_window.specs.Routes.{buckets_text, family_text, times_head, times_text}
use Rattle.host_window.proofs.route_texts.push_family.Goals as goal

pub returns : goal.returns
unfolding family_text
returns c =
    joined_ok c.push_times.result c.args.text.now.items c.push_buckets.new.text.items c.push_times.new.text.items
    (head_text times_head ++ buckets_text c.args.buckets.now) (times_text c.args.times.now)
    (joined c.args.text.now.items c.push_head.new.text.items c.push_buckets.new.text.items (head_text times_head)
    (buckets_text c.args.buckets.now) c.in_ok-push_head.ensures c.in_ok-push_buckets.ensures) c.push_times.ensures
