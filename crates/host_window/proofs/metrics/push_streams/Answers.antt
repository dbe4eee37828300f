use Rattle.host_window.proofs.Joining.{joined, joined_ok, of_same}
use Rattle.host_window.specs.Metrics.{ended_head}
use Rattle.host_window.proofs.metrics.push_streams.Goals as goal

pub returns : goal.returns
returns c =
    let two = joined _ _ _ _ _ c.in_ok-push_one.ensures
    (of_same _ _ ended_head _ _ c.as_slice.ensures.value c.in_ok-push_table.ensures) in
    let four = joined _ _ _ _ _ (joined _ _ _ _ _ two c.in_ok-push_one-2.ensures) c.in_ok-push_one-3.ensures in
    joined_ok c.push_one-4.result _ _ _ _ _ four c.push_one-4.ensures
