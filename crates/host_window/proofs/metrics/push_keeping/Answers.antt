use Rattle.host_window.proofs.Joining.{joined, joined_ok}
use Rattle.host_window.proofs.metrics.push_keeping.Goals as goal

pub returns : goal.returns
returns c =
    let two = joined _ _ _ _ _ c.in_ok-push_one.ensures c.in_ok-push_one-2.ensures in
    let four = joined _ _ _ _ _ (joined _ _ _ _ _ two c.in_ok-push_one-3.ensures) c.in_ok-push_one-4.ensures in
    joined_ok c.push_one-6.result _ _ _ _ _ (joined _ _ _ _ _ four c.in_ok-push_one-5.ensures) c.push_one-6.ensures
