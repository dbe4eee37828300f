use Rattle.host_window.proofs.Joining.{joined, joined_ok}
use Rattle.host_window.specs.Routes.{spent_text}
use Rattle.host_window.proofs.route_texts.push_spent.Goals as goal

pub returns : goal.returns
unfolding spent_text
returns c =
    let two = joined _ _ _ _ _ c.in_ok-push_label.ensures c.in_ok-push_value.ensures in
    joined_ok c.push_value-2.result _ _ _ _ _ (joined _ _ _ _ _ two c.in_ok-push_label-2.ensures) c.push_value-2.ensures
