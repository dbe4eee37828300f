use Rattle.host_window.proofs.Joining.{joined, joined_ok}
use Rattle.host_window.specs.Routes.{bucket_text}
use Rattle.host_window.proofs.route_texts.push_bucket.Goals as goal

pub returns : goal.returns
unfolding bucket_text
returns c =
    joined_ok c.push_value.result _ _ _ _ _ (joined _ _ _ _ _ c.in_ok-push_label.ensures c.in_ok-push_label-2.ensures)
    c.push_value.ensures
