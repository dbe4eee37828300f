use Rattle.host_window.specs.Finds.{swept_text}
use Rattle.host_window.proofs.Joining.{joined, joined_ok}
use Rattle.host_window.proofs.finds_texts.push_swept.Goals as goal

pub returns : goal.returns
unfolding swept_text
returns c =
    joined_ok c.push_one-3.result _ _ _ _ _ (joined _ _ _ _ _ c.in_ok-push_one.ensures c.in_ok-push_one-2.ensures)
    c.push_one-3.ensures
