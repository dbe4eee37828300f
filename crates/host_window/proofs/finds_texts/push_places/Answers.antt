use Rattle.host_window.specs.Finds.{places_text}
use Rattle.host_window.proofs.Joining.{joined, joined_ok}
use Rattle.host_window.proofs.finds_texts.push_places.Goals as goal

pub returns : goal.returns
unfolding places_text
returns c =
    joined_ok c.push_labelled-2.result _ _ _ _ _ (joined _ _ _ _ _ c.in_ok-push_begun.ensures c.in_ok-push_labelled.ensures)
    c.push_labelled-2.ensures
