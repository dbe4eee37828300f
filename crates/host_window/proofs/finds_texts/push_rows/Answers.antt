use Rattle.host_window.specs.Finds.{rows_text}
use Rattle.host_window.proofs.Joining.{joined, joined_ok}
use Rattle.host_window.proofs.finds_texts.push_rows.Goals as goal

pub returns : goal.returns
unfolding rows_text
returns c =
    let two = joined _ _ _ _ _ c.in_ok-push_begun.ensures c.in_ok-push_labelled.ensures in
    let three = joined _ _ _ _ _ two c.in_ok-push_labelled-2.ensures in
    let four = joined _ _ _ _ _ three c.in_ok-push_labelled-3.ensures in
    let five = joined _ _ _ _ _ four c.in_ok-push_labelled-4.ensures in
    let six = joined _ _ _ _ _ five c.in_ok-push_labelled-5.ensures in
    joined_ok c.push_labelled-6.result _ _ _ _ _ six c.push_labelled-6.ensures
