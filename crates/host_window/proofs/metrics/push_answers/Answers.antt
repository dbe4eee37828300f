use Rattle.host_window.proofs.Joining.{joined_ok, of_same, of_same_ok}
use Rattle.host_window.specs.Metrics.{answers_head, problems_head}
use Rattle.host_window.proofs.metrics.push_answers.Goals as goal

pub returns : goal.returns
returns c =
    joined_ok c.push_table-2.result _ _ _ _ _
    (of_same _ _ answers_head _ _ c.as_slice.ensures.value c.in_ok-push_table.ensures)
    (of_same_ok c.push_table-2.result _ _ problems_head _ _ c.as_slice-2.ensures.value c.push_table-2.ensures)
