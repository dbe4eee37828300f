use Rattle.host_window.proofs.Joining.{joined_ok, of_both_ok, of_same}
use Rattle.host_window.specs.Routes.{family_text, requests_head}
use Rattle.host_window.proofs.route_texts.push_routes.Goals as goal

pub returns : goal.returns
returns c =
    joined_ok c.push_family.result _ _ _ _ _
    (of_same _ _ requests_head _ _ c.as_slice.ensures.value c.in_ok-push_table.ensures)
    (of_both_ok c.push_family.result family_text _ _ _ _ _ _ c.as_slice-2.ensures.value c.as_slice-3.ensures.value
    c.push_family.ensures)
