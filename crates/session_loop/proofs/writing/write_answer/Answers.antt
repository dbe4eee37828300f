use Rattle.std.proofs.Common.{rules, ◌≡◌, List, ◌++◌, ◌∙◌}
use Rattle.session_loop.specs.Answered.{answer_bytes}
use Rattle.session_loop.specs.Writes.{showing}
use Rattle.session_loop.proofs.Handing.{took_part}
use Rattle.session_loop.proofs.writing.write_answer.Goals as goal

pub hand_two-requires : goal.hand_two-requires
hand_two-requires g c = record {
  permits = λ now part more took is.
      let whole : answer_bytes c.args.answer ≡ c.as_slice.result.now ++ c.as_slice-in-Small.result.now = search rules in
      c.requires.permits now part more
      (took_part (showing g.K.Outlet.told g.K.Outlet.takes g.K.Outlet.held) c.args.sink.now c.if-after-ne0.sink now c.args.answer.after part
      (search rules) (search rules) (search rules) took) (whole ∙ is);
}

pub hand_two-requires-in-Large : goal.hand_two-requires-in-Large
hand_two-requires-in-Large g c = record {
  permits = λ now part more took is.
      let whole : answer_bytes c.args.answer ≡ c.as_slice-in-Large.result.now ++ c.as_slice-in-Large-2.result.now = search rules in
      c.requires.permits now part more
      (took_part (showing g.K.Outlet.told g.K.Outlet.takes g.K.Outlet.held) c.args.sink.now c.if-after-ne0.sink now c.args.answer.after part
      (search rules) (search rules) (search rules) took) (whole ∙ is);
}
