use Rattle.std.proofs.Common.{◌≡◌, ◌∙◌, true, sym}
use Rattle.json_text.specs.View.{view}
use Rattle.osdm_json.specs.Commands.{asked_in, asked_by, has_body}
use Rattle.osdm_json.proofs.reader.read_command_in.Goals as goal

pub returns-clause-ok : goal.returns-clause-ok
returns-clause-ok c =
    let some : has_body c.args.route ≡ true = sym c.has_body.ensures ∙ c.if-not-has_body.false in
    let same : asked_by c.args.cat.now c.args.route c.args.body.now ≡ asked_in c.args.cat.now c.args.route (view c.in_ok-value.value) = rw some (c.in_ok-value.ensures.ok (asked_in c.args.cat.now c.args.route)) in
    rw same c.read_in-2.ensures.ok
