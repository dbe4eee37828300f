use Rattle.std.proofs.Common.{drop, take, refl, arith, length-drop}
use Rattle.std.proofs.lemmas.List.{length-take}
use Rattle.http_wire.proofs.Fronts.{unfinished_body}
use Rattle.http_wire.proofs.WholeLemmas.{whole_request}
use Rattle.http_wire.proofs.intake.body_after.Goals as goal

pub returns-then-text-end-clause-front : goal.returns-then-text-end-clause-front
returns-then-text-end-clause-front c =
    let said = c.requires in
    let text = c.args.text.now in (
      unfinished_body text (take c.args.end text) (drop c.args.end text) said.read.0 c.args.head.length said.at said.read.1.served
          (omega (arith, length-drop c.args.end text)),
      omega (arith, said.at.short, length-take c.args.end text, said.places.small),
    )

pub returns-clause-front : goal.returns-clause-front
returns-clause-front c =
    let said = c.requires in
    whole_request c.args.number c.args.text.now c.args.end c.args.head _ said.at said.within (omega arith) said.read said.places
    (record {
      method = c.piece.ensures.bytes;
      method_end = c.piece.ensures.end;
      path = c.piece-2.ensures.bytes;
      path_end = c.piece-2.ensures.end;
      key = c.key_piece.ensures.bytes;
      key_within = c.key_piece.ensures.within;
      body_start = refl;
      body_len = refl;
      last = refl;
    })
