use Rattle.std.proofs.Common.{◌∙◌}
use Rattle.std.proofs.lemmas.Option.{IfSome_then}
use Rattle.shop.proofs.Oks.{ok_if, err_is}
use Rattle.osdm_parts.specs.declared.problem.Problem.TheVariants.{NoMemory}
use Rattle.osdm_texts.proofs.Telling.{of_places}
use Rattle.search_service.proofs.place_list.place_answer.Goals as goal

pub returns : goal.returns
returns c = record {
  told = ok_if c.write_reply.result NoMemory _ c.ok_or.result c.ok_or.ensures.value (IfSome_then c.write_reply.result c.write_reply.ensures.told (λ written e. e ∙ of_places c.args.shop.now.cat.now c.args.run.0 c.args.free.now));
  untold = err_is c.write_reply.result NoMemory c.ok_or.result c.ok_or.ensures.value;
}
