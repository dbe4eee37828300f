use Rattle.osdm_parts.proofs.Chains.{written}
use Rattle.osdm_texts.proofs.reply.finish.Goals as goal

pub returns : goal.returns
returns c = λ d same. written _ _ _ d c.requires c.into_inner.ensures.items same
