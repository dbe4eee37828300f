use Rattle.std.proofs.Common.{◌∙◌, ◌++◌, ap, rules, FitsSigned, w64, to_z-of_z, List}
use Rattle.json.specs.Token.{Token}
use Rattle.osdm_parts.specs.Appends.{tokens_of}
use Rattle.osdm_texts.specs.Replies.{exchanged_tree}
use Rattle.osdm_texts.proofs.reply.reply_text.Goals as goal

pub returns-in_ok-put_exchanged-in-Exchange : goal.returns-in_ok-put_exchanged-in-Exchange
returns-in_ok-put_exchanged-in-Exchange c =
    let x = c.in-Exchange in
    let fits : FitsSigned w64 x.difference = search rules in
    let put = simp to_z-of_z at c.in_ok-put_exchanged-in-Exchange.ensures in
    let tree = exchanged_tree c.args.cat.now x.row x.view x.difference x.replaced in
    rw x.is (c.finish-in-Exchange.ensures tree (put.tokens ∙ ap (λ (l : List Token). l ++ tokens_of tree) c.in_ok-out-in-Exchange.ensures.tokens))
