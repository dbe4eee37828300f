use Rattle.std.proofs.Common.{rules, ◌≡◌, ◌∙◌, ℤ, ap, to_z, of_z, w64}
use Rattle.std.proofs.lemmas.Option.{IfSome_then}
use Rattle.osdm_texts.specs.Answers.{exchanged, reply_told}
use Rattle.osdm_texts.proofs.Telling.{of_exchanged}
use Rattle.trade_service.proofs.exchanges.exchanged_answer.Goals as goal

pub returns : goal.returns
returns c =
    let amount : to_z w64 (of_z w64 c.args.difference) ≡ c.args.difference = search rules in
    record {
      told = IfSome_then c.write_reply.result c.write_reply.ensures.told
          (λ written e. e ∙ (of_exchanged c.args.shop.now.cat.now c.args.row c.args.view (to_z w64 (of_z w64 c.args.difference)) c.args.replaced
          ∙ ap (λ (x : ℤ). reply_told c.args.shop.now.cat.now (exchanged c.args.row c.args.view x c.args.replaced)) amount));
    }
