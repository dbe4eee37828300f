use Rattle.std.proofs.Common.{◌∙◌, ◌++◌, ap, List}
use Rattle.json.specs.Token.{Token}
use Rattle.osdm_texts.specs.Bookings.{booking_tree}
use Rattle.osdm_texts.specs.Seen.{seen_of}
use Rattle.osdm_parts.specs.Appends.{tokens_of}
use Rattle.osdm_texts.proofs.reply.shown_text.Goals as goal

pub returns : goal.returns
returns c =
    let tree = booking_tree c.args.cat.now c.args.row (seen_of c.args.shown.now) in
    c.finish.ensures tree (c.in_ok-put_shown.ensures.tokens ∙ ap (λ (l : List Token). l ++ tokens_of tree) c.in_ok-out.ensures.tokens)
