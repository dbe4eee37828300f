use Rattle.std.proofs.Common.{◌≡◌, ◌∷◌, [], sym, ◌∙◌, ap, rules}
use Rattle.std.specs.Prelude.{string_bytes, codes}
use Rattle.host_words.specs.Options.{words_texts}
use Rattle.host_words.proofs.Three.{three}
use Rattle.host_words.proofs.recover.read_recover.Goals as goal

pub returns-else-ne-clause-some : goal.returns-else-ne-clause-some
returns-else-ne-clause-some c =
    let all = three c.args.words.now c.command-item.result c.catalogue-item.result c.journal-item.result c.in-len3.len_at_least c.in-len3.len_below
    c.command-item.is c.catalogue-item.is c.journal-item.is in
    let first : string_bytes c.command-item.result ≡ codes "recover" =
    (let text : c.as_str.result.now ≡ codes "recover" = search rules in sym c.as_str.ensures.value ∙ text) in
    let second : c.as_str-in-len3.result.now ≡ string_bytes c.catalogue-item.result = c.as_str-in-len3.ensures.value in
    let third : c.as_str-in-len3-2.result.now ≡ string_bytes c.journal-item.result = c.as_str-in-len3-2.ensures.value in
    ap words_texts all ∙ cc
