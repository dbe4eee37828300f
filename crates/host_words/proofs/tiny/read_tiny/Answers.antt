use Rattle.std.proofs.Common.{◌≡◌, ℕ, sym, ◌∙◌, ap, subst, rules}
use Rattle.std.specs.Prelude.{string_bytes, codes}
use Rattle.host_words.specs.Options.{words_texts}
use Rattle.host_words.specs.Tiny.{IsNumber}
use Rattle.host_words.proofs.Three.{three}
use Rattle.host_words.proofs.tiny.read_tiny.Goals as goal

pub returns-in-Some-number_spelled-clause-some : goal.returns-in-Some-number_spelled-clause-some
returns-in-Some-number_spelled-clause-some c =
    let all = three c.args.words.now c.command-item.result c.legs-item.result c.places-item.result c.in-len3.len_at_least c.in-len3.len_below
    c.command-item.is c.legs-item.is c.places-item.is in
    let second = c.as_bytes.result.now in
    let third = c.as_bytes-in-len3.result.now in
    let first : string_bytes c.command-item.result ≡ codes "tiny" =
    (let text : c.as_str.result.now ≡ codes "tiny" = search rules in sym c.as_str.ensures.value ∙ text) in
    let legs : string_bytes c.legs-item.result ≡ second = sym (c.as_bytes.ensures.value ∙ c.as_str-in-len3.ensures.value) in
    let places : string_bytes c.places-item.result ≡ third = sym (c.as_bytes-in-len3.ensures.value ∙ c.as_str-in-len3-2.ensures.value) in
    let few = subst (λ (most : ℕ). IsNumber second most c.in-Some.legs) c.from.ensures c.in-Some.ensures.some in
    (second, third, ap words_texts all ∙ cc, few, c.in-Some-number_spelled.ensures.some)
