use Rattle.std.proofs.Common.{Some, None, refl, true≢false}
use Rattle.std.proofs.lemmas.Bool.{false≢true}
use Rattle.std.proofs.lemmas.Bool.Decides.{Decides-eqb}
use Rattle.std.proofs.lemmas.Slice.Eq.{strip_prefix_is}
use Rattle.line_text.proofs.reader.Reader.eat.Goals as goal

pub returns-in_default : goal.returns-in_default
returns-in_default c =
    let none = strip_prefix_is Decides-eqb c.args.self.now.rest.now c.args.bytes.now None c.in_default.ensures.cases in
    record { found = λ e. absurd (false≢true e); none = λ _. (refl, none) }

pub returns : goal.returns
returns c =
    let begins = strip_prefix_is Decides-eqb c.args.self.now.rest.now c.args.bytes.now (Some c.in-Some.rest) c.in-Some.ensures.cases in
    record { found = λ _. begins; none = λ e. absurd (true≢false e) }
