-- What the words of `serve` say of the address, from the rows that `clap` gives.
use Rattle.std.proofs.Common.{◌≡◌, List, Option, Some, None, ap, codes, sym, subst}
use Rattle.std.specs.Prelude.{Result, Ok, Err, IfOk, IfErr, option_and_then}
use Rattle.std.specs.declared.net.ip_addr.IpAddr.{IpAddr}
use Rattle.clap.specs.Words.{Row, Text, first_of}
use Rattle.host_words.specs.Address.{address_text, IsAddress, IsNoAddress}
use Rattle.host_words.specs.Options.{matched}
use Rattle.host_words.specs.Serve.{serve_app}
use Rattle.host_words.specs.declared.fault.WordsFault.{WordsFault}
use Rattle.host_words.specs.declared.fault.WordsFault.TheVariants.{Refused}

-- the word in these rows
pub said : (words : List Text) (found : Option (List Row)) → matched serve_app words ≡ found
    → address_text words ≡ option_and_then (first_of (codes "address")) found
said words found is = ap (option_and_then (first_of (codes "address"))) is

-- what is read of the same word
pub same_ok : (r : Result (Option IpAddr) WordsFault) (some same : Option Text) → same ≡ some → IfOk r (IsAddress some)
    → IfOk r (IsAddress same)
same_ok r some same is read = subst (λ (o : Option Text). IfOk r (IsAddress o)) (sym is) read

pub same_refused : (r : Result (Option IpAddr) WordsFault) (some same : Option Text) → same ≡ some
    → IfErr r (λ e. (e ≡ Refused) × IsNoAddress some) → IfErr r (λ e. (e ≡ Refused) × IsNoAddress same)
same_refused r some same is read =
    subst (λ (o : Option Text). IfErr r (λ (e : WordsFault). (e ≡ Refused) × IsNoAddress o)) (sym is) read

pub refused_so : (r : Result (Option IpAddr) WordsFault) (some same : Option Text) → same ≡ some
    → IfErr r (λ e. (e ≡ Refused) × IsNoAddress some) → IfErr r (λ e. e ≡ Refused → IsNoAddress same)
refused_so (Ok value) some same is read = tt
refused_so (Err fault) some same is read = λ _. subst IsNoAddress (sym is) read.1

pub none_said : (some : Option Text) → some ≡ None → IsAddress some None
none_said some is = subst (λ (o : Option Text). IsAddress o None) (sym is) tt
