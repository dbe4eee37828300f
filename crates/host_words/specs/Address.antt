-- The address to listen at, in the words of `serve`.
use Rattle.std.specs.Prelude.{List, Option, Some, None, codes, option_and_then}
use Rattle.std.specs.Net.Grammar.{IsIpText}
use Rattle.std.specs.declared.net.ip_addr.IpAddr.{IpAddr}
use Rattle.clap.specs.Words.{Text, first_of}
use Rattle.host_words.specs.Options.{matched}
use Rattle.host_words.specs.Serve.{serve_app}

-- the word for the address, where there is one
abbrev pub address_text : List Text → Option Text
address_text words = option_and_then (first_of (codes "address")) (matched serve_app words)

-- the word spells this address, or there are neither
abbrev pub IsAddress : Option Text → Option IpAddr → Type 0
IsAddress None None = Unit {0}
IsAddress None (Some address) = ⊥
IsAddress (Some text) None = ⊥
IsAddress (Some text) (Some address) = IsIpText text address

-- there is a word that spells no address
abbrev pub IsNoAddress : Option Text → Type 0
IsNoAddress None = ⊥
IsNoAddress (Some text) = (address : IpAddr) → IsIpText text address → ⊥
