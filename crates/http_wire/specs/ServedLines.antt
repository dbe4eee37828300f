-- What is read of a head's lines.
use Rattle.std.specs.Prelude.{◌≡◌, ℕ, ◌<◌, ◌≤◌, Bool, true, ◌&&◌, List, [], length, option_map, IfSome, codes}
use Rattle.httparse.specs.declared.spans.HeaderSpan.{HeaderSpan}
use Rattle.httparse.specs.Spans.{IsWithin, span_bytes}
use Rattle.http_wire.specs.declared.head.ServedLines.{ServedLines}
use Rattle.http_wire.specs.declared.request.WireFault.{WireFault}
use Rattle.http_wire.specs.declared.request.WireFault.TheVariants.{BadHead, HeadTooLarge, BodyTooLarge, Coding, BadLength}
use Rattle.http_wire.specs.HeadLines.{same_name, IsNumeral, IsLength, lengths_in, codings_in, closes_in, says_close, first_key}

-- the lines say so
pub record AreServedLines (head : List ℕ) (lines : List (List ℕ × List ℕ)) (read : ServedLines) : Type 0 where
  pub uncoded : codings_in lines ≡ []
  pub size : IsLength (lengths_in lines) read.length
  pub fits : read.length ≤ 262144
  pub key : option_map (span_bytes head) read.key ≡ first_key lines
  pub key_within : IfSome read.key (IsWithin (length head))
  pub close : read.close ≡ closes_in lines

-- no length, or one that is too large
abbrev pub IsLengthFault : List (List ℕ × List ℕ) → WireFault → Type 0
IsLengthFault lines BadHead = ⊥
IsLengthFault lines HeadTooLarge = ⊥
IsLengthFault lines Coding = ⊥
IsLengthFault lines BadLength = (n : ℕ) → IsLength (lengths_in lines) n → ⊥
IsLengthFault lines BodyTooLarge = (n : ℕ) × IsLength (lengths_in lines) n × (262144 < n)

-- the lines are refused so
abbrev pub IsLinesFault : List (List ℕ × List ℕ) → WireFault → Type 0
IsLinesFault lines BadHead = ⊥
IsLinesFault lines HeadTooLarge = ⊥
IsLinesFault lines Coding = 0 < length (codings_in lines)
IsLinesFault lines BadLength = (codings_in lines ≡ []) × ((n : ℕ) → IsLength (lengths_in lines) n → ⊥)
IsLinesFault lines BodyTooLarge = (codings_in lines ≡ []) × ((n : ℕ) × IsLength (lengths_in lines) n × (262144 < n))

-- where the line gives a length, it is the number
abbrev pub Agrees : List ℕ → ℕ → HeaderSpan → Type 0
Agrees head number line =
    same_name (span_bytes head line.name) (codes "content-length") ≡ true
    → IsNumeral (span_bytes head line.value) number

-- the line says close
abbrev pub line_closes : List ℕ → HeaderSpan → Bool
line_closes head line =
    same_name (span_bytes head line.name) (codes "connection") && says_close (span_bytes head line.value)
