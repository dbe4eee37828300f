-- What is read of a head, as places in it.
use Rattle.std.specs.Prelude.{◌≡◌, ℕ, ◌<◌, ◌≤◌, List, [], length, option_map, IfSome}
use Rattle.httparse.specs.Grammar.{RequestHead}
use Rattle.httparse.specs.Spans.{IsWithin, span_bytes}
use Rattle.http_wire.specs.declared.head.ServedHead.{ServedHead}
use Rattle.http_wire.specs.declared.request.WireFault.{WireFault}
use Rattle.http_wire.specs.declared.request.WireFault.TheVariants.{BadHead, HeadTooLarge, BodyTooLarge, Coding, BadLength}
use Rattle.http_wire.specs.HeadLines.{IsHeadOf, IsServedHead, codings_of, lengths_of, IsLength, is_last, path_of, key_of}

-- the places are those of the head's parts
pub record IsServedReadOf (number : ℕ) (head : List ℕ) (read : ServedHead) (h : RequestHead) : Type 0 where
  pub served : IsServedHead head h read.length
  pub method : span_bytes head read.method ≡ h.method
  pub path : span_bytes head read.path ≡ path_of h
  pub key : option_map (span_bytes head) read.key ≡ key_of h
  pub last : read.last ≡ is_last number h

abbrev pub IsServedRead : ℕ → List ℕ → ServedHead → Type 0
IsServedRead number head read = (h : RequestHead) × IsServedReadOf number head read h

-- the places lie in the first n bytes
pub record IsServedWithin (n : ℕ) (read : ServedHead) : Type 0 where
  pub method : IsWithin n read.method
  pub path : IsWithin n read.path
  pub key : IfSome read.key (IsWithin n)
  pub small : read.length ≤ 262144

-- a head is refused so
abbrev pub IsHeadFault : List ℕ → WireFault → Type 0
IsHeadFault head BadHead = (h : RequestHead) → IsHeadOf head h → ⊥
IsHeadFault head HeadTooLarge = ⊥
IsHeadFault head Coding = (h : RequestHead) × IsHeadOf head h × (0 < length (codings_of h))
IsHeadFault head BadLength =
    (h : RequestHead) × IsHeadOf head h × ((codings_of h ≡ []) × ((n : ℕ) → IsLength (lengths_of h) n → ⊥))
IsHeadFault head BodyTooLarge =
    (h : RequestHead) × IsHeadOf head h × ((codings_of h ≡ []) × ((n : ℕ) × IsLength (lengths_of h) n × (262144 < n)))
