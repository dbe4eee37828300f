-- The requests that a whole stream spells.
use Rattle.std.specs.Prelude.{◌≡◌, ℕ, ◌+◌, ◌<◌, ◌≤◌, ◌⊎◌, Bool, true, false, List, [], ◌∷◌, ◌++◌, length, Option}
use Rattle.std.specs.List.{AllByRecursion}
use Rattle.httparse.specs.Grammar.{LineEnd, print_blank, RequestHead}
use Rattle.http_wire.specs.declared.request.WireFault.{WireFault}
use Rattle.http_wire.specs.declared.request.WireFault.TheVariants.{BadHead, HeadTooLarge, BodyTooLarge, Coding, BadLength}
use Rattle.http_wire.specs.Heads.{IsHead, HasLines}
use Rattle.http_wire.specs.HeadLines.{IsHeadOf, IsServedHead, codings_of, lengths_of, IsLength, is_last, path_of, key_of}

-- a request, as bytes
pub record RequestText : Type 0 where
  pub method : List ℕ
  pub path : List ℕ
  pub key : Option (List ℕ)
  pub body : List ℕ
  pub last : Bool

-- the request of a head and a body
abbrev pub request_of : RequestHead → List ℕ → Bool → RequestText
request_of h body last = record { method = h.method; path = path_of h; key = key_of h; body = body; last = last }

-- the stream begins with the head, which ends within 16,384 bytes and 64 lines after the first
pub record HeadAt (stream head rest : List ℕ) : Type 0 where
  pub ends : IsHead head
  pub short : length head ≤ 16384
  pub few : HasLines 66 head → ⊥
  pub is : stream ≡ head ++ rest

-- The stream begins with this request, the one of that number on its connection.
pub record IsRequestWith (number : ℕ) (stream : List ℕ) (request : RequestText) (rest head : List ℕ) (h : RequestHead)
    (body : List ℕ) : Type 0 where
  pub at : HeadAt stream head (body ++ rest)
  pub served : IsServedHead head h (length body)
  pub is : request ≡ request_of h body (is_last number h)

abbrev pub IsRequest : ℕ → List ℕ → RequestText → List ℕ → Type 0
IsRequest number stream request rest =
    (head : List ℕ) × (h : RequestHead) × (body : List ℕ) × IsRequestWith number stream request rest head h body

-- 16,384 bytes hold no end of a head
pub record HasNoEnd (stream : List ℕ) : Type 0 where
  pub long : 16384 ≤ length stream
  pub none : (head rest : List ℕ) → IsHead head → length head ≤ 16384 → stream ≡ head ++ rest → ⊥

-- a head at the front is of no request
pub record IsBadHead (stream head rest : List ℕ) : Type 0 where
  pub at : HeadAt stream head rest
  pub bad : (h : RequestHead) → IsHeadOf head h → ⊥

-- a head at the front is that of h, for which the fact holds
pub record HeadWith (P : RequestHead → Type 0) (stream head rest : List ℕ) (h : RequestHead) : Type 0 where
  pub at : HeadAt stream head rest
  pub of : IsHeadOf head h
  pub holds : P h

abbrev pub SomeHeadWith : (RequestHead → Type 0) → List ℕ → Type 0
SomeHeadWith P stream = (head : List ℕ) × (rest : List ℕ) × (h : RequestHead) × HeadWith P stream head rest h

-- What stands in a request's place is refused so. The faults exclude one another.
abbrev pub IsFault : WireFault → List ℕ → Type 0
IsFault HeadTooLarge stream = HasNoEnd stream ⊎ HasLines 66 stream
IsFault BadHead stream = (head : List ℕ) × (rest : List ℕ) × IsBadHead stream head rest
IsFault Coding stream = SomeHeadWith (λ h. 0 < length (codings_of h)) stream
IsFault BadLength stream =
    SomeHeadWith (λ h. (codings_of h ≡ []) × ((n : ℕ) → IsLength (lengths_of h) n → ⊥)) stream
IsFault BodyTooLarge stream =
    SomeHeadWith (λ h. (codings_of h ≡ []) × ((n : ℕ) × IsLength (lengths_of h) n × (262144 < n))) stream

-- nothing, or only empty lines of fewer than 16,384 bytes together
abbrev pub IsBlank : List ℕ → Type 0
IsBlank stream = (ends : List LineEnd) × (stream ≡ print_blank ends) × (length stream < 16384)

-- the stream ends inside a request
pub record IsUnfinished (stream : List ℕ) : Type 0 where
  pub request : (number : ℕ) (request : RequestText) (rest : List ℕ) → IsRequest number stream request rest → ⊥
  pub fault : (fault : WireFault) → IsFault fault stream → ⊥
  pub blank : IsBlank stream → ⊥

-- what stands after the requests
pub data Rest : Type 0 where
  empty unfinished closed : Rest
  refused : WireFault → Rest

abbrev pub IsRest : List ℕ → Rest → Type 0
IsRest stream empty = IsBlank stream
IsRest stream unfinished = IsUnfinished stream
IsRest stream closed = ⊥
IsRest stream (refused fault) = IsFault fault stream

-- The stream spells these requests, of which the first has the number, and then the rest.
-- After a last request nothing more is read.
abbrev pub Spells : ℕ → List ℕ → List RequestText → Rest → Type 0
Spells number stream [] rest = IsRest stream rest
Spells number stream (request ∷ requests) rest =
    (tail : List ℕ) × IsRequest number stream request tail
    × (((request.last ≡ true) × (requests ≡ []) × (rest ≡ closed))
    ⊎ ((request.last ≡ false) × Spells (number + 1) tail requests rest))

-- The stream begins with these requests, of which the first has the number, and then the tail.
abbrev pub Begins : ℕ → List ℕ → List RequestText → List ℕ → Type 0
Begins number stream [] tail = stream ≡ tail
Begins number stream (request ∷ requests) tail =
    (next : List ℕ) × IsRequest number stream request next × Begins (number + 1) next requests tail

-- none of them is the last of its connection
abbrev pub AreOpen : List RequestText → Type 0
AreOpen requests = AllByRecursion (λ r. r.last ≡ false) requests
