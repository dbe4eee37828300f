-- What a session writes, by what its responder means.
use Rattle.std.specs.Prelude.{◌≡◌, ◌⊎◌, ℕ, ◌+◌, true, false, List, [], ◌∷◌, ◌++◌, length, Option, Some, None}
use Rattle.http_wire.specs.declared.request.WireFault.{WireFault}
use Rattle.http_wire.specs.Next.{AtEnd}
use Rattle.http_wire.specs.Requests.{RequestText, Rest, empty, unfinished, closed, refused, IsRequest, IsFault, IsBlank, IsUnfinished, Spells, Begins, AreOpen}
use Rattle.session_loop.specs.declared.end.ConnEnd.{ConnEnd}
use Rattle.session_loop.specs.declared.end.ConnEnd.TheVariants.{Done, Cut, Refused, ReadFault, WriteFault, NoMemory}

-- how a responder answers a request, and what it is then
abbrev pub Answering : Type 0 → Type 1
Answering R = R → RequestText → List ℕ → R → Type 0

-- how it answers what stands in a request's place
abbrev pub Refusing : Type 0 → Type 1
Refusing R = R → WireFault → List ℕ → Type 0

-- the bytes that answer the requests in order, and the responder after them
abbrev pub Chain : {R : Type 0} → Answering R → R → List RequestText → List ℕ → R → Type 0
Chain answers before [] written after = (written ≡ []) × (after ≡ before)
Chain {R} answers before (request ∷ requests) written after =
    (next : R) × (answer : List ℕ) × (more : List ℕ)
    × answers before request answer next × (written ≡ answer ++ more) × Chain answers next requests more after

-- the answer to what stands after the requests
abbrev pub IsRefusal : {R : Type 0} → Refusing R → R → Rest → List ℕ → Type 0
IsRefusal refuses after empty text = text ≡ []
IsRefusal refuses after unfinished text = text ≡ []
IsRefusal refuses after closed text = text ≡ []
IsRefusal refuses after (refused fault) text = refuses after fault text

-- the bytes written answer the stream, which ends so
pub record IsAnswered {R : Type 0} (answers : Answering R) (refuses : Refusing R) (before after : R) (stream : List ℕ)
    (rest : Rest) (written : List ℕ) : Type 0 where
  pub requests : List RequestText
  pub spells : Spells 1 stream requests rest
  pub replies : List ℕ
  pub chain : Chain answers before requests replies after
  pub text : List ℕ
  pub refusal : IsRefusal refuses after rest text
  pub is : written ≡ replies ++ text

-- The answers of the first requests, none of which is the last of its connection, are written whole, and a
-- part of the next answer: that of one more request, or of what stands in its place.
pub record IsCutShort {R : Type 0} (answers : Answering R) (refuses : Refusing R) (before after : R)
    (stream written : List ℕ) : Type 0 where
  pub requests : List RequestText
  pub tail : List ℕ
  pub begins : Begins 1 stream requests tail
  pub open' : AreOpen requests
  pub replies : List ℕ
  pub mid : R
  pub chain : Chain answers before requests replies mid
  pub answer : List ℕ
  pub part : List ℕ
  pub more : List ℕ
  pub last : ((request : RequestText) × (left : List ℕ) × IsRequest (length requests + 1) tail request left
      × answers mid request answer after)
      ⊎ ((fault : WireFault) × IsFault fault tail × refuses mid fault answer × (after ≡ mid))
  pub cut : answer ≡ part ++ more
  pub is : written ≡ replies ++ part

-- a request was read and answered so
pub record IsHandled {R : Type 0} (answers : Answering R) (number : ℕ) (bytes left : List ℕ) (before after : R)
    (answer : List ℕ) (request : RequestText) : Type 0 where
  pub reads : IsRequest number bytes request left
  pub replies : answers before request answer after

-- one step over these bytes, held and pulled
abbrev pub IsStep : {R : Type 0} → Answering R → Refusing R → ℕ → List ℕ → List ℕ → R → R → Option (List ℕ) → List ℕ
    → Option ConnEnd → Type 0
IsStep answers refuses number bytes left before after told written None =
    (request : RequestText) × IsHandled answers number bytes left before after written request × (request.last ≡ false)
IsStep answers refuses number bytes left before after told written (Some Done) =
    (AtEnd told × IsBlank bytes × (written ≡ []) × (after ≡ before))
    ⊎ ((request : RequestText) × IsHandled answers number bytes left before after written request
    × (request.last ≡ true))
IsStep answers refuses number bytes left before after told written (Some Cut) =
    AtEnd told × IsUnfinished bytes × (written ≡ []) × (after ≡ before)
IsStep answers refuses number bytes left before after told written (Some (Refused fault)) =
    IsFault fault bytes × refuses before fault written × (after ≡ before)
IsStep answers refuses number bytes left before after told written (Some ReadFault) =
    (IsBlank bytes ⊎ IsUnfinished bytes) × (written ≡ []) × (after ≡ before)
IsStep answers refuses number bytes left before after told written (Some WriteFault) =
    (more : List ℕ)
    × (((request : RequestText) × IsHandled answers number bytes left before after (written ++ more) request)
    ⊎ ((fault : WireFault) × IsFault fault bytes × refuses before fault (written ++ more) × (after ≡ before)))
IsStep answers refuses number bytes left before after told written (Some NoMemory) = ⊥

-- what a session wrote, of the bytes that it took
abbrev pub IsEnd : {R : Type 0} → Answering R → Refusing R → R → R → List ℕ → Option (List ℕ) → List ℕ → ConnEnd
    → Type 0
IsEnd answers refuses before after taken told written Done =
    (AtEnd told × IsAnswered answers refuses before after taken empty written)
    ⊎ IsAnswered answers refuses before after taken closed written
IsEnd answers refuses before after taken told written Cut =
    AtEnd told × IsAnswered answers refuses before after taken unfinished written
IsEnd answers refuses before after taken told written (Refused fault) =
    IsAnswered answers refuses before after taken (refused fault) written
IsEnd answers refuses before after taken told written ReadFault =
    IsAnswered answers refuses before after taken empty written
    ⊎ IsAnswered answers refuses before after taken unfinished written
IsEnd answers refuses before after taken told written WriteFault =
    IsCutShort answers refuses before after taken written
IsEnd answers refuses before after taken told written NoMemory = ⊥
