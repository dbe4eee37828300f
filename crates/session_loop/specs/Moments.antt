-- What may be handed over next, at each moment of a session.
use Rattle.std.specs.Prelude.{◌≡◌, ◌⊎◌, ℕ, List, ◌++◌, Option}
use Rattle.http_wire.specs.declared.request.WireFault.{WireFault}
use Rattle.http_wire.specs.Requests.{RequestText, IsRequest, IsFault}
use Rattle.rail_io.specs.Told.{with_front, with_end}
use Rattle.session_loop.specs.Session.{Answering, Refusing, IsCutShort}
use Rattle.session_loop.specs.Writes.{Showing, Took, TookFor, Handed}

-- the cut that an answer waits for, which was given between these two
abbrev pub Awaiting : Type 0 → Type 1
Awaiting R = R → ℕ → R → Type 0

-- which bytes may be handed over next
abbrev pub Permitting : Type 0 → Type 1
Permitting K = K → List ℕ → Type 0

-- Of a piece all that is left may be handed over, at each moment until it is written.
abbrev pub PermitsPiece : {K : Type 0} → Permitting K → Showing K → K → List ℕ → Type 0
PermitsPiece {K} permits shows sink piece =
    (now : K) (part more : List ℕ) → Took shows sink part now → piece ≡ part ++ more → permits now more

-- The same of an answer: while it is written, and, where it waits for a cut, once the outlet was told of that cut.
abbrev pub PermitsAnswer : {K : Type 0} → Permitting K → Showing K → K → ℕ → List ℕ → Type 0
PermitsAnswer {K} permits shows sink cut answer =
    (now : K) (part more : List ℕ) → TookFor shows sink cut part now → answer ≡ part ++ more → permits now more

-- these bytes are the answer to the request that they hold first, or to what stands in its place
abbrev pub IsNextAnswer : {R : Type 0} → Answering R → Refusing R → ℕ → List ℕ → R → R → List ℕ → Type 0
IsNextAnswer answers refuses number bytes before after answer =
    ((request : RequestText) × (left : List ℕ) × IsRequest number bytes request left
    × answers before request answer after)
    ⊎ ((fault : WireFault) × IsFault fault bytes × refuses before fault answer × (after ≡ before))

-- In one step: the bytes are all that is left of the answer to the next request, or to what stands in its place. Where
-- it waits for a cut, the outlet was told of that cut before its first byte.
pub record MayStep {R K : Type 0} (answers : Answering R) (refuses : Refusing R) (awaits : Awaiting R)
    (shows : Showing K) (number : ℕ) (unread : List ℕ) (before : R) (source : Option (List ℕ)) (sink now : K)
    (piece : List ℕ) : Type 0 where
  pub pulled : List ℕ
  pub left : Option (List ℕ)
  pub reads : source ≡ with_front pulled left
  pub after : R
  pub part : List ℕ
  pub next : IsNextAnswer answers refuses number (unread ++ pulled) before after (part ++ piece)
  pub cut : ℕ
  pub awaited : awaits before cut after
  pub took : TookFor shows sink cut part now

-- At a moment of a session these bytes may be handed over. Since the session's beginning calls of the outlet's own took
-- just the bytes of the answers to the first requests of a beginning of the bytes that were to come. Then they took a
-- part of the answer to one request more, or to what stands in its place. These bytes are all that is left of that
-- answer. Where it waits for a cut, the outlet was told of that cut before its first byte, and of none after that. Of
-- which cuts it was told before, this doesn't say.
pub record MayWrite {R K : Type 0} (answers : Answering R) (refuses : Refusing R) (awaits : Awaiting R)
    (shows : Showing K) (before : R) (source : Option (List ℕ)) (sink now : K) (piece : List ℕ) : Type 0 where
  pub taken : List ℕ
  pub left : Option (List ℕ)
  pub reads : source ≡ with_front taken left
  pub after : R
  pub written : List ℕ
  pub sent : shows.told now ≡ with_end (shows.told sink) written
  pub next : IsCutShort answers refuses before after taken written
  pub rest : next.more ≡ piece
  pub cut : ℕ
  pub awaited : awaits next.mid cut after
  -- the outlet as the answers before this one were handed over
  pub turn : K
  pub before_it : Handed shows sink next.replies turn
  pub took : TookFor shows turn cut next.part now
