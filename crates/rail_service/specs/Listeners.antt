-- What a listener tells, and how its calls change that.
use Rattle.std.specs.Prelude.{◌≡◌, ◌<◌, ◌≤◌, ◌+◌, ℕ, zero, suc, ⊤, List, Option}
use Rattle.rail_service.specs.declared.waiting.Waiting.{Waiting}
use Rattle.rail_service.specs.declared.listener.Bound.{Bound}
use Rattle.rail_service.specs.declared.listener.Bound.TheVariants.{Ready, Failed as NotBound}
use Rattle.rail_service.specs.declared.listener.Accepted.{Accepted}
use Rattle.rail_service.specs.declared.listener.Accepted.TheVariants.{Stream, Failed, Closed}

-- its port, its limit, and how many streams it has handed out
pub record ListenerView : Type 0 where
  pub port : ℕ
  pub limit : ℕ
  pub handed : ℕ

-- a bind sets the port alone, or nothing
abbrev pub Binds : ListenerView → ℕ → ListenerView → Bound → Type 0
Binds old port new Ready = new ≡ record old { port = port }
Binds old port new NotBound = new ≡ old

-- an accept hands out one stream more below the limit, or changes nothing. It answers Closed exactly where the limit is
-- reached
abbrev pub Accepts : {I O : Type 0} → ListenerView → ListenerView → Accepted I O → Type 0
Accepts old new (Stream waiting) = (old.handed < old.limit) × (new ≡ record old { handed = old.handed + 1 })
Accepts old new Failed = (old.handed < old.limit) × (new ≡ old)
Accepts old new Closed = (old.limit ≤ old.handed) × (new ≡ old)

-- it failed to get a stream
abbrev pub HasFailed : {I O : Type 0} → Accepted I O → Type 0
HasFailed (Stream waiting) = ⊥
HasFailed Failed = ⊤
HasFailed Closed = ⊥

-- what holds of the stream, where there is one
abbrev pub OfStream : {I O : Type 0} → Accepted I O → (Waiting I O → Type 0) → Type 0
OfStream (Stream waiting) P = P waiting
OfStream Failed P = ⊤
OfStream Closed P = ⊤

-- the last listener came of the first by that many calls
abbrev pub Reaches : {L : Type 0} → (L → L → Type 0) → ℕ → L → L → Type 0
Reaches becomes zero first last = last ≡ first
Reaches {L} becomes (suc n) first last = (next : L) × becomes first next × Reaches becomes n next last

-- what holds of a stream that is handed out: of what its source and its sink then told
abbrev pub Handing : Type 1
Handing = Option (List ℕ) → Option (List ℕ) → Type 0

-- what a call shows that hands out a stream: the one that was called, what the stream's source and its sink told, and
-- the one after the call
abbrev pub HandingBy : Type 0 → Type 1
HandingBy L = L → Option (List ℕ) → Option (List ℕ) → L → Type 0

-- that there is a proof of it
abbrev pub IsGiven : Handing → Handing
IsGiven Given stream sent = ∥ Given stream sent ∥₁

-- After some calls of this listener, an accept of it handed out a stream whose source and whose sink told this.
pub record HandsOn {L : Type 0} (becomes : L → L → Type 0) (hands : HandingBy L) (first : L)
    (stream sent : Option (List ℕ)) : Type 0 where
  pub calls : ℕ
  pub before : L
  pub after : L
  pub reaches : Reaches becomes calls first before
  pub handed : hands before stream sent after

-- all streams that it hands out from now on are so
abbrev pub GivesOnly : {L : Type 0} → (L → L → Type 0) → HandingBy L → L → Handing → Type 0
GivesOnly becomes hands listener Given =
    (stream sent : Option (List ℕ)) → HandsOn becomes hands listener stream sent → IsGiven Given stream sent
