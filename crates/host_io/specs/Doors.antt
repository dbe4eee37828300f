-- The calls that were made of a port, and how one asks it for the next stream.
use Rattle.std.specs.Prelude.{◌≡◌, ◌⊎◌, ◌++◌, ℕ, zero, suc, Bool, true, false, List, [], ◌∷◌, Option, option_map, Result, Ok, Err}
use Rattle.std.specs.IoError.{raw_os_error}
use Rattle.std.specs.declared.io.Error.{Error}
use Rattle.std.specs.declared.net.ip_addr.IpAddr.{IpAddr}
use Rattle.host_io.specs.declared.refusals.AfterRefusal.{AfterRefusal}
use Rattle.host_io.specs.declared.refusals.AfterRefusal.TheVariants.{Fail, Again, Pause}
use Rattle.host_io.specs.Refusals.{after_refusal, code_by}
use Rattle.rail_service.specs.declared.listener.Accepted.{Accepted}
use Rattle.rail_service.specs.declared.listener.Accepted.TheVariants.{Stream, Failed, Closed}

-- one call, and what it came to
pub data DoorCall : Type 0 where
  -- it listens at a port of an address
  Listened : IpAddr → ℕ → DoorCall
  -- a stream was accepted
  Gave : DoorCall
  -- none was, for the system's error of this number, or 0 for one of our own
  Refused : ℕ → DoorCall
  -- that many milliseconds were waited
  Paused : ℕ → DoorCall

-- one call more, where they are told
abbrev pub with_call : Option (List DoorCall) → DoorCall → Option (List DoorCall)
with_call told call = option_map (λ calls. calls ++ (call ∷ [])) told

-- what an accept came to
abbrev pub answered : {W : Type 0} → Result W Error → DoorCall
answered (Ok wire) = Gave
answered (Err e) = Refused (code_by (raw_os_error e))

-- the milliseconds that are waited where something is wanting that comes back
abbrev pub pause : ℕ
pause = 100

-- what is to be done after an error, also where there was no memory for a stream that it gave
abbrev pub Refuses : Option (List DoorCall) → Option (List DoorCall) → AfterRefusal → Type 0
Refuses before after todo =
    ((code : ℕ) × (todo ≡ after_refusal code) × (after ≡ with_call before (Refused code)))
    ⊎ ((todo ≡ Pause) × (after ≡ with_call before Gave))

-- It is asked again: after an error that concerns one connection alone, or after a pause, where something was wanting
-- that comes back, also the memory for a stream that it gave.
abbrev pub AsksAgain : Option (List DoorCall) → Option (List DoorCall) → Type 0
AsksAgain before after =
    ((code : ℕ) × (Again ≡ after_refusal code) × (after ≡ with_call before (Refused code)))
    ⊎ (((code : ℕ) × (Pause ≡ after_refusal code)
    × (after ≡ with_call (with_call before (Refused code)) (Paused pause)))
    ⊎ (after ≡ with_call (with_call before Gave) (Paused pause)))

-- so often
abbrev pub AsksOn : ℕ → Option (List DoorCall) → Option (List DoorCall) → Type 0
AsksOn zero before after = after ≡ before
AsksOn (suc n) before after = (mid : Option (List DoorCall)) × AsksOn n before mid × AsksAgain mid after

-- The last time: it gave the stream that is handed out. Or none is handed out: it wasn't asked, it gave a stream that
-- is dropped, or an error that ends it.
abbrev pub AsksLast : Option (List DoorCall) → Option (List DoorCall) → Bool → Type 0
AsksLast before after true = after ≡ with_call before Gave
AsksLast before after false = (after ≡ before) ⊎ ((after ≡ with_call before Gave)
    ⊎ ((code : ℕ) × (Fail ≡ after_refusal code) × (after ≡ with_call before (Refused code))))

-- asked again as long as that is allowed, and then the last time
abbrev pub AsksFor : Option (List DoorCall) → Option (List DoorCall) → Bool → Type 0
AsksFor before after came = (n : ℕ) × (mid : Option (List DoorCall)) × AsksOn n before mid × AsksLast mid after came

-- How a listener asked it that answered so: a stream came, which is handed out; none is handed out; or it wasn't asked.
abbrev pub AsksAs : {I O : Type 0} → Option (List DoorCall) → Option (List DoorCall) → Accepted I O → Type 0
AsksAs before after (Stream waiting) = AsksFor before after true
AsksAs before after Failed = AsksFor before after false
AsksAs before after Closed = after ≡ before
