-- What a port of this machine keeps, and what its calls make of the system's answers.
use Rattle.std.specs.Prelude.{◌≡◌, ◌≤◌, ◌+◌, ◌-◌, ◌*◌, ℕ, Bool, true, false, nat_le, if◌then◌else◌, List, [], ◌∷◌, Option, None, Some, min}
use Rattle.std.specs.Net.Addr.{ipv4_octets, IsV4And, IsV6And, IsUnspecifiedV4, IsUnspecifiedV6, IsLoopbackV6}
use Rattle.std.specs.declared.net.ip_addr.IpAddr.{IpAddr}
use Rattle.std.specs.declared.net.ip_addr.IpAddr.TheVariants.{V4, V6}
use Rattle.host_io.specs.declared.tcp_port.Port.{Port}
use Rattle.rail_service.specs.Listeners.{ListenerView}

abbrev pub tcp_view : {D T K W : Type 0} → Port D T K W → ListenerView
tcp_view l = record { port = l.port; limit = l.limit; handed = l.handed }

abbrev pub tcp_faults : {D T K W : Type 0} → Port D T K W → ℕ
tcp_faults l = l.faults

-- the later one has handed out no fewer
abbrev pub IsLaterOf : {D T K W : Type 0} → Port D T K W → Port D T K W → Type 0
IsLaterOf first later = (tcp_view first).handed ≤ (tcp_view later).handed

-- one stream more was handed out, which tells no content
abbrev pub HandsUntold : {D T K W : Type 0} → Port D T K W → Option (List ℕ) → Option (List ℕ) → Port D T K W → Type 0
HandsUntold old stream sent new = ((tcp_view new).handed ≡ (tcp_view old).handed + 1) × (stream ≡ None) × (sent ≡ None)

-- the seconds that a read may wait: between two requests, and inside one
abbrev pub seconds_of : Bool → ℕ
seconds_of true = 5
seconds_of false = 30

-- the seconds that a request may take until it is whole
abbrev pub request_seconds : ℕ
request_seconds = 60

-- and the milliseconds
abbrev pub most_spent : ℕ
most_spent = 1000 * request_seconds

-- the milliseconds that a read may wait whose request has taken these; none where it has taken all that it may
abbrev pub limit_of : Bool → ℕ → Option ℕ
limit_of idle spent = if nat_le most_spent spent then None else Some (min (1000 * seconds_of idle) (most_spent - spent))

-- 127.0.0.1
abbrev pub IsLocal : IpAddr → Type 0
IsLocal address = IsV4And address (λ a. ipv4_octets a ≡ 0x7f ∷ 0 ∷ 0 ∷ 1 ∷ [])

-- the same address, or, where the first stands for all of this machine, its own of that version
abbrev pub IsReachedAt : IpAddr → IpAddr → Type 0
IsReachedAt (V4 a) reached = (IsUnspecifiedV4 a → IsLocal reached) × ((IsUnspecifiedV4 a → ⊥) → reached ≡ V4 a)
IsReachedAt (V6 a) reached = (IsUnspecifiedV6 a → IsV6And reached IsLoopbackV6)
    × ((IsUnspecifiedV6 a → ⊥) → reached ≡ V6 a)
