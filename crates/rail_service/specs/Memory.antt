-- What the memory forms hold.
use Rattle.std.specs.Prelude.{◌≡◌, ℕ, List, [], ◌∷◌, ◌++◌, map, Option, Some}
use Rattle.rail_io.specs.declared.memory_source.BytesSource.{BytesSource}
use Rattle.rail_io.specs.declared.memory_sink.VecSink.{VecSink}
use Rattle.rail_io.specs.Memory.{source_left, source_calls, source_faults, source_fails, sink_taken, sink_calls}
use Rattle.rail_io.specs.Memory.{sink_faults, sink_fails}
use Rattle.rail_service.specs.declared.memory_listener.ListListener.{ListListener}
use Rattle.rail_service.specs.declared.listener.Accepted.{Accepted}
use Rattle.rail_service.specs.declared.listener.Accepted.TheVariants.{Stream, Failed, Closed}
use Rattle.rail_service.specs.Listeners.{ListenerView}

abbrev pub list_view : ListListener → ListenerView
list_view l = record { port = l.port; limit = l.limit; handed = l.handed }

-- the bytes of the streams to come
abbrev pub list_streams : ListListener → List (List ℕ)
list_streams l = map (λ bytes. bytes.items) l.streams.items

abbrev pub list_faults : ListListener → ℕ
list_faults l = l.faults

-- the binds and accepts made
abbrev pub list_calls : ListListener → ℕ
list_calls l = l.calls

-- the numbers of the calls that fail
abbrev pub list_fails : ListListener → List ℕ
list_fails l = l.fails.items

-- no read was made or has failed, and none is to fail; the same of writes
abbrev pub IsNewSource : BytesSource → Type 0
IsNewSource s = (source_calls s ≡ 0) × (source_faults s ≡ 0) × (source_fails s ≡ [])

abbrev pub IsNewSink : VecSink → Type 0
IsNewSink s = (sink_calls s ≡ 0) × (sink_faults s ≡ 0) × (sink_fails s ≡ [])

-- a stream is the first of those to come, with a sink that has taken nothing, both as new; else they stay
abbrev pub HandsOut : List (List ℕ) → List (List ℕ) → Accepted BytesSource VecSink → Type 0
HandsOut old new (Stream waiting) =
    (old ≡ source_left waiting.input ∷ new) × (sink_taken waiting.output ≡ []) × IsNewSource waiting.input
    × IsNewSink waiting.output
HandsOut old new Failed = new ≡ old
HandsOut old new Closed = new ≡ old

-- the streams to come of the later one are the last of those of the first
abbrev pub IsLaterOf : ListListener → ListListener → Type 0
IsLaterOf first later = (front : List (List ℕ)) × (list_streams first ≡ front ++ list_streams later)

-- the first of the streams to come was handed out, with a sink that has taken nothing
abbrev pub HandsListed : ListListener → Option (List ℕ) → Option (List ℕ) → ListListener → Type 0
HandsListed old stream sent new =
    (bytes : List ℕ) × (list_streams old ≡ bytes ∷ list_streams new) × (stream ≡ Some bytes) × (sent ≡ Some [])
