-- What the memory forms hold, and how often the adapters failed.
use Rattle.std.specs.Prelude.{◌≡◌, ◌⊎◌, ℕ, List, [], ◌∷◌, length, drop, ◌+◌, ◌-◌, ◌^◌, min, Contains, Option, option_map}
use Rattle.std.specs.BTreeMap.{get_by_text}
use Rattle.rail_io.specs.declared.sink.PushedBoth.{PushedBoth}
use Rattle.rail_io.specs.declared.sink.PushedBoth.TheVariants.{Took, Failed}
use Rattle.rail_io.specs.declared.memory_source.BytesSource.{BytesSource}
use Rattle.rail_io.specs.declared.memory_sink.VecSink.{VecSink}
use Rattle.rail_io.specs.declared.memory_journal.MemoryJournal.{MemoryJournal}
use Rattle.rail_io.specs.declared.memory_shelf.MapShelf.{MapShelf}
use Rattle.rail_io.specs.declared.file_shelf.FileShelf.{FileShelf}
use Rattle.rail_io.specs.declared.standard.ReaderSource.{ReaderSource}
use Rattle.rail_io.specs.declared.standard.WriterSink.{WriterSink}

-- the number of the call after that many, of a count that stands still at its last value
abbrev pub call_after : ℕ → ℕ
call_after calls = min (calls + 1) (2 ^ 64 - 1)

-- one call more
abbrev pub IsOneCallMore : ℕ → ℕ → Type 0
IsOneCallMore old new = new ≡ call_after old

-- the bytes still to come
abbrev pub source_left : BytesSource → List ℕ
source_left s = drop s.given s.bytes.items

abbrev pub source_faults : BytesSource → ℕ
source_faults s = s.faults

-- the reads made
abbrev pub source_calls : BytesSource → ℕ
source_calls s = s.calls

-- the numbers of the reads that fail
abbrev pub source_fails : BytesSource → List ℕ
source_fails s = s.fails.items

-- all bytes taken
abbrev pub sink_taken : VecSink → List ℕ
sink_taken s = s.bytes.items

abbrev pub sink_faults : VecSink → ℕ
sink_faults s = s.faults

-- the writes made
abbrev pub sink_calls : VecSink → ℕ
sink_calls s = s.calls

-- the numbers of the writes that fail
abbrev pub sink_fails : VecSink → List ℕ
sink_fails s = s.fails.items

-- What a write of two pieces came to: by which calls, and which of them failed. The sink writes the first piece by its
-- next call. Unless that failed, it writes the second, if it has bytes, by the call after that. A listed call fails.
abbrev pub WritesInTurn : List ℕ → ℕ → ℕ → List ℕ → List ℕ → PushedBoth → Type 0
WritesInTurn fails old new first [] (Took n) =
    (new ≡ call_after old) × (Contains fails (call_after old) → ⊥) × (n ≡ length first)
WritesInTurn fails old new first (byte ∷ rest) (Took n) =
    (new ≡ call_after (call_after old))
    × (Contains fails (call_after old) → ⊥)
    × (Contains fails (call_after (call_after old)) → ⊥)
    × (n ≡ length first + length (byte ∷ rest))
WritesInTurn fails old new first [] (Failed n) = (new ≡ call_after old) × (n ≡ 0)
WritesInTurn fails old new first (byte ∷ rest) (Failed n) =
    ((new ≡ call_after old) × (n ≡ 0))
    ⊎ ((new ≡ call_after (call_after old)) × (Contains fails (call_after old) → ⊥) × (n ≡ length first))

-- the content of the file with the name
abbrev pub shelf_file : MapShelf → List ℕ → Option (List ℕ)
shelf_file s name = option_map (λ content. content.items) (get_by_text s.files name)

abbrev pub shelf_faults : MapShelf → ℕ
shelf_faults s = s.faults

abbrev pub shelf_misses : MapShelf → ℕ
shelf_misses s = s.misses

-- the fetches made
abbrev pub shelf_calls : MapShelf → ℕ
shelf_calls s = s.calls

-- the numbers of the fetches that fail
abbrev pub shelf_fails : MapShelf → List ℕ
shelf_fails s = s.fails.items

-- all bytes that the journal keeps
abbrev pub journal_kept : MemoryJournal → List ℕ
journal_kept j = j.bytes.items

abbrev pub journal_faults : MemoryJournal → ℕ
journal_faults j = j.faults

-- the calls made
abbrev pub journal_calls : MemoryJournal → ℕ
journal_calls j = j.calls

-- the numbers of the calls that fail
abbrev pub journal_fails : MemoryJournal → List ℕ
journal_fails j = j.fails.items

abbrev pub reader_faults : {R : Type 0} → ReaderSource R → ℕ
reader_faults s = s.faults

abbrev pub writer_faults : {W : Type 0} → WriterSink W → ℕ
writer_faults s = s.faults

abbrev pub file_faults : {F X Y : Type 0} → FileShelf F X Y → ℕ
file_faults s = s.faults

abbrev pub file_misses : {F X Y : Type 0} → FileShelf F X Y → ℕ
file_misses s = s.misses
