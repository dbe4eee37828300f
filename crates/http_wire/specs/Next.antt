-- What the next request is, of some bytes.
use Rattle.std.specs.Prelude.{◌≡◌, ◌⊎◌, ℕ, ◌+◌, ◌<◌, ◌≤◌, List, [], ◌++◌, length, take, Option, IfSome, ⊤}
use Rattle.rail_io.specs.Told.{with_front}
use Rattle.rail_io.specs.declared.source.Pulled.{Pulled}
use Rattle.rail_io.specs.declared.source.Pulled.TheVariants.{Got, End as SourceEnd, Failed}
use Rattle.http_wire.specs.declared.request.Next.{Next}
use Rattle.http_wire.specs.declared.request.Next.TheVariants.{Request, End, Cut, ReadFault, Bad}
use Rattle.http_wire.specs.Pieces.{request_text, ArePiecesWithin}
use Rattle.http_wire.specs.Requests.{IsRequest, IsFault, IsBlank, IsUnfinished}
use Rattle.http_wire.specs.View.{IntakeView}

-- the source has nothing left, where it tells that
abbrev pub AtEnd : Option (List ℕ) → Type 0
AtEnd told = IfSome told (λ left. left ≡ [])

-- what was held and pulled is still held, and no request was given
pub record IsKept (number : ℕ) (bytes : List ℕ) (after : IntakeView) : Type 0 where
  pub unread : after.unread ≡ bytes
  pub given : after.given + 1 ≡ number

-- The answer, where these are the bytes that were held and pulled. After a read fault they hold no
-- whole request and no fault.
abbrev pub IsNext : ℕ → List ℕ → IntakeView → Option (List ℕ) → Next → Type 0
IsNext number bytes after told (Request request) =
    (after.given ≡ number) × ArePiecesWithin (length after.taken) request
    × IsRequest number bytes (request_text after.taken request) after.unread
IsNext number bytes after told End = AtEnd told × IsBlank bytes × IsKept number bytes after
IsNext number bytes after told Cut = AtEnd told × IsUnfinished bytes × IsKept number bytes after
IsNext number bytes after told ReadFault = (IsBlank bytes ⊎ IsUnfinished bytes) × IsKept number bytes after
IsNext number bytes after told (Bad fault) = IsFault fault bytes × IsKept number bytes after

-- How many bytes were looked at when the answer came: of the request, or of what stands in its place.
abbrev pub looked_at : IntakeView → Next → ℕ
looked_at after (Request request) = length after.taken
looked_at after End = after.looked
looked_at after Cut = after.looked
looked_at after ReadFault = after.looked
looked_at after (Bad fault) = after.looked

-- the bytes have a whole request, or what is refused in its place
abbrev pub IsDecided : List ℕ → Type 0
IsDecided bytes = IsBlank bytes ⊎ IsUnfinished bytes → ⊥

-- Nothing is read where the bytes held tell: they are all that stand there afterwards.
unfoldable pub ReadsAtNeed : IntakeView → IntakeView → Type 0
ReadsAtNeed before after = IsDecided before.unread → after.taken ++ after.unread ≡ before.unread

-- What a read after the first bytes of a memory does.
abbrev pub PullsBehind : Option (List ℕ) → Option (List ℕ) → List ℕ → List ℕ → ℕ → Pulled → Type 0
PullsBehind before after old new filled (Got n) =
    (pulled : List ℕ) × (0 < n) × (filled + n ≤ length new)
    × (before ≡ with_front pulled after) × (take (filled + n) new ≡ take filled old ++ pulled)
PullsBehind before after old new filled SourceEnd =
    (after ≡ before) × AtEnd before × (take filled new ≡ take filled old)
PullsBehind before after old new filled Failed = (after ≡ before) × (take filled new ≡ take filled old)

-- where the bytes held end after a read
abbrev pub end_behind : ℕ → Pulled → ℕ
end_behind filled (Got n) = filled + n
end_behind filled SourceEnd = filled
end_behind filled Failed = filled

abbrev pub EndsWithin : ℕ → Pulled → ℕ → Type 0
EndsWithin filled answer room = end_behind filled answer < room

-- What a read does to the bytes held: those that it got stand after them.
abbrev pub Draws : Option (List ℕ) → Option (List ℕ) → List ℕ → List ℕ → Pulled → Type 0
Draws before after held now (Got n) =
    (pulled : List ℕ) × (0 < length pulled) × (before ≡ with_front pulled after) × (now ≡ held ++ pulled)
Draws before after held now SourceEnd = (after ≡ before) × AtEnd before × (now ≡ held)
Draws before after held now Failed = (after ≡ before) × (now ≡ held)

-- The count of faults of a read is as before, unless the read failed.
abbrev pub Stays : Pulled → ℕ → ℕ → Type 0
Stays (Got n) before after = after ≡ before
Stays SourceEnd before after = after ≡ before
Stays Failed before after = ⊤
