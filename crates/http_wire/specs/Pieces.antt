-- A request's pieces in a memory.
use Rattle.std.specs.Prelude.{ℕ, ◌+◌, ◌<◌, ◌≤◌, List, length, drop, option_map, IfSome, slice_range}
use Rattle.http_wire.specs.declared.request.Piece.{Piece}
use Rattle.http_wire.specs.declared.request.Request.{Request}
use Rattle.http_wire.specs.declared.intake.Front.{Front}
use Rattle.http_wire.specs.declared.intake.Front.TheVariants.{Whole, Fault, Blank, Open}
use Rattle.http_wire.specs.Requests.{RequestText, IsRequest, IsFault, IsBlank, IsUnfinished}

-- the bytes of a piece
abbrev pub piece_bytes : List ℕ → Piece → List ℕ
piece_bytes text piece = slice_range text piece.start (piece.start + piece.len)

-- the request whose pieces lie in the text
abbrev pub request_text : List ℕ → Request → RequestText
request_text text r = record {
  method = piece_bytes text r.method;
  path = piece_bytes text r.path;
  key = option_map (piece_bytes text) r.key;
  body = piece_bytes text r.body;
  last = r.last;
}

-- the piece lies in the first n bytes
abbrev pub IsPieceWithin : ℕ → Piece → Type 0
IsPieceWithin n piece = piece.start + piece.len ≤ n

pub record ArePiecesWithin (n : ℕ) (r : Request) : Type 0 where
  pub method : IsPieceWithin n r.method
  pub path : IsPieceWithin n r.path
  pub key : IfSome r.key (IsPieceWithin n)
  pub body : IsPieceWithin n r.body

-- a whole request in the first n bytes of the text
pub record IsWhole (number : ℕ) (text : List ℕ) (r : Request) (n : ℕ) : Type 0 where
  pub within : n ≤ length text
  pub pieces : ArePiecesWithin n r
  pub is : IsRequest number text (request_text text r) (drop n text)

-- what stands at the front of the text
abbrev pub IsFront : ℕ → List ℕ → Front → Type 0
IsFront number text (Whole request n) = IsWhole number text request n
IsFront number text (Fault fault) = IsFault fault text
IsFront number text Blank = IsBlank text
IsFront number text Open = IsUnfinished text × (length text < 278528)
