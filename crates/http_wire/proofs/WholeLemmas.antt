-- A whole request by the places of its parts.
use Rattle.std.proofs.Common.{◌≡◌, ℕ, ◌+◌, ◌-◌, ◌≤◌, List, ◌++◌, length, take, drop, Option, Some, None, [], refl, sym, ◌∙◌, ap, subst, arith, option_map, append_assoc}
use Rattle.std.specs.Prelude.{slice_range, IfSome}
use Rattle.std.proofs.lemmas.List.{length-take, length-drop, take-take, take-append-drop, drop-drop, drop-take}
use Rattle.httparse.specs.declared.spans.Span.{Span}
use Rattle.httparse.specs.Spans.{IsWithin, span_bytes}
use Rattle.http_wire.specs.declared.head.ServedHead.{ServedHead}
use Rattle.http_wire.specs.declared.request.Piece.{Piece}
use Rattle.http_wire.specs.declared.request.Request.{Request}
use Rattle.http_wire.specs.HeadLines.{IsServedHead}
use Rattle.http_wire.specs.HeadRead.{IsServedRead, IsServedWithin}
use Rattle.http_wire.specs.Pieces.{piece_bytes, request_text, IsPieceWithin, ArePiecesWithin, IsWhole}
use Rattle.http_wire.specs.Requests.{HeadAt, RequestText, IsRequest}
use Rattle.rail_io.specs.Told.{with_front}

-- a span in the front of a text
pub span_in_front : (text : List ℕ) (n : ℕ) (s : Span) → IsWithin n s → span_bytes (take n text) s ≡ span_bytes text s
span_in_front text n s within =
    let back : s.start + (n - s.start) ≡ n = omega (arith, within.0, within.1) in
    let few : s.end - s.start ≤ n - s.start = omega (arith, within.0, within.1) in
    ap (λ (m : ℕ). take (s.end - s.start) (drop s.start (take m text))) (sym back)
    ∙ ap (take (s.end - s.start)) (drop-take s.start (n - s.start) text)
    ∙ take-take (s.end - s.start) (n - s.start) (drop s.start text) few

-- how the pieces were made
pub record ArePiecesOf (said : ServedHead) (number end : ℕ) (r : Request) : Type 0 where
  pub method : (text : List ℕ) → piece_bytes text r.method ≡ span_bytes text said.method
  pub method_end : r.method.start + r.method.len ≡ said.method.end
  pub path : (text : List ℕ) → piece_bytes text r.path ≡ span_bytes text said.path
  pub path_end : r.path.start + r.path.len ≡ said.path.end
  pub key : (text : List ℕ) → option_map (piece_bytes text) r.key ≡ option_map (span_bytes text) said.key
  pub key_within : (n : ℕ) → IfSome said.key (IsWithin n) → IfSome r.key (IsPieceWithin n)
  pub body_start : r.body.start ≡ end
  pub body_len : r.body.len ≡ said.length
  pub last : r.last ≡ said.last

key_in_front : (text : List ℕ) (n : ℕ) (key : Option Span) → IfSome key (IsWithin n)
    → option_map (span_bytes text) key ≡ option_map (span_bytes (take n text)) key
key_in_front text n None within = refl
key_in_front text n (Some s) within = ap (λ (b : List ℕ). Some b) (sym (span_in_front text n s within))

key_later : (n m : ℕ) (key : Option Span) → n ≤ m → IfSome key (IsWithin n) → IfSome key (IsWithin m)
key_later n m None le within = tt
key_later n m (Some s) le within = (within.0, omega (arith, within.1, le))

pub whole_request : (number : ℕ) (text : List ℕ) (end : ℕ) (said : ServedHead) (r : Request)
    → HeadAt text (take end text) (drop end text) → end ≤ length text → said.length ≤ length text - end
    → IsServedRead number (take end text) said → IsServedWithin (length (take end text)) said → ArePiecesOf said number end r
    → IsWhole number text r (end + said.length)
whole_request number text end said r at within fits read places pieces =
    let n = end + said.length in
    let front : length (take end text) ≡ end = omega (arith, length-take end text, within) in
    let body = take said.length (drop end text) in
    let method_in : IsWithin end said.method = subst (λ (k : ℕ). IsWithin k said.method) front places.method in
    let path_in : IsWithin end said.path = subst (λ (k : ℕ). IsWithin k said.path) front places.path in
    let key_in : IfSome said.key (IsWithin end) = subst (λ (k : ℕ). IfSome said.key (IsWithin k)) front places.key in
    let size : length body ≡ said.length = omega (arith, length-take said.length (drop end text), length-drop end text, fits) in
    let rest : drop end text ≡ body ++ drop n text =
    sym (take-append-drop said.length (drop end text)) ∙ ap (λ (l : List ℕ). body ++ l) (drop-drop said.length end text) in
    let method : piece_bytes text r.method ≡ read.0.method =
    pieces.method text ∙ sym (span_in_front text end said.method method_in) ∙ read.1.method in
    let path = pieces.path text ∙ sym (span_in_front text end said.path path_in) ∙ read.1.path in
    let key = pieces.key text ∙ key_in_front text end said.key key_in ∙ read.1.key in
    let body_is : piece_bytes text r.body ≡ body =
    ap (λ (s : ℕ). slice_range text s (s + r.body.len)) pieces.body_start
    ∙ ap (λ (k : ℕ). slice_range text end (end + k)) pieces.body_len
    ∙ ap (λ (k : ℕ). take k (drop end text)) (omega arith) in
    record {
      within = omega (arith, fits, within);
      pieces = record {
        method = omega (arith, pieces.method_end, method_in.1);
        path = omega (arith, pieces.path_end, path_in.1);
        key = pieces.key_within n (key_later end n said.key (omega arith) key_in);
        body = omega (arith, pieces.body_start, pieces.body_len);
      };
      is = (
        take end text,
        read.0,
        body,
        record {
          at = subst (λ (l : List ℕ). HeadAt text (take end text) l) rest at;
          served = subst (λ (k : ℕ). IsServedHead (take end text) read.0 k) (sym size) read.1.served;
          is = λ i. record { method = method i; path = path i; key = key i; body = body_is i; last = (pieces.last ∙ read.1.last) i };
        },
      );
    }

piece_in_front : (text : List ℕ) (n : ℕ) (p : Piece) → IsPieceWithin n p → piece_bytes (take n text) p ≡ piece_bytes text p
piece_in_front text n p within =
    span_in_front text n (record { start = p.start; end = p.start + p.len }) (omega arith, within)

key_piece_in_front : (text : List ℕ) (n : ℕ) (key : Option Piece) → IfSome key (IsPieceWithin n)
    → option_map (piece_bytes (take n text)) key ≡ option_map (piece_bytes text) key
key_piece_in_front text n None within = refl
key_piece_in_front text n (Some p) within = ap (λ (b : List ℕ). Some b) (piece_in_front text n p within)

-- a request in the front of a text
pub request_in_front : (text : List ℕ) (n : ℕ) (r : Request) → ArePiecesWithin n r → request_text (take n text) r ≡ request_text text r
request_in_front text n r within = λ i. record {
  method = piece_in_front text n r.method within.method i;
  path = piece_in_front text n r.path within.path i;
  key = key_piece_in_front text n r.key within.key i;
  body = piece_in_front text n r.body within.body i;
  last = r.last;
}

-- The next request, given in the front of a memory.
next_whole : (number filled end : ℕ) (memory bytes : List ℕ) (r : Request) → filled ≤ length memory
    → take filled memory ≡ bytes → IsWhole number (take filled memory) r end
    → ArePiecesWithin (length (take end memory)) r
    × IsRequest number bytes (request_text (take end memory) r) (drop end (take filled memory))
next_whole number filled end memory bytes r within is whole =
    let fits : end ≤ filled = omega (arith, whole.within, length-take filled memory) in
    let long : end ≡ length (take end memory) = omega (arith, length-take end memory, fits, within) in
    let same : request_text (take filled memory) r ≡ request_text (take end memory) r =
    sym (request_in_front (take filled memory) end r whole.pieces)
    ∙ ap (λ (t : List ℕ). request_text t r) (take-take end filled memory fits) in (
      subst (λ (n : ℕ). ArePiecesWithin n r) long whole.pieces,
      subst (λ (t : List ℕ). IsRequest number t (request_text (take end memory) r) (drop end (take filled memory))) is
          (subst (λ (q : RequestText). IsRequest number (take filled memory) q (drop end (take filled memory))) same whole.is),
    )

-- The next request, given in the bytes held in a part of a memory.
pub next_in_range : (number start filled size : ℕ) (memory bytes : List ℕ) (r : Request) → start ≤ filled → filled ≤ length memory
    → slice_range memory start filled ≡ bytes → IsWhole number (slice_range memory start filled) r size
    → ArePiecesWithin (length (slice_range memory start (start + size))) r
    × IsRequest number bytes (request_text (slice_range memory start (start + size)) r) (slice_range memory (start + size) filled)
next_in_range number start filled size memory bytes r ordered within is whole =
    let room = drop start memory in
    let held = filled - start in
    let fits : size ≤ held = omega (arith, whole.within, length-take held room) in
    let found = next_whole number held size room bytes r (omega (arith, length-drop start memory, ordered, within)) is whole in
    let front : take size room ≡ slice_range memory start (start + size) = ap (λ (n : ℕ). take n room) (omega arith) in
    let back : drop size (take held room) ≡ slice_range memory (start + size) filled =
    ap (λ (n : ℕ). drop size (take n room)) (omega (arith, fits))
    ∙ drop-take size (held - size) room
    ∙ ap (take (held - size)) (drop-drop size start memory)
    ∙ ap (λ (n : ℕ). take n (drop (start + size) memory)) (omega (arith, fits, ordered)) in (
      subst (λ (t : List ℕ). ArePiecesWithin (length t) r) front found.0,
      subst (λ (t : List ℕ). IsRequest number bytes (request_text t r) (slice_range memory (start + size) filled)) front
          (subst (λ (l : List ℕ). IsRequest number bytes (request_text (take size room) r) l) back found.1),
    )

pub nothing_pulled : (told : Option (List ℕ)) → told ≡ with_front [] told
nothing_pulled None = refl
nothing_pulled (Some left) = refl

pub pulled_more : (front more : List ℕ) (told : Option (List ℕ)) → with_front front (with_front more told) ≡ with_front (front ++ more) told
pulled_more front more None = refl
pulled_more front more (Some left) = ap (λ (l : List ℕ). Some l) (sym (append_assoc front more left))
