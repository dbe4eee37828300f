-- Where a search stands, byte by byte and piece by piece.
use Rattle.std.proofs.Common.{◌≡◌, ◌≢◌, ℕ, zero, suc, ◌+◌, ◌-◌, ◌^◌, ◌<◌, ◌≤◌, Bool, true, false, not, ◌&&◌, cond, List, [], ◌∷◌, ◌++◌, length, take, drop, get_or, Option, Some, None, refl, sym, ◌∙◌, ap, subst, arith, inl, inr, append_assoc, append-nil}
use Rattle.std.specs.Prelude.{◌⊎◌, ◌==◌, slice_range, min, IfNone}
use Rattle.std.specs.List.{flat_map, AllByRecursion}
use Rattle.std.proofs.Math.Seq.{get_or-append_seam, take-suc}
use Rattle.std.proofs.lemmas.Bool.{false_from_ne_true}
use Rattle.std.proofs.lemmas.Bool.Decides.{Decides-eqb}
use Rattle.std.proofs.lemmas.List.{length-append, length-take, take-append-drop, take-append-le, take-take, take_all, drop-take}
use Rattle.httparse.specs.Grammar.{LineEnd, crlf, lf, print_blank, print_end}
use Rattle.http_wire.specs.declared.scan.HeadScan.{HeadScan}
use Rattle.http_wire.specs.Heads.{HasNoFeed, IsLine, print_line, print_lines, IsHeadOfLines, HasLines}
use Rattle.http_wire.specs.Requests.{HeadAt, IsBlank}
use Rattle.http_wire.specs.Scan.{IsLineEmpty, IsCarriageLast, HasBegun, IsOpenWith, IsOpen, StandsWith, StandsFor, ArePlain, is_blank, with_plain}
use Rattle.http_wire.specs.Stages.{IsSearched, IsSearchOver}
use Rattle.http_wire.proofs.Search.{Nothing, search_head, only_ends}
use Rattle.http_wire.proofs.Fronts.{not_blank}
use Rattle.http_wire.proofs.RequestHeads.{lines_longer}
use Rattle.http_wire.proofs.Scanning.{PartKind, part_more, all_push, line_end_of, print_line_end_of, empty_line, whole_line, has_lines, head_of_few, nothing_found}

-- ---- the last byte

last_is : (xs ys : List ℕ) (a b : ℕ) → xs ++ a ∷ [] ≡ ys ++ b ∷ [] → a ≡ b
last_is xs ys a b e =
    let long : length xs ≡ length ys = omega (arith, ap length e, length-append xs (a ∷ []), length-append ys (b ∷ [])) in
    sym (get_or-append_seam xs a [] 0)
    ∙ ap (λ (l : List ℕ). get_or l (length xs) 0) e
    ∙ ap (λ (k : ℕ). get_or (ys ++ b ∷ []) k 0) long
    ∙ get_or-append_seam ys b [] 0

carriage_more : (bytes : List ℕ) (b : ℕ) (t : Bool) → (b == 13) ≡ t → IsCarriageLast t (bytes ++ b ∷ [])
carriage_more bytes b true e = (bytes, ap (λ (x : ℕ). bytes ++ x ∷ []) ((Decides-eqb b 13).0 e))
carriage_more bytes b false e = λ front is. let yes = (Decides-eqb b 13).1 (last_is bytes front b 13 is) in cc

-- whole lines end in a line feed
abbrev EndsInFeed : List ℕ → Type 0
EndsInFeed text = (text ≡ []) ⊎ ((front : List ℕ) × (text ≡ front ++ 10 ∷ []))

feed_behind : (a b : List ℕ) → EndsInFeed a → EndsInFeed b → EndsInFeed (a ++ b)
feed_behind a b first (inl none) =
    subst EndsInFeed (sym (append-nil a) ∙ ap (λ (l : List ℕ). a ++ l) (sym none)) first
feed_behind a b first (inr (front, is)) = inr (a ++ front, ap (λ (l : List ℕ). a ++ l) is ∙ sym (append_assoc a front (10 ∷ [])))

feed_blank : (blank : List LineEnd) → EndsInFeed (print_blank blank)
feed_blank [] = inl refl
feed_blank (crlf ∷ blank) = feed_behind (13 ∷ 10 ∷ []) (print_blank blank) (inr (13 ∷ [], refl)) (feed_blank blank)
feed_blank (lf ∷ blank) = feed_behind (10 ∷ []) (print_blank blank) (inr ([], refl)) (feed_blank blank)

feed_lines : (lines : List (List ℕ)) → EndsInFeed (flat_map print_line lines)
feed_lines [] = inl refl
feed_lines (line ∷ lines) = feed_behind (print_line line) (flat_map print_line lines) (inr (line, refl)) (feed_lines lines)

feed_not_carriage : (text front : List ℕ) → EndsInFeed text → text ≢ front ++ 13 ∷ []
feed_not_carriage text front (inl none) e =
    absurd (omega (arith, ap length (sym none ∙ e), length-append front (13 ∷ [])))
feed_not_carriage text front (inr (start, is)) e = let same = last_is start front 10 13 (sym is ∙ e) in cc

-- ---- the line in progress

part_kind : (blank : List LineEnd) (lines : List (List ℕ)) (part bytes : List ℕ) (empty carriage : Bool) → bytes ≡ print_lines blank lines ++ part
    → IsLineEmpty empty part → IsCarriageLast carriage bytes → PartKind empty carriage part
part_kind blank lines part bytes false carriage is empty last = empty
part_kind blank lines part bytes true false is (inl none) last = none
part_kind blank lines part bytes true false is (inr one) last =
    absurd (last (print_lines blank lines) (is ∙ ap (λ (p : List ℕ). print_lines blank lines ++ p) one))
part_kind blank lines part bytes true true is (inr one) last = one
part_kind blank lines part bytes true true is (inl none) last =
    let whole : bytes ≡ print_lines blank lines =
    is ∙ ap (λ (p : List ℕ). print_lines blank lines ++ p) none ∙ append-nil (print_lines blank lines) in
    absurd (feed_not_carriage (print_lines blank lines) last.0
    (feed_behind (print_blank blank) (flat_map print_line lines) (feed_blank blank) (feed_lines lines)) (sym whole ∙ last.1))

kind_empty : (empty carriage : Bool) (part : List ℕ) → PartKind empty carriage part → IsLineEmpty empty part
kind_empty true false part kind = inl kind
kind_empty true true part kind = inr kind
kind_empty false carriage part kind = kind

kind_of : (scan : HeadScan) (bytes : List ℕ) (blank : List LineEnd) (lines : List (List ℕ)) (part : List ℕ)
    → IsOpenWith scan bytes blank lines part → PartKind scan.line_empty scan.carriage part
kind_of scan bytes blank lines part o = part_kind blank lines part bytes scan.line_empty scan.carriage o.is o.empty o.carriage

-- ---- one byte more

pub of_not : (t u : Bool) → not t ≡ u → t ≡ not u
of_not true u e = ap not e
of_not false u e = ap not e

pub stands_open : (scan : HeadScan) (bytes : List ℕ) → scan.ended ≡ None → IsOpen scan bytes → StandsFor scan bytes
stands_open scan bytes e o = subst (StandsWith scan bytes) (sym e) o

pub open_of : (scan : HeadScan) (bytes : List ℕ) → scan.ended ≡ None → StandsFor scan bytes → IsOpen scan bytes
open_of scan bytes e s = subst (StandsWith scan bytes) e s

-- a byte that ends no line
pub open_byte : (scan next : HeadScan) (bytes : List ℕ) (b : ℕ) → (b == 10) ≡ false → next.lines ≡ scan.lines → next.begun ≡ scan.begun
    → next.at ≡ scan.at + 1 → next.line_empty ≡ (scan.line_empty && not scan.carriage && (b == 13)) → next.carriage ≡ (b == 13)
    → IsOpen scan bytes → IsOpen next (bytes ++ b ∷ [])
open_byte scan next bytes b other count begun at empty carriage (blank, lines, part, o) = (
  blank,
  lines,
  part ++ b ∷ [],
  record {
    is = ap (λ (p : List ℕ). p ++ b ∷ []) o.is ∙ append_assoc (print_lines blank lines) part (b ∷ []);
    each = o.each;
    one = all_push (λ x. x ≢ 10) part b o.one (λ e. let yes = (Decides-eqb b 10).1 e in cc);
    begun = subst (λ (t : Bool). HasBegun t lines) (sym begun) o.begun;
    count = count ∙ o.count;
    empty = subst (λ (t : Bool). IsLineEmpty t (part ++ b ∷ [])) (sym empty)
        (kind_empty (scan.line_empty && not scan.carriage && (b == 13)) (b == 13) (part ++ b ∷ [])
        (part_more scan.line_empty scan.carriage part b (kind_of scan bytes blank lines part o)));
    carriage = subst (λ (t : Bool). IsCarriageLast t (bytes ++ b ∷ [])) (sym carriage) (carriage_more bytes b (b == 13) refl);
    at = omega (arith, at, o.at, length-append bytes (b ∷ []));
  },
)

lines_fit : (lines : List (List ℕ)) → length lines ≤ length (flat_map print_line lines)
lines_fit [] = omega arith
lines_fit (line ∷ lines) =
    omega (arith, lines_fit lines, length-append (print_line line) (flat_map print_line lines), length-append line (10 ∷ []))

count_more : (begun : Bool) (lines : List (List ℕ)) (line : List ℕ) (count next : ℕ) → length lines < 2 ^ 32 - 1 → HasBegun begun lines
    → count ≡ length lines - 1 → next ≡ (cond begun (min (count + 1) (2 ^ 32 - 1)) count) → next ≡ length (lines ++ line ∷ []) - 1
count_more true lines line count next few some is e = omega (arith, few, some, is, e, length-append lines (line ∷ []))
count_more false lines line count next few none is e =
    omega (arith, ap (λ (l : List (List ℕ)). length l) none, is, e, length-append lines (line ∷ []))

-- the end of a line that isn't empty
pub open_line : (scan next : HeadScan) (bytes : List ℕ) → scan.line_empty ≡ false → scan.at < 2 ^ 32 - 1
    → next.lines ≡ (cond scan.begun (min (scan.lines + 1) (2 ^ 32 - 1)) scan.lines) → next.begun ≡ true
    → next.at ≡ scan.at + 1 → next.line_empty ≡ true → next.carriage ≡ false
    → IsOpen scan bytes → IsOpen next (bytes ++ 10 ∷ [])
open_line scan next bytes some small count begun at empty carriage (blank, lines, part, o) =
    let line : IsLineEmpty false part = subst (λ (t : Bool). IsLineEmpty t part) some o.empty in
    let fit : length lines < 2 ^ 32 - 1 =
    omega (
      arith,
      small,
      o.at,
      ap length o.is,
      length-append (print_lines blank lines) part,
      length-append (print_blank blank) (flat_map print_line lines),
      lines_fit lines,
    ) in (
      blank,
      lines ++ part ∷ [],
      [],
      record {
        is = ap (λ (p : List ℕ). p ++ 10 ∷ []) o.is ∙ whole_line blank lines part;
        each = all_push IsLine lines part o.each (record { one = o.one; some = line.0; more = line.1 });
        one = tt;
        begun = subst (λ (t : Bool). HasBegun t (lines ++ part ∷ [])) (sym begun) (omega (arith, length-append lines (part ∷ [])));
        count = count_more scan.begun lines part scan.lines next.lines fit o.begun o.count count;
        empty = subst (λ (t : Bool). IsLineEmpty t []) (sym empty) (inl refl);
        carriage = subst (λ (t : Bool). IsCarriageLast t (bytes ++ 10 ∷ [])) (sym carriage) (carriage_more bytes 10 false refl);
        at = omega (arith, at, o.at, length-append bytes (10 ∷ []));
      },
    )

-- an empty line before the request line
pub open_blank : (scan next : HeadScan) (bytes : List ℕ) → scan.line_empty ≡ true → scan.begun ≡ false → next.lines ≡ scan.lines
    → next.begun ≡ scan.begun → next.at ≡ scan.at + 1 → next.line_empty ≡ scan.line_empty → next.carriage ≡ false
    → IsOpen scan bytes → IsOpen next (bytes ++ 10 ∷ [])
open_blank scan next bytes none unbegun count begun at empty carriage (blank, lines, part, o) =
    let kind : PartKind true scan.carriage part = subst (λ (t : Bool). PartKind t scan.carriage part) none (kind_of scan bytes blank lines part o) in
    let no_lines : lines ≡ [] = subst (λ (t : Bool). HasBegun t lines) unbegun o.begun in (
      blank ++ line_end_of scan.carriage ∷ [],
      [],
      [],
      record {
        is = ap (λ (p : List ℕ). p ++ 10 ∷ []) (o.is ∙ ap (λ (ls : List (List ℕ)). print_lines blank ls ++ part) no_lines)
            ∙ empty_line blank part (line_end_of scan.carriage) (print_line_end_of scan.carriage part kind);
        each = tt;
        one = tt;
        begun = subst (λ (t : Bool). HasBegun t []) (sym (begun ∙ unbegun)) refl;
        count = count ∙ o.count ∙ ap (λ (l : List (List ℕ)). length l - 1) no_lines;
        empty = subst (λ (t : Bool). IsLineEmpty t []) (sym (empty ∙ none)) (inl refl);
        carriage = subst (λ (t : Bool). IsCarriageLast t (bytes ++ 10 ∷ [])) (sym carriage) (carriage_more bytes 10 false refl);
        at = omega (arith, at, o.at, length-append bytes (10 ∷ []));
      },
    )

-- the empty line that ends the head
pub head_ends : (scan next : HeadScan) (bytes : List ℕ) → scan.line_empty ≡ true → scan.begun ≡ true → next.lines ≡ scan.lines
    → next.begun ≡ scan.begun → next.at ≡ scan.at + 1 → next.line_empty ≡ scan.line_empty → next.carriage ≡ false
    → next.ended ≡ Some (scan.at + 1) → IsOpen scan bytes → StandsFor next (bytes ++ 10 ∷ [])
head_ends scan next bytes none begun count same at empty carriage ended (blank, lines, part, o) =
    let kind : PartKind true scan.carriage part = subst (λ (t : Bool). PartKind t scan.carriage part) none (kind_of scan bytes blank lines part o) in
    let some : 0 < length lines = subst (λ (t : Bool). HasBegun t lines) begun o.begun in
    let size : length (bytes ++ 10 ∷ []) ≡ scan.at + 1 = omega (arith, o.at, length-append bytes (10 ∷ [])) in
    let all : take (scan.at + 1) (bytes ++ 10 ∷ []) ≡ bytes ++ 10 ∷ [] = take_all (scan.at + 1) (bytes ++ 10 ∷ []) (omega (arith, size)) in
    subst (StandsWith next (bytes ++ 10 ∷ [])) (sym ended)
    (record {
      within = omega (arith, size);
      head = (
        blank,
        lines,
        line_end_of scan.carriage,
        omega (arith, count, o.count, some),
        o.each,
        all
            ∙ ap (λ (p : List ℕ). p ++ 10 ∷ []) o.is
            ∙ append_assoc (print_lines blank lines) part (10 ∷ [])
            ∙ ap (λ (p : List ℕ). print_lines blank lines ++ p) (print_line_end_of scan.carriage part kind),
      );
      begun = same ∙ begun;
      empty = empty ∙ none;
      carriage = carriage;
      at = at;
    })

-- ---- a piece more

ended_more : (scan : HeadScan) (bytes more : List ℕ) (ended : Option ℕ) → (ended ≡ None → ⊥) → StandsWith scan bytes ended
    → StandsWith scan (bytes ++ more) ended
ended_more scan bytes more None some s = absurd (some refl)
ended_more scan bytes more (Some end) some s = record {
  within = omega (arith, s.within, length-append bytes more);
  head = subst (IsHeadOfLines (scan.lines + 1)) (sym (take-append-le end bytes more s.within)) s.head;
  begun = s.begun;
  empty = s.empty;
  carriage = s.carriage;
  at = s.at;
}

-- nothing is searched past the end
pub stands_ended : (scan : HeadScan) (bytes more : List ℕ) → (scan.ended ≡ None → ⊥) → StandsFor scan bytes → StandsFor scan (bytes ++ more)
stands_ended scan bytes more some s = ended_more scan bytes more scan.ended some s

-- the bytes searched, and those up to the room
pub searched_more : (text : List ℕ) (at room : ℕ) → at ≤ room → take at text ++ slice_range text at room ≡ take room text
searched_more text at room le =
    ap (λ (l : List ℕ). l ++ slice_range text at room) (sym (take-take at room text le))
    ∙ ap (λ (l : List ℕ). take at (take room text) ++ l) (sym (range_is text at room le))
    ∙ take-append-drop at (take room text)
  where
    range_is : (text : List ℕ) (at room : ℕ) → at ≤ room → drop at (take room text) ≡ slice_range text at room
    range_is text at room le =
        let back : at + (room - at) ≡ room = omega (arith, le) in
        ap (λ (k : ℕ). drop at (take k text)) (sym back) ∙ drop-take at (room - at) text

-- ---- the search over all that a head may have

range_front : (text : List ℕ) (end room : ℕ) → end ≤ room → take end (take room text) ≡ take end text
range_front text end room le = take-take end room text le

-- the search stands behind the first bytes of the text
pub search_stands : (text : List ℕ) (scan : HeadScan) (room : ℕ) → room ≡ min (length text) 16384 → StandsFor scan (take room text)
    → IsSearched text scan × IsSearchOver text scan
search_stands text scan room is s = by_end scan.ended refl s
  where
    size : length (take room text) ≡ room
    size = omega (arith, length-take room text, is)

    by_end : (ended : Option ℕ) → scan.ended ≡ ended → StandsWith scan (take room text) ended → IsSearched text scan × IsSearchOver text scan
    by_end None e (blank, lines, part, o) =
        let at : scan.at ≡ room = omega (arith, o.at, size) in (
          record {
            within = omega (arith, at, is);
            short = omega (arith, at, is);
            stands = subst (λ (k : ℕ). StandsFor scan (take k text)) (sym at) (stands_open scan (take room text) e (blank, lines, part, o));
          },
          subst (λ (o : Option ℕ). IfNone o (scan.at ≡ min (length text) 16384)) (sym e) (at ∙ is),
        )
    by_end (Some end) e s =
        let le : end ≤ room = omega (arith, s.within, size) in
        let front : take end (take room text) ≡ take end text = range_front text end room le in
        let ended : StandsWith scan (take end text) (Some end) = record {
          within = omega (arith, length-take end text, le, is);
          head = subst (IsHeadOfLines (scan.lines + 1)) (front ∙ sym (range_front text end end (omega arith))) s.head;
          begun = s.begun;
          empty = s.empty;
          carriage = s.carriage;
          at = s.at;
        } in (
          record {
            within = omega (arith, s.at, le, is);
            short = omega (arith, s.at, le, is);
            stands = subst (λ (k : ℕ). StandsFor scan (take k text)) (sym s.at) (subst (StandsWith scan (take end text)) (sym e) ended);
          },
          subst (λ (o : Option ℕ). IfNone o (scan.at ≡ min (length text) 16384)) (sym e) tt,
        )

-- more than 64 lines after the request line
pub many_lines : (text : List ℕ) (scan : HeadScan) → 65 ≤ scan.lines → IsSearched text scan → HasLines 66 text
many_lines text scan many at =
    subst (HasLines 66) (take-append-drop scan.at text)
    (lines_longer (take scan.at text) (drop scan.at text) (by_end scan.ended at.stands))
  where
    by_end : (ended : Option ℕ) → StandsWith scan (take scan.at text) ended → HasLines 66 (take scan.at text)
    by_end None (blank, lines, part, o) =
        subst (HasLines 66) (sym o.is) (has_lines 66 blank lines part (omega (arith, o.count, many)) o.each)
    by_end (Some end) s =
        let searched = take scan.at text in
        let blank = s.head.0 in
        let lines = s.head.1 in
        let front : HasLines 66 (take end searched) =
        subst (HasLines 66) (sym s.head.5) (has_lines 66 blank lines (print_end s.head.2) (omega (arith, s.head.3, many)) s.head.4) in
        subst (HasLines 66) (take-append-drop end searched) (lines_longer (take end searched) (drop end searched) front)

-- the head that ended
pub head_at_end : (text : List ℕ) (scan : HeadScan) (end : ℕ) → scan.ended ≡ Some end → scan.lines ≤ 64 → IsSearched text scan
    → HeadAt text (take end text) (drop end text) × (end ≤ length text) × (scan.at ≡ end)
head_at_end text scan end e few at =
    let s : StandsWith scan (take scan.at text) (Some end) = subst (StandsWith scan (take scan.at text)) e at.stands in
    let le : end ≤ scan.at = omega (arith, s.at) in
    let front : take end (take scan.at text) ≡ take end text = range_front text end scan.at le in
    let head = head_of_few (take end text) scan.lines (subst (IsHeadOfLines (scan.lines + 1)) front s.head) few in (
      record {
        ends = head.0;
        short = omega (arith, length-take end text, s.at, at.short);
        few = head.1;
        is = sym (take-append-drop end text);
      },
      omega (arith, s.at, at.within),
      s.at,
    )

-- ---- no head yet

-- the search program finds nothing in these bytes
pub open_search : (scan : HeadScan) (bytes : List ℕ) → scan.lines ≤ 64 → IsOpen scan bytes → search_head 0 false true false bytes ≡ Nothing
open_search scan bytes few (blank, lines, part, o) =
    ap (search_head 0 false true false) o.is
    ∙ nothing_found blank lines part (omega (arith, few, o.count)) o.each o.one

blank_parts : (blank : List LineEnd) (lines : List (List ℕ)) (part : List ℕ) (empty begun carriage : Bool)
    → (empty && not begun && not carriage) ≡ true → HasBegun begun lines → PartKind empty carriage part
    → print_lines blank lines ++ part ≡ print_blank blank
blank_parts blank lines part true false false e none kind =
    ap (λ (ls : List (List ℕ)). print_lines blank ls ++ part) none
    ∙ ap (λ (p : List ℕ). print_lines blank [] ++ p) kind
    ∙ append-nil (print_lines blank []) ∙ append-nil (print_blank blank)
blank_parts blank lines part true false true e none kind = absurd cc
blank_parts blank lines part true true carriage e some kind = absurd cc
blank_parts blank lines part false begun carriage e some kind = absurd cc

pub open_is_blank : (scan : HeadScan) (bytes : List ℕ) → IsOpen scan bytes → is_blank scan ≡ true → length bytes < 16384 → IsBlank bytes
open_is_blank scan bytes (blank, lines, part, o) e short = (
  blank,
  o.is ∙ blank_parts blank lines part scan.line_empty scan.begun scan.carriage e o.begun (kind_of scan bytes blank lines part o),
  short,
)

-- no empty lines alone
ends_past : (blank : List LineEnd) (rest : List ℕ) → only_ends false (print_blank blank ++ rest) ≡ only_ends false rest
ends_past [] rest = refl
ends_past (crlf ∷ blank) rest = ends_past blank rest
ends_past (lf ∷ blank) rest = ends_past blank rest

pick : (t u x y : Bool) → t ≡ false → (u ≡ true → y ≡ false) → (cond t x (cond u y false)) ≡ false
pick true u x y e more = absurd cc
pick false true x y e more = more refl
pick false false x y e more = refl

never : (t : Bool) → (t && not true) ≡ true → ⊥
never true e = absurd cc
never false e = absurd cc

just : (t : Bool) → (t && not false) ≡ true → t ≡ true
just true e = refl
just false e = absurd cc

pub not_feed : (b : ℕ) → b ≢ 10 → (b == 10) ≡ false
not_feed b other = false_from_ne_true (b == 10) (λ e. other ((Decides-eqb b 10).0 e))

pub not_carriage : (b : ℕ) → b ≢ 13 → (b == 13) ≡ false
not_carriage b other = false_from_ne_true (b == 13) (λ e. other ((Decides-eqb b 13).0 e))

-- behind a CR
ends_true : (b : ℕ) (tail : List ℕ) → b ≢ 10 → only_ends true (b ∷ tail) ≡ false
ends_true b tail other =
    pick (b == 10) (b == 13 && not true) (only_ends false tail) (only_ends true tail) (not_feed b other) (λ e. absurd (never (b == 13) e))

ends_false : (b : ℕ) (tail : List ℕ) → b ≢ 10 → (b ≡ 13 → only_ends true tail ≡ false) → only_ends false (b ∷ tail) ≡ false
ends_false b tail other more =
    pick (b == 10) (b == 13 && not false) (only_ends false tail) (only_ends true tail) (not_feed b other)
    (λ e. more ((Decides-eqb b 13).0 (just (b == 13) e)))

ends_line : (line rest : List ℕ) → IsLine line → only_ends false (line ++ rest) ≡ false
ends_line [] rest is = absurd (is.some refl)
ends_line (b ∷ []) rest is = ends_false b rest is.one.0 (λ e. absurd (is.more (ap (λ (x : ℕ). x ∷ []) e)))
ends_line (b ∷ c ∷ line) rest is = ends_false b (c ∷ line ++ rest) is.one.0 (λ e. ends_true c (line ++ rest) is.one.1.0)

ends_part : (part : List ℕ) → HasNoFeed part → part ≢ [] → only_ends false part ≡ false
ends_part [] one some = absurd (some refl)
ends_part (b ∷ []) one some = ends_false b [] one.0 (λ e. refl)
ends_part (b ∷ c ∷ part) one some = ends_false b (c ∷ part) one.0 (λ e. ends_true c part one.1.0)

ends_open : (lines : List (List ℕ)) (part : List ℕ) (empty begun carriage : Bool) → (empty && not begun && not carriage) ≡ false
    → HasBegun begun lines → PartKind empty carriage part → AllByRecursion IsLine lines → HasNoFeed part
    → only_ends false (flat_map print_line lines ++ part) ≡ false
ends_open (line ∷ lines) part empty begun carriage e some kind each one =
    let behind = flat_map print_line lines in
    ap (only_ends false) (append_assoc (print_line line) behind part ∙ append_assoc line (10 ∷ []) (behind ++ part))
    ∙ ends_line line (10 ∷ (behind ++ part)) each.0
ends_open [] part empty true carriage e some kind each one = absurd (omega (arith, some))
ends_open [] part false false carriage e none kind each one = ends_part part one kind.0
ends_open [] part true false true e none kind each one = ap (only_ends false) kind
ends_open [] part true false false e none kind each one = absurd cc

pub open_not_blank : (scan : HeadScan) (bytes : List ℕ) → IsOpen scan bytes → is_blank scan ≡ false → IsBlank bytes → ⊥
open_not_blank scan bytes (blank, lines, part, o) e =
    not_blank bytes
    (ap (only_ends false) (o.is ∙ append_assoc (print_blank blank) (flat_map print_line lines) part)
    ∙ ends_past blank (flat_map print_line lines ++ part)
    ∙ ends_open lines part scan.line_empty scan.begun scan.carriage e o.begun (kind_of scan bytes blank lines part o) o.each o.one)

-- ---- bytes that tell no lines apart

-- no line is empty behind a byte that is no CR
no_longer_empty : (empty carriage : Bool) → false ≡ (empty && not carriage && false)
no_longer_empty true true = refl
no_longer_empty true false = refl
no_longer_empty false carriage = refl

plain_byte : (scan next : HeadScan) (bytes : List ℕ) (b : ℕ) → 13 < b → scan.ended ≡ None → next.ended ≡ None → next.lines ≡ scan.lines
    → next.begun ≡ scan.begun → next.at ≡ scan.at + 1 → next.line_empty ≡ false → next.carriage ≡ false
    → StandsFor scan bytes → StandsFor next (bytes ++ b ∷ [])
plain_byte scan next bytes b more live still count begun at empty carriage s =
    let other : (b == 10) ≡ false = not_feed b (λ e. omega (arith, e, more)) in
    let none : (b == 13) ≡ false = not_carriage b (λ e. omega (arith, e, more)) in
    stands_open next (bytes ++ b ∷ []) still
    (open_byte scan next bytes b other count begun at
    (empty ∙ no_longer_empty scan.line_empty scan.carriage ∙ ap (λ (t : Bool). scan.line_empty && not scan.carriage && t) (sym none))
    (carriage ∙ sym none) (open_of scan bytes live s))

pub plain_more : (scan : HeadScan) (n : ℕ) (bytes : List ℕ) (b : ℕ) → scan.ended ≡ None → 13 < b → StandsFor (with_plain scan n) bytes
    → StandsFor (with_plain scan (suc n)) (bytes ++ b ∷ [])
plain_more scan zero bytes b live more s =
    plain_byte scan (with_plain scan (suc zero)) bytes b more live live refl refl refl refl refl s
plain_more scan (suc n) bytes b live more s =
    plain_byte (with_plain scan (suc n)) (with_plain scan (suc (suc n))) bytes b more live live refl refl (omega arith) refl refl s

pub plain_at : (scan : HeadScan) (n : ℕ) → (with_plain scan n).at ≡ scan.at + n
plain_at scan zero = omega arith
plain_at scan (suc n) = refl

-- one byte of a piece more
one_more : (piece : List ℕ) (i : ℕ) → i < length piece → take (i + 1) piece ≡ take i piece ++ get_or piece i 0 ∷ []
one_more piece i small =
    let next : i + 1 ≡ suc i = omega arith in
    ap (λ (k : ℕ). take k piece) next ∙ take-suc piece i 0 small

-- the search stands for one byte more of the piece
pub on_byte : (r : HeadScan) (piece bytes : List ℕ) (i : ℕ) → i < length piece → StandsFor r ((bytes ++ take i piece) ++ get_or piece i 0 ∷ [])
    → StandsFor r (bytes ++ take (i + 1) piece)
on_byte r piece bytes i small s =
    subst (StandsFor r)
    (append_assoc bytes (take i piece) (get_or piece i 0 ∷ []) ∙ ap (λ (l : List ℕ). bytes ++ l) (sym (one_more piece i small))) s

-- the search with so many plain bytes of the piece more
plain_run : (scan : HeadScan) (n from : ℕ) (bytes piece : List ℕ) → scan.ended ≡ None → from + n ≤ length piece
    → ArePlain piece from (from + n) → StandsFor scan (bytes ++ take from piece) → StandsFor (with_plain scan n) (bytes ++ take (from + n) piece)
plain_run scan zero from bytes piece live within plain s =
    let same : from ≡ from + zero = omega arith in
    subst (λ (k : ℕ). StandsFor scan (bytes ++ take k piece)) same s
plain_run scan (suc n) from bytes piece live within plain s =
    let next : from + n + 1 ≡ from + suc n = omega arith in
    subst (λ (k : ℕ). StandsFor (with_plain scan (suc n)) (bytes ++ take k piece)) next
    (on_byte (with_plain scan (suc n)) piece bytes (from + n) (omega (arith, within))
    (plain_more scan n (bytes ++ take (from + n) piece) (get_or piece (from + n) 0) live (plain (from + n) (omega arith) (omega arith))
    (plain_run scan n from bytes piece live (omega (arith, within)) (λ k after before. plain k after (omega (arith, before))) s)))

-- the same up to a place
pub plain_until : (scan : HeadScan) (from at : ℕ) (bytes piece : List ℕ) → scan.ended ≡ None → from ≤ at → at ≤ length piece
    → ArePlain piece from at → StandsFor scan (bytes ++ take from piece) → StandsFor (with_plain scan (at - from)) (bytes ++ take at piece)
plain_until scan from at bytes piece live after within plain s =
    let back : from + (at - from) ≡ at = omega (arith, after) in
    subst (λ (k : ℕ). StandsFor (with_plain scan (at - from)) (bytes ++ take k piece)) back
    (plain_run scan (at - from) from bytes piece live (omega (arith, after, within))
    (λ k low high. plain k low (omega (arith, high, after))) s)
