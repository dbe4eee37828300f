use Rattle.std.proofs.Common.{◌≡◌, ◌<◌, ◌+◌, ◌-◌, List, [], ◌∷◌, ◌++◌, length, take, drop, ℕ, sym, ◌∙◌, ap, subst, arith, append_assoc, Option, Some, None, true, false, refl}
use Rattle.std.specs.Prelude.{is_some, slice_index}
use Rattle.std.proofs.lemmas.List.{take_all, take-append-drop}
use Rattle.http_wire.specs.declared.scan.HeadScan.{HeadScan}
use Rattle.http_wire.specs.declared.scan.Found.{Found}
use Rattle.http_wire.specs.Scan.{StandsFor, IsBehind, with_plain}
use Rattle.http_wire.proofs.ScanLemmas.{stands_ended, plain_until, plain_at, on_byte}
use Rattle.http_wire.proofs.scan.HeadScan.feed.Goals as goal

none_of : (o : Option ℕ) → is_some o ≡ false → o ≡ None
none_of None e = refl
none_of (Some n) e = absurd cc

pub returns-in_default-clause-stands : goal.returns-in_default-clause-stands
returns-in_default-clause-stands g c =
    let piece = c.args.piece.now in
    let from = c.bytes.from in
    let inv = c.bytes.invariant in
    let all : take (length piece) piece ≡ piece = take_all (length piece) piece (omega arith) in
    λ bytes s.
    subst (λ (t : HeadScan). StandsFor t (bytes ++ piece)) (sym c.with_plain.ensures)
    (subst (λ (l : List ℕ). StandsFor (with_plain c.bytes.scan (length piece - from)) (bytes ++ l)) all
    (plain_until c.bytes.scan from (length piece) bytes piece inv.live inv.within (omega arith) c.in_default.ensures.found (inv.stands bytes s)))

-- the search stands for a byte found behind plain ones
byte_stands : (before r : HeadScan) (next : Found) (from : ℕ) (bytes piece : List ℕ) → before.ended ≡ None → IsBehind piece from next
    → ((searched : List ℕ) → StandsFor (with_plain before (next.at - from)) searched → StandsFor r (searched ++ next.byte ∷ []))
    → StandsFor before (bytes ++ take from piece) → StandsFor r (bytes ++ take (next.at + 1) piece)
byte_stands before r next from bytes piece live found more s =
    on_byte r piece bytes next.at found.within
    (subst (λ (b : ℕ). StandsFor r ((bytes ++ take next.at piece) ++ b ∷ [])) found.is
    (more (bytes ++ take next.at piece)
    (plain_until before from next.at bytes piece live found.after (omega (arith, found.within)) found.plain s)))

-- and for the byte at this place
next_stands : (r last : HeadScan) (at : ℕ) (bytes piece : List ℕ) → at < length piece
    → ((searched : List ℕ) → StandsFor r searched → StandsFor last (searched ++ slice_index piece at ∷ []))
    → StandsFor r (bytes ++ take at piece) → StandsFor last (bytes ++ take (at + 1) piece)
next_stands r last at bytes piece within more s = on_byte last piece bytes at within (more (bytes ++ take at piece) s)

-- nothing of the piece is searched past a head's end
ends_there : (r : HeadScan) (at : ℕ) (bytes piece : List ℕ) → is_some r.ended ≡ true → StandsFor r (bytes ++ take at piece) → StandsFor r (bytes ++ piece)
ends_there r at bytes piece over s =
    let some : r.ended ≡ None → ⊥ = λ none. let no = sym over ∙ ap is_some none in absurd cc in
    subst (StandsFor r)
    (append_assoc bytes (take at piece) (drop at piece) ∙ ap (λ (l : List ℕ). bytes ++ l) (take-append-drop at piece))
    (stands_ended r (bytes ++ take at piece) (drop at piece) some s)

pub returns-then-is_some-2-clause-stands : goal.returns-then-is_some-2-clause-stands
returns-then-is_some-2-clause-stands g c =
    let next = c.in-Some.next in
    let inv = c.bytes.invariant in
    λ bytes s.
    ends_there c.with_byte-scan.result (next.at + 1) bytes c.args.piece.now (sym c.is_some-in-bytes.ensures ∙ c.if-is_some-2.true)
    (byte_stands c.bytes.scan c.with_byte-scan.result next c.bytes.from bytes c.args.piece.now inv.live c.in-Some.ensures.found
    (λ searched t. c.with_byte-scan.ensures.stands searched (subst (λ (h : HeadScan). StandsFor h searched) (sym c.with_plain-in-bytes.ensures) t))
    (inv.stands bytes s))

pub bytes-preserved-then-from-piece : goal.bytes-preserved-then-from-piece
bytes-preserved-then-from-piece g c =
    let next = c.in-Some.next in
    let found = c.in-Some.ensures.found in
    let inv = c.bytes.invariant in
    let r = c.with_byte-scan.result in
    record {
      within = omega (arith, found.within);
      live = none_of r.ended (sym c.is_some-in-bytes.ensures ∙ c.if-is_some-2.false);
      stands = λ bytes s.
          byte_stands c.bytes.scan r next c.bytes.from bytes c.args.piece.now inv.live found
          (λ searched t. c.with_byte-scan.ensures.stands searched (subst (λ (h : HeadScan). StandsFor h searched) (sym c.with_plain-in-bytes.ensures) t))
          (inv.stands bytes s);
      at = omega (
        arith,
        c.with_byte-scan.ensures.at,
        ap (λ (t : HeadScan). t.at) c.with_plain-in-bytes.ensures,
        plain_at c.bytes.scan (next.at - c.bytes.from),
        inv.at,
        found.after,
      );
      steps = omega (arith, c.in-Some.ensures.steps, inv.steps, found.after);
    }

pub returns-then-is_some-3-clause-stands : goal.returns-then-is_some-3-clause-stands
returns-then-is_some-3-clause-stands g c =
    let next = c.in-Some.next in
    let inv = c.bytes.invariant in
    let piece = c.args.piece.now in
    let last = c.with_byte-scan-in-bytes.result in
    λ bytes s.
    ends_there last (next.at + 1 + 1) bytes piece (sym c.is_some-in-bytes-2.ensures ∙ c.if-is_some-3.true)
    (next_stands c.with_byte-scan.result last (next.at + 1) bytes piece (omega (arith, c.in-Some.ensures.found.within, c.if-from-piece.false))
    c.with_byte-scan-in-bytes.ensures.stands
    (byte_stands c.bytes.scan c.with_byte-scan.result next c.bytes.from bytes piece inv.live c.in-Some.ensures.found
    (λ searched t. c.with_byte-scan.ensures.stands searched (subst (λ (h : HeadScan). StandsFor h searched) (sym c.with_plain-in-bytes.ensures) t))
    (inv.stands bytes s)))

pub bytes-preserved : goal.bytes-preserved
bytes-preserved g c =
    let next = c.in-Some.next in
    let found = c.in-Some.ensures.found in
    let inv = c.bytes.invariant in
    let piece = c.args.piece.now in
    let last = c.with_byte-scan-in-bytes.result in
    let there : next.at + 1 < length piece = omega (arith, found.within, c.if-from-piece.false) in
    record {
      within = omega (arith, there);
      live = none_of last.ended (sym c.is_some-in-bytes-2.ensures ∙ c.if-is_some-3.false);
      stands = λ bytes s.
          next_stands c.with_byte-scan.result last (next.at + 1) bytes piece there c.with_byte-scan-in-bytes.ensures.stands
          (byte_stands c.bytes.scan c.with_byte-scan.result next c.bytes.from bytes piece inv.live found
          (λ searched t. c.with_byte-scan.ensures.stands searched (subst (λ (h : HeadScan). StandsFor h searched) (sym c.with_plain-in-bytes.ensures) t))
          (inv.stands bytes s));
      at = omega (
        arith,
        c.with_byte-scan-in-bytes.ensures.at,
        c.with_byte-scan.ensures.at,
        ap (λ (t : HeadScan). t.at) c.with_plain-in-bytes.ensures,
        plain_at c.bytes.scan (next.at - c.bytes.from),
        inv.at,
        found.after,
      );
      steps = omega (arith, c.in-Some.ensures.steps, inv.steps, found.after, c.tick.ensures);
    }
