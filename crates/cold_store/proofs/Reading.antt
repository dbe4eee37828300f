-- A text that is read line by line.
use Rattle.std.proofs.Common.{◌≡◌, ◌⊎◌, inl, inr, ℕ, ◌+◌, ◌<◌, ◌==◌, true, false, true≢false, List, [], ◌∷◌, ◌++◌, map, length, codes, Some, None, refl, sym, ap, ◌∙◌, subst, arith, append_assoc, append-nil}
use Rattle.std.specs.List.{AllByRecursion}
use Rattle.std.proofs.lemmas.List.{append_cancel_left, length-append, length-map, map-append}
use Rattle.std.proofs.lemmas.Bool.Decides.{Decides-eqb}
use Rattle.history_model.specs.Lists.{Pairwise}
use Rattle.history_model.proofs.ListLemmas.{flat_map-append}
use Rattle.line_text.specs.declared.heads.Head.{Head}
use Rattle.line_text.specs.declared.ends.SaidRow.{SaidRow}
use Rattle.cold_store.specs.Drafts.{AddsLine, DraftView, IsDraftOf, IsNextRow, MayAdd, ReadsNext, row_said}
use Rattle.cold_store.specs.Imports.{Begins, IsFirstBad, IsReadText}
use Rattle.line_text.specs.Lines.{HasLetter, IsExportOf, IsNumber, IsSayable, SaidBooking, booking_line, export_lines, export_text_of, first_line, last_line, number_field, text_of}
use Rattle.cold_store.specs.Reads.{EatsLast, LineView, ReadsFirst}
use Rattle.line_text.specs.Reads.{Eats}
use Rattle.cold_store.proofs.Behind.{IsNextLine, Rises, apart, begin_apart, comes_behind, each_more, heads, rising_more, tails}
use Rattle.cold_store.proofs.Splits.{GoesOn, NoneGoesOn, begun_lines, export_is_lines, stops}

abbrev pub lines_of : ℕ → ℕ → List SaidBooking → List (List ℕ)
lines_of places rows said = first_line places rows ∷ map booking_line said

-- the first line was read, and those of these bookings
pub record ReadSoFar (legs text : List ℕ) (places all rows : ℕ) (rest : List ℕ) (d : DraftView) : Type 0 where
  pub said : List SaidBooking
  pub sizes : IsNumber places × IsNumber all
  pub each : AllByRecursion IsSayable said
  pub rising : Pairwise Rises said
  pub parts : text ≡ text_of (lines_of places all said) ++ rest
  pub same : d.rows ≡ rows
  pub draft : IsDraftOf legs d.rows said d

text_more : (lines : List (List ℕ)) (line : List ℕ) → text_of (lines ++ line ∷ []) ≡ text_of lines ++ (line ++ 10 ∷ [])
text_more lines line =
    flat_map-append (λ (x : List ℕ). x ++ 10 ∷ []) lines (line ∷ [])
    ∙ ap (λ (x : List ℕ). text_of lines ++ x) (append-nil (line ++ 10 ∷ []))

text_then : (lines : List (List ℕ)) (line rest : List ℕ) → text_of lines ++ (line ++ 10 ∷ rest) ≡ text_of (lines ++ line ∷ []) ++ rest
text_then lines line rest =
    ap (λ (x : List ℕ). text_of lines ++ x) (sym (append_assoc line (10 ∷ []) rest))
    ∙ (sym (append_assoc (text_of lines) (line ++ 10 ∷ []) rest) ∙ ap (λ (x : List ℕ). x ++ rest) (sym (text_more lines line)))

lines_more : (places all : ℕ) (said : List SaidBooking) (b : SaidBooking) → lines_of places all (said ++ b ∷ []) ≡ lines_of places all said ++ booking_line b ∷ []
lines_more places all said b = ap (λ l. first_line places all ∷ l) (map-append booking_line said (b ∷ []))

-- the first line

pub first_read : {legs text : List ℕ} {new : List ℕ} {sizes : ℕ × ℕ} {d : DraftView} → ReadsFirst text new (Some sizes) → IsDraftOf legs d.rows [] d → ReadSoFar legs text sizes.0 sizes.1 d.rows new d
first_read {new = new} {sizes = sizes} r draft =
    record {
      said = [];
      sizes = (r.found.0, r.found.1);
      each = tt;
      rising = tt;
      parts = r.found.2 ∙ text_then [] (first_line sizes.0 sizes.1) new;
      same = refl;
      draft = draft;
    }

-- a line of a booking

module _ {legs text : List ℕ} {places all rows : ℕ} {old mid : List ℕ} {d : DraftView} (so : ReadSoFar legs text places all rows old d) (same : mid ≡ old) where
  module _ {new : List ℕ} {line : LineView} (r : ReadsNext legs d.lines mid new (Some line)) (next : IsNextRow d.lines line.head.row) where
    pub may_add : MayAdd d line
    may_add =
        record {
          legs = legs;
          said = so.said;
          booking = r.found.0;
          draft = so.draft;
          of = r.found.3;
          letter = subst (λ (h : Head). HasLetter h.phase) (sym (r.found.3).head) (r.found.1).phase;
          next = next;
        }

    next_is : IsNextRow (map row_said so.said) (r.found.0).row
    next_is =
        subst (λ (n : ℕ). IsNextRow (map row_said so.said) n) (ap (λ (h : Head). h.row) (r.found.3).head)
        (subst (λ (l : List SaidRow). IsNextRow l line.head.row) so.draft.lines next)

    parts_more : text ≡ text_of (lines_of places all (so.said ++ r.found.0 ∷ [])) ++ new
    parts_more =
        let lines = lines_of places all so.said in
        so.parts
        ∙ (ap (λ (x : List ℕ). text_of lines ++ x) (sym same ∙ r.found.2)
        ∙ (text_then lines (booking_line r.found.0) new
        ∙ ap (λ l. text_of l ++ new) (sym (lines_more places all so.said r.found.0))))

    pub line_more : {now : DraftView} → AddsLine d line now → ReadSoFar legs text places all rows new now
    line_more {now = now} adds =
        let draft = adds legs so.said so.draft r.found.0 r.found.3 in
        record {
          said = so.said ++ r.found.0 ∷ [];
          sizes = so.sizes;
          each = each_more so.said r.found.0 so.each r.found.1;
          rising = rising_more so.said r.found.0 so.rising next_is;
          parts = parts_more;
          same = draft.sizes.1 ∙ so.same;
          draft = subst (λ (n : ℕ). IsDraftOf legs n (so.said ++ r.found.0 ∷ []) now) (sym draft.sizes.1) draft;
        }

    pub shorter : length new < length old
    shorter =
        let e = ap (λ (x : List ℕ). length x) (sym same ∙ r.found.2) in
        let n = length-append (booking_line r.found.0) (10 ∷ new) in omega arith

-- faults

-- the text of an export without places, rows or bookings
empty_export : IsExportOf (export_text_of 0 0 []) 0 0 []
empty_export = record { sizes = (omega arith, omega arith); each = tt; rising = tt; count = omega arith; is = refl }

nothing_begins : Begins []
nothing_begins = (export_text_of 0 0 [], (0, 0, [], empty_export), (export_text_of 0 0 [], refl))

no_first : {text new : List ℕ} → ReadsFirst text new None → NoneGoesOn [] text
no_first {text = text} r whole places all said e zs lines goes =
    let on = subst (λ (l : List (List ℕ)). GoesOn l text) (sym lines) goes in
    let k = r.only places all on.0 e.sizes.0 e.sizes.1 on.1 in absurd (let h = k.0 in cc)

pub first_bad : {text new : List ℕ} → ReadsFirst text new None → IsFirstBad text 1
first_bad {text = text} r =
    record {
      before = [];
      rest = text;
      lines = tt;
      parts = refl;
      begins = nothing_begins;
      stops = stops [] text tt (no_first r);
      is = refl;
    }

module _ {legs text : List ℕ} {places all rows : ℕ} {old : List ℕ} {d : DraftView} (so : ReadSoFar legs text places all rows old d) (few : IsNumber (length d.lines)) where
  many : length d.lines ≡ length so.said
  many = ap (λ (l : List SaidRow). length l) so.draft.lines ∙ length-map so.said row_said

  is_export : IsExportOf (export_text_of places all so.said) places all so.said
  is_export =
      record { sizes = so.sizes; each = so.each; rising = so.rising; count = subst IsNumber many few; is = refl }

  begins : Begins (text_of (lines_of places all so.said))
  begins = (
    export_text_of places all so.said,
    (places, all, so.said, is_export),
    (
      text_of (last_line (length so.said) ∷ []),
      sym (flat_map-append (λ (x : List ℕ). x ++ 10 ∷ []) (lines_of places all so.said) (last_line (length so.said) ∷ [])),
    ),
  )

  -- the next line of an export that has those that were read
  next_of : {whole : List ℕ} {p r : ℕ} {said : List SaidBooking} → IsExportOf whole p r said → (zs : List (List ℕ)) → export_lines p r said ≡ lines_of places all so.said ++ zs → IsNextLine so.said zs ⊎ (zs ≡ last_line (length so.said) ∷ [])
  next_of {p = p} {r = r} {said = said} e zs lines =
      comes_behind said so.said zs e.each e.rising so.each
      (tails (first_line p r) (first_line places all) (map booking_line said ++ last_line (length said) ∷ []) (map booking_line so.said ++ zs) lines)

  bad_by : NoneGoesOn (lines_of places all so.said) old → IsFirstBad text (length d.lines + 2)
  bad_by none =
      record {
        before = lines_of places all so.said;
        rest = old;
        lines = begun_lines places all so.said so.sizes.0 so.sizes.1 so.each;
        parts = so.parts;
        begins = begins;
        stops = stops (lines_of places all so.said) old (begun_lines places all so.said so.sizes.0 so.sizes.1 so.each) none;
        is = let m = many in let n = length-map so.said booking_line in omega arith;
      }

  -- the next line can't be read

  module _ {mid new : List ℕ} (e : Eats (codes "end") old mid false) (r : ReadsNext legs d.lines mid new None) where
    not_next : (zs : List (List ℕ)) → IsNextLine so.said zs ⊎ (zs ≡ last_line (length so.said) ∷ []) → GoesOn zs old → ⊥
    not_next zs (inl n) goes =
        let on = subst (λ (l : List (List ℕ)). GoesOn l old) n.lines goes in
        let next = subst (λ (l : List SaidRow). IsNextRow l (n.booking).row) (sym so.draft.lines) n.next in
        (r.only n.booking on.0 n.is next ((e.none refl).0 ∙ on.1)).0
    not_next zs (inr h) goes =
        let on = subst (λ (l : List (List ℕ)). GoesOn l old) h goes in
        (e.none refl).1 (number_field (length so.said) ++ 10 ∷ on.0) on.1

    pub bad_line : IsFirstBad text (length d.lines + 2)
    bad_line = bad_by (λ whole p q said x zs lines goes. not_next zs (next_of x zs lines) goes)

  -- the last line can't be read

  module _ {mid : List ℕ} (e : Eats (codes "end") old mid true) where
    module _ {count : ℕ} {new : List ℕ} (r : EatsLast count mid new false) (counted : count ≡ length d.lines) where
      not_last : (zs : List (List ℕ)) → IsNextLine so.said zs ⊎ (zs ≡ last_line (length so.said) ∷ []) → GoesOn zs old → ⊥
      not_last zs (inl n) goes =
          let on = subst (λ (l : List (List ℕ)). GoesOn l old) n.lines goes in
          begin_apart n.booking (10 ∷ on.0) (110 ∷ 100 ∷ mid) (sym on.1 ∙ e.found refl)
      not_last zs (inr h) goes =
          let on = subst (λ (l : List (List ℕ)). GoesOn l old) h goes in
          let is = append_cancel_left (codes "end") mid (number_field (length so.said) ++ 10 ∷ on.0) (sym (e.found refl) ∙ on.1) in
          r.none refl on.0 (subst (λ (n : ℕ). mid ≡ number_field n ++ 10 ∷ on.0) (sym (counted ∙ many)) is)

      pub bad_last : IsFirstBad text (length d.lines + 2)
      bad_last = bad_by (λ whole p q said x zs lines goes. not_last zs (next_of x zs lines) goes)

    -- all lines were read

    module _ {count : ℕ} {new : List ℕ} (r : EatsLast count mid new true) (counted : count ≡ length d.lines) where
      all_parts : text ≡ export_text_of places all so.said ++ new
      all_parts =
          let is = subst (λ (n : ℕ). mid ≡ number_field n ++ 10 ∷ new) (counted ∙ many) (r.found refl) in
          so.parts
          ∙ (ap (λ (x : List ℕ). text_of (lines_of places all so.said) ++ x) (e.found refl ∙ ap (λ (x : List ℕ). codes "end" ++ x) is)
          ∙ text_then (lines_of places all so.said) (last_line (length so.said)) new)

      not_more : ¬ (new ≡ []) → (zs : List (List ℕ)) → IsNextLine so.said (last_line (length so.said) ∷ zs) ⊎ (last_line (length so.said) ∷ zs ≡ last_line (length so.said) ∷ []) → GoesOn zs new → ⊥
      not_more some zs (inl n) goes =
          apart n.booking (length so.said) (sym (heads (last_line (length so.said)) (booking_line n.booking) zs n.more n.lines))
      not_more some zs (inr h) goes =
          some (subst (λ (l : List (List ℕ)). GoesOn l new) (tails (last_line (length so.said)) (last_line (length so.said)) zs [] h) goes)

      pub bad_end : ¬ (new ≡ []) → IsFirstBad text (length d.lines + 3)
      bad_end some =
          let lines = export_is_lines is_export in
          record {
            before = export_lines places all so.said;
            rest = new;
            lines = lines;
            parts = all_parts;
            begins = (export_text_of places all so.said, (places, all, so.said, is_export), ([], append-nil (export_text_of places all so.said)));
            stops = stops (export_lines places all so.said) new lines
                (λ whole p q said x zs lines goes. not_more some zs
                (next_of x (last_line (length so.said) ∷ zs)
                (lines ∙ append_assoc (lines_of places all so.said) (last_line (length so.said) ∷ []) zs)) goes);
            is = let m = many in
                let n = length-map so.said booking_line in
                let k = length-append (map booking_line so.said) (last_line (length so.said) ∷ []) in omega arith;
          }

      pub text_read : new ≡ [] → IsReadText legs text places all d
      text_read none = (
        so.said,
        record {
          sizes = so.sizes;
          each = so.each;
          rising = so.rising;
          count = subst IsNumber many few;
          is = all_parts ∙ (ap (λ (x : List ℕ). export_text_of places all so.said ++ x) none ∙ append-nil (export_text_of places all so.said));
        },
        so.draft,
      )

-- whether anything is left

pub some_left : (rest : List ℕ) → false ≡ (length rest == 0) → ¬ (rest ≡ [])
some_left [] e = absurd (true≢false (sym e))
some_left (c ∷ rest) e = λ h. cc

pub none_left : (rest : List ℕ) → true ≡ (length rest == 0) → rest ≡ []
none_left [] e = refl
none_left (c ∷ rest) e = absurd (let n : length (c ∷ rest) ≡ 0 = (Decides-eqb (length (c ∷ rest)) 0).0 (sym e) in omega arith)
