-- A text and its lines.
use Rattle.std.proofs.Common.{◌≡◌, ◌≢◌, ◌⊎◌, inl, inr, ℕ, Bool, true, false, nat_eq, List, [], ◌∷◌, ◌++◌, map, length, refl, sym, ap, ◌∙◌, arith, append_assoc}
use Rattle.std.specs.List.{AllByRecursion}
use Rattle.std.proofs.lemmas.List.{append_cancel_left}
use Rattle.std.proofs.lemmas.Bool.Decides.{Decides-eqb, nat_tests}
use Rattle.history_model.proofs.ListLemmas.{All-append}
use Rattle.cold_store.specs.Imports.{Begins, IsSome, StopsAt}
use Rattle.line_text.specs.Lines.{IsExportOf, IsLine, IsNumber, IsSayable, SaidBooking, booking_line, export_lines, first_line, last_line, text_of}
use Rattle.line_text.proofs.LineText.{IsLine-booking, IsLine-first, IsLine-last}

pub line_front : (line text rest : List ℕ) → ((line ++ 10 ∷ []) ++ text) ++ rest ≡ line ++ 10 ∷ (text ++ rest)
line_front line text rest =
    ap (λ (x : List ℕ). x ++ rest) (append_assoc line (10 ∷ []) text) ∙ append_assoc line (10 ∷ text) rest

same_line : (x y a b : List ℕ) → IsLine x → IsLine y → x ++ 10 ∷ a ≡ y ++ 10 ∷ b → (x ≡ y) × (a ≡ b)
same_line [] [] a b p q e = (refl, append_cancel_left (10 ∷ []) a b e)
same_line [] (d ∷ y) a b p q e = absurd (q.0 (let h : d ≡ 10 = cc in h))
same_line (c ∷ x) [] a b p q e = absurd (p.0 (let h : c ≡ 10 = cc in h))
same_line (c ∷ x) (d ∷ y) a b p q e =
    let h : c ≡ d = cc in
    let t : x ++ 10 ∷ a ≡ y ++ 10 ∷ b = cc in
    let s = same_line x y a b p.1 q.1 t in ((λ i. h i ∷ s.0 i), s.1)

no_text : (line rest : List ℕ) → line ++ 10 ∷ rest ≡ [] → ⊥
no_text [] rest e = cc
no_text (c ∷ line) rest e = cc

-- the lines that a text begins with are the first of its lines
pub first_lines : (xs ys : List (List ℕ)) (rest : List ℕ) → AllByRecursion IsLine xs → AllByRecursion IsLine ys → text_of xs ++ rest ≡ text_of ys → (zs : List (List ℕ)) × (ys ≡ xs ++ zs) × (rest ≡ text_of zs)
first_lines [] ys rest p q e = (ys, refl, e)
first_lines (x ∷ xs) [] rest p q e = absurd (no_text x (text_of xs ++ rest) (sym (line_front x (text_of xs) rest) ∙ e))
first_lines (x ∷ xs) (y ∷ ys) rest p q e =
    let s = same_line x y (text_of xs ++ rest) (text_of ys) p.0 q.0
    (sym (line_front x (text_of xs) rest) ∙ (e ∙ append_assoc y (10 ∷ []) (text_of ys))) in
    let h = first_lines xs ys rest p.1 q.1 s.1 in
    (h.0, (λ i. sym s.0 i ∷ h.1 i), h.2)

-- a text is one line, or begins with one
more_of : (c : ℕ) (cs : List ℕ) (t : Bool) → nat_eq c 10 ≡ t → IsLine cs ⊎ ((line more : List ℕ) × IsLine line × (cs ≡ line ++ 10 ∷ more)) → IsLine (c ∷ cs) ⊎ ((line more : List ℕ) × IsLine line × (c ∷ cs ≡ line ++ 10 ∷ more))
more_of c cs true e h = inr ([], cs, tt, ap (λ (x : ℕ). x ∷ cs) ((Decides-eqb c 10).0 e))
more_of c cs false e (inl h) = inl (let other : c ≢ 10 = grind (arith, nat_tests) in (other, h))
more_of c cs false e (inr h) =
    let other : c ≢ 10 = grind (arith, nat_tests) in
    inr (c ∷ h.0, h.1, (other, h.2), ap (λ (x : List ℕ). c ∷ x) h.3)

line_or_more : (text : List ℕ) → IsLine text ⊎ ((line more : List ℕ) × IsLine line × (text ≡ line ++ 10 ∷ more))
line_or_more [] = inl tt
line_or_more (c ∷ cs) = more_of c cs (nat_eq c 10) refl (line_or_more cs)

-- an export's lines

all_lines : (said : List SaidBooking) → AllByRecursion IsSayable said → AllByRecursion IsLine (map booking_line said)
all_lines [] each = tt
all_lines (b ∷ said) each = (IsLine-booking b each.0, all_lines said each.1)

pub begun_lines : (places rows : ℕ) (said : List SaidBooking) → IsNumber places → IsNumber rows → AllByRecursion IsSayable said → AllByRecursion IsLine (first_line places rows ∷ map booking_line said)
begun_lines places rows said p r each = (IsLine-first places rows p r, all_lines said each)

pub export_is_lines : {text : List ℕ} {places rows : ℕ} {said : List SaidBooking} → IsExportOf text places rows said → AllByRecursion IsLine (export_lines places rows said)
export_is_lines {places = places} {rows = rows} {said = said} e = (
  IsLine-first places rows e.sizes.0 e.sizes.1,
  All-append IsLine (map booking_line said) (last_line (length said) ∷ []) (all_lines said e.each) (IsLine-last (length said) e.count, tt),
)

-- the text goes on with the first of these lines
abbrev pub GoesOn : List (List ℕ) → List ℕ → Type 0
GoesOn [] rest = rest ≡ []
GoesOn (z ∷ zs) rest = (more : List ℕ) × (rest ≡ z ++ 10 ∷ more)

goes_on : (zs : List (List ℕ)) (rest : List ℕ) → rest ≡ text_of zs → GoesOn zs rest
goes_on [] rest e = e
goes_on (z ∷ zs) rest e = (text_of zs, e ∙ append_assoc z (10 ∷ []) (text_of zs))

-- no export that has these lines first goes on so
abbrev pub NoneGoesOn : List (List ℕ) → List ℕ → Type 0
NoneGoesOn before rest =
    (text : List ℕ) (places rows : ℕ) (said : List SaidBooking) → IsExportOf text places rows said → (zs : List (List ℕ))
    → export_lines places rows said ≡ before ++ zs → GoesOn zs rest → ⊥

module _ (before : List (List ℕ)) (rest : List ℕ) (lines : AllByRecursion IsLine before) (none : NoneGoesOn before rest) where
  no_export : IsSome (text_of before ++ rest) → ⊥
  no_export some =
      let e = some.3 in
      let h = first_lines before (export_lines some.0 some.1 some.2) rest lines (export_is_lines e) e.is in
      none (text_of before ++ rest) some.0 some.1 some.2 e h.0 h.1 (goes_on h.0 rest h.2)

  no_beginning : (line more : List ℕ) → IsLine line → rest ≡ line ++ 10 ∷ more → Begins (text_of (before ++ line ∷ [])) → ⊥
  no_beginning line more is e begins =
      let some = begins.1 in let x = some.3 in
      let h = first_lines (before ++ line ∷ []) (export_lines some.0 some.1 some.2) begins.2.0
      (All-append IsLine before (line ∷ []) lines (is, tt)) (export_is_lines x) (begins.2.1 ∙ x.is) in
      none begins.0 some.0 some.1 some.2 x (line ∷ h.0) (h.1 ∙ append_assoc before (line ∷ []) h.0) (more, e)

  stops_by : IsLine rest ⊎ ((line more : List ℕ) × IsLine line × (rest ≡ line ++ 10 ∷ more)) → StopsAt before rest
  stops_by (inl is) = inl (is, no_export)
  stops_by (inr h) = inr (h.0, h.1, h.2, h.3, no_beginning h.0 h.1 h.2 h.3)

  pub stops : StopsAt before rest
  stops = stops_by (line_or_more rest)
