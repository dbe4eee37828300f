-- A text in which cuts are looked for, byte by byte.
use Rattle.std.proofs.Common.{◌≡◌, ℕ, List, [], ◌∷◌, ◌++◌, Option, Some, None, true, false, refl, sym, ap, subst, ◌∙◌, arith, length, is_some, true≢false}
use Rattle.std.proofs.lemmas.Bool.{false≢true}
use Rattle.std.proofs.lemmas.List.{append_cancel_left}
use Rattle.journal_text.specs.declared.cut.Cut.{Cut}
use Rattle.journal_text.specs.Texts.{HoldsCut, IsSaidCut, SaidCut, cut_text}
use Rattle.journal_text.specs.Reads.{ReadsCut}

-- no whole cut begins in front of the rest
pub record IsScanned (text rest : List ℕ) : Type 0 where
  pub some : HoldsCut rest → HoldsCut text
  pub all : HoldsCut text → HoldsCut rest

pub at_start : (text : List ℕ) → IsScanned text text
at_start text = record { some = λ h. h; all = λ h. h }

pub later : (byte : ℕ) (more : List ℕ) → HoldsCut more → HoldsCut (byte ∷ more)
later byte more h =
    record { front = byte ∷ h.front; cut = h.cut; rest = h.rest; said = h.said; is = ap (λ (x : List ℕ). byte ∷ x) h.is }

starts : (cut : SaidCut) (rest old : List ℕ) {new : List ℕ} {read : Option Cut} → ReadsCut old new read → IsSaidCut cut → old ≡ cut_text cut ++ rest → read ≡ None → ⊥
starts cut rest old {read = None} r said is none = (r.only cut rest said is).0
starts cut rest old {read = Some k} r said is none = absurd (let e = none in cc)

tail_of : (byte : ℕ) (more front : List ℕ) (cut : SaidCut) (rest : List ℕ) {new : List ℕ} → ReadsCut (byte ∷ more) new None → IsSaidCut cut → byte ∷ more ≡ front ++ (cut_text cut ++ rest) → HoldsCut more
tail_of byte more [] cut rest r said is = absurd (starts cut rest (byte ∷ more) r said is refl)
tail_of byte more (x ∷ front) cut rest r said is =
    record { front = front; cut = cut; rest = rest; said = said; is = append_cancel_left (byte ∷ []) more (front ++ (cut_text cut ++ rest)) (let e = is in cc) }

pub step : (text : List ℕ) (byte : ℕ) (more : List ℕ) {old new : List ℕ} → old ≡ byte ∷ more → IsScanned text old → ReadsCut old new None → IsScanned text more
step text byte more {new = new} e s r =
    let s' : IsScanned text (byte ∷ more) = subst (λ (x : List ℕ). IsScanned text x) e s in
    let r' : ReadsCut (byte ∷ more) new None = subst (λ (x : List ℕ). ReadsCut x new None) e r in
    record { some = λ h. s'.some (later byte more h); all = λ h. let k = s'.all h in tail_of byte more k.front k.cut k.rest r' k.said k.is }

none_left : (front : List ℕ) (cut : SaidCut) (rest : List ℕ) {new : List ℕ} → ReadsCut [] new None → IsSaidCut cut → [] ≡ front ++ (cut_text cut ++ rest) → ⊥
none_left [] cut rest r said is = starts cut rest [] r said is refl
none_left (x ∷ front) cut rest r said is = absurd (let e = is in cc)

pub at_end : (text : List ℕ) {old new : List ℕ} → old ≡ [] → IsScanned text old → ReadsCut old new None → HoldsCut text → ⊥
at_end text {new = new} e s r h =
    let k = s.all h in
    none_left k.front k.cut k.rest (subst (λ (x : List ℕ). ReadsCut x new None) e r) k.said (sym e ∙ k.is)

pub empty : (xs : List ℕ) → length xs ≡ 0 → xs ≡ []
empty [] is = refl
empty (x ∷ xs) is = absurd (omega arith)

pub found : (text : List ℕ) {old new : List ℕ} {k : Cut} → IsScanned text old → ReadsCut old new (Some k) → HoldsCut text
found text {new = new} {k = k} s r = s.some (record { front = []; cut = _; rest = new; said = r.found.0; is = r.found.1 })

pub found_some : (text : List ℕ) {old new : List ℕ} {read : Option Cut} → IsScanned text old → ReadsCut old new read → true ≡ is_some read → HoldsCut text
found_some text {read = Some k} s r is = found text s r
found_some text {read = None} s r is = absurd (true≢false is)

pub none_read : {old new : List ℕ} {read : Option Cut} → ReadsCut old new read → false ≡ is_some read → ReadsCut old new None
none_read {read = None} r is = r
none_read {read = Some k} r is = absurd (false≢true is)
