-- A right export meets no fault.
use Rattle.std.proofs.Common.{◌≡◌, ⊎_elim, ℕ, List, [], ◌∷◌, ◌++◌, length, refl, sym, ap, ◌∙◌, subst, append_assoc}
use Rattle.std.specs.List.{AllByRecursion}
use Rattle.history_model.proofs.ListLemmas.{All-right, flat_map-append}
use Rattle.cold_store.specs.declared.fault.ImportFault.{ImportFault}
use Rattle.cold_store.specs.declared.fault.ImportFault.TheVariants.{NotAnExport, Sizes, RowWrong, Overlap, OwnSuccessor, NoMemory}
use Rattle.cold_store.specs.Exports.{NoneBelow}
use Rattle.cold_store.specs.Imports.{IsFirstBad, IsImportFault, IsSome, IsRightText}
use Rattle.line_text.specs.Lines.{IsExportOf, SaidBooking, text_of}
use Rattle.cold_store.specs.Right.{AreRight, IsApartAt, IsFirstWrong, IsRight, OwnsSuccessor}
use Rattle.line_text.proofs.OneList.{one_list}

regroup : (a line more : List ℕ) → (a ++ ((line ++ 10 ∷ []) ++ [])) ++ more ≡ a ++ (line ++ 10 ∷ more)
regroup a line more = simp append_assoc

line_begins : (before : List (List ℕ)) (line more : List ℕ) → text_of (before ++ line ∷ []) ++ more ≡ text_of before ++ (line ++ 10 ∷ more)
line_begins before line more =
    ap (λ t. t ++ more) (flat_map-append (λ (l : List ℕ). l ++ 10 ∷ []) before (line ∷ [])) ∙ regroup (text_of before) line more

not_bad : (text : List ℕ) (number : ℕ) → IsSome text → IsFirstBad text number → ⊥
not_bad text number is bad = ⊎_elim
    (λ last. last.1 (subst IsSome bad.parts is))
    (λ line. line.4 (text, is, (line.1, line_begins bad.before line.0 line.1 ∙ (ap (λ t. text_of bad.before ++ t) (sym line.3) ∙ sym bad.parts))))
    bad.stops

module _ (legs : List ℕ) (rows : ℕ) (text : List ℕ) (said : List SaidBooking) (sound : IsRightText legs rows text said) where
  same : (others : List SaidBooking) → IsExportOf text (length legs) rows others → said ≡ others
  same others is = (one_list text (length legs) rows said (length legs) rows others sound.sized is).2

  right_booking : (others : List SaidBooking) (row : ℕ) → said ≡ others → IsFirstWrong legs rows others row → ⊥
  right_booking others row e wrong =
      let all : AreRight legs rows others others = subst (λ (l : List SaidBooking). AreRight legs rows l l) e sound.right in
      let here : AllByRecursion (IsRight legs rows others) (wrong.before ++ wrong.booking ∷ wrong.behind) = subst (λ (l : List SaidBooking). AllByRecursion (IsRight legs rows others) l) wrong.parts all in
      wrong.wrong (All-right (IsRight legs rows others) wrong.before (wrong.booking ∷ wrong.behind) here).0

  pub accepted : (fault : ImportFault) → IsImportFault legs rows text fault → fault ≡ NoMemory
  accepted NoMemory is = refl
  accepted (NotAnExport line) (number, bad, at) = absurd (not_bad text number (length legs, rows, said, sound.sized) bad)
  accepted Sizes (places, all, others, is, differ) =
      let s = one_list text (length legs) rows said places all others sound.sized is in
      absurd (⊎_elim (λ no. no (sym s.0)) (λ no. no (sym s.1)) differ)
  accepted (RowWrong row) (others, is, wrong) = absurd (right_booking others row (same others is) wrong)
  accepted (Overlap place) (others, is, right, least) =
      absurd (subst (λ (l : List SaidBooking). NoneBelow (length legs) (λ at. ¬ IsApartAt l at)) (same others is) sound.apart place least.0 least.1)
  accepted (OwnSuccessor row) (others, is, right, apart, least) =
      absurd (subst (λ (l : List SaidBooking). NoneBelow rows (OwnsSuccessor l)) (same others is) sound.others row least.0 least.1)
