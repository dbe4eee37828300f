-- The words of a row past those of the items stay as they are.
use Rattle.std.proofs.Common.{◌≡◌, ℕ, ◌+◌, ◌<◌, ◌≤◌, ◌⊎◌, ⊎_elim, inl, inr, List, [], ◌∷◌, ◌++◌, length, refl, ap, ◌∙◌, cond, eqb, arith, get_or-set_other}
use Rattle.history_model.specs.declared.entry.Entry.{Entry}
use Rattle.history_model.specs.declared.entry.Step.{Step}
use Rattle.history_model.specs.declared.entry.Step.TheVariants.{Look, Take, Give, Start, SawRow, Note, Seal, Turn, LostTurn, Close, Met}
use Rattle.history_model.specs.declared.booking.End.{End}
use Rattle.history_model.specs.declared.word.Word.TheVariants.{Row}
use Rattle.history_model.specs.Phase.{row_word_of}
use Rattle.history_model.specs.Booking.{Layout, State, most_items, first_item_word, limit_of, present}
use Rattle.history_model.specs.Words.{row_word}
use Rattle.history_model.specs.Allowed.{IsAllowedStep, IsMadeBy, IsSealable, MayGive, MayNote, MayClose, MaySealAs, TurnsWith}
use Rattle.history_model.specs.Apply.{apply, apply_step, item_taken, given, noted, in_phase, closed}
use Rattle.history_model.specs.History.{IsLegal, IsLegalFrom, state_after, state_of}
use Rattle.history_model.specs.WholeEnds.{end_at}
use Rattle.history_model.proofs.Keeping.{found}
use Rattle.history_model.proofs.Seen.{legal-rest, state_of-append}
use Rattle.history_model.proofs.Writing.{row_kept, start_writes, phase_writes, turn_writes}

above_zero : (w : ℕ) → 56 ≤ w → w ≡ 0 → ⊥
above_zero w l e = omega (arith, l, e)

noted_below : (v w : ℕ) → 56 ≤ w → ((1 ≤ v) × (v ≤ 4)) ⊎ ((8 ≤ v) × (v < 56)) → w ≡ v → ⊥
noted_below v w l (inl x) e = omega (arith, l, x, e)
noted_below v w l (inr x) e = omega (arith, l, x, e)

ended_below : (v w : ℕ) → 56 ≤ w → (5 ≤ v) × (v ≤ 7) → w ≡ v → ⊥
ended_below v w l x e = omega (arith, l, x, e)

row_zero : (q r w : ℕ) → 56 ≤ w → Row r w ≡ Row q 0 → ⊥
row_zero q r w l e = above_zero w l (word_of e)
  where
    word_of : {q r v w : ℕ} → Row r w ≡ Row q v → w ≡ v
    word_of e = cc

unused_step : (g : Layout) (s : State) (d : ℕ) (st : Step) (row w : ℕ) → IsAllowedStep g s d st → 56 ≤ w → row_word (apply_step s d st) row w ≡ row_word s row w
unused_step g s d (Start q j) row w may l = (start_writes s q j d may.1).rest (Row row w) (row_zero q row w l)
unused_step g s d (Take q p span) row w may l =
    let b = found (present s q) (λ b. IsMadeBy d b × (length b.items < most_items)) may.2 in row_kept s q (item_taken p span) b.0 b.1 (λ _. refl) row w (λ _. refl)
unused_step g s d (Give q k) row w may l = let b = found (present s q) (MayGive d k) may.1 in row_kept s q (given k) b.0 b.1 (λ _. refl) row w (λ _. refl)
unused_step g s d (Note q v n) row w may l =
    let b = found (present s q) (MayNote d v) may.1 in
    let other : w ≡ v → ⊥ = ⊎_elim (λ m. noted_below v w l m.1) (λ m. ended_below v w l m.1) b.2 in
    row_kept s q (noted v n) b.0 b.1 (λ _. refl) row w (λ _. ap (λ (k : ℕ). cond (eqb w 0) (row_word_of b.0.phase b.0.generation) k) (get_or-set_other b.0.words v w n 0 other))
unused_step g s d (Seal q ph) row w may l =
    let b = found (present s q) (λ b. IsMadeBy d b × IsSealable b × MaySealAs s d b ph) may.1 in
    (phase_writes (in_phase ph) (λ _. refl) (λ _. refl) (λ _. refl) s q b.0 b.1).rest (Row row w) (row_zero q row w l)
unused_step g s d (Turn q from to m a x) row w may l =
    let end : End = end_at m a x in
    let b = found (present s q) (λ b. (b.phase ≡ from) × TurnsWith s d (limit_of b) to end) may.3 in
    (turn_writes s q d to end b.0 b.1).rest (Row row w) (row_zero q row w l)
unused_step g s d (Close q) row w may l =
    let b = found (present s q) (MayClose d) may.1 in (phase_writes closed (λ _. refl) (λ _. refl) (λ _. refl) s q b.0 b.1).rest (Row row w) (row_zero q row w l)
unused_step g s d (Look p half n) row w may l = refl
unused_step g s d (SawRow q v n) row w may l = refl
unused_step g s d (LostTurn q wanted shown) row w may l = refl
unused_step g s d Met row w may l = refl

unused_after : (g : Layout) (s : State) (es : List Entry) (row w : ℕ) → IsLegalFrom g s es → 56 ≤ w → row_word (state_after s es) row w ≡ row_word s row w
unused_after g s [] row w legal l = refl
unused_after g s (e ∷ es) row w legal l = unused_after g (apply s e) es row w legal.1 l ∙ unused_step g s e.desk e.step row w legal.0 l

pub unused_stay : (g : Layout) (history more : List Entry) (row w : ℕ) → IsLegal g (history ++ more) → first_item_word + most_items ≤ w → row_word (state_of g (history ++ more)) row w ≡ row_word (state_of g history) row w
unused_stay g history more row w legal l = ap (λ (s : State). row_word s row w) (state_of-append g history more) ∙ unused_after g (state_of g history) more row w (legal-rest g history more legal) l
