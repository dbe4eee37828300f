-- What was told is there again.
use Rattle.std.proofs.Common.{◌≡◌, ◌⊎◌, inl, inr, ⊎_elim, ℕ, ◌≤◌, nat_lt, Bool, true, false, List, [], ◌∷◌, ◌++◌, append_assoc, length, refl, sym, ap, ◌∙◌, subst, arith}
use Rattle.std.specs.List.{AllByRecursion}
use Rattle.std.proofs.lemmas.Bool.{ltb-false, ltb-true}
use mathlib.Core.List.{IsPrefix, append_cancel_left}
use Rattle.history_model.specs.declared.entry.Entry.{Entry}
use Rattle.history_model.specs.declared.entry.Step.{Step}
use Rattle.history_model.specs.declared.entry.Step.TheVariants.{Look, Take, Give, Start, SawRow, Note, Seal, Turn, LostTurn, Close, Met}
use Rattle.history_model.specs.Apply.{apply}
use Rattle.history_model.specs.Booking.{State}
use Rattle.history_model.specs.History.{entry, state_after, state_of}
use Rattle.history_model.proofs.Seen.{state_of-append}
use Rattle.claim_rule.specs.Out.{is_look}
use Rattle.claim_rule.proofs.Meeting.{prefix_line}
use Rattle.claim_rule.proofs.Views.{prefix-more}
use Rattle.row_cuts.specs.Told.{HasAllOf}
use Rattle.row_cuts.proofs.Told.{goes_on}
use Rattle.host_journal.specs.Moments.{Moment, TakenCut}
use Rattle.host_journal.specs.Ahead.{HasWritten, IsKeptAnswer, Shows}
use Rattle.host_journal.specs.There.{IsThereAgain}
use Rattle.host_journal.proofs.Running.{follows_cut, has_map}

-- looks change nothing

same_after : (s : State) (d : ℕ) (st : Step) → is_look st ≡ true → apply s (entry d st) ≡ s
same_after s d (Look place half shown) is = refl
same_after s d (SawRow row word value) is = refl
same_after s d (LostTurn row wanted shown) is = refl
same_after s d Met is = refl
same_after s d (Take row place span) is = absurd (let no : false ≡ true = is in cc)
same_after s d (Give row item) is = absurd (let no : false ≡ true = is in cc)
same_after s d (Start row generation) is = absurd (let no : false ≡ true = is in cc)
same_after s d (Note row word value) is = absurd (let no : false ≡ true = is in cc)
same_after s d (Seal row phase) is = absurd (let no : false ≡ true = is in cc)
same_after s d (Close row) is = absurd (let no : false ≡ true = is in cc)
same_after s d (Turn row from to moment amount successor) is = absurd (let no : false ≡ true = is in cc)

same_state : (s : State) (es more : List Entry) → AllByRecursion (λ (e : Entry). is_look e.step ≡ true) (es ++ more) → state_after s es ≡ s
same_state s [] more looks = refl
same_state s (e ∷ es) more looks =
    ap (λ (t : State). state_after t es) (same_after s e.desk e.step looks.0) ∙ same_state s es more looks.1

-- what was told begins the former history, or goes on from it by looks
parts : (told began more : List Entry) → IsPrefix told (began ++ more) → (t : Bool) → nat_lt (length began) (length told) ≡ t
    → IsPrefix told began ⊎ ((looked : List Entry) × (told ≡ began ++ looked) × IsPrefix looked more)
parts told began more front true longer =
    let low = ltb-true (length began) (length told) longer in
    let on = prefix_line began told (began ++ more) (more, refl) front (omega arith) in
    inr (on.0, sym on.1, (front.0, append_cancel_left began (on.0 ++ front.0) more (sym (append_assoc began on.0 front.0) ∙ (ap (λ (l : List Entry). l ++ front.0) on.1 ∙ front.1))))
parts told began more front false shorter =
    inl (prefix_line told began (began ++ more) front (more, refl) (ltb-false (length began) (length told) shorter))

again : (c : TakenCut) (told : List Entry) → Shows c.began told → IsThereAgain c told
again c told (now, (more, is, looks), front) w cuts opened ends (looked, whole, alone) opens = ⊎_elim
    (λ (shorter : IsPrefix told c.began).
    (goes_on w cuts told opened ends (subst (λ (h : List Entry). IsPrefix told h) (sym whole) (prefix-more told c.began looked shorter)) opens).have)
    (λ (longer : (r : List Entry) × (told ≡ c.began ++ r) × IsPrefix r more).
    let r = longer.0 in
    let all = subst (λ (es : List Entry). AllByRecursion (λ (e : Entry). is_look e.step ≡ true) es) (sym longer.2.1) looks in
    let same : state_of w.layout told ≡ state_of w.layout c.began = ap (state_of w.layout) longer.1 ∙ (state_of-append w.layout c.began r ∙ same_state (state_of w.layout c.began) r longer.2.0 all) in
    subst (λ (s : State). HasAllOf s opened.opening) (sym same) (goes_on w cuts c.began opened ends (looked, sym whole) opens).have)
    (parts told c.began more (subst (λ (h : List Entry). IsPrefix told h) is front) (nat_lt (length c.began) (length told)) refl)

pub there_again : (later : Moment) (told : List Entry) → IsKeptAnswer later told → HasWritten later (λ c. IsThereAgain c told)
there_again later told a =
    has_map (λ c. (c.number ≤ later.written) × Shows c.began told) (λ c. (c.number ≤ later.written) × IsThereAgain c told)
    (λ c has. (has.0, again c told has.1)) later.cuts (follows_cut later told a)
