-- The end words are noted, and the row may be closed.
use Rattle.std.proofs.Common.{◌≡◌, ℕ, true, List, [], ◌∷◌, map, length, get_or, set, sym, ap, ◌∙◌, refl, subst, arith, get_or-set_same, get_or-set_other, length-set}
use Rattle.std.specs.List.{AllByRecursion}
use Rattle.std.proofs.lemmas.List.{length-map}
use Rattle.history_model.specs.declared.booking.BookedItem.{BookedItem}
use Rattle.history_model.specs.declared.booking.End.{End}
use Rattle.history_model.specs.declared.entry.Step.TheVariants.{Note, Close}
use Rattle.history_model.specs.Booking.{amount_word, row_words}
use Rattle.history_model.specs.Allowed.{OnRow, MayClose}
use Rattle.history_model.specs.History.{IsLegal, state_of}
use Rattle.history_model.proofs.Owners.{on_row}
use Rattle.claim_rule.specs.Rule.{DeskView}
use Rattle.claim_rule.specs.Desks.{AddsSteps, Stepped}
use Rattle.claim_rule.specs.Holds.{held}
use Rattle.claim_rule.specs.Endings.{EndingView, IsEndingOf, end_word, given_front}
use Rattle.claim_rule.proofs.EndingLemmas.{end_notes, all_front}
use Rattle.claim_rule.proofs.Reading.{sound_now}
use Rattle.claim_rule.proofs.Shapes.{step_shape, shape_then}
use Rattle.claim_rule.specs.Out.{IsEnding, EndsNone, KeepsHolds}
use Rattle.claim_rule.specs.EndSteps.{closing as closing_steps}
use Rattle.claim_rule.proofs.Out.{ending_only, ending_holds, closed_none}

five : (ws : List ℕ) (x y z : ℕ) → length ws ≡ row_words → get_or (set (set (set ws 5 x) 6 y) 7 z) 5 0 ≡ x
five ws x y z l = get_or-set_other (set (set ws 5 x) 6 y) 7 5 z 0 (λ e. omega (arith, e)) ∙ (get_or-set_other (set ws 5 x) 6 5 y 0 (λ e. omega (arith, e)) ∙ get_or-set_same ws 5 x 0 (omega (arith, l)))

six : (ws : List ℕ) (x y z : ℕ) → length ws ≡ row_words → get_or (set (set (set ws 5 x) 6 y) 7 z) 6 0 ≡ y
six ws x y z l = get_or-set_other (set (set ws 5 x) 6 y) 7 6 z 0 (λ e. omega (arith, e)) ∙ get_or-set_same (set ws 5 x) 6 y 0 (let m = length-set ws 5 x in omega (arith, l, m))

seven : (ws : List ℕ) (x y z : ℕ) → length ws ≡ row_words → get_or (set (set (set ws 5 x) 6 y) 7 z) 7 0 ≡ z
seven ws x y z l = get_or-set_same (set (set ws 5 x) 6 y) 7 z 0 (let m = length-set ws 5 x in let n = length-set (set ws 5 x) 6 y in omega (arith, l, m, n))

pub may_close : (a b c d : DeskView) (e : EndingView) → IsLegal a.layout a.seen → IsEndingOf a e → e.read ≡ true → e.given ≡ length e.items
    → Stepped (Note e.row.row 5 (end_word e.kind e.end 5)) a b → Stepped (Note e.row.row 6 (end_word e.kind e.end 6)) b c → Stepped (Note e.row.row 7 (end_word e.kind e.end 7)) c d → OnRow (state_of d.layout d.seen) e.row.row (MayClose d.number)
may_close a b c d e legal is read all n5 n6 n7 =
    let x = end_word e.kind e.end 5 in
    let y = end_word e.kind e.end 6 in
    let z = end_word e.kind e.end 7 in
    let one = end_notes 5 x a b e n5 is in
    let two = end_notes 6 y b c e n6 one in
    let three = end_notes 7 z c d e n7 two in
    let long = (sound_now a e legal is).words in
    let ws = is.booking.words in
    let given : AllByRecursion (λ (i : BookedItem). i.given_back ≡ true) is.booking.items =
    subst (AllByRecursion (λ (i : BookedItem). i.given_back ≡ true)) (ap (λ (n : ℕ). given_front n (map held e.items)) (length-map e.items held ∙ sym all) ∙ sym (is.items read)) (all_front (map held e.items)) in
    on_row (state_of d.layout d.seen) e.row.row three.booking (MayClose d.number) three.found (
      e.kind,
      (three.phase, three.owner),
      given,
      record {
        successor = five ws x y z long ∙ ap (λ (v : End). v.successor) (sym is.end);
        amount = six ws x y z long ∙ ap (λ (v : End). amount_word e.kind v.amount) (sym is.end);
        moment = seven ws x y z long ∙ ap (λ (v : End). v.moment) (sym is.end);
      },
    )

pub closing : (a b c d f : DeskView) (e : EndingView) → Stepped (Note e.row.row 5 (end_word e.kind e.end 5)) a b → Stepped (Note e.row.row 6 (end_word e.kind e.end 6)) b c → Stepped (Note e.row.row 7 (end_word e.kind e.end 7)) c d → Stepped (Close e.row.row) d f
    → AddsSteps a f (Note e.row.row 5 (end_word e.kind e.end 5) ∷ Note e.row.row 6 (end_word e.kind e.end 6) ∷ Note e.row.row 7 (end_word e.kind e.end 7) ∷ Close e.row.row ∷ [])
closing a b c d f e n5 n6 n7 cl =
    shape_then a b f (Note e.row.row 5 (end_word e.kind e.end 5) ∷ []) _ (step_shape _ a b n5)
    (shape_then b c f (Note e.row.row 6 (end_word e.kind e.end 6) ∷ []) _ (step_shape _ b c n6)
    (shape_then c d f (Note e.row.row 7 (end_word e.kind e.end 7) ∷ []) _ (step_shape _ c d n7) (step_shape _ d f cl)))

-- the ending is out through its notes, and none is after its close

noted_ending : (w n : ℕ) (a b : DeskView) (e : EndingView) → Stepped (Note e.row.row w n) a b → IsEnding a e → IsEnding b e
noted_ending w n a b e did is = record { of = end_notes w n a b e did is.of; only = ending_only (Note e.row.row w n) a b e did (λ _. refl) is }

pub closed_all : (a b c d f : DeskView) (e : EndingView) → IsEnding a e → Stepped (Note e.row.row 5 (end_word e.kind e.end 5)) a b → Stepped (Note e.row.row 6 (end_word e.kind e.end 6)) b c → Stepped (Note e.row.row 7 (end_word e.kind e.end 7)) c d → Stepped (Close e.row.row) d f → EndsNone f
closed_all a b c d f e is n5 n6 n7 cl =
    closed_none d f e (noted_ending 7 (end_word e.kind e.end 7) c d e n7 (noted_ending 6 (end_word e.kind e.end 6) b c e n6 (noted_ending 5 (end_word e.kind e.end 5) a b e n5 is))) cl

pub closing_holds : (a f : DeskView) (e : EndingView) → f.kept ≡ a.kept → IsEnding a e → AddsSteps a f (closing_steps e.row.row e.kind e.end) → KeepsHolds a f
closing_holds a f e kept is did = ending_holds a f (closing_steps e.row.row e.kind e.end) e did kept is.of (λ r q. (q, (q, (q, (q, tt))))) (λ r. (refl, (refl, (refl, (refl, tt)))))
