use Rattle.std.proofs.Common.{◌≡◌, true, false, sym, ◌∙◌, refl, subst, ◌∷◌, [], inl, rules}
use Rattle.history_model.specs.declared.entry.Step.TheVariants.{SawRow}
use Rattle.history_model.specs.Phase.{is_sealed as sealed_phase, phase_shown}
use Rattle.claim_rule.specs.Desks.{AddsSteps}
use Rattle.claim_rule.proofs.Out.{looks_holds, looks_endings}
use Rattle.claim_rule.proofs.Shapes.{step_shape}
use Rattle.booking_rows.specs.SealedRows.{IsSealedSince}
use Rattle.booking_rows.specs.Views.{saw_row}
use Rattle.booking_rows.proofs.ViewLemmas.{sealed_since, shown_still, still_before, since_on, sealed_of, generation_of_seen, looks_whole, looks_none, all_read, all_seen}
use Rattle.booking_rows.proofs.views.look_row.Goals as goal

pub read_words-words-requires-clause-fit : goal.read_words-words-requires-clause-fit
read_words-words-requires-clause-fit c = record { places = c.places.ensures.most; legs = c.places.ensures.legs }

pub read_words-words-requires-clause-sealed : goal.read_words-words-requires-clause-sealed
read_words-words-requires-clause-sealed c =
    let is_so : sealed_phase c.phase_shown-phase.result ≡ true = search rules in
    sealed_since c.args.row c.step_read.result c.phase_shown-phase.result c.args.desk.now c.step_read.new.desk c.step_read.ensures.look c.phase_shown-phase.ensures is_so

-- where the last look shows the booking, the words are its
pub view_of-requires-clause-fit : goal.view_of-requires-clause-fit
view_of-requires-clause-fit c =
    let w = c.read_words-words in
    let last = c.step_read-2 in
    let row = c.args.row in
    let still = shown_still row last.result c.phase_shown-last.result w.new.desk last.new.desk last.ensures.look c.in_default.not-Free c.phase_shown-last.ensures in
    w.ensures.fit (still_before w.new.desk last.new.desk (SawRow row.row 0 last.result ∷ []) row (step_shape (SawRow row.row 0 last.result) w.new.desk last.new.desk last.ensures.look) (sealed_of w.new.desk row c.phase_shown-phase.result w.ensures.sealed) still)

-- a first look that shows no sealed booking
pub returns-then-not-is_sealed-clause-entries : goal.returns-then-not-is_sealed-clause-entries
returns-then-not-is_sealed-clause-entries c =
    let look = SawRow c.args.row.row 0 c.step_read.result in
    let unsealed : sealed_phase (phase_shown c.args.row.generation c.step_read.result) ≡ false = let shown = c.phase_shown-phase.ensures in let test = c.if-not-is_sealed.ensures in cc in
    (look ∷ [], inl (c.step_read.result, unsealed, refl), step_shape look c.args.desk.now c.step_read.new.desk c.step_read.ensures.look)

pub returns-then-not-is_sealed-clause-holds : goal.returns-then-not-is_sealed-clause-holds
returns-then-not-is_sealed-clause-holds c =
    let look = SawRow c.args.row.row 0 c.step_read.result in
    looks_holds c.args.desk.now c.step_read.new.desk (look ∷ []) (step_shape look c.args.desk.now c.step_read.new.desk c.step_read.ensures.look) c.step_read.ensures.look.same.5 (refl, tt)

pub returns-then-not-is_sealed-clause-endings : goal.returns-then-not-is_sealed-clause-endings
returns-then-not-is_sealed-clause-endings c =
    let look = SawRow c.args.row.row 0 c.step_read.result in
    looks_endings c.args.desk.now c.step_read.new.desk (look ∷ []) (step_shape look c.args.desk.now c.step_read.new.desk c.step_read.ensures.look) (refl, tt)

-- a last look that shows that the row was given away
pub returns-in-Free-clause-entries : goal.returns-in-Free-clause-entries
returns-in-Free-clause-entries c =
    let w = c.read_words-words in
    let last = c.step_read-2 in
    let is_so : sealed_phase c.phase_shown-phase.result ≡ true = search rules in
    let all = looks_whole c.args.desk.now c.step_read.new.desk w.new.desk last.new.desk c.args.row c.step_read.result last.result w.result c.phase_shown-phase.result
    c.step_read.ensures.look c.phase_shown-phase.ensures is_so w.ensures.phase w.ensures.read w.ensures.entries w.ensures.kept last.ensures.look in
    (all_read c.args.row w.result last.result, looks_none c.args.row w.result last.result w.ensures.read (sym c.in-Free.ensures), all.shape)

pub returns-in-Free-clause-holds : goal.returns-in-Free-clause-holds
returns-in-Free-clause-holds c =
    let w = c.read_words-words in
    let last = c.step_read-2 in
    let is_so : sealed_phase c.phase_shown-phase.result ≡ true = search rules in
    let all = looks_whole c.args.desk.now c.step_read.new.desk w.new.desk last.new.desk c.args.row c.step_read.result last.result w.result c.phase_shown-phase.result
    c.step_read.ensures.look c.phase_shown-phase.ensures is_so w.ensures.phase w.ensures.read w.ensures.entries w.ensures.kept last.ensures.look in
    all.holds

pub returns-in-Free-clause-endings : goal.returns-in-Free-clause-endings
returns-in-Free-clause-endings c =
    let w = c.read_words-words in
    let last = c.step_read-2 in
    let is_so : sealed_phase c.phase_shown-phase.result ≡ true = search rules in
    let all = looks_whole c.args.desk.now c.step_read.new.desk w.new.desk last.new.desk c.args.row c.step_read.result last.result w.result c.phase_shown-phase.result
    c.step_read.ensures.look c.phase_shown-phase.ensures is_so w.ensures.phase w.ensures.read w.ensures.entries w.ensures.kept last.ensures.look in
    all.endings

pub returns-in-Free-clause-bound : goal.returns-in-Free-clause-bound
returns-in-Free-clause-bound c =
    let w = c.read_words-words in
    let last = c.step_read-2 in
    let is_so : sealed_phase c.phase_shown-phase.result ≡ true = search rules in
    let all = looks_whole c.args.desk.now c.step_read.new.desk w.new.desk last.new.desk c.args.row c.step_read.result last.result w.result c.phase_shown-phase.result
    c.step_read.ensures.look c.phase_shown-phase.ensures is_so w.ensures.phase w.ensures.read w.ensures.entries w.ensures.kept last.ensures.look in
    all.bound

-- a last look that shows the booking
pub returns-clause-entries : goal.returns-clause-entries
returns-clause-entries c =
    let w = c.read_words-words in
    let last = c.step_read-2 in
    let is_so : sealed_phase c.phase_shown-phase.result ≡ true = search rules in
    let all = looks_whole c.args.desk.now c.step_read.new.desk w.new.desk last.new.desk c.args.row c.step_read.result last.result w.result c.phase_shown-phase.result
    c.step_read.ensures.look c.phase_shown-phase.ensures is_so w.ensures.phase w.ensures.read w.ensures.entries w.ensures.kept last.ensures.look in
    let v = c.view_of in (
      saw_row c.args.row v.result last.result,
      (v.ensures.seen, (last.result, (λ e. c.in_default.not-Free (c.phase_shown-last.ensures ∙ e)), refl)),
      subst (AddsSteps c.args.desk.now last.new.desk) (all_seen c.args.row v.result w.result last.result v.ensures.phase (v.ensures.entries c.args.row.row)) all.shape,
    )

pub returns-clause-holds : goal.returns-clause-holds
returns-clause-holds c =
    let w = c.read_words-words in
    let last = c.step_read-2 in
    let is_so : sealed_phase c.phase_shown-phase.result ≡ true = search rules in
    let all = looks_whole c.args.desk.now c.step_read.new.desk w.new.desk last.new.desk c.args.row c.step_read.result last.result w.result c.phase_shown-phase.result
    c.step_read.ensures.look c.phase_shown-phase.ensures is_so w.ensures.phase w.ensures.read w.ensures.entries w.ensures.kept last.ensures.look in
    all.holds

pub returns-clause-endings : goal.returns-clause-endings
returns-clause-endings c =
    let w = c.read_words-words in
    let last = c.step_read-2 in
    let is_so : sealed_phase c.phase_shown-phase.result ≡ true = search rules in
    let all = looks_whole c.args.desk.now c.step_read.new.desk w.new.desk last.new.desk c.args.row c.step_read.result last.result w.result c.phase_shown-phase.result
    c.step_read.ensures.look c.phase_shown-phase.ensures is_so w.ensures.phase w.ensures.read w.ensures.entries w.ensures.kept last.ensures.look in
    all.endings

pub returns-clause-bound : goal.returns-clause-bound
returns-clause-bound c =
    let w = c.read_words-words in
    let last = c.step_read-2 in
    let is_so : sealed_phase c.phase_shown-phase.result ≡ true = search rules in
    let all = looks_whole c.args.desk.now c.step_read.new.desk w.new.desk last.new.desk c.args.row c.step_read.result last.result w.result c.phase_shown-phase.result
    c.step_read.ensures.look c.phase_shown-phase.ensures is_so w.ensures.phase w.ensures.read w.ensures.entries w.ensures.kept last.ensures.look in
    all.bound

pub returns-clause-sealed : goal.returns-clause-sealed
returns-clause-sealed c =
    let w = c.read_words-words in
    let last = c.step_read-2 in
    let row = c.args.row in
    let on = since_on w.new.desk last.new.desk (SawRow row.row 0 last.result ∷ []) row c.phase_shown-phase.result (step_shape (SawRow row.row 0 last.result) w.new.desk last.new.desk last.ensures.look) w.ensures.sealed in
    subst (IsSealedSince last.new.desk row) (sym (c.view_of.ensures.phase ∙ w.ensures.phase)) on

pub returns-clause-generation : goal.returns-clause-generation
returns-clause-generation c =
    generation_of_seen c.args.books.now c.read_words-words.new.desk c.args.row c.phase_shown-phase.result c.read_words-words.ensures.own c.read_words-words.ensures.sealed
