-- The steps of a sweep, row by row.
use Rattle.std.proofs.Common.{◌≡◌, ◌≢◌, ℕ, zero, suc, ◌+◌, ◌*◌, ◌/◌, ◌%◌, Bool, if◌then◌else◌, eq-eqb, ◌≤◌, ◌<◌, List, [], ◌∷◌, ◌++◌, length, Some, None, refl, sym, ap, ◌∙◌, subst, arith, append_assoc, append-nil, length-append, add-zero}
use Rattle.history_model.specs.Booking.{most_items}
use Rattle.std.specs.List.{AllByRecursion}
use Rattle.leg_masks.specs.Interval.{PlacedSpan as Item}
use Rattle.history_model.specs.declared.entry.Step.{Step}
use Rattle.history_model.specs.declared.entry.Step.TheVariants.{SawRow, LostTurn}
use Rattle.history_model.specs.declared.phase.Phase.{Phase}
use Rattle.history_model.specs.declared.phase.Phase.TheVariants.{Free, Prebooked}
use Rattle.history_model.specs.Phase.{generation_words, phase_shown, row_word_of, said_phase}
use Rattle.history_model.specs.Allows.{IsNoRowWord}
use Rattle.history_model.specs.Laws.{IsSound}
use Rattle.history_model.proofs.PhaseWords.{row_word_same, shown_back}
use Rattle.history_model.proofs.Ranges.{all_found}
use Rattle.rail_ids.specs.Spelling.{last_generation}
use Rattle.rail_ids.specs.declared.RowNo.{RowNo}
use Rattle.history_model.specs.declared.phase.EndKind.{EndKind}
use Rattle.history_model.specs.declared.phase.EndKind.TheVariants.{Expire}
use Rattle.history_model.specs.declared.booking.End.{End}
use Rattle.history_model.specs.Work.{NoStep}
use Rattle.claim_rule.specs.Rule.{DeskView, state_seen}
use Rattle.claim_rule.specs.Desks.{AddsSteps, Stepped}
use Rattle.claim_rule.specs.Calls.{AddsStepsBy}
use Rattle.claim_rule.specs.Endings.{items_read, item_looks}
use Rattle.claim_rule.specs.EndSteps.{ending_steps, gives_from, closing}
use Rattle.claim_rule.specs.Out.{exchanges, KeepsHolds}
use Rattle.claim_rule.proofs.Moves.{is_sound}
use Rattle.claim_rule.proofs.Shapes.{shape_then, step_shape}
use Rattle.claim_rule.proofs.Out.{holds_then}
use Rattle.booking_rows.specs.declared.turns.Aim.TheVariants as aim
use Rattle.booking_rows.specs.Aims.{end_of}
use Rattle.booking_rows.specs.Ends.{IsEndedAs}
use Rattle.booking_rows.specs.SealedRows.{IsSealedSince}
use Rattle.booking_rows.specs.Views.{saw_phase}
use Rattle.booking_rows.proofs.ViewLemmas.{first_shown, first_word, first_shape, sealed_since}
use Rattle.confirm_core.specs.RowEnds.{EndsBooking, ends_as}
use Rattle.confirm_core.proofs.Finishing.{ends_length}
use Rattle.expiry_sweeper.specs.declared.rows.RowSwept.TheVariants as came
use Rattle.expiry_sweeper.specs.OneRow.{RowSweep, SeenPrebooked, passed, given_away, waiting, expired, lost, IsThere, IsRowSweep, SweepsRow, saw_prebooked, row_sweep_steps}
use Rattle.expiry_sweeper.specs.AllRows.{sweeps_steps}

-- what word 0 says of its row's booking

-- a word that says prebooked is a prebooked booking's, of a generation that a row may have
says_prebooked : (row n : ℕ) (a b : DeskView) → Stepped (SawRow row 0 n) a b → said_phase (n % generation_words) ≡ Prebooked → (generation : ℕ) × (generation ≤ last_generation) × (row_word_of Prebooked generation ≡ n)
says_prebooked row n a b did says =
    let r : RowNo = record { row = row; generation = n / generation_words } in
    let shows : Prebooked ≡ phase_shown (n / generation_words) n = sym (ap (λ (t : Bool). if t then said_phase (n % generation_words) else Free) (eq-eqb (n / generation_words) (n / generation_words) refl) ∙ says) in
    let x = first_shown r n Prebooked a b did (λ e. cc) shows in
    let sound = all_found (IsSound b.layout) (state_seen b) row x.0 (is_sound b.layout b.seen did.legal).each x.1 in
    (n / generation_words, subst (λ (k : ℕ). k ≤ last_generation) x.2 sound.generation, sym (first_word r n Prebooked a b did shows refl))

-- another phase's word doesn't say prebooked
pub other_phase : (row n generation : ℕ) (phase : Phase) (a b : DeskView) → Stepped (SawRow row 0 n) a b → row_word_of phase generation ≡ n → phase ≢ Prebooked → said_phase (n % generation_words) ≢ Prebooked
other_phase row n generation phase a b did word other says = let x = says_prebooked row n a b did says in other (row_word_same phase Prebooked generation x.0 (word ∙ sym x.2)).0

-- nor does a word that is no phase's
pub no_phase : (row n : ℕ) (a b : DeskView) → Stepped (SawRow row 0 n) a b → IsNoRowWord n → said_phase (n % generation_words) ≢ Prebooked
no_phase row n a b did none says = let x = says_prebooked row n a b did says in none Prebooked x.0 (omega (arith, x.1)) x.2

-- a prebooked booking's word shows it sealed
pub first_look : (row generation n : ℕ) (phase : Phase) (a b : DeskView) → Stepped (SawRow row 0 n) a b → phase ≡ Prebooked → row_word_of phase generation ≡ n
    → IsSealedSince b (record { row = row; generation = generation }) Prebooked × AddsSteps a b (saw_phase (record { row = row; generation = generation }) Prebooked ∷ [])
first_look row generation n phase a b did is said =
    let r : RowNo = record { row = row; generation = generation } in
    let word : row_word_of Prebooked generation ≡ n = subst (λ (p : Phase). row_word_of p generation ≡ n) is said in
    let shows : Prebooked ≡ phase_shown generation n = sym (shown_back Prebooked generation) ∙ ap (phase_shown generation) word in
    (sealed_since r n Prebooked a b did shows refl, first_shape r n Prebooked a b did shows refl)

-- the sweep of one row

pub passes : (now row n : ℕ) (a b : DeskView) → said_phase (n % generation_words) ≢ Prebooked → Stepped (SawRow row 0 n) a b → SweepsRow now row a b came.Passed
passes now row n a b ne did = (passed n, ne, refl, step_shape (SawRow row 0 n) a b did, tt)

-- all three looks at a prebooked booking
pub all_looks : (row : ℕ) (s : SeenPrebooked) (a b c d : DeskView) → AddsSteps a b (saw_phase (record { row = row; generation = s.generation }) Prebooked ∷ []) → AddsSteps b c (SawRow row 2 s.limit ∷ []) → AddsSteps c d (SawRow row 0 s.last ∷ []) → AddsSteps a d (saw_prebooked row s)
all_looks row s a b c d first limit last = shape_then a b d (saw_phase (record { row = row; generation = s.generation }) Prebooked ∷ []) (SawRow row 2 s.limit ∷ SawRow row 0 s.last ∷ []) first (shape_then b c d (SawRow row 2 s.limit ∷ []) (SawRow row 0 s.last ∷ []) limit last)

pub three_holds : (a b c d : DeskView) → KeepsHolds a b → KeepsHolds b c → KeepsHolds c d → KeepsHolds a d
three_holds a b c d p q r = holds_then a b d p (holds_then b c d q r)

pub gives_away : (now row : ℕ) (s : SeenPrebooked) (a b : DeskView) → phase_shown s.generation s.last ≡ Free → AddsSteps a b (saw_prebooked row s) → SweepsRow now row a b came.Passed
gives_away now row s a b free did = (given_away s, free, refl, did, tt)

pub waits : (now row : ℕ) (s : SeenPrebooked) (a b : DeskView) → IsThere s → now ≤ s.limit → AddsSteps a b (saw_prebooked row s) → SweepsRow now row a b came.Waiting
waits now row s a b there early did = (waiting s, (there, early), refl, did, tt)

pub expires : (now row : ℕ) (s : SeenPrebooked) (a b c : DeskView) → IsThere s → s.limit < now → AddsSteps a b (saw_prebooked row s) → AddsStepsBy (EndsBooking (record { row = row; generation = s.generation }) Prebooked Expire (aim.Expire now) None) b c
    → IsEndedAs c (record { row = row; generation = s.generation }) Expire (end_of (aim.Expire now)) → SweepsRow now row a c came.Expired
expires now row s a b c there late did ended so =
    let e = ended.1 in
    (expired s e.0, (there, late, e.1), refl, shape_then a b c (saw_prebooked row s) (ends_as row Prebooked Expire (end_of (aim.Expire now)) e.0) did (subst (AddsSteps b c) e.2 ended.2), so)

pub loses : (now row : ℕ) (s : SeenPrebooked) (shown : Phase) (a b c : DeskView) → IsThere s → s.limit < now → AddsSteps a b (saw_prebooked row s) → AddsStepsBy (EndsBooking (record { row = row; generation = s.generation }) Prebooked Expire (aim.Expire now) (Some shown)) b c → SweepsRow now row a c came.Lost
loses now row s shown a b c there late did ended =
    let e = ended.1 in
    (lost s e.0, (there, late, e.1), refl, shape_then a b c (saw_prebooked row s) (LostTurn row (row_word_of Prebooked s.generation) e.0 ∷ []) did (subst (AddsSteps b c) e.3 ended.2), tt)

-- one row more

pub steps_more : (now row : ℕ) (ss : List RowSweep) (s : RowSweep) → sweeps_steps now row (ss ++ s ∷ []) ≡ sweeps_steps now row ss ++ row_sweep_steps now (row + length ss) s
steps_more now row [] s = append-nil (row_sweep_steps now row s) ∙ ap (λ (n : ℕ). row_sweep_steps now n s) (sym (add-zero row))
steps_more now row (x ∷ ss) s =
    ap (λ (l : List Step). row_sweep_steps now row x ++ l) (steps_more now (suc row) ss s ∙ ap (λ (n : ℕ). sweeps_steps now (suc row) ss ++ row_sweep_steps now n s) (moved row (length ss)))
    ∙ sym (append_assoc (row_sweep_steps now row x) (sweeps_steps now (suc row) ss) (row_sweep_steps now (row + suc (length ss)) s))
  where
    moved : (r n : ℕ) → suc r + n ≡ r + suc n
    moved r n = omega arith

-- how many steps

row_length : (now row : ℕ) (s : RowSweep) → IsRowSweep now s → length (row_sweep_steps now row s) ≤ 2 * most_items + 9
row_length now row (passed n) is = omega arith
row_length now row (given_away s) is = omega arith
row_length now row (waiting s) is = omega arith
row_length now row (expired s items) is =
    let l = ends_length row Prebooked Expire (end_of (aim.Expire now)) items is.2 in
    let m = length-append (saw_prebooked row s) (ends_as row Prebooked Expire (end_of (aim.Expire now)) items) in omega arith
row_length now row (lost s shown) is = omega arith

pub sweeps_length : (now row : ℕ) (ss : List RowSweep) → AllByRecursion (IsRowSweep now) ss → length (sweeps_steps now row ss) ≤ (2 * most_items + 9) * length ss
sweeps_length now row [] all = omega arith
sweeps_length now row (s ∷ ss) all =
    let l = length-append (row_sweep_steps now row s) (sweeps_steps now (suc row) ss) in
    let m = row_length now row s all.0 in
    let n = sweeps_length now (suc row) ss all.1 in omega arith

-- no step is an exchange

calm_append : (xs ys : List Step) → NoStep exchanges xs → NoStep exchanges ys → NoStep exchanges (xs ++ ys)
calm_append [] ys p q = q
calm_append (x ∷ xs) ys p q = (p.0, calm_append xs ys p.1 q)

calm_looks : (row w : ℕ) (is : List Item) → NoStep exchanges (item_looks row w is)
calm_looks row w [] = tt
calm_looks row w (i ∷ is) = (refl, calm_looks row (suc w) is)

calm_gives : (row k n : ℕ) → NoStep exchanges (gives_from row k n)
calm_gives row k zero = tt
calm_gives row k (suc n) = (refl, calm_gives row (suc k) n)

calm_end : (row : ℕ) (kind : EndKind) (end : End) (is : List Item) → NoStep exchanges (items_read row is ++ ending_steps row kind end is)
calm_end row kind end is =
    calm_append (items_read row is) (ending_steps row kind end is) (refl, calm_looks row 8 is)
    (calm_append (gives_from row 0 (length is)) (closing row kind end) (calm_gives row 0 (length is)) (refl, (refl, (refl, (refl, tt)))))

calm_row : (now row : ℕ) (s : RowSweep) → NoStep exchanges (row_sweep_steps now row s)
calm_row now row (passed n) = (refl, tt)
calm_row now row (given_away s) = (refl, (refl, (refl, tt)))
calm_row now row (waiting s) = (refl, (refl, (refl, tt)))
calm_row now row (expired s items) = (refl, (refl, (refl, (refl, calm_end row Expire (end_of (aim.Expire now)) items))))
calm_row now row (lost s shown) = (refl, (refl, (refl, (refl, tt))))

pub calm_sweeps : (now row : ℕ) (ss : List RowSweep) → NoStep exchanges (sweeps_steps now row ss)
calm_sweeps now row [] = tt
calm_sweeps now row (s ∷ ss) = calm_append (row_sweep_steps now row s) (sweeps_steps now (suc row) ss) (calm_row now row s) (calm_sweeps now (suc row) ss)
