-- What the looks at one row show.
use Rattle.std.proofs.Common.{◌≡◌, ◌≢◌, ◌⊎◌, inl, inr, ℕ, ◌+◌, ◌*◌, ◌/◌, ◌%◌, ◌<◌, ◌≤◌, Bool, true, false, if◌then◌else◌, eq-eqb, [], ◌∷◌, Option, None, option_map, refl, sym, ap, ◌∙◌, subst, arith}
use Rattle.rail_ids.specs.declared.RowNo.{RowNo}
use Rattle.rail_ids.specs.Spelling.{last_generation}
use Rattle.history_model.specs.declared.entry.Step.TheVariants.{SawRow}
use Rattle.history_model.specs.declared.phase.Phase.{Phase}
use Rattle.history_model.specs.declared.phase.Phase.TheVariants.{Free, Making, Prebooked, Confirmed, Fulfilled, Ending, Ended}
use Rattle.history_model.specs.declared.phase.EndKind.TheVariants.{Release, Expire, Refund, Exchange}
use Rattle.history_model.specs.Allows.{IsNoRowWord}
use Rattle.history_model.specs.Laws.{IsSound}
use Rattle.history_model.specs.Phase.{generation_words, is_sealed, phase_shown, row_word_of, said_phase, word_of_phase}
use Rattle.history_model.proofs.PhaseWords.{phase_back}
use Rattle.history_model.proofs.Ranges.{all_found}
use Rattle.history_model.proofs.Writing.{word_in}
use Rattle.claim_rule.specs.Calls.{AddsStepsBy}
use Rattle.claim_rule.specs.Desks.{Stepped}
use Rattle.claim_rule.specs.Out.{KeepsEndings, KeepsHolds}
use Rattle.claim_rule.specs.Rule.{DeskView, state_seen}
use Rattle.claim_rule.proofs.Moves.{is_sound}
use Rattle.claim_rule.proofs.Out.{looks_endings, looks_holds}
use Rattle.claim_rule.proofs.Reading.{saw}
use Rattle.claim_rule.proofs.Shapes.{shape_then, step_shape}
use Rattle.booking_rows.specs.Views.{LooksRow, RowSeen}
use Rattle.booking_rows.proofs.ViewLemmas.{first_shown}
use Rattle.row_cuts.specs.Looks.{GoesOn, LooksAt, RowLook, generation_looked, kept_by, kept_seen, kept_unmade, phase_looked}

small : (phase : Phase) → word_of_phase phase < 16
small Free = omega arith
small Making = omega arith
small Prebooked = omega arith
small Confirmed = omega arith
small Fulfilled = omega arith
small (Ending Release) = omega arith
small (Ending Expire) = omega arith
small (Ending Refund) = omega arith
small (Ending Exchange) = omega arith
small (Ended Release) = omega arith
small (Ended Expire) = omega arith
small (Ended Refund) = omega arith
small (Ended Exchange) = omega arith

high : (a n : ℕ) → a < 16 → (a + 16 * n) / 16 ≡ n
high a n h = omega arith

low : (a n : ℕ) → a < 16 → (a + 16 * n) % 16 ≡ a
low a n h = omega arith

-- a phase and a generation are what their word says
pub phase_said : (phase : Phase) (generation n : ℕ) → row_word_of phase generation ≡ n → said_phase (n % generation_words) ≡ phase
phase_said phase generation n is =
    ap (λ (w : ℕ). said_phase (w % 16)) (sym is)
    ∙ (ap said_phase (low (word_of_phase phase) generation (small phase)) ∙ phase_back phase)

pub generation_said : (phase : Phase) (generation n : ℕ) → row_word_of phase generation ≡ n → n / generation_words ≡ generation
generation_said phase generation n is = ap (λ (w : ℕ). w / 16) (sym is) ∙ high (word_of_phase phase) generation (small phase)

free_or_not : (phase : Phase) → (phase ≡ Free) ⊎ (phase ≢ Free)
free_or_not Free = inl refl
free_or_not Making = inr (λ e. cc)
free_or_not Prebooked = inr (λ e. cc)
free_or_not Confirmed = inr (λ e. cc)
free_or_not Fulfilled = inr (λ e. cc)
free_or_not (Ending kind) = inr (λ e. cc)
free_or_not (Ended kind) = inr (λ e. cc)

pub sealed_left : (phase : Phase) → (phase ≡ Free → ⊥) → (phase ≡ Making → ⊥) → is_sealed phase ≡ true
sealed_left Free free making = absurd (free refl)
sealed_left Making free making = absurd (making refl)
sealed_left Prebooked free making = refl
sealed_left Confirmed free making = refl
sealed_left Fulfilled free making = refl
sealed_left (Ending kind) free making = refl
sealed_left (Ended kind) free making = refl

-- a word that says another phase than free is that of a booking, of a generation that a row may have
says : (row n : ℕ) (a b : DeskView) → Stepped (SawRow row 0 n) a b → said_phase (n % generation_words) ≢ Free
    → (n / generation_words ≤ last_generation) × (row_word_of (said_phase (n % generation_words)) (n / generation_words) ≡ n)
says row n a b did some =
    let phase = said_phase (n % generation_words) in
    let r : RowNo = record { row = row; generation = n / generation_words } in
    let shows : phase ≡ phase_shown (n / generation_words) n =
    sym (ap (λ (t : Bool). if t then said_phase (n % generation_words) else Free) (eq-eqb (n / generation_words) (n / generation_words) refl)) in
    let x = first_shown r n phase a b did some shows in
    let sound = all_found (IsSound b.layout) (state_seen b) row x.0 (is_sound b.layout b.seen did.legal).each x.1 in (
      subst (λ (k : ℕ). k ≤ last_generation) x.2 sound.generation,
      sym (saw row 0 n a b did ∙ (ap (word_in 0) x.1 ∙ (λ i. row_word_of (x.3 i) (x.2 i)))),
    )

-- so a word that is no phase's of any generation isn't seen
pub free_said : (row n : ℕ) (a b : DeskView) → Stepped (SawRow row 0 n) a b → IsNoRowWord n → said_phase (n % generation_words) ≡ Free
free_said row n a b did none = elim (free_or_not (said_phase (n % generation_words))) [
  | inl e ↦ e
  | inr some ↦ absurd (let x = says row n a b did some in none (said_phase (n % generation_words)) (n / generation_words) (omega (arith, x.0)) x.1)
]

-- the first look alone
pub first_holds : (row n : ℕ) (a b : DeskView) → Stepped (SawRow row 0 n) a b → KeepsHolds a b
first_holds row n a b did = looks_holds a b (SawRow row 0 n ∷ []) (step_shape (SawRow row 0 n) a b did) did.same.5 (refl, tt)

pub first_endings : (row n : ℕ) (a b : DeskView) → Stepped (SawRow row 0 n) a b → KeepsEndings a b
first_endings row n a b did = looks_endings a b (SawRow row 0 n ∷ []) (step_shape (SawRow row 0 n) a b did) (refl, tt)

pub free_looks : (row n : ℕ) (a b : DeskView) → Stepped (SawRow row 0 n) a b → said_phase (n % generation_words) ≡ Free → AddsStepsBy (LooksAt row None) a b
free_looks row n a b did free =
    let l : RowLook = record { row = row; word = n; seen = None; after = [] } in
    (SawRow row 0 n ∷ [], (l, subst (λ (p : Phase). GoesOn (is_sealed p) l) (sym free) (refl, refl), refl, ap (λ (p : Phase). kept_by p l) free, refl), step_shape (SawRow row 0 n) a b did)

pub unmade_looks : (row n generation : ℕ) (a b : DeskView) → Stepped (SawRow row 0 n) a b → said_phase (n % generation_words) ≡ Making → n / generation_words ≡ generation
    → AddsStepsBy (LooksAt row (kept_unmade row generation)) a b
unmade_looks row n generation a b did making said =
    let l : RowLook = record { row = row; word = n; seen = None; after = [] } in (
      SawRow row 0 n ∷ [],
      (l, subst (λ (p : Phase). GoesOn (is_sealed p) l) (sym making) (refl, refl), refl, ap (λ (p : Phase). kept_by p l) making ∙ ap (kept_unmade row) said, refl),
      step_shape (SawRow row 0 n) a b did,
    )

kept_sealed : (phase : Phase) (l : RowLook) → is_sealed phase ≡ true → kept_by phase l ≡ option_map (kept_seen l.row (generation_looked l)) l.seen
kept_sealed Free l sealed = absurd (let no : false ≡ true = sealed in cc)
kept_sealed Making l sealed = absurd (let no : false ≡ true = sealed in cc)
kept_sealed Prebooked l sealed = refl
kept_sealed Confirmed l sealed = refl
kept_sealed Fulfilled l sealed = refl
kept_sealed (Ending kind) l sealed = refl
kept_sealed (Ended kind) l sealed = refl

-- the first look, and those at a sealed booking
pub sealed_looks : (row n generation : ℕ) (phase : Phase) (v : Option RowSeen) (a b c : DeskView) → Stepped (SawRow row 0 n) a b → said_phase (n % generation_words) ≡ phase → n / generation_words ≡ generation → is_sealed phase ≡ true
    → AddsStepsBy (LooksRow (record { row = row; generation = generation }) v) b c → AddsStepsBy (LooksAt row (option_map (kept_seen row generation) v)) a c
sealed_looks row n generation phase v a b c did said counted sealed (es, looks, more) =
    let l : RowLook = record { row = row; word = n; seen = v; after = es } in
    let at : LooksRow (record { row = row; generation = n / generation_words }) v es =
    subst (λ (g : ℕ). LooksRow (record { row = row; generation = g }) v es) (sym counted) looks in
    let is_so : is_sealed (phase_looked l) ≡ true = ap is_sealed said ∙ sealed in (
      SawRow row 0 n ∷ es,
      (
        l,
        subst (λ (t : Bool). GoesOn t l) (sym is_so) at,
        refl,
        kept_sealed (phase_looked l) l is_so ∙ ap (λ (g : ℕ). option_map (kept_seen row g) v) counted,
        refl,
      ),
      shape_then a b c (SawRow row 0 n ∷ []) es (step_shape (SawRow row 0 n) a b did) more,
    )
