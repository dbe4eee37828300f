-- Looks at a booking's row by a desk that is alone: the last one shows what the first one showed, and no turn behind
-- them is lost.
use Rattle.std.proofs.Common.{◌≡◌, ◌≢◌, ⊎_elim, inl, inr, ℕ, ◌<◌, ◌≤◌, Bool, true, false, cond, List, [], ◌∷◌, ◌++◌, Option, Some, None, ne_eqb, refl, sym, ap, ◌∙◌, subst, arith}
use Rattle.std.specs.Prelude.{◌==◌}
use Rattle.std.specs.Option.{option_map_or}
use Rattle.rail_ids.specs.declared.RowNo.{RowNo}
use Rattle.history_model.specs.declared.entry.Step.{Step}
use Rattle.history_model.specs.declared.entry.Step.TheVariants.{Look, Take, Give, Start, SawRow, Note, Seal, Turn, LostTurn, Close, Met}
use Rattle.history_model.specs.declared.phase.Phase.{Phase}
use Rattle.history_model.specs.declared.phase.Phase.TheVariants.{Free}
use Rattle.history_model.specs.Phase.{is_sealed, row_word_of, phase_shown}
use Rattle.history_model.specs.Words.{row_word}
use Rattle.history_model.specs.Apply.{apply_step}
use Rattle.history_model.specs.Booking.{Booking, Layout, State, present, word_at}
use Rattle.history_model.specs.History.{IsLegalFrom}
use Rattle.history_model.proofs.ListLemmas.{All-left}
use Rattle.history_model.proofs.PhaseWords.{row_word_same, shown_back, present_shown}
use Rattle.claim_rule.specs.Out.{is_look, AllLooks}
use Rattle.booking_rows.specs.Aims.{LosesTurn}
use Rattle.booking_rows.specs.Views.{saw_phase, words_read, LooksNone}
use Rattle.booking_rows.proofs.Looked.{row_looked}
use Rattle.confirm_core.specs.Looks.{IsUnknown}
use Rattle.lone_desk.specs.Lone.{entries_of, after_steps}
use Rattle.lone_desk.proofs.Looking.{legal_parts}

-- looks change nothing

look_stays : (s : State) (d : ℕ) (st : Step) → is_look st ≡ true → apply_step s d st ≡ s
look_stays s d (Look place half word) is = refl
look_stays s d (SawRow r w n) is = refl
look_stays s d (LostTurn r wanted was) is = refl
look_stays s d Met is = refl
look_stays s d (Take r place span) is = absurd (let no : false ≡ true = is in cc)
look_stays s d (Give r item) is = absurd (let no : false ≡ true = is in cc)
look_stays s d (Start r generation) is = absurd (let no : false ≡ true = is in cc)
look_stays s d (Note r w n) is = absurd (let no : false ≡ true = is in cc)
look_stays s d (Seal r p) is = absurd (let no : false ≡ true = is in cc)
look_stays s d (Turn r from to m a x) is = absurd (let no : false ≡ true = is in cc)
look_stays s d (Close r) is = absurd (let no : false ≡ true = is in cc)

pub looks_stay : (s : State) (d : ℕ) (es : List Step) → AllLooks es → after_steps s d es ≡ s
looks_stay s d [] all = refl
looks_stay s d (st ∷ es) all = ap (λ (u : State). after_steps u d es) (look_stays s d st all.0) ∙ looks_stay s d es all.1

-- the last of some looks shows what the row has at the first
pub last_look : (g : Layout) (s : State) (d : ℕ) (looks : List Step) (r last : ℕ) → AllLooks looks → IsLegalFrom g s (entries_of d (looks ++ SawRow r 0 last ∷ [])) → last ≡ row_word s r 0
last_look g s d looks r last all legal =
    let both = legal_parts g s d looks (SawRow r 0 last ∷ []) legal in
    both.1.0.2 ∙ ap (λ (u : State). row_word u r 0) (looks_stay s d looks all)

-- what a row has of its present booking

pub word_here : (s : State) (row : RowNo) (b : Booking) → present s row.row ≡ Some b → b.generation ≡ row.generation → row_word s row.row 0 ≡ row_word_of b.phase row.generation
word_here s row b at same =
    ap (λ (o : Option Booking). option_map_or (λ (x : Booking). row_word_of x.phase x.generation) o 0) at ∙ ap (row_word_of b.phase) same

pub word_shown : (s : State) (row w : ℕ) (b : Booking) → 1 ≤ w → present s row ≡ Some b → row_word s row w ≡ word_at b w
word_shown s row w b some at =
    ap (λ (o : Option Booking). option_map_or (λ (x : Booking). cond (w == 0) (row_word_of x.phase x.generation) (word_at x w)) o 0) at
    ∙ ap (λ (t : Bool). cond t (row_word_of b.phase b.generation) (word_at b w)) (ne_eqb w 0 (λ e. omega (arith, e, some)))

-- the booking's phase, by a look at word 0
pub phase_at : (s : State) (row : RowNo) (b : Booking) (p : Phase) → present s row.row ≡ Some b → b.generation ≡ row.generation → row_word_of p row.generation ≡ row_word s row.row 0 → b.phase ≡ p
phase_at s row b p at same word = sym (row_word_same p b.phase row.generation row.generation (word ∙ word_here s row b at same)).0

pub phase_seen : (s : State) (row : RowNo) (b : Booking) (n : ℕ) → present s row.row ≡ Some b → b.generation ≡ row.generation → n ≡ row_word s row.row 0 → phase_shown row.generation n ≡ b.phase
phase_seen s row b n at same word = ap (phase_shown row.generation) (word ∙ word_here s row b at same) ∙ shown_back b.phase row.generation

pub sealed_not_free : (p : Phase) → is_sealed p ≡ true → p ≡ Free → ⊥
sealed_not_free p sealed e = let no : false ≡ true = sym (ap is_sealed e) ∙ sealed in cc

-- a look that shows a booking sealed shows its row's present one
pub seen_first : (s : State) (row : RowNo) (p : Phase) → is_sealed p ≡ true → row_word_of p row.generation ≡ row_word s row.row 0
    → (b : Booking) × (present s row.row ≡ Some b) × (b.generation ≡ row.generation) × (b.phase ≡ p)
seen_first s row p sealed word =
    present_shown s row.row row.generation p (sealed_not_free p sealed) (ap (phase_shown row.generation) (sym word) ∙ shown_back p row.generation)

-- the last look doesn't show the row given away
pub never_away : (g : Layout) (s : State) (d : ℕ) (row : RowNo) (p : Phase) (looks : List Step) (last : ℕ) → is_sealed p ≡ true → AllLooks looks
    → IsLegalFrom g s (entries_of d (saw_phase row p ∷ looks ++ SawRow row.row 0 last ∷ [])) → phase_shown row.generation last ≡ Free → ⊥
never_away g s d row p looks last sealed all legal free =
    let word : last ≡ row_word_of p row.generation = last_look g s d (saw_phase row p ∷ looks) row.row last (refl, all) legal ∙ sym legal.0.2 in
    sealed_not_free p sealed (sym (shown_back p row.generation) ∙ (ap (phase_shown row.generation) (sym word) ∙ free))

-- looks that show no booking show none that is sealed
pub none_shown : (g : Layout) (s : State) (d : ℕ) (row : RowNo) (es : List Step) → LooksNone row es → IsLegalFrom g s (entries_of d es)
    → is_sealed (phase_shown row.generation (row_word s row.row 0)) ≡ false
none_shown g s d row es (inl (n, unsealed, is)) legal =
    let l = subst (λ (x : List Step). IsLegalFrom g s (entries_of d x)) is legal in
    ap (λ (k : ℕ). is_sealed (phase_shown row.generation k)) (sym l.0.2) ∙ unsealed
none_shown g s d row es (inr (ws, last, read, free, is)) legal =
    let l = subst (λ (x : List Step). IsLegalFrom g s (entries_of d x)) is legal in
    let all = subst AllLooks is (row_looked row None es (inr (ws, last, read, free, is))) in
    absurd (never_away g s d row ws.phase (words_read row.row ws) last read.sealed (All-left (λ st. is_look st ≡ true) (words_read row.row ws) (SawRow row.row 0 last ∷ []) all.1) l free)

-- no turn is lost, for nothing stands between the looks and the turn

pub not_lost : (g : Layout) (s : State) (d : ℕ) (row : RowNo) (wanted shown : Phase) (es : List Step) → row_word s row.row 0 ≡ row_word_of wanted row.generation → LosesTurn row wanted shown es
    → IsLegalFrom g s (entries_of d es) → ⊥
not_lost g s d row wanted shown es word (n, other, of, is) legal =
    let l = subst (λ (x : List Step). IsLegalFrom g s (entries_of d x)) is legal in
    other (l.0.1 ∙ word)

pub never_lost : (g : Layout) (s : State) (d : ℕ) (row : RowNo) (wanted shown : Phase) (looks back es : List Step) → AllLooks looks → LosesTurn row wanted shown back
    → es ≡ (saw_phase row wanted ∷ looks) ++ back → IsLegalFrom g s (entries_of d es) → ⊥
never_lost g s d row wanted shown looks back es all loses is legal =
    let front = saw_phase row wanted ∷ looks in
    let both = legal_parts g s d front back (subst (λ (x : List Step). IsLegalFrom g s (entries_of d x)) is legal) in
    not_lost g s d row wanted shown back (sym both.0.0.2) loses (subst (λ (u : State). IsLegalFrom g u (entries_of d back)) (looks_stay s d front (refl, all)) both.1)

-- the looks of a search: at the phase, at the retailer, at further words, and at the phase again
abbrev pub SawAgain : RowNo → Phase → ℕ → ℕ → List Step → Type 0
SawAgain row p who last es = (more : List Step) × AllLooks more × (es ≡ saw_phase row p ∷ SawRow row.row 1 who ∷ more ++ SawRow row.row 0 last ∷ [])

-- a command's own look finds the booking that was found before
pub never_unknown : (g : Layout) (s : State) (d rows : ℕ) (row : RowNo) (retailer : ℕ) (b : Booking) (Saw : Phase → ℕ → ℕ → List Step → Type 0) (es : List Step)
    → ((p : Phase) (who last : ℕ) (l : List Step) → Saw p who last l → SawAgain row p who last l)
    → present s row.row ≡ Some b → b.generation ≡ row.generation → is_sealed b.phase ≡ true → word_at b 1 ≡ retailer → row.row < rows → IsLegalFrom g s (entries_of d es)
    → IsUnknown rows row retailer Saw es → ⊥
never_unknown g s d rows row retailer b Saw es saws at same sealed mine below legal (inl (past, none)) = omega (arith, past, below)
never_unknown g s d rows row retailer b Saw es saws at same sealed mine below legal (inr (here, p, inl (unsealed, (n, shown, is)))) =
    let l = subst (λ (x : List Step). IsLegalFrom g s (entries_of d x)) is legal in
    let no : false ≡ true = sym unsealed ∙ (ap is_sealed (sym shown ∙ phase_seen s row b n at same l.0.2) ∙ sealed) in cc
never_unknown g s d rows row retailer b Saw es saws at same sealed mine below legal (inr (here, p, inr (there, who, last, cause, saw))) =
    let x = saws p who last es saw in
    let l = subst (λ (u : List Step). IsLegalFrom g s (entries_of d u)) x.2 legal in
    ⊎_elim
    (λ (free : phase_shown row.generation last ≡ Free). never_away g s d row p (SawRow row.row 1 who ∷ x.0) last there (refl, x.1) l free)
    (λ (other : who ≢ retailer). other ((l.1.0.2 ∙ word_shown s row.row 1 b (omega arith) at) ∙ mine))
    cause
