-- Commands on a booking, at a desk that is alone.
use Rattle.std.proofs.Common.{◌≡◌, ◌≢◌, ℕ, ◌<◌, ◌≤◌, inl, inr, Bool, true, false, cond, ne_eqb, eq-eqb, List, [], ◌∷◌, ◌++◌, Some, None, refl, sym, ap, ◌∙◌, subst, arith}
use Rattle.std.specs.Prelude.{◌==◌}
use Rattle.std.proofs.lemmas.Bool.{lt-ltb, le-ltb}
use Rattle.history_model.specs.declared.phase.Phase.{Phase}
use Rattle.history_model.specs.declared.phase.Phase.TheVariants as phase
use Rattle.history_model.specs.declared.phase.EndKind.TheVariants as kind
use Rattle.history_model.specs.declared.entry.Step.{Step}
use Rattle.history_model.specs.declared.entry.Step.TheVariants.{SawRow}
use Rattle.history_model.specs.Phase.{is_sealed, word_of_phase, row_word_of}
use Rattle.history_model.specs.Words.{row_word}
use Rattle.history_model.specs.Booking.{Booking, Layout, State, present, word_at}
use Rattle.history_model.specs.History.{IsLegalFrom}
use Rattle.history_model.specs.Laws.{IsWellFormed, is_owners}
use Rattle.history_model.proofs.PhaseWords.{word_phase}
use Rattle.rail_ids.specs.declared.RowNo.{RowNo}
use Rattle.booking_rows.specs.Views.{RowSeen}
use Rattle.booking_rows.specs.Aims.{end_of, turn_of, LosesTurn}
use Rattle.booking_rows.specs.declared.turns.Aim.TheVariants as aim
use Rattle.confirm_core.specs.Looks.{saw_owner, saw_terms, SawOwned, FindsOwned}
use Rattle.confirm_core.specs.RowEnds.{ends_as}
use Rattle.confirm_core.specs.declared.confirming.Confirmed.{Confirmed}
use Rattle.confirm_core.specs.declared.confirming.Confirmed.TheVariants as came
use Rattle.confirm_core.specs.Confirming.{Confirms, SawTerms}
use Rattle.confirm_core.specs.declared.fulfilling.Fulfilment.{Fulfilment}
use Rattle.confirm_core.specs.declared.fulfilling.Fulfilment.TheVariants as collected
use Rattle.confirm_core.specs.Fulfilling.{Fulfils}
use Rattle.refund_core.specs.declared.releasing.Released.{Released}
use Rattle.refund_core.specs.declared.releasing.Released.TheVariants as given
use Rattle.refund_core.specs.Releasing.{Releases}
use Rattle.osdm_parts.specs.declared.problem.Problem.TheVariants.{TooLate, WrongState}
use Rattle.osdm_texts.specs.Answers.{Reply, booking, problem}
use Rattle.booking_service.specs.Deciding.{in_phase, at_end, confirm_reply, fulfil_reply, release_reply}
use Rattle.lone_desk.specs.Lone.{entries_of, after_steps}
use Rattle.plain_host.specs.Plain.{Plain, Outcome, with_view}
use Rattle.plain_host.specs.Outcomes.{refusing, changed_to, wrong, confirmed_by, confirmed, fulfilled, released}
use Rattle.plain_host.specs.PlainOf.{row_of, view_of, plain_in}
use Rattle.plain_host.specs.Settled.{IsStanding, IsSettled}
use Rattle.plain_host.proofs.Standings.{stands, changed_standing}
use Rattle.plain_host.proofs.Changes.{steps_on, steps_key, AreOn, steps_change, ends_on, ends_leave}
use Rattle.plain_host.proofs.Staying.{settled_with}
use Rattle.plain_host.proofs.Looks.{word_shown, phase_at, never_lost, never_unknown}

-- the reply is the outcome's; the state has what the outcome leaves, and is settled
pub record ComesTo (o : Outcome) (t : State) (reply : Reply) : Type 0 where
  pub reply_is : reply ≡ o.reply
  pub plain_is : plain_in t ≡ o.plain
  pub settled : IsSettled t

-- steps on a row leave the list with its booking's new view
pub row_changed : (g : Layout) (s : State) (d : ℕ) (row : RowNo) (b : Booking) (steps : List Step) (v : RowSeen) → IsWellFormed g s → present s row.row ≡ Some b → b.generation ≡ row.generation
    → is_sealed b.phase ≡ true → IsSettled s → AreOn row.row steps → IsStanding (steps_on d steps b) → view_of (steps_on d steps b) ≡ v
    → (plain_in (after_steps s d steps) ≡ with_view (plain_in s) row v) × IsSettled (after_steps s d steps)
row_changed g s d row b steps v good at same sealed settled on left view =
    let st = stands g s row.row b good at in
    let c = steps_on d steps b in
    let is : after_steps s d steps ≡ st.before ++ c ∷ st.after = steps_change s b row.row d steps st on in
    let now = changed_standing s (after_steps s d steps) row.row b c st is (steps_key d steps b) sealed left.sealed in
    let of : row_of b ≡ row = λ i. record { row = st.same i; generation = same i } in
    let list : plain_in (after_steps s d steps) ≡ with_view (plain_in s) (row_of b) (view_of c) = λ i. record { bookings = now.0 i; kept = now.1 i } in (
      list ∙ (λ i. with_view (plain_in s) (of i) (view i)),
      subst IsSettled (sym is) (settled_with st.before st.after b c sealed left (subst IsSettled st.is settled)),
    )

pub is_in_yes : (p q : Phase) → p ≡ q → (word_of_phase p == word_of_phase q) ≡ true
is_in_yes p q e = eq-eqb (word_of_phase p) (word_of_phase q) (ap word_of_phase e)

pub is_in_no : (p q : Phase) → p ≢ q → (word_of_phase p == word_of_phase q) ≡ false
is_in_no p q ne = ne_eqb (word_of_phase p) (word_of_phase q) (λ e. ne (word_phase p q e))

-- confirming

in_time : (row : RowNo) (now : ℕ) (plain : Plain) (v : RowSeen) → v.phase ≡ phase.Prebooked → now ≤ v.limit
    → confirmed row now plain v ≡ changed_to plain row (in_phase phase.Confirmed v)
in_time row now plain v is le =
    ap (λ (t : Bool). cond t (confirmed_by row now plain v) (wrong plain v)) (is_in_yes v.phase phase.Prebooked is)
    ∙ ap (λ (t : Bool). cond t (refusing (TooLate v.limit now) plain) (changed_to plain row (in_phase phase.Confirmed v))) (le-ltb v.limit now le)

too_late : (row : RowNo) (now : ℕ) (plain : Plain) (v : RowSeen) → v.phase ≡ phase.Prebooked → v.limit < now
    → confirmed row now plain v ≡ refusing (TooLate v.limit now) plain
too_late row now plain v is late =
    ap (λ (t : Bool). cond t (confirmed_by row now plain v) (wrong plain v)) (is_in_yes v.phase phase.Prebooked is)
    ∙ ap (λ (t : Bool). cond t (refusing (TooLate v.limit now) plain) (changed_to plain row (in_phase phase.Confirmed v))) (lt-ltb v.limit now late)

not_confirmed : (row : RowNo) (now : ℕ) (plain : Plain) (v : RowSeen) → v.phase ≢ phase.Prebooked → confirmed row now plain v ≡ wrong plain v
not_confirmed row now plain v ne =
    ap (λ (t : Bool). cond t (confirmed_by row now plain v) (wrong plain v)) (is_in_no v.phase phase.Prebooked ne)

-- the phase shown was the booking's, and another than the one wanted
wrong_phase : (s : State) (row : RowNo) (b : Booking) (wanted p : Phase) → present s row.row ≡ Some b → b.generation ≡ row.generation → p ≢ wanted → row_word_of p row.generation ≡ row_word s row.row 0
    → (b.phase ≢ wanted) × (problem (WrongState p) ≡ problem (WrongState b.phase))
wrong_phase s row b wanted p at same ne word =
    let is = phase_at s row b p at same word in
    ((λ e. ne (sym is ∙ e)), ap (λ (q : Phase). problem (WrongState q)) (sym is))

pub confirm_comes : (g : Layout) (s : State) (d rows : ℕ) (row : RowNo) (retailer now : ℕ) (b : Booking) (a : Confirmed) (es : List Step) → IsWellFormed g s → present s row.row ≡ Some b → b.generation ≡ row.generation
    → is_sealed b.phase ≡ true → word_at b 1 ≡ retailer → row.row < rows → IsSettled s → IsLegalFrom g s (entries_of d es) → Confirms rows row retailer now a es
    → ComesTo (confirmed row now (plain_in s) (view_of b)) (after_steps s d es) (confirm_reply row now (view_of b) a)
confirm_comes g s d rows row retailer now b came.Done es good at same sealed mine below settled legal (here, (limit, last, le, kept, is)) =
    let l = subst (λ (x : List Step). IsLegalFrom g s (entries_of d x)) is legal in
    let prebooked = phase_at s row b phase.Prebooked at same l.0.2 in
    let its : limit ≡ word_at b 2 = l.1.1.0.2 ∙ word_shown s row.row 2 b (omega arith) at in
    let steps = saw_terms row phase.Prebooked retailer limit last ++ turn_of row.row phase.Prebooked (aim.Confirm now) ∷ [] in
    let done = row_changed g s d row b steps (in_phase phase.Confirmed (view_of b)) good at same sealed settled (refl, (refl, (refl, (refl, (eq-eqb row.row row.row refl, tt))))) (record { sealed = refl; still = refl }) refl in
    subst (λ (x : List Step). ComesTo (confirmed row now (plain_in s) (view_of b)) (after_steps s d x) (booking row (in_phase phase.Confirmed (view_of b)))) (sym is)
    (subst (λ (o : Outcome). ComesTo o (after_steps s d steps) (booking row (in_phase phase.Confirmed (view_of b))))
    (sym (in_time row now (plain_in s) (view_of b) prebooked (subst (λ (n : ℕ). now ≤ n) its le))) (record { reply_is = refl; plain_is = done.0; settled = done.1 }))
confirm_comes g s d rows row retailer now b came.Unknown es good at same sealed mine below settled legal (inl did) =
    absurd (never_unknown g s d rows row retailer b (SawTerms row) es (λ p who last l saw. (SawRow row.row 2 saw.0 ∷ [], (refl, tt), saw.1)) at same sealed mine below legal did)
confirm_comes g s d rows row retailer now b came.Unknown es good at same sealed mine below settled legal (inr (here, (limit, (front, back, (timely, (last, kept, first)), loses, is)))) =
    absurd (never_lost g s d row phase.Prebooked phase.Free (SawRow row.row 1 retailer ∷ SawRow row.row 2 limit ∷ SawRow row.row 0 last ∷ []) back es (refl, (refl, (refl, tt))) loses (is ∙ ap (λ (x : List Step). x ++ back) first) legal)
confirm_comes g s d rows row retailer now b (came.TooLate limit) es good at same sealed mine below settled legal (here, late, (last, kept, is)) =
    let l = subst (λ (x : List Step). IsLegalFrom g s (entries_of d x)) is legal in
    let prebooked = phase_at s row b phase.Prebooked at same l.0.2 in
    let its : limit ≡ word_at b 2 = l.1.1.0.2 ∙ word_shown s row.row 2 b (omega arith) at in
    subst (λ (x : List Step). ComesTo (confirmed row now (plain_in s) (view_of b)) (after_steps s d x) (problem (TooLate limit now))) (sym is)
    (subst (λ (o : Outcome). ComesTo o s (problem (TooLate limit now)))
    (sym (too_late row now (plain_in s) (view_of b) prebooked (subst (λ (n : ℕ). n < now) its late)))
    (record { reply_is = ap (λ (n : ℕ). problem (TooLate n now)) its; plain_is = refl; settled = settled }))
confirm_comes g s d rows row retailer now b (came.WrongState p) es good at same sealed mine below settled legal (here, (limit, inl (ne, shut, (timely, (last, kept, is))))) =
    let l = subst (λ (x : List Step). IsLegalFrom g s (entries_of d x)) is legal in
    let w = wrong_phase s row b phase.Prebooked p at same ne l.0.2 in
    subst (λ (x : List Step). ComesTo (confirmed row now (plain_in s) (view_of b)) (after_steps s d x) (problem (WrongState p))) (sym is)
    (subst (λ (o : Outcome). ComesTo o s (problem (WrongState p))) (sym (not_confirmed row now (plain_in s) (view_of b) w.0)) (record { reply_is = w.1; plain_is = refl; settled = settled }))
confirm_comes g s d rows row retailer now b (came.WrongState p) es good at same sealed mine below settled legal (here, (limit, inr (some, front, back, (timely, (last, kept, first)), loses, is))) =
    absurd (never_lost g s d row phase.Prebooked p (SawRow row.row 1 retailer ∷ SawRow row.row 2 limit ∷ SawRow row.row 0 last ∷ []) back es (refl, (refl, (refl, tt))) loses (is ∙ ap (λ (x : List Step). x ++ back) first) legal)

-- where the looks at the owner are followed by a lost turn
owner_loses : (g : Layout) (s : State) (d : ℕ) (row : RowNo) (wanted shown : Phase) (retailer : ℕ) (front back es : List Step) → SawOwned row retailer wanted front → LosesTurn row wanted shown back
    → es ≡ front ++ back → IsLegalFrom g s (entries_of d es) → ⊥
owner_loses g s d row wanted shown retailer front back es (last, kept, first) loses is legal =
    never_lost g s d row wanted shown (SawRow row.row 1 retailer ∷ SawRow row.row 0 last ∷ []) back es (refl, (refl, tt)) loses (is ∙ ap (λ (x : List Step). x ++ back) first) legal

owner_unknown : (g : Layout) (s : State) (d rows : ℕ) (row : RowNo) (retailer : ℕ) (b : Booking) (es : List Step) → present s row.row ≡ Some b → b.generation ≡ row.generation → is_sealed b.phase ≡ true
    → word_at b 1 ≡ retailer → row.row < rows → IsLegalFrom g s (entries_of d es) → FindsOwned rows row retailer None es → ⊥
owner_unknown g s d rows row retailer b es at same sealed mine below legal did =
    never_unknown g s d rows row retailer b (λ p who last l. l ≡ saw_owner row p who last) es (λ p who last l saw. ([], tt, saw)) at same sealed mine below legal did

-- collecting

is_collected : (row : RowNo) (plain : Plain) (v : RowSeen) → v.phase ≡ phase.Confirmed → fulfilled row plain v ≡ changed_to plain row (in_phase phase.Fulfilled v)
is_collected row plain v is =
    ap (λ (t : Bool). cond t (changed_to plain row (in_phase phase.Fulfilled v)) (wrong plain v)) (is_in_yes v.phase phase.Confirmed is)

not_collected : (row : RowNo) (plain : Plain) (v : RowSeen) → v.phase ≢ phase.Confirmed → fulfilled row plain v ≡ wrong plain v
not_collected row plain v ne =
    ap (λ (t : Bool). cond t (changed_to plain row (in_phase phase.Fulfilled v)) (wrong plain v)) (is_in_no v.phase phase.Confirmed ne)

pub fulfil_comes : (g : Layout) (s : State) (d rows : ℕ) (row : RowNo) (retailer : ℕ) (b : Booking) (a : Fulfilment) (es : List Step) → IsWellFormed g s → present s row.row ≡ Some b → b.generation ≡ row.generation
    → is_sealed b.phase ≡ true → word_at b 1 ≡ retailer → row.row < rows → IsSettled s → IsLegalFrom g s (entries_of d es) → Fulfils rows row retailer a es
    → ComesTo (fulfilled row (plain_in s) (view_of b)) (after_steps s d es) (fulfil_reply row (view_of b) a)
fulfil_comes g s d rows row retailer b collected.Done es good at same sealed mine below settled legal (here, (last, kept, is)) =
    let l = subst (λ (x : List Step). IsLegalFrom g s (entries_of d x)) is legal in
    let confirmed_is = phase_at s row b phase.Confirmed at same l.0.2 in
    let steps = saw_owner row phase.Confirmed retailer last ++ turn_of row.row phase.Confirmed aim.Fulfil ∷ [] in
    let done = row_changed g s d row b steps (in_phase phase.Fulfilled (view_of b)) good at same sealed settled (refl, (refl, (refl, (eq-eqb row.row row.row refl, tt)))) (record { sealed = refl; still = refl }) refl in
    subst (λ (x : List Step). ComesTo (fulfilled row (plain_in s) (view_of b)) (after_steps s d x) (booking row (in_phase phase.Fulfilled (view_of b)))) (sym is)
    (subst (λ (o : Outcome). ComesTo o (after_steps s d steps) (booking row (in_phase phase.Fulfilled (view_of b))))
    (sym (is_collected row (plain_in s) (view_of b) confirmed_is)) (record { reply_is = refl; plain_is = done.0; settled = done.1 }))
fulfil_comes g s d rows row retailer b collected.Unknown es good at same sealed mine below settled legal (inl did) =
    absurd (owner_unknown g s d rows row retailer b es at same sealed mine below legal did)
fulfil_comes g s d rows row retailer b collected.Unknown es good at same sealed mine below settled legal (inr (here, (front, back, first, loses, is))) =
    absurd (owner_loses g s d row phase.Confirmed phase.Free retailer front back es first loses is legal)
fulfil_comes g s d rows row retailer b (collected.WrongState p) es good at same sealed mine below settled legal (here, inl (ne, shut, (last, kept, is))) =
    let l = subst (λ (x : List Step). IsLegalFrom g s (entries_of d x)) is legal in
    let w = wrong_phase s row b phase.Confirmed p at same ne l.0.2 in
    subst (λ (x : List Step). ComesTo (fulfilled row (plain_in s) (view_of b)) (after_steps s d x) (problem (WrongState p))) (sym is)
    (subst (λ (o : Outcome). ComesTo o s (problem (WrongState p))) (sym (not_collected row (plain_in s) (view_of b) w.0)) (record { reply_is = w.1; plain_is = refl; settled = settled }))
fulfil_comes g s d rows row retailer b (collected.WrongState p) es good at same sealed mine below settled legal (here, inr (some, front, back, first, loses, is)) =
    absurd (owner_loses g s d row phase.Confirmed p retailer front back es first loses is legal)

-- releasing

is_released : (row : RowNo) (now : ℕ) (plain : Plain) (v : RowSeen) → v.phase ≡ phase.Prebooked
    → released row now plain v ≡ changed_to plain row (at_end kind.Release (end_of (aim.Release now)) v)
is_released row now plain v is =
    ap (λ (t : Bool). cond t (changed_to plain row (at_end kind.Release (end_of (aim.Release now)) v)) (wrong plain v)) (is_in_yes v.phase phase.Prebooked is)

not_released : (row : RowNo) (now : ℕ) (plain : Plain) (v : RowSeen) → v.phase ≢ phase.Prebooked → released row now plain v ≡ wrong plain v
not_released row now plain v ne =
    ap (λ (t : Bool). cond t (changed_to plain row (at_end kind.Release (end_of (aim.Release now)) v)) (wrong plain v)) (is_in_no v.phase phase.Prebooked ne)

pub release_comes : (g : Layout) (s : State) (d rows : ℕ) (row : RowNo) (retailer now : ℕ) (b : Booking) (a : Released) (es : List Step) → IsWellFormed g s → present s row.row ≡ Some b → b.generation ≡ row.generation
    → is_sealed b.phase ≡ true → word_at b 1 ≡ retailer → row.row < rows → IsSettled s → IsLegalFrom g s (entries_of d es) → Releases rows row retailer now a es
    → ComesTo (released row now (plain_in s) (view_of b)) (after_steps s d es) (release_reply row now (view_of b) a)
release_comes g s d rows row retailer now b given.Done es good at same sealed mine below settled legal (here, (last, items, kept, few, is)) =
    let l = subst (λ (x : List Step). IsLegalFrom g s (entries_of d x)) is legal in
    let prebooked = phase_at s row b phase.Prebooked at same l.0.2 in
    let end = end_of (aim.Release now) in
    let steps = saw_owner row phase.Prebooked retailer last ++ ends_as row.row phase.Prebooked kind.Release end items in
    let ended = ends_leave d row.row phase.Prebooked kind.Release end items b in
    let done = row_changed g s d row b steps (at_end kind.Release end (view_of b)) good at same sealed settled (refl, (refl, (refl, ends_on row.row phase.Prebooked kind.Release end items)))
    (record { sealed = ap is_sealed ended.phase; still = ap is_owners ended.phase }) ended.view in
    subst (λ (x : List Step). ComesTo (released row now (plain_in s) (view_of b)) (after_steps s d x) (booking row (at_end kind.Release end (view_of b)))) (sym is)
    (subst (λ (o : Outcome). ComesTo o (after_steps s d steps) (booking row (at_end kind.Release end (view_of b))))
    (sym (is_released row now (plain_in s) (view_of b) prebooked)) (record { reply_is = refl; plain_is = done.0; settled = done.1 }))
release_comes g s d rows row retailer now b given.Unknown es good at same sealed mine below settled legal (inl did) =
    absurd (owner_unknown g s d rows row retailer b es at same sealed mine below legal did)
release_comes g s d rows row retailer now b given.Unknown es good at same sealed mine below settled legal (inr (here, (front, back, first, loses, is))) =
    absurd (owner_loses g s d row phase.Prebooked phase.Free retailer front back es first loses is legal)
release_comes g s d rows row retailer now b (given.WrongState p) es good at same sealed mine below settled legal (here, inl (ne, shut, (last, kept, is))) =
    let l = subst (λ (x : List Step). IsLegalFrom g s (entries_of d x)) is legal in
    let w = wrong_phase s row b phase.Prebooked p at same ne l.0.2 in
    subst (λ (x : List Step). ComesTo (released row now (plain_in s) (view_of b)) (after_steps s d x) (problem (WrongState p))) (sym is)
    (subst (λ (o : Outcome). ComesTo o s (problem (WrongState p))) (sym (not_released row now (plain_in s) (view_of b) w.0)) (record { reply_is = w.1; plain_is = refl; settled = settled }))
release_comes g s d rows row retailer now b (given.WrongState p) es good at same sealed mine below settled legal (here, inr (some, front, back, first, loses, is)) =
    absurd (owner_loses g s d row phase.Prebooked p retailer front back es first loses is legal)
