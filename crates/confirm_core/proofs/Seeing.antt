-- What looks at single words of a booking's row show.
use Rattle.std.proofs.Common.{◌≡◌, inl, ℕ, ◌<◌, ◌≤◌, Bool, true, nat_le, if◌then◌else◌, List, [], ◌∷◌, Option, Some, None, IsSomeAnd, refl, sym, ap, ◌∙◌, subst, arith}
use Rattle.std.proofs.lemmas.Bool.{le-leb}
use Rattle.rail_ids.specs.declared.RowNo.{RowNo}
use Rattle.history_model.specs.declared.entry.Step.{Step}
use Rattle.history_model.specs.declared.entry.Step.TheVariants.{SawRow}
use Rattle.history_model.specs.Phase.{is_sealed}
use Rattle.history_model.specs.Booking.{Booking, booking_at, word_at, limit_of}
use Rattle.history_model.specs.History.{IsLegal}
use Rattle.history_model.specs.Laws.{IsSound}
use Rattle.history_model.proofs.Generations.{key_present}
use Rattle.history_model.proofs.Keeping.{found}
use Rattle.history_model.proofs.Ranges.{all_found}
use Rattle.claim_rule.specs.Rule.{DeskView, state_seen}
use Rattle.claim_rule.specs.Desks.{Stepped, AddsSteps}
use Rattle.claim_rule.specs.Out.{KeepsHolds, KeepsEndings}
use Rattle.claim_rule.proofs.Moves.{is_sound}
use Rattle.claim_rule.proofs.Shapes.{step_shape}
use Rattle.claim_rule.proofs.Out.{looks_holds, looks_endings}
use Rattle.booking_rows.specs.SealedRows.{IsSealedRow, IsStillPresent}
use Rattle.booking_rows.proofs.ViewLemmas.{at_key, shows_word, stays_on, still_before}
use Rattle.confirm_core.specs.Looks.{HasWordAt, HasLimit}

pub read_holds : (r w n : ℕ) (old new : DeskView) → Stepped (SawRow r w n) old new → KeepsHolds old new
read_holds r w n old new did = looks_holds old new (SawRow r w n ∷ []) (step_shape (SawRow r w n) old new did) did.same.5 (refl, tt)

pub read_endings : (r w n : ℕ) (old new : DeskView) → Stepped (SawRow r w n) old new → KeepsEndings old new
read_endings r w n old new did = looks_endings old new (SawRow r w n ∷ []) (step_shape (SawRow r w n) old new did) (refl, tt)

-- a further word of a sealed booking, where its row wasn't given away
pub word_seen : (row : RowNo) (w n : ℕ) (old new : DeskView) → Stepped (SawRow row.row w n) old new → 0 < w → IsSealedRow old row → IsStillPresent new row → HasWordAt new row w n
word_seen row w n old new did some sealed now =
    let b = shows_word row w n old new did some sealed now in at_key new row b.0 (λ b. n ≡ word_at b w) b.1.at b.1.word

-- the limit that was read, where a later look shows that the row wasn't given away

both : (o : Option Booking) (P Q : Booking → Type 0) → IsSomeAnd o P → IsSomeAnd o Q → IsSomeAnd o (λ b. P b × Q b)
both None P Q p q = p
both (Some b) P Q p q = (p, q)

pub limit_kept : (row : RowNo) (n : ℕ) (a b : DeskView) (es : List Step) → IsLegal a.layout a.seen → AddsSteps a b es → IsSealedRow a row → (IsStillPresent a row → HasWordAt a row 2 n) → IsStillPresent b row → (n ≤ 4102444799) × HasLimit b row n
limit_kept row n a b es legal did sealed word now =
    let still = still_before a b es row did sealed now in
    let o = booking_at (state_seen a) row.row row.generation in
    let x = found o (λ b. (is_sealed b.phase ≡ true) × (n ≡ word_at b 2)) (both o (λ b. is_sealed b.phase ≡ true) (λ b. n ≡ word_at b 2) sealed (word still)) in
    let here = key_present (state_seen a) row.row row.generation x.0 still x.1 in
    let sound = all_found (IsSound a.layout) (state_seen a) row.row x.0 (is_sound a.layout a.seen legal).each here in
    let y = stays_on a b es row x.0 did x.1 x.2.0 in (
      subst (λ (m : ℕ). m ≤ 4102444799) (sym x.2.1) (sound.sealed x.2.0).limit,
      at_key b row y.0 (λ b. (is_sealed b.phase ≡ true) × (limit_of b ≡ n)) y.1 (y.2.still_sealed, y.2.sealed.words 2 (inl (omega arith, omega arith)) ∙ sym x.2.1),
    )

pub in_years : (n : ℕ) (o : Option ℕ) → n ≤ 4102444799 → o ≡ (if nat_le n 4102444799 then Some n else None) → o ≡ Some n
in_years n o l e = e ∙ ap (λ (b : Bool). if b then Some n else None) (le-leb n 4102444799 l)

pub no_years : (n : ℕ) → n ≤ 4102444799 → None ≡ (if nat_le n 4102444799 then Some n else None) → ⊥
no_years n l e = let f : None ≡ Some n = in_years n None l e in cc

pub limit_is : (n m : ℕ) → n ≤ 4102444799 → Some m ≡ (if nat_le n 4102444799 then Some n else None) → m ≡ n
limit_is n m l e = let f : Some m ≡ Some n = in_years n (Some m) l e in cc
