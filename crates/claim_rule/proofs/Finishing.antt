-- What the last state says.
use Rattle.std.proofs.Common.{Option, ◌≡◌, ℕ, zero, suc, Some, slice_get, List, [], ◌∷◌, ◌++◌, false, sym, ap, ◌∙◌, subst, append-nil, arith, refl}
use mathlib.Core.Option.{some, some-injective, some-ne-none}
use lib.ListN.{get_elem?}
use Rattle.atomic_table.specs.Table.{Final, Seen}
use Rattle.atomic_table.specs.declared.shared.Seat.{Seat}
use Rattle.rail_ids.specs.declared.RowNo.{RowNo}
use Rattle.claim_rule.specs.declared.rule.View.{View}
use Rattle.claim_rule.specs.declared.chronicle.Story.{Story}
use Rattle.claim_rule.specs.Rule.{Kept, DeskView}
use Rattle.claim_rule.specs.Seats.{desk_view}
use Rattle.claim_rule.specs.Walls.{Finishes}
use Rattle.claim_rule.proofs.Adds.{counts, whole}
use Rattle.history_model.specs.Booking.{Layout}
use Rattle.history_model.specs.History.{state_of}
use Rattle.history_model.specs.Words.{AreWordsOf}
use Rattle.history_model.specs.declared.entry.Entry.{Entry}

pub ends : (lay : Layout) (a : Seat ℕ View) (kept : Option RowNo) (past : ℕ) (ws xs : List ℕ) → a.me.0.spent ≡ false → Final (Seen (Kept lay) a.id a.me.0) ws xs → (h : List Entry) × Finishes lay (desk_view a kept past) ws h
ends lay a kept past ws xs fresh (s, (k, at), is, _, _) =
    let f = k.seats a.id a.me.0 at fresh in (
      k.history,
      record {
        legal = k.legal;
        front = f.front;
        are = subst (AreWordsOf lay (state_of lay k.history)) is k.words;
        no_others = λ zero j past. let many = counts lay s k a.id a.me.0 at fresh zero in k.later j (omega (arith, many, past));
        whole = λ w. sym f.front.1 ∙ (ap (λ l. a.me.0.seen ++ l) (whole lay s k a.id a.me.0 at fresh w f.front.0 f.front.1) ∙ append-nil a.me.0.seen);
      },
    )

pub ends_as : (key lay : Layout) (a : Seat ℕ View) (kept : Option RowNo) (past : ℕ) (ws xs : List ℕ) (desk : DeskView) → desk_view a kept past ≡ desk → key ≡ lay → a.me.0.spent ≡ false → Final (Seen (Kept key) a.id a.me.0) ws xs → (h : List Entry) × Finishes lay desk ws h
ends_as key lay a kept past ws xs desk is same fresh last = subst (λ (d : DeskView). (h : List Entry) × Finishes lay d ws h) is (ends lay a kept past ws xs fresh (subst (λ (l : Layout). Final (Seen (Kept l) a.id a.me.0) ws xs) same last))

-- what is told of a story: its layout, and how its history ends
abbrev pub IsToldOf : Layout → DeskView → List ℕ → Story → Type 0
IsToldOf lay desk words s = (s.plan ≡ lay) × Finishes lay desk words s.history

pub tells : (lay : Layout) (desk : DeskView) (ws : List ℕ) → (h : List Entry) × Finishes lay desk ws h → (s : Story) × IsToldOf lay desk ws s
tells lay desk ws (h, e) = (record { plan = lay; history = h }, (refl, e))

pub get_some : (l : List ℕ) (i x : ℕ) → get_elem? l i ≡ some x → slice_get l i ≡ Some x
get_some [] i x e = absurd (some-ne-none x (sym e))
get_some (y ∷ ys) zero x e = ap Some (some-injective y x e)
get_some (y ∷ ys) (suc i) x e = get_some ys i x e
