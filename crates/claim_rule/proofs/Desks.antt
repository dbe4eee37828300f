-- From what a seat's step tells to what contracts see of the desk.
use Rattle.std.proofs.Common.{Option, ◌≡◌, ℕ, Bool, cond, List, [], ◌∷◌, ◌++◌, refl, sym, ap, ◌∙◌, subst, append-nil, eq-eqb, ne_eqb}
use Rattle.atomic_table.specs.declared.shared.Seat.{Seat}
use Rattle.rail_ids.specs.declared.RowNo.{RowNo}
use Rattle.claim_rule.proofs.Views.{each_map, own_other}
use Rattle.claim_rule.proofs.Meeting.{each_both, each_front}
use Rattle.claim_rule.specs.declared.rule.View.{View}
use Rattle.claim_rule.specs.Rule.{Added, DeskView, Each, joining, parting}
use Rattle.claim_rule.specs.Desks.{Stepped, HasMet}
use Rattle.claim_rule.specs.Seats.{HasMade, IsAtRest, desk_view, either_step, seeing}
use Rattle.history_model.specs.Booking.{Layout}
use Rattle.history_model.specs.History.{IsLegal, entry, own}
use Rattle.history_model.specs.declared.entry.Entry.{Entry}
use Rattle.history_model.specs.declared.entry.Step.{Step}
use Rattle.history_model.specs.declared.entry.Step.TheVariants.{Met}
use Rattle.history_model.specs.declared.word.Word.{Word}

pub steps_as : (lay : Layout) (st : Step) (a b : Seat ℕ View) (kept : Option RowNo) (past : ℕ) (old : DeskView) → desk_view a kept past ≡ old → a.me.0.plan ≡ lay → HasMade lay st a b → Stepped st old (desk_view b kept past)
steps_as lay st a b kept past old is plan made = let m = made.3 in let s = m.same in subst (λ (d : DeskView). Stepped st d (desk_view b kept past)) is record {
  between = m.between;
  seen = m.seen;
  others = m.others;
  none = m.none;
  legal = subst (λ (l : Layout). IsLegal l b.me.0.seen) (sym (s.0 ∙ plan)) m.legal;
  same = (made.0, s.0, s.2, s.3, s.4, refl, refl);
}

pub sound_after : (lay : Layout) (st : Step) (a b : Seat ℕ View) → a.me.0.plan ≡ lay → IsAtRest a → HasMade lay st a b → IsAtRest b
sound_after lay st a b plan sound made = let m = made.3 in let s = m.same in record {
  fresh = s.1 ∙ sound.fresh;
  settled = s.5;
  empty = made.2 ∙ sound.empty;
  legal = subst (λ (l : Layout). IsLegal l b.me.0.seen) (sym (s.0 ∙ plan)) m.legal;
}

-- meeting

-- what a former history had of others, without the Met
unchanged : (d : ℕ) (seen now : List Entry) (js : List ℕ) → Each (λ j. own now j ≡ own seen j ++ own (entry d Met ∷ []) j) js → Each (λ j. j ≡ d → ⊥) js → Each (λ j. own now j ≡ own seen j) js
unchanged d seen now js p q = each_map (λ j. (own now j ≡ own seen j ++ own (entry d Met ∷ []) j) × (j ≡ d → ⊥)) (λ j. own now j ≡ own seen j)
    (λ j r. r.0 ∙ (ap (λ l. own seen j ++ l) (own_other j d Met r.1) ∙ append-nil (own seen j))) js (each_both (λ j. own now j ≡ own seen j ++ own (entry d Met ∷ []) j) (λ j. j ≡ d → ⊥) js p q)

-- a list with a number in it isn't empty
none_left : (l : List ℕ) (n : ℕ) (rest : List ℕ) → l ++ n ∷ rest ≡ [] → ⊥
none_left [] n rest e = let no : ◌≡◌ {A = List ℕ} (n ∷ rest) [] = e in cc
none_left (m ∷ l) n rest e = let no : ◌≡◌ {A = List ℕ} (m ∷ (l ++ n ∷ rest)) [] = e in cc

met_at : (lay : Layout) (a o b : Seat ℕ View) (kept other_kept : Option RowNo) (past other_past : ℕ) → a.me.0.plan ≡ lay → b.table_id ≡ a.table_id → Added lay Met (joining a.me.0 o.me.0) b.me.0 → HasMet (desk_view a kept past) (desk_view o other_kept other_past) (desk_view b kept past)
met_at lay a o b kept other_kept past other_past plan table m =
    let s = m.same in
    let v = a.me.0 in
    let w = o.me.0 in
    let apart = each_front (λ j. j ≡ v.number → ⊥) v.joined (w.number ∷ w.joined) m.apart in
    record {
      front = m.olds.0.0;
      other_front = m.olds.1.0.0;
      legal = subst (λ (l : Layout). IsLegal l b.me.0.seen) (sym (s.0 ∙ plan)) m.legal;
      mine = m.olds.0.1.0 ∙ ap (λ (c : Bool). own v.seen v.number ++ cond c (entry v.number Met ∷ []) []) (eq-eqb v.number v.number refl);
      theirs = unchanged v.number w.seen b.me.0.seen (w.number ∷ w.joined) m.olds.1.0.1 apart.1;
      before = unchanged v.number v.seen b.me.0.seen v.joined m.olds.0.1.1 apart.0;
      joined = s.3;
      parted = λ number made. none_left v.joined w.number w.joined (m.first number made);
      same = (table, s.0, s.2, s.4, refl, refl);
    }

pub met : (lay : Layout) (a o c b : Seat ℕ View) (kept other_kept : Option RowNo) (past other_past : ℕ) (old other : DeskView) → desk_view a kept past ≡ old → desk_view o other_kept other_past ≡ other → a.me.0.plan ≡ lay → c.table_id ≡ a.table_id → c.me ≡ (joining a.me.0 o.me.0, a.me.1) → HasMade lay Met c b → HasMet old other (desk_view b kept past)
met lay a o c b kept other_kept past other_past old other is is' plan table me made =
    subst (λ (d : DeskView × DeskView). HasMet d.0 d.1 (desk_view b kept past)) (λ i. (is i, is' i))
    (met_at lay a o b kept other_kept past other_past plan (made.0 ∙ table) (subst (λ (v : View). Added lay Met v b.me.0) (ap (λ (m : View × List (ℕ × ℕ)). m.0) me) made.3))

-- parting

pub part_met : (st : Step) (old : DeskView) (l s : Seat ℕ View) (kept : Option RowNo) (past : ℕ) → Stepped st old (desk_view l kept past) → s.table_id ≡ l.table_id → s.me.0 ≡ parting l.me.0
    → Stepped st old record { table = s.table_id; layout = s.me.0.plan; number = s.me.0.number; seen = s.me.0.seen; joined = s.me.0.joined; parted = old.parted; kept = kept; past = past }
part_met st old l s kept past did table is = record {
  between = did.between;
  seen = ap (λ (v : View). v.seen) is ∙ did.seen;
  others = did.others;
  none = did.none;
  legal = subst (λ (v : View). IsLegal v.plan v.seen) (sym is) did.legal;
  same = (table ∙ did.same.0, ap (λ (v : View). v.plan) is ∙ did.same.1, ap (λ (v : View). v.number) is ∙ did.same.2, ap (λ (v : View). v.joined) is ∙ did.same.3, refl, did.same.5, did.same.6);
}

-- an exchange that missed, and one that hit

pub missed : (at : Word) (n old : ℕ) (hit : Step) (lay : Layout) (a b : Seat ℕ View) → (n ≡ old → ⊥) → HasMade lay (either_step old hit at n) a b → HasMade lay (seeing at n) a b
missed at n old hit lay a b other made = subst (λ (c : Bool). HasMade lay (cond c hit (seeing at n)) a b) (ne_eqb n old other) made

pub won : (at : Word) (n old : ℕ) (hit : Step) (lay : Layout) (a b : Seat ℕ View) → n ≡ old → HasMade lay (either_step old hit at n) a b → HasMade lay hit a b
won at n old hit lay a b same made = subst (λ (c : Bool). HasMade lay (cond c hit (seeing at n)) a b) (eq-eqb n old same) made
