-- What stays so from moment to moment.
use Rattle.std.proofs.Common.{◌≡◌, ◌⊎◌, inl, inr, ⊎_elim, ℕ, ◌+◌, ◌<◌, ◌≤◌, nat_lt, nat_le, max, Bool, true, false, true≢false, ◌&&◌, ◌||◌, if◌then◌else◌, List, [], ◌∷◌, ◌++◌, append-nil, append_assoc, refl, sym, ap, ◌∙◌, subst, arith}
use Rattle.std.specs.List.{AllByRecursion}
use Rattle.std.proofs.lemmas.Bool.{ltb-false, or_parts}
use mathlib.Core.List.{IsPrefix}
use Rattle.history_model.specs.declared.entry.Entry.{Entry}
use Rattle.claim_rule.specs.Out.{is_look}
use Rattle.claim_rule.proofs.Views.{prefix-more}
use Rattle.answer_gate.specs.declared.state.Phase.{Phase}
use Rattle.answer_gate.specs.declared.state.Phase.TheVariants.{Open, Looking}
use Rattle.answer_gate.specs.declared.state.Standing.{Standing}
use Rattle.answer_gate.specs.Standings.{HasRoom, Looked, entered, left, looked_at}
use Rattle.host_journal.specs.Moments.{Begins, Follows, LeadsTo, Moment, Passes, TakenCut}
use Rattle.host_journal.specs.Ahead.{GivesCut, HasCut, HasWritten, IsKeptAnswer, OnlyLooked, OthersPass, Shows}

pub has_map : (P Q : TakenCut → Type 0) → ((c : TakenCut) → P c → Q c) → (cuts : List TakenCut) → HasCut cuts P → HasCut cuts Q
has_map P Q f [] none = absurd none
has_map P Q f (c ∷ more) (inl p) = inl (f c p)
has_map P Q f (c ∷ more) (inr rest) = inr (has_map P Q f more rest)

all_more : (es : List Entry) (e : Entry) → AllByRecursion (λ (e : Entry). is_look e.step ≡ true) es → is_look e.step ≡ true → AllByRecursion (λ (e : Entry). is_look e.step ≡ true) (es ++ e ∷ [])
all_more [] e all look = (look, tt)
all_more (x ∷ es) e all look = (all.0, all_more es e all.1 look)

looked_more : (began now : List Entry) (e : Entry) → is_look e.step ≡ true → OnlyLooked began now → OnlyLooked began (now ++ e ∷ [])
looked_more began now e look (more, is, all) =
    (more ++ e ∷ [], ap (λ (l : List Entry). l ++ e ∷ []) is ∙ append_assoc began more (e ∷ []), all_more more e all look)

looked_none : (now : List Entry) → OnlyLooked now now
looked_none now = ([], sym (append-nil now), tt)

not_open : (p : Phase) → p ≡ Open → p ≡ Looking → ⊥
not_open p before looking = let no : Open ≡ Looking = sym before ∙ looking in cc

-- what is so of each moment
record Holds (m : Moment) : Type 0 where
  kept : m.kept ≤ m.written
  written : m.written ≤ m.gate.taken
  quiet : m.gate.changed ≡ false → m.gate.inside ≡ 0 → HasCut m.cuts (λ c. (c.number ≡ m.gate.taken) × OnlyLooked c.began m.history)
  looking : m.gate.phase ≡ Looking → (m.gate.inside ≡ 0) × (m.gate.changed ≡ false)

begins : (m : Moment) → Begins m → Holds m
begins m b =
    let gate = b.gate in
    let none : m.written ≡ 0 = b.written in
    let taken : m.gate.taken ≡ 0 = ap (λ (s : Standing). s.taken) gate in
    let at_first : m.gate.phase ≡ Open = ap (λ (s : Standing). s.phase) gate in
    let told : m.kept ≡ 0 = b.kept in
    record {
      kept = omega arith;
      written = omega arith;
      quiet = λ same nobody. subst (λ (cuts : List TakenCut). HasCut cuts (λ c. (c.number ≡ m.gate.taken) × OnlyLooked c.began m.history)) (sym b.cuts) (inl (sym taken, looked_none m.history));
      looking = λ looking. absurd (not_open m.gate.phase at_first looking);
    }

adds : (old : Moment) (e : Entry) → (is_look e.step ≡ true) ⊎ (0 < old.gate.inside) → Holds old → Holds (record old { history = old.history ++ e ∷ [] })
adds old e may h = record {
  kept = h.kept;
  written = h.written;
  quiet = λ same nobody. ⊎_elim
      (λ (look : is_look e.step ≡ true).
      has_map (λ c. (c.number ≡ old.gate.taken) × OnlyLooked c.began old.history) (λ c. (c.number ≡ old.gate.taken) × OnlyLooked c.began (old.history ++ e ∷ [])) (λ c p. (p.0, looked_more c.began old.history e look p.1)) old.cuts (h.quiet same nobody))
      (λ (some : 0 < old.gate.inside). absurd (omega arith))
      may;
  looking = h.looking;
}

enters : (old : Moment) → HasRoom old.gate → Holds old → Holds (record old { gate = entered old.gate })
enters old room h = record {
  kept = h.kept;
  written = h.written;
  quiet = λ same nobody. absurd (let some : old.gate.inside + 1 ≡ 0 = nobody in omega arith);
  looking = λ looking. absurd (not_open old.gate.phase room.0 looking);
}

leaves : (old : Moment) → 0 < old.gate.inside → Holds old → Holds (record old { gate = left old.gate })
leaves old some h = record {
  kept = h.kept;
  written = h.written;
  quiet = λ same nobody. absurd (true≢false same);
  looking = λ looking. absurd (let none = (h.looking looking).0 in omega arith);
}

passes : (old : Moment) (gate : Standing) → Passes old.gate gate → Holds old → Holds (record old { gate = gate })
passes old gate p h = record {
  kept = h.kept;
  written = (let same = p.taken in let w = h.written in omega arith);
  quiet = λ same nobody.
      has_map (λ c. (c.number ≡ old.gate.taken) × OnlyLooked c.began old.history) (λ c. (c.number ≡ gate.taken) × OnlyLooked c.began old.history) (λ c q. (q.0 ∙ sym p.taken, q.1)) old.cuts
      (h.quiet (sym p.changed ∙ same) (sym p.inside ∙ nobody));
  looking = λ looking. (let was = h.looking (p.looking looking) in (p.inside ∙ was.0, p.changed ∙ was.1));
}

takes : (old : Moment) → old.gate.inside ≡ 0 → Holds old → Holds (record old { gate = looked_at old.gate; cuts = record { number = old.gate.taken + 1; began = old.history } ∷ old.cuts })
takes old nobody h = record {
  kept = h.kept;
  written = (let w = h.written in omega arith);
  quiet = λ same none. inl (refl, looked_none old.history);
  looking = λ looking. (nobody, refl);
}

writes : (old : Moment) (number : ℕ) → old.written ≤ number → number ≤ old.gate.taken → Holds old → Holds (record old { written = number })
writes old number more taken h = record {
  kept = (let k = h.kept in omega arith);
  written = taken;
  quiet = h.quiet;
  looking = h.looking;
}

tells : (old : Moment) (number : ℕ) → number ≤ old.written → Holds old → Holds (record old { kept = max old.kept number })
tells old number has h = record {
  kept = (let k = h.kept in omega arith);
  written = h.written;
  quiet = h.quiet;
  looking = h.looking;
}

-- the moment in which a cut was taken
taken_is : (old new : Moment) (number : ℕ) → Looked old.gate new.gate number → new.cuts ≡ record { number = number; began = old.history } ∷ old.cuts → new.history ≡ old.history → new.written ≡ old.written → new.kept ≡ old.kept
    → new ≡ record old { gate = looked_at old.gate; cuts = record { number = old.gate.taken + 1; began = old.history } ∷ old.cuts }
taken_is old new number looked cuts history written kept =
    let is : number ≡ old.gate.taken + 1 = looked.1 ∙ ap (λ (s : Standing). s.taken) looked.2 in
    λ i. record {
      history = history i;
      gate = looked.2 i;
      cuts = (cuts ∙ ap (λ (n : ℕ). record { number = n; began = old.history } ∷ old.cuts) is) i;
      written = written i;
      kept = kept i;
    }

follows : (old new : Moment) → Follows old new → Holds old → Holds new
follows old new (inl (e, may, is)) h = subst Holds (sym is) (adds old e may h)
follows old new (inr (inl (room, is))) h = subst Holds (sym is) (enters old room h)
follows old new (inr (inr (inl (some, is)))) h = subst Holds (sym is) (leaves old some h)
follows old new (inr (inr (inr (inl (gate, p, is))))) h = subst Holds (sym is) (passes old gate p h)
follows old new (inr (inr (inr (inr (inl (nobody, number, looked, cuts, history, written, kept)))))) h =
    subst Holds (sym (taken_is old new number looked cuts history written kept)) (takes old nobody h)
follows old new (inr (inr (inr (inr (inr (inl (number, more, taken, is))))))) h = subst Holds (sym is) (writes old number more taken h)
follows old new (inr (inr (inr (inr (inr (inr (number, has, is))))))) h = subst Holds (sym is) (tells old number has h)

leads : (first last : Moment) (moments : List Moment) → LeadsTo first moments last → Holds first → Holds last
leads first last [] is h = subst Holds (sym is) h
leads first last (next ∷ more) (one, rest) h = leads next last more rest (follows first next one h)

-- an answer waits for the next cut, or a cut that was taken shows it
abbrev Waits : ℕ → List Entry → Moment → Type 0
Waits cut told m =
    ((cut ≡ m.gate.taken + 1) × IsPrefix told m.history) ⊎ HasCut m.cuts (λ c. (c.number ≤ cut) × Shows c.began told)

shown_now : (m : Moment) (cut : ℕ) (told : List Entry) → Holds m → IsPrefix told m.history → (t : Bool) → (m.gate.changed || nat_lt 0 m.gate.inside) ≡ t → cut ≡ (if t then m.gate.taken + 1 else m.gate.taken) → Waits cut told m
shown_now m cut told h front true is given = inl (given, front)
shown_now m cut told h front false is given =
    let parts = or_parts m.gate.changed (nat_lt 0 m.gate.inside) is in
    let nobody : m.gate.inside ≡ 0 = (let none = ltb-false 0 m.gate.inside parts.1 in omega arith) in
    inr (has_map (λ c. (c.number ≡ m.gate.taken) × OnlyLooked c.began m.history) (λ c. (c.number ≤ cut) × Shows c.began told)
    (λ c q. ((let n = q.0 in omega arith), (m.history, q.1, front))) m.cuts (h.quiet parts.0 nobody))

given : (m : Moment) (cut : ℕ) (told : List Entry) → Holds m → IsPrefix told m.history → GivesCut m cut → Waits cut told m
given m cut told h front (inl next) = inl (next, front)
given m cut told h front (inr shown) = shown_now m cut told h front (m.gate.changed || nat_lt 0 m.gate.inside) refl shown

waits_takes : (old : Moment) (cut : ℕ) (told : List Entry) → Waits cut told old → Waits cut told (record old { gate = looked_at old.gate; cuts = record { number = old.gate.taken + 1; began = old.history } ∷ old.cuts })
waits_takes old cut told (inl (next, front)) = inr (inl (omega arith, (old.history, looked_none old.history, front)))
waits_takes old cut told (inr has) = inr (inr has)

waits_on : (cut : ℕ) (told : List Entry) (old new : Moment) → Follows old new → Waits cut told old → Waits cut told new
waits_on cut told old new (inl (e, may, is)) w = subst (Waits cut told) (sym is)
    (⊎_elim (λ (n : (cut ≡ old.gate.taken + 1) × IsPrefix told old.history). inl (n.0, prefix-more told old.history (e ∷ []) n.1)) (λ has. inr has) w)
waits_on cut told old new (inr (inl (room, is))) w = subst (Waits cut told) (sym is) w
waits_on cut told old new (inr (inr (inl (some, is)))) w = subst (Waits cut told) (sym is) w
waits_on cut told old new (inr (inr (inr (inl (gate, p, is))))) w = subst (Waits cut told) (sym is)
    (⊎_elim (λ (n : (cut ≡ old.gate.taken + 1) × IsPrefix told old.history). inl ((let same = p.taken in let next = n.0 in omega arith), n.1)) (λ has. inr has) w)
waits_on cut told old new (inr (inr (inr (inr (inl (nobody, number, looked, cuts, history, written, kept)))))) w =
    subst (Waits cut told) (sym (taken_is old new number looked cuts history written kept)) (waits_takes old cut told w)
waits_on cut told old new (inr (inr (inr (inr (inr (inl (number, more, taken, is))))))) w = subst (Waits cut told) (sym is) w
waits_on cut told old new (inr (inr (inr (inr (inr (inr (number, has, is))))))) w = subst (Waits cut told) (sym is) w

waits_through : (cut : ℕ) (told : List Entry) (first last : Moment) (moments : List Moment) → LeadsTo first moments last → Waits cut told first → Waits cut told last
waits_through cut told first last [] is w = subst (Waits cut told) (sym is) w
waits_through cut told first last (next ∷ more) (one, rest) w = waits_through cut told next last more rest (waits_on cut told first next one w)

all_told : (m : Moment) (cut : ℕ) (told : List Entry) → Holds m → cut ≤ m.kept → Waits cut told m → HasWritten m (λ c. Shows c.began told)
all_told m cut told h kept (inl next) = absurd (let n = next.0 in let k = h.kept in let w = h.written in omega arith)
all_told m cut told h kept (inr has) =
    let k = h.kept in
    has_map (λ c. (c.number ≤ cut) × Shows c.began told) (λ c. (c.number ≤ m.written) × Shows c.began told)
    (λ c q. ((let n = q.0 in omega arith), q.1)) m.cuts has

pub follows_cut : (later : Moment) (told : List Entry) → IsKeptAnswer later told → HasWritten later (λ c. Shows c.began told)
follows_cut later told a =
    let h = leads a.first a.answered a.before a.came (begins a.first a.begins) in
    all_told later a.cut told (leads a.answered later a.between a.went h) a.kept
    (waits_through a.cut told a.answered later a.between a.went (given a.answered a.cut told h a.seen a.given))

pub unchanged_meanwhile : (first now : Moment) (before : List Moment) → Begins first → LeadsTo first before now → now.gate.phase ≡ Looking → HasCut now.cuts (λ c. (c.number ≡ now.gate.taken) × OnlyLooked c.began now.history)
unchanged_meanwhile first now before b to looking =
    let h = leads first now before to (begins first b) in
    let still = h.looking looking in
    h.quiet still.1 still.0

by_kept : (s : Standing) (cut : ℕ) (b : Bool) → Passes s (if b then record s { kept = cut } else s)
by_kept s cut true = record { inside = refl; changed = refl; taken = refl; looking = λ is. is }
by_kept s cut false = record { inside = refl; changed = refl; taken = refl; looking = λ is. is }

pub others_pass : (s : Standing) → OthersPass s
others_pass s = record {
  wanted = λ cut. record { inside = refl; changed = refl; taken = refl; looking = λ is. is };
  closed = record { inside = refl; changed = refl; taken = refl; looking = λ is. cc };
  opened = record { inside = refl; changed = refl; taken = refl; looking = λ is. cc };
  kept = λ cut. by_kept s cut (nat_lt s.kept cut && nat_le cut s.taken);
  over = record { inside = refl; changed = refl; taken = refl; looking = λ is. cc };
  lost = record { inside = refl; changed = refl; taken = refl; looking = λ is. cc };
  servers = λ count. record { inside = refl; changed = refl; taken = refl; looking = λ is. is };
}
