use Rattle.std.proofs.Common.{◌≡◌, ℕ, ◌+◌, ◌-◌, ◌<◌, ◌≤◌, List, [], ◌∷◌, ◌++◌, get_or, ap, sym, ◌∙◌, length, subst, refl}
use Rattle.leg_masks.specs.Interval.{item_word, PlacedSpan as Item}
use Rattle.history_model.specs.Booking.{most_items}
use Rattle.history_model.specs.declared.entry.Step.TheVariants.{Note}
use Rattle.claim_rule.specs.Desks.{Stepped}
use Rattle.claim_rule.proofs.Shapes.{step_shape}
use Rattle.booking_rows.proofs.NoteLemmas.{last_small, last_byte, last_word, last_note, last_noted, noted_hold, noted_endings}
use Rattle.booking_rows.proofs.notes.note_item.Goals as goal

pub overflow_cast-last : goal.overflow_cast-last
overflow_cast-last c = record { fits = last_byte (length c.items.result.now) c.items.ensures.few }

pub overflow_add-last : goal.overflow_add-last
overflow_add-last c = record { fits = last_small (length c.items.result.now) c.items.ensures.few }

pub step_note-requires-clause-word : goal.step_note-requires-clause-word
step_note-requires-clause-word c =
    last_word (length c.items.result.now) (subst (λ (k : ℕ). 0 < k) (sym (ap length c.items.ensures.items)) c.requires.some) c.items.ensures.few

pub returns : goal.returns
returns c =
    let h = c.args.hold.now in
    let old = c.args.desk.now in
    let s = c.step_note in
    let new = s.new.desk in
    let i = c.index-items-last.result in
    let n = length c.items.result.now in
    let many : n ≡ length h.items = ap length c.items.ensures.items in
    let read : i ≡ get_or h.items (n - 1) i = c.index-items-last.is ∙ (λ j. get_or (c.items-2.ensures.items j) (n - 1) i) in
    let did : (front : List Item) (last : Item) → h.items ≡ front ++ last ∷ [] → Stepped (Note h.row.row (8 + length front) (item_word last.place last.span)) old new =
    (λ front last e. last_note h.row.row (8 + (n - 1)) c.write_item-word.result n h.items front last i old new e many read refl c.write_item-word.ensures.value s.ensures.noted) in
    let few : length h.items ≤ most_items = subst (λ (k : ℕ). k ≤ most_items) many c.items.ensures.few in
    let at = s.ensures.noted in record {
      own = s.ensures.own;
      entries = λ front last e. step_shape (Note h.row.row (8 + length front) (item_word last.place last.span)) old new (did front last e);
      same = s.ensures.hold.1;
      hold = noted_hold _ _ old new h s.new.hold at s.ensures.hold.1 c.requires.hold s.ensures.hold.0;
      noted = λ b. last_noted old new h s.new.hold b.0 b.1 c.requires.own.legal c.requires.hold s.ensures.hold.1 few b.2 b.3 (did b.0 b.1 b.2);
      endings = noted_endings _ _ old new h at c.requires.hold;
    }
