use Rattle.std.proofs.Common.{◌≡◌, ℕ, ◌+◌, ◌-◌, ◌≤◌, List, [], ◌++◌, length, take, drop, refl, sym, ◌∙◌, ap, subst, arith, append-nil, append_assoc, length-append, length-drop, inl, inr, rules}
use Rattle.std.specs.Prelude.{◌⊎◌, slice_range}
use Rattle.std.specs.Vec.{with_items}
use Rattle.std.proofs.lemmas.List.{with_items_is, length-take, take-take, drop-take, drop-drop, take-append-drop}
use Rattle.std.proofs.lemmas.Grind.{common_steps}
use Rattle.rail_io.specs.Told.{with_front}
use Rattle.rail_io.specs.declared.source.Pulled.TheVariants.{Got, Failed}
use Rattle.http_wire.specs.Pieces.{IsWhole, IsFront, ArePiecesWithin, request_text}
use Rattle.http_wire.specs.Requests.{IsRequest, IsBlank, IsUnfinished}
use Rattle.http_wire.specs.Next.{Draws, IsDecided, ReadsAtNeed}
use Rattle.http_wire.specs.Stages.{IsStage, searched}
use Rattle.http_wire.specs.View.{IntakeView}
use Rattle.http_wire.specs.declared.intake.Front.TheVariants.{Whole}
use Rattle.http_wire.specs.declared.intake.Stage.{Stage}
use Rattle.http_wire.proofs.StageLemmas.{PullsForMore, stage_more, stage_start, searched_within}
use Rattle.http_wire.proofs.WholeLemmas.{next_in_range, nothing_pulled, pulled_more}
use Rattle.http_wire.proofs.intake.Intake.next_request_counted.Goals.{in-Blank, in-Open}
use Rattle.http_wire.proofs.intake.Intake.next_request_counted.Goals as goal

text_is : (seen items : List ℕ) (at start filled : ℕ) → seen ≡ items → at ≡ start → slice_range seen at filled ≡ slice_range items start filled
text_is seen items at start filled e f =
    ap (λ (m : List ℕ). slice_range m at filled) e ∙ ap (λ (k : ℕ). slice_range items k filled) f

-- the steps are no more than the bytes held and pulled
few_steps : (number new mid old looked : ℕ) (before after : Stage) (text unread pulled : List ℕ) → new + searched before ≤ mid + searched after
    → mid + looked ≤ old + searched before → IsStage number text after → text ≡ unread ++ pulled → new ≤ old + (length unread + length pulled)
few_steps number new mid old looked before after text unread pulled more less stage is =
    omega (arith, more, less, searched_within number text after stage, ap length is, length-append unread pulled)

waits_start : (held : List ℕ) → PullsForMore held []
unfolding PullsForMore
waits_start held decided = refl

-- what was held is all, where it was decided
all_held : (held pulled : List ℕ) → PullsForMore held pulled → IsDecided held → held ++ pulled ≡ held
unfolding PullsForMore
all_held held pulled waits decided = ap (λ (l : List ℕ). held ++ l) (waits decided) ∙ append-nil held

undecided : (held pulled : List ℕ) → PullsForMore held pulled → IsBlank (held ++ pulled) ⊎ IsUnfinished (held ++ pulled) → IsDecided held → ⊥
undecided held pulled waits rest decided =
    decided (subst (λ (t : List ℕ). IsBlank t ⊎ IsUnfinished t) (all_held held pulled waits decided) rest)

waits_on : (held pulled more : List ℕ) → PullsForMore held pulled → IsBlank (held ++ pulled) ⊎ IsUnfinished (held ++ pulled) → PullsForMore held more
unfolding PullsForMore
waits_on held pulled more waits rest decided = absurd (undecided held pulled waits rest decided)

held_still : (held pulled now : List ℕ) → PullsForMore held pulled → IsBlank (held ++ pulled) ⊎ IsUnfinished (held ++ pulled) → IsDecided held → now ≡ held
held_still held pulled now waits rest decided = absurd (undecided held pulled waits rest decided)

-- the parts of a range
parts_of_range : (memory : List ℕ) (start middle end filled : ℕ) → start + end ≡ middle → middle ≤ filled
    → slice_range memory start middle ++ slice_range memory middle filled ≡ slice_range memory start filled
parts_of_range memory start middle end filled is within =
    let room = drop start memory in
    let held = filled - start in
    let front : slice_range memory start middle ≡ take end (take held room) =
    ap (λ (n : ℕ). take n room) (omega (arith, is)) ∙ sym (take-take end held room (omega (arith, is, within))) in
    let back : slice_range memory middle filled ≡ drop end (take held room) =
    sym (ap (λ (n : ℕ). drop end (take n room)) (omega (arith, is, within))
    ∙ drop-take end (filled - middle) room
    ∙ ap (take (filled - middle)) (drop-drop end start memory)
    ∙ ap (λ (n : ℕ). take (filled - middle) (drop n memory)) is) in
    (λ i. front i ++ back i) ∙ take-append-drop end (take held room)

pub reads-init : goal.reads-init
reads-init g c =
    let inside = c.self.inside in
    let same = c.next_start-start.ensures.held inside.memory.items in
    record {
      pulled = [];
      told = nothing_pulled (g.S.Source.told c.args.source.now);
      held = same ∙ ap (λ (v : IntakeView). v.unread) c.self.view_is ∙ sym (append-nil c.args.self.now.unread);
      front = refl;
      ordered = omega arith;
      within = omega arith;
      room = search rules;
      number = ap (λ (v : IntakeView). v.given + 1) c.self.view_is;
      stage = subst (λ (t : List ℕ). IsStage (inside.given + 1) t inside.stage) (sym same) c.self.invariant.reading;
      given = ap (λ (v : IntakeView). v.given) c.self.view_is;
      faults = omega arith;
      steady = omega arith;
      waits = waits_start c.args.self.now.unread;
      steps = omega (arith, ap (λ (v : IntakeView). v.looked) c.self.view_is);
    }

pub invariant_of-self : goal.invariant_of-self
invariant_of-self g c =
    let inside = c.reads.self-inside in
    let inv = c.reads.invariant in
    let text = slice_range inside.memory.items inside.start inside.filled in
    let same = text_is c.deref.result.now inside.memory.items inside.at inside.start inside.filled c.deref.ensures.value inv.front in
    let whole : IsFront (c.self.inside.given + 1) text (Whole c.in-Whole.request c.in-Whole.size) =
    subst (IsFront (c.self.inside.given + 1) text) c.in-Whole.is
    (subst (λ (t : List ℕ). IsFront (c.self.inside.given + 1) t c.examine.result) same c.examine.ensures.front) in
    let size = length-take (inside.filled - inside.start) (drop inside.start inside.memory.items) in
    let given = ap (λ (v : IntakeView). v.given) c.self.view_is in
    record {
      room = inv.room;
      within = inv.within;
      taken = omega (arith, inv.front);
      unread = omega (arith, inv.front, whole.within, size, inv.ordered);
      few = omega (arith, given, c.requires.few);
      reading = stage_start (c.self.inside.given + 1 + 1) (slice_range inside.memory.items (inside.at + c.in-Whole.size) inside.filled) c.start.result c.start.ensures.at c.start.ensures.stands;
    }

pub returns-in-Whole-clause-next : goal.returns-in-Whole-clause-next
returns-in-Whole-clause-next g c =
    let inside = c.reads.self-inside in
    let inv = c.reads.invariant in
    let unread = c.args.self.now.unread in
    let text = slice_range inside.memory.items inside.start inside.filled in
    let number = c.self.inside.given + 1 in
    let same = text_is c.deref.result.now inside.memory.items inside.at inside.start inside.filled c.deref.ensures.value inv.front in
    let whole : IsFront number text (Whole c.in-Whole.request c.in-Whole.size) =
    subst (IsFront number text) c.in-Whole.is
    (subst (λ (t : List ℕ). IsFront number t c.examine.result) same c.examine.ensures.front) in
    let stage : IsStage number text c.examine.new.stage =
    subst (λ (t : List ℕ). IsStage number t c.examine.new.stage) same c.examine.ensures.stage in
    let found = next_in_range (c.args.self.now.given + 1) inside.start inside.filled c.in-Whole.size inside.memory.items (unread ++ inv.pulled)
    c.in-Whole.request inv.ordered (omega (arith, inv.within, inv.room)) inv.held
    (subst (λ (n : ℕ). IsWhole n text c.in-Whole.request c.in-Whole.size) inv.number whole) in
    let end : inside.start + c.in-Whole.size ≡ inside.at + c.in-Whole.size = omega (arith, inv.front) in (
      inv.pulled,
      inv.told,
      few_steps number c.examine.new.steps c.reads.steps c.args.steps.now c.args.self.now.looked inside.stage c.examine.new.stage text unread inv.pulled
          c.examine.ensures.steps inv.steps stage inv.held,
      (
        inv.number,
        subst (λ (e : ℕ). ArePiecesWithin (length (slice_range inside.memory.items inside.start e)) c.in-Whole.request) end found.0,
        subst (λ (e : ℕ). IsRequest (c.args.self.now.given + 1) (unread ++ inv.pulled)
            (request_text (slice_range inside.memory.items inside.start e) c.in-Whole.request) (slice_range inside.memory.items e inside.filled)) end found.1,
      ),
    )

pub reads-smaller : goal.reads-smaller
reads-smaller g c =
    let inside = c.reads.self-inside in
    let inv = c.reads.invariant in
    let drawn = c.draw-drawn.result in
    let before = g.S.Source.told c.reads.source in
    let after = g.S.Source.told c.draw-drawn.new.source in
    let held = slice_range c.deref_mut.result.now inside.start inside.filled in
    let now = slice_range c.draw-drawn.new.memory drawn.start drawn.filled in
    let d : Draws before after held now (Got c.in-Got.field-0) = subst (Draws before after held now) c.in-Got.is c.draw-drawn.ensures.draws in
    let long : length c.draw-drawn.new.memory ≡ inside.memory.len = grind (arith, common_steps) in
    omega (
      arith,
      d.1,
      ap length d.3,
      length-append held d.0,
      long,
      inv.room,
      inv.ordered,
      inv.within,
      c.deref_mut.ensures.len,
      length-take (inside.filled - inside.start) (drop inside.start c.deref_mut.result.now),
      length-drop inside.start c.deref_mut.result.now,
      length-take (drawn.filled - drawn.start) (drop drawn.start c.draw-drawn.new.memory),
      length-drop drawn.start c.draw-drawn.new.memory,
      c.draw-drawn.ensures.within,
      c.draw-drawn.ensures.ordered,
    )

pub reads-preserved : goal.reads-preserved
reads-preserved g c =
    let inside = c.reads.self-inside in
    let inv = c.reads.invariant in
    let drawn = c.draw-drawn.result in
    let number = c.self.inside.given + 1 in
    let before = g.S.Source.told c.reads.source in
    let after = g.S.Source.told c.draw-drawn.new.source in
    let text = slice_range inside.memory.items inside.start inside.filled in
    let held = slice_range c.deref_mut.result.now inside.start inside.filled in
    let now = slice_range c.draw-drawn.new.memory drawn.start drawn.filled in
    let d : Draws before after held now (Got c.in-Got.field-0) = subst (Draws before after held now) c.in-Got.is c.draw-drawn.ensures.draws in
    let more = d.0 in
    let long : length c.draw-drawn.new.memory ≡ inside.memory.len = grind (arith, common_steps) in
    let memory = with_items inside.memory c.draw-drawn.new.memory in
    let got : slice_range memory.items drawn.start drawn.filled ≡ text ++ more =
    ap (λ (m : List ℕ). slice_range m drawn.start drawn.filled) (with_items_is inside.memory c.draw-drawn.new.memory long)
    ∙ d.3
    ∙ ap (λ (m : List ℕ). slice_range m inside.start inside.filled ++ more) c.deref_mut.ensures.value in
    let same = text_is c.deref.result.now inside.memory.items inside.at inside.start inside.filled c.deref.ensures.value inv.front in
    let stage : IsStage number text c.examine.new.stage =
    subst (λ (t : List ℕ). IsStage number t c.examine.new.stage) same c.examine.ensures.stage in
    let unread = c.args.self.now.unread in
    let bytes = unread ++ inv.pulled in
    let front : IsFront number bytes c.examine.result =
    subst (λ (t : List ℕ). IsFront number t c.examine.result) (same ∙ inv.held) c.examine.ensures.front in
    let rest : IsBlank bytes ⊎ IsUnfinished bytes =
    (elim c.match-examine.branch [
      | in-Blank w ↦ inl (subst (IsFront number bytes) w.in-Blank.is front)
      | in-Open w ↦ inr ((subst (IsFront number bytes) w.in-Open.is front).0)
    ]) in
    record {
      pulled = inv.pulled ++ more;
      told = inv.told ∙ ap (with_front inv.pulled) d.2 ∙ pulled_more inv.pulled more after;
      held = got ∙ ap (λ (l : List ℕ). l ++ more) inv.held ∙ append_assoc c.args.self.now.unread inv.pulled more;
      front = refl;
      ordered = c.draw-drawn.ensures.ordered;
      within = grind (arith, common_steps);
      room = search rules;
      number = inv.number;
      stage = subst (λ (t : List ℕ). IsStage number t c.examine.new.stage) (sym got)
          (stage_more number text more c.examine.new.stage stage);
      given = inv.given;
      faults = search rules;
      steady = search rules;
      waits = waits_on unread inv.pulled (inv.pulled ++ more) inv.waits rest;
      steps = omega (arith, c.examine.ensures.steps, inv.steps);
    }

pub returns-in-Failed-clause-next : goal.returns-in-Failed-clause-next
returns-in-Failed-clause-next g c =
    let inside = c.reads.self-inside in
    let inv = c.reads.invariant in
    let drawn = c.draw-drawn.result in
    let number = c.self.inside.given + 1 in
    let unread = c.args.self.now.unread in
    let bytes = unread ++ inv.pulled in
    let before = g.S.Source.told c.reads.source in
    let after = g.S.Source.told c.draw-drawn.new.source in
    let text = slice_range inside.memory.items inside.start inside.filled in
    let held = slice_range c.deref_mut.result.now inside.start inside.filled in
    let now = slice_range c.draw-drawn.new.memory drawn.start drawn.filled in
    let d : Draws before after held now Failed = subst (Draws before after held now) c.in-Failed.is c.draw-drawn.ensures.draws in
    let same = text_is c.deref.result.now inside.memory.items inside.at inside.start inside.filled c.deref.ensures.value inv.front in
    let front : IsFront number bytes c.examine.result =
    subst (λ (t : List ℕ). IsFront number t c.examine.result) (same ∙ inv.held) c.examine.ensures.front in
    let stage : IsStage number text c.examine.new.stage =
    subst (λ (t : List ℕ). IsStage number t c.examine.new.stage) same c.examine.ensures.stage in
    let rest : IsBlank bytes ⊎ IsUnfinished bytes =
    (elim c.match-examine.branch [
      | in-Blank w ↦ inl (subst (IsFront number bytes) w.in-Blank.is front)
      | in-Open w ↦ inr ((subst (IsFront number bytes) w.in-Open.is front).0)
    ]) in
    let long : length c.draw-drawn.new.memory ≡ inside.memory.len = grind (arith, common_steps) in
    let memory = with_items inside.memory c.draw-drawn.new.memory in
    let kept : slice_range memory.items drawn.start drawn.filled ≡ bytes =
    ap (λ (m : List ℕ). slice_range m drawn.start drawn.filled) (with_items_is inside.memory c.draw-drawn.new.memory long)
    ∙ d.1
    ∙ ap (λ (m : List ℕ). slice_range m inside.start inside.filled) c.deref_mut.ensures.value
    ∙ inv.held in (
      inv.pulled,
      inv.told ∙ ap (with_front inv.pulled) (sym d.0),
      few_steps number c.examine.new.steps c.reads.steps c.args.steps.now c.args.self.now.looked inside.stage c.examine.new.stage text unread inv.pulled
          c.examine.ensures.steps inv.steps stage inv.held,
      (rest, record { unread = kept; given = ap (λ (n : ℕ). n + 1) inv.given }),
    )

pub returns-in-Failed-clause-at_once : goal.returns-in-Failed-clause-at_once
unfolding ReadsAtNeed
returns-in-Failed-clause-at_once g c =
    let inside = c.reads.self-inside in
    let inv = c.reads.invariant in
    let number = c.self.inside.given + 1 in
    let unread = c.args.self.now.unread in
    let bytes = unread ++ inv.pulled in
    let same = text_is c.deref.result.now inside.memory.items inside.at inside.start inside.filled c.deref.ensures.value inv.front in
    let front : IsFront number bytes c.examine.result =
    subst (λ (t : List ℕ). IsFront number t c.examine.result) (same ∙ inv.held) c.examine.ensures.front in
    let rest : IsBlank bytes ⊎ IsUnfinished bytes =
    (elim c.match-examine.branch [
      | in-Blank w ↦ inl (subst (IsFront number bytes) w.in-Blank.is front)
      | in-Open w ↦ inr ((subst (IsFront number bytes) w.in-Open.is front).0)
    ]) in
    held_still unread inv.pulled _ inv.waits rest

pub returns-in-End-clause-at_once : goal.returns-in-End-clause-at_once
unfolding ReadsAtNeed
returns-in-End-clause-at_once g c =
    let inside = c.reads.self-inside in
    let inv = c.reads.invariant in
    let number = c.self.inside.given + 1 in
    let unread = c.args.self.now.unread in
    let bytes = unread ++ inv.pulled in
    let same = text_is c.deref.result.now inside.memory.items inside.at inside.start inside.filled c.deref.ensures.value inv.front in
    let front : IsFront number bytes c.examine.result =
    subst (λ (t : List ℕ). IsFront number t c.examine.result) (same ∙ inv.held) c.examine.ensures.front in
    let rest : IsBlank bytes ⊎ IsUnfinished bytes =
    (elim c.match-examine.branch [
      | in-Blank w ↦ inl (subst (IsFront number bytes) w.in-Blank.is front)
      | in-Open w ↦ inr ((subst (IsFront number bytes) w.in-Open.is front).0)
    ]) in
    held_still unread inv.pulled _ inv.waits rest

pub returns-in-Whole-clause-at_once : goal.returns-in-Whole-clause-at_once
unfolding ReadsAtNeed
returns-in-Whole-clause-at_once g c =
    let inside = c.reads.self-inside in
    let inv = c.reads.invariant in
    let unread = c.args.self.now.unread in
    let text = slice_range inside.memory.items inside.start inside.filled in
    let number = c.self.inside.given + 1 in
    let same = text_is c.deref.result.now inside.memory.items inside.at inside.start inside.filled c.deref.ensures.value inv.front in
    let whole : IsFront number text (Whole c.in-Whole.request c.in-Whole.size) =
    subst (IsFront number text) c.in-Whole.is
    (subst (λ (t : List ℕ). IsFront number t c.examine.result) same c.examine.ensures.front) in
    let size = length-take (inside.filled - inside.start) (drop inside.start inside.memory.items) in
    λ (decided : IsDecided unread).
    parts_of_range inside.memory.items inside.start (inside.at + c.in-Whole.size) c.in-Whole.size inside.filled (omega (arith, inv.front))
    (omega (arith, inv.front, whole.within, size, inv.ordered))
    ∙ inv.held
    ∙ all_held unread inv.pulled inv.waits decided

pub returns-in-Fault-clause-at_once : goal.returns-in-Fault-clause-at_once
unfolding ReadsAtNeed
returns-in-Fault-clause-at_once g c =
    let inside = c.reads.self-inside in
    let inv = c.reads.invariant in
    let unread = c.args.self.now.unread in
    λ (decided : IsDecided unread).
    parts_of_range inside.memory.items inside.start inside.at 0 inside.filled (omega (arith, inv.front)) (omega (arith, inv.front, inv.ordered))
    ∙ inv.held
    ∙ all_held unread inv.pulled inv.waits decided
