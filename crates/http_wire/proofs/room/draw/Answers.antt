use Rattle.std.proofs.Common.{◌≡◌, ◌≤◌, ◌+◌, ◌-◌, ℕ, List, ◌++◌, Option, length, drop, take, sym, ◌∙◌, ap, subst, arith, length-append}
use Rattle.std.specs.Prelude.{slice_range}
use Rattle.std.proofs.lemmas.List.{length-take, drop-take, drop-append-le}
use Rattle.rail_io.specs.declared.source.Pulled.{Pulled}
use Rattle.rail_io.specs.declared.source.Pulled.TheVariants.{Got, End, Failed}
use Rattle.http_wire.specs.Next.{PullsBehind, Draws, end_behind}
use Rattle.http_wire.proofs.room.draw.Goals as goal

range_is : (text : List ℕ) (at end : ℕ) → at ≤ end → drop at (take end text) ≡ slice_range text at end
range_is text at end le =
    let back : at + (end - at) ≡ end = omega (arith, le) in
    ap (λ (k : ℕ). drop at (take k text)) (sym back) ∙ drop-take at (end - at) text

module _ (before after : Option (List ℕ)) (old new held : List ℕ) (at end : ℕ) (ordered : at ≤ end) (within : end ≤ length old)
    (is : slice_range old at end ≡ held) where
  same : take end new ≡ take end old → slice_range new at end ≡ held
  same e = sym (range_is new at end ordered) ∙ ap (drop at) e ∙ range_is old at end ordered ∙ is

  pub draws : (answer : Pulled) → PullsBehind before after old new end answer → Draws before after held (slice_range new at (end_behind end answer)) answer
  draws (Got n) p =
      let pulled = p.0 in
      let long : length (take (end + n) new) ≡ end + n = omega (arith, length-take (end + n) new, p.2) in
      let size : length pulled ≡ n = omega (arith, long, ap length p.4, length-append (take end old) pulled, length-take end old, within) in (
        pulled,
        omega (arith, size, p.1),
        p.3,
        sym (range_is new at (end + n) (omega (arith, ordered)))
            ∙ ap (drop at) p.4
            ∙ drop-append-le at (take end old) pulled (omega (arith, ordered, length-take end old, within))
            ∙ ap (λ (l : List ℕ). l ++ pulled) (range_is old at end ordered ∙ is),
      )
  draws End p = (p.0, p.1, same p.2)
  draws Failed p = (p.0, same p.1)

pub returns-clause-draws : goal.returns-clause-draws
returns-clause-draws g c =
    let before = g.S.Source.told c.args.source.now in
    let after = g.S.Source.told c.pull-answer.new.source in
    let held = slice_range c.args.memory.now c.args.start c.args.filled in
    let now = c.pull-answer.new.memory in
    let place = c.make_room-place.result in
    let end = place + (c.args.filled - c.args.start) in
    let answer = c.pull-answer.result in
    let drawn = c.with_read.result in
    let is = draws before after c.make_room-place.new.memory now held place end (omega arith) (omega arith) c.make_room-place.ensures.held answer
    c.pull-answer.ensures.pulls in
    subst (Draws before after held (slice_range now drawn.start drawn.filled)) (sym c.with_read.ensures.answer)
    (subst (λ (f : ℕ). Draws before after held (slice_range now drawn.start f) answer) (sym c.with_read.ensures.filled)
    (subst (λ (s : ℕ). Draws before after held (slice_range now s (end_behind end answer)) answer) (sym c.with_read.ensures.start) is))
