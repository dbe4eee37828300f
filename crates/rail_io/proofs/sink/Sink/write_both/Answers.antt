use Rattle.std.proofs.Common.{◌≡◌, ℕ, List, length, take, Option, inr, sym, ◌∙◌, ap, arith, length-append}
use Rattle.rail_io.specs.Told.{with_end}
use Rattle.rail_io.proofs.Ends.{end_more, take_both}
use Rattle.rail_io.proofs.sink.Sink.write_both.Goals as goal

pub returns-in-Took-write-clause-pushes : goal.returns-in-Took-write-clause-pushes
returns-in-Took-write-clause-pushes g c =
    let first = c.args.first.now in
    let second = c.args.second.now in
    let count = c.in-Took.count in
    let more = c.in-Took-write.more in
    let one = c.in-Took.ensures.pushes in
    let two = c.in-Took-write.ensures.pushes in
    let whole : count ≡ length first = omega (arith, c.if-count-first.false, one.1) in (
      omega (arith, one.0),
      omega (arith, one.1, two.1, length-append first second),
      two.2
          ∙ ap (λ (t : Option (List ℕ)). with_end t (take more second)) one.2
          ∙ end_more (g.Self.Sink.told c.args.self.now) (take count first) (take more second)
          ∙ ap (with_end (g.Self.Sink.told c.args.self.now)) (take_both first second count more whole),
    )

pub returns-in-Took-write-clause-takes : goal.returns-in-Took-write-clause-takes
returns-in-Took-write-clause-takes g c =
    let first = c.args.first.now in
    let second = c.args.second.now in
    let count = c.in-Took.count in
    let more = c.in-Took-write.more in
    let one = c.in-Took.ensures.pushes in
    let whole : count ≡ length first = omega (arith, c.if-count-first.false, one.1) in
    inr (
      c.write.new.self,
      take count first,
      take more second,
      c.in-Took.ensures.takes,
      c.in-Took-write.ensures.takes,
      sym (take_both first second count more whole),
    )
