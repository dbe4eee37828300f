use Rattle.std.proofs.Common.{◌≡◌, ℕ, List, length, take, Option, ◌∙◌, ap, arith, length-append}
use Rattle.rail_io.specs.Told.{with_end}
use Rattle.host_io.specs.Outbox.{OutboxView}
use Rattle.host_io.proofs.Sending.{both_more}
use Rattle.host_io.proofs.outbox.Outbox.write_both.Goals as goal

pub returns-in-Took-send_with-clause-pushes : goal.returns-in-Took-send_with-clause-pushes
returns-in-Took-send_with-clause-pushes g c =
    let first = c.args.first.now in
    let second = c.args.second.now in
    let before = with_end (g.K.Sink.told c.args.sink.now) c.args.self.now.held in
    let later = with_end (g.K.Sink.told c.send_with.new.sink) c.send_with.new.self.held in
    let more = c.in-Took-send_with.more in
    let one = c.in-Took.ensures.pushes in
    let two = c.in-Took-send_with.ensures.takes in
    let kept = ap (λ (o : OutboxView). with_end (with_end (g.K.Sink.told c.write.new.sink) o.held) (take more second)) (c.hold.ensures.full c.if-hold.false) in
    let whole : c.in-Took.count ≡ length first = omega (arith, c.if-count-first.false, one.1) in (
      omega (arith, one.0),
      omega (arith, one.1, two.0, length-append first second),
      both_more before later first second c.in-Took.count more
          (two.1 ∙ kept ∙ ap (λ (t : Option (List ℕ)). with_end t (take more second)) one.2) whole,
    )

pub returns-in-Failed-clause-pushes : goal.returns-in-Failed-clause-pushes
returns-in-Failed-clause-pushes g c =
    let first = c.args.first.now in
    let second = c.args.second.now in
    let before = with_end (g.K.Sink.told c.args.sink.now) c.args.self.now.held in
    let later = with_end (g.K.Sink.told c.send_with.new.sink) c.send_with.new.self.held in
    let more = c.in-Failed.more in
    let one = c.in-Took.ensures.pushes in
    let two = c.in-Failed.ensures.takes in
    let kept = ap (λ (o : OutboxView). with_end (with_end (g.K.Sink.told c.write.new.sink) o.held) (take more second)) (c.hold.ensures.full c.if-hold.false) in
    let whole : c.in-Took.count ≡ length first = omega (arith, c.if-count-first.false, one.1) in (
      omega (arith, one.1, two.0, length-append first second),
      both_more before later first second c.in-Took.count more
          (two.1 ∙ kept ∙ ap (λ (t : Option (List ℕ)). with_end t (take more second)) one.2) whole,
    )
