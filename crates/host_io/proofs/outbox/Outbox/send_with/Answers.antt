use Rattle.std.proofs.Common.{◌≡◌, ◌-◌, ℕ, List, length, take, drop, ◌∙◌, ap, arith, length-append}
use Rattle.std.proofs.lemmas.List.{take_rest}
use Rattle.rail_io.specs.Told.{with_end}
use Rattle.host_io.specs.Outbox.{OutboxView}
use Rattle.host_io.proofs.Sending.{send_behind}
use Rattle.host_io.proofs.outbox.Outbox.send_with.Goals as goal

pub returns-in-Took-clause-takes : goal.returns-in-Took-clause-takes
returns-in-Took-clause-takes g c =
    let before = g.K.Sink.told c.args.sink.now in
    let later = g.K.Sink.told c.write_behind.new.sink in
    let held = c.args.self.now.held in
    let piece = c.args.piece.now in
    let sent = c.self.inside.sent in
    let all = c.deref.result.now in
    let rest = take (length all - sent) (drop sent all) in
    let same : rest ≡ held = take_rest all sent ∙ ap (λ (l : List ℕ). drop sent l) c.deref.ensures.value ∙ ap (λ (o : OutboxView). o.held) c.self.view_is in
    let pushes = c.in-Took.ensures.pushes in (
      omega (arith, pushes, c.let_go.ensures.behind, length-append rest piece, ap (λ (l : List ℕ). length l) same, c.requires),
      ap (λ (l : List ℕ). with_end later l) c.let_go.ensures.held
          ∙ send_behind before later held rest piece c.in-Took.count c.let_go.result pushes.2 same c.let_go.ensures.behind,
    )

pub returns-in-Failed-clause-takes : goal.returns-in-Failed-clause-takes
returns-in-Failed-clause-takes g c =
    let before = g.K.Sink.told c.args.sink.now in
    let later = g.K.Sink.told c.write_behind.new.sink in
    let held = c.args.self.now.held in
    let piece = c.args.piece.now in
    let sent = c.self.inside.sent in
    let all = c.deref.result.now in
    let rest = take (length all - sent) (drop sent all) in
    let same : rest ≡ held = take_rest all sent ∙ ap (λ (l : List ℕ). drop sent l) c.deref.ensures.value ∙ ap (λ (o : OutboxView). o.held) c.self.view_is in
    let pushes = c.in-Failed.ensures.pushes in (
      omega (arith, pushes, c.let_go-in-Failed.ensures.behind, length-append rest piece, ap (λ (l : List ℕ). length l) same, c.requires),
      ap (λ (l : List ℕ). with_end later l) c.let_go-in-Failed.ensures.held
          ∙ send_behind before later held rest piece c.in-Failed.count c.let_go-in-Failed.result pushes.1 same c.let_go-in-Failed.ensures.behind,
    )
