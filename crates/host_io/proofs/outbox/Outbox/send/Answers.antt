use Rattle.std.proofs.Common.{rules, ℕ, List, take, drop, ◌∙◌, ap}
use Rattle.rail_io.specs.Told.{with_end}
use Rattle.std.proofs.lemmas.List.{take_rest}
use Rattle.host_io.proofs.Sending.{send_more}
use Rattle.host_io.proofs.outbox.Outbox.send.Goals as goal

pub loop-self-preserved : goal.loop-self-preserved
loop-self-preserved g c =
    let inv = c.loop-self.invariant in
    let items = c.loop-self.self-inside.bytes.items in
    let all = c.deref.result.now in
    let sent = c.loop-self.self-inside.sent in
    let n = c.in-Took.count in
    let pushes = c.in-Took.ensures.pushes in
    let before = g.K.Sink.told c.loop-self.sink in
    record {
      told = send_more before (g.K.Sink.told c.write.new.self) items sent n
          (pushes.2 ∙ ap (λ (l : List ℕ). with_end before (take n l)) (take_rest all sent ∙ ap (λ (l : List ℕ). drop sent l) c.deref.ensures.value))
          ∙ inv.told;
      within = search rules;
      few = inv.few;
      room = inv.room;
      stays = λ seen same. same _ _ _ c.in-Took.ensures.takes ∙ inv.stays seen same;
      faults = c.in-Took.ensures.steady (λ e. absurd cc) ∙ inv.faults;
    }
