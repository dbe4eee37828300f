use Rattle.std.proofs.Common.{inr, ◌∙◌, ap}
use Rattle.host_io.specs.Outbox.{Steady}
use Rattle.host_io.specs.Wires.{limits_of}
use Rattle.host_io.proofs.Staying.{steady, steady_of}
use Rattle.host_io.proofs.talk.Talk.take.Goals as goal

pub returns-clause-held : goal.returns-clause-held
returns-clause-held g c =
    let same = c.write-taken.ensures.stays
    (λ s. steady_of (g.W.Wire.incoming s.line.wire) (limits_of (g.W.Wire.settings s.line.wire)) s.cut)
    (λ before after bytes took. steady _ _ _ _ _ _ took.0 took.1 took.2) in
    inr (ap (λ (s : Steady). s.cut) same ∙ c.hold_until.ensures.held.0)

pub returns-clause-left : goal.returns-clause-left
returns-clause-left g c =
    let same = c.write-taken.ensures.stays
    (λ s. steady_of (g.W.Wire.incoming s.line.wire) (limits_of (g.W.Wire.settings s.line.wire)) s.cut)
    (λ before after bytes took. steady _ _ _ _ _ _ took.0 took.1 took.2) in
    ap (λ (s : Steady). s.incoming) same ∙ ap (λ l. g.W.Wire.incoming l.wire) c.hold_until.ensures.held.1

pub returns-clause-limits : goal.returns-clause-limits
returns-clause-limits g c =
    let same = c.write-taken.ensures.stays
    (λ s. steady_of (g.W.Wire.incoming s.line.wire) (limits_of (g.W.Wire.settings s.line.wire)) s.cut)
    (λ before after bytes took. steady _ _ _ _ _ _ took.0 took.1 took.2) in
    ap (λ (s : Steady). s.limits) same ∙ ap (λ l. limits_of (g.W.Wire.settings l.wire)) c.hold_until.ensures.held.1
