use Rattle.std.proofs.Common.{◌≡◌, ◌+◌, ◌-◌, ◌^◌, ℕ, suc, inl, inr, refl, subst, arith}
use Rattle.host_window.specs.Callers.{ServesInTurn, calls, counter}
use Rattle.host_window.proofs.callers.show_all.Goals as goal

pub returns-in_default : goal.returns-in_default
returns-in_default g c = record {
  all = inr (c.loop.counter, counter c.loop.callers c.loop.server, c.loop.invariant, (refl, inl c.in_default.ensures.ends));
}

pub returns-then-is_over : goal.returns-then-is_over
returns-then-is_over g c = record {
  all = inr (
    c.loop.counter,
    counter c.loop.callers c.loop.server,
    c.loop.invariant,
    (refl, inr (c.in-Some.input, c.in-Some.output, c.in-Some.ensures.hands, c.if-is_over.ensures.over refl)),
  );
}

pub loop-preserved : goal.loop-preserved
loop-preserved g c =
    let did = calls g.W.Callers.hands g.W.Callers.ends g.V.Server.serves g.V.Server.over in
    let more : suc c.loop.counter ≡ c.loop.counter + 1 = omega arith in
    subst (λ (n : ℕ). ServesInTurn did n (counter c.args.callers.now c.args.server.now) (counter c.next_caller.new.self c.serve.new.self)) more (
      counter c.loop.callers c.loop.server,
      c.in-Some.input,
      c.in-Some.output,
      c.loop.invariant,
      c.in-Some.ensures.hands,
      c.serve.ensures.serves,
    )

pub returns : goal.returns
returns g c =
    let did = calls g.W.Callers.hands g.W.Callers.ends g.V.Server.serves g.V.Server.over in
    let all : c.loop.counter ≡ 2 ^ 64 - 1 = omega (arith, c.loop.auto.counter-end, c.loop-test.false) in
    record {
      all = inl (subst (λ (n : ℕ). ServesInTurn did n (counter c.args.callers.now c.args.server.now) (counter c.loop.callers c.loop.server)) all c.loop.invariant);
    }
