use Rattle.std.proofs.Common.{◌≡◌, ◌+◌, ◌++◌, ◌∷◌, [], List, length, subst, ap, ◌∙◌, arith, rules}
use mathlib.Core.List.{IsPrefix}
use Rattle.std.proofs.lemmas.List.{length-append}
use Rattle.worker_pool.specs.declared.member.Member.{Member}
use Rattle.worker_pool.specs.Crews.{HasGiven, Held, IsMember, HasMetAll}
use Rattle.worker_pool.proofs.Crewing.{front_of, given_one, last_of, met_one, popped}
use Rattle.worker_pool.proofs.meeting.meet_others.Goals as goal

pub loop-crew-preserved : goal.loop-crew-preserved
loop-crew-preserved g c =
    let all = c.args.crew.items in
    let crew = c.pop.new.self.items in
    let m = c.unwrap-member.result in
    let inv = c.loop-crew.invariant in
    let whole : c.loop-crew.crew.items ≡ crew ++ m ∷ [] = search rules in
    let front : IsPrefix (crew ++ m ∷ []) all = subst (λ (l : List (Member g.row.W.Denot)). IsPrefix l all) whole inv.front in
    let last = last_of g.W.Worker.fits c.args.books.now all crew m c.requires.crew front in
    let count : length c.loop-crew.crew.items ≡ length crew + 1 = ap length whole ∙ length-append crew (m ∷ []) in
    let met = subst (λ n. HasMetAll c.args.books.now all n c.loop-crew.first) count inv.met in
    let old : Held = record { parts = c.args.all.now.parts; amount = c.args.all.now.amount } in
    let mid : Held = record { parts = c.loop-crew.all.parts; amount = c.loop-crew.all.amount } in
    let new : Held = record { parts = c.give.new.all.parts; amount = c.give.new.all.amount } in
    let given = subst (λ n. HasGiven g.W.Gives.parts g.W.Gives.amount all n old mid) count inv.given in
    record {
      some = omega (arith, count, c.loop-crew-test.true);
      front = front_of g.W.Worker.fits c.args.books.now all crew m front;
      given = given_one g.W.Worker.fits c.args.books.now g.W.Gives.parts g.W.Gives.amount all crew m old mid new front given c.give.ensures.parts c.give.ensures.amount;
      met = met_one g.W.Worker.fits c.args.books.now all crew m c.loop-crew.first c.meet.new.desk front last.0 met c.meet.ensures.met c.meet.ensures.own (c.meet.ensures.tidy inv.met.tidy);
    }

pub meet-requires : goal.meet-requires
meet-requires g c =
    let rest = c.pop.new.self.items in
    let m = c.unwrap-member.result in
    let whole : c.loop-crew.crew.items ≡ rest ++ m ∷ [] = search rules in
    let last : IsMember g.W.Worker.fits c.args.books.now (length rest + 1) m =
    popped g.W.Worker.fits c.args.books.now c.args.crew.items c.loop-crew.crew.items rest m c.requires.crew c.loop-crew.invariant.front whole in
    let number = last.desk.number in
    record {
      own = (c.loop-crew.invariant.met.own, last.desk.own);
      other = λ e. absurd (omega (arith, number, e));
      idle = (c.loop-crew.invariant.met.tidy.0, last.desk.tidy.0);
    }
