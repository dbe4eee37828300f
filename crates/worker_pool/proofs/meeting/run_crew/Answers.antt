use Rattle.std.proofs.Common.{◌≡◌, ◌<◌, ◌+◌, ◌++◌, ℕ, List, length, slice_index_or, take, drop, sym, subst, ap, ◌∙◌, arith, rules}
use Rattle.claim_rule.specs.Desks.{IsOf}
use Rattle.claim_rule.specs.Out.{IsTidy}
use Rattle.worker_pool.specs.declared.member.Member.{Member}
use Rattle.worker_pool.specs.Turns.{KeepsDesk, RunsToEnd}
use Rattle.worker_pool.specs.Crews.{HasGiven, IsCrew, IsMember, HasMetAll}
use Rattle.worker_pool.proofs.Crewing.{after_run, all_written, since}
use Rattle.worker_pool.proofs.meeting.run_crew.Goals as goal

pub returns : goal.returns
returns g c =
    let books = c.args.books.now in
    let was = c.as_mut_slice.result.now in
    let old = c.args.crew.items in
    let crew = c.run_workers.new.crew in
    let same : was ≡ old = c.as_mut_slice.ensures.value in
    let ran = c.run_workers.ensures in
    let none = c.meet_others.result in
    let count : length crew ≡ length old = search rules in
    let is = after_run g.W.Worker.fits books old crew c.requires.crew count
    (since (λ _ m. g.W.Worker.fits m.worker books) was old crew same ran.fits)
    (since (λ _ m. IsOf books m.desk) was old crew same ran.own)
    (since (λ _ m. IsTidy m.desk) was old crew same ran.tidy)
    (since (λ m n. KeepsDesk m.desk n.desk) was old crew same ran.keeps) in
    let same_len : length crew ≡ c.args.crew.len = search rules in
    let written : take c.args.crew.len (crew ++ drop (length crew) old) ≡ crew = all_written c.args.crew.len old crew same_len count in
    let left : (n : Member g.row.W.Denot) → c.meet_others.result ≡ slice_index_or crew 0 n =
    (λ n. c.meet_others.ensures.left n ∙ ap (λ (l : List (Member g.row.W.Denot)). slice_index_or l 0 n) written) in
    let one : 0 + 1 ≡ 1 = omega arith in
    let some : 0 < length crew = omega (arith, count, c.requires.some) in
    record {
      run = record {
        crew = crew;
        count = count;
        are = is;
        turns = since (λ m n. RunsToEnd g.W.Worker.does g.W.Worker.ended m.worker m.desk n.worker n.desk) was old crew same ran.turns;
        keeps = since (λ m n. KeepsDesk m.desk n.desk) was old crew same ran.keeps;
        met = subst (λ (l : List (Member g.row.W.Denot)). HasMetAll books l 1 c.meet_others.new.first) written c.meet_others.ensures.first;
        is = subst (λ (m : Member g.row.W.Denot). IsMember g.W.Worker.fits books 1 m) (sym (left none))
            (subst (λ (k : ℕ). IsMember g.W.Worker.fits books k (slice_index_or crew 0 none)) one (is 0 none some));
        left = left;
        given = subst (λ (l : List (Member g.row.W.Denot)). HasGiven g.W.Gives.parts g.W.Gives.amount l 1
            (record { parts = c.args.all.now.parts; amount = c.args.all.now.amount })
            (record { parts = c.meet_others.new.all.parts; amount = c.meet_others.new.all.amount })) written c.meet_others.ensures.given;
      };
    }

pub run_workers-requires-clause-tidy : goal.run_workers-requires-clause-tidy
run_workers-requires-clause-tidy g c κs within k d lt =
    let same = c.as_mut_slice.ensures.value in
    subst (λ (l : List (Member g.row.W.Denot)). IsTidy (slice_index_or l k d).desk) (sym same)
    (c.requires.crew k d (subst (λ (l : List (Member g.row.W.Denot)). k < length l) same lt)).desk.tidy

pub meet_others-requires-clause-crew : goal.meet_others-requires-clause-crew
meet_others-requires-clause-crew g c =
    let books = c.args.books.now in
    let was = c.as_mut_slice.result.now in
    let old = c.args.crew.items in
    let crew = c.run_workers.new.crew in
    let same : was ≡ old = c.as_mut_slice.ensures.value in
    let ran = c.run_workers.ensures in
    let count : length crew ≡ length old = search rules in
    let is = after_run g.W.Worker.fits books old crew c.requires.crew count
    (since (λ _ m. g.W.Worker.fits m.worker books) was old crew same ran.fits)
    (since (λ _ m. IsOf books m.desk) was old crew same ran.own)
    (since (λ _ m. IsTidy m.desk) was old crew same ran.tidy)
    (since (λ m n. KeepsDesk m.desk n.desk) was old crew same ran.keeps) in
    let same_len : length crew ≡ c.args.crew.len = search rules in
    let written : take c.args.crew.len (crew ++ drop (length crew) old) ≡ crew = all_written c.args.crew.len old crew same_len count in
    subst (λ (l : List (Member g.row.W.Denot)). IsCrew g.W.Worker.fits books l) (sym written) is
