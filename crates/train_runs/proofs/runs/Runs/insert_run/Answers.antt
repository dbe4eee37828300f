use Rattle.std.proofs.Common.{◌≡◌, ◌++◌, ◌∷◌, [], ◌<◌, ◌-◌, None, take, drop, List, length, arith, sym, ap, subst, ◌∙◌}
use Rattle.train_runs.specs.declared.departure.Departure.{Departure}
use Rattle.std.specs.Prelude.{All}
use Rattle.std.proofs.lemmas.List.{take_at}
use Rattle.train_runs.specs.Runs.{RunsView, AreSound, run_fault}
use Rattle.train_runs.specs.Stops.{RunView}
use Rattle.train_runs.specs.Boards.{ArePosted, HasBoards}
use Rattle.train_runs.proofs.Posting.{start_boards, sound_with, boards_with}
use Rattle.train_runs.proofs.runs.Runs.insert_run.Goals.{in-Ok, in-Err}
use Rattle.train_runs.proofs.runs.Runs.insert_run.Goals as goal

pub post_from-requires-clause-posted : goal.post_from-requires-clause-posted
post_from-requires-clause-posted c =
    let before : RunsView = record { stations = c.self.inside.stations.items; runs = c.self.inside.runs.items } in
    let runs : c.as_slice.result.now ≡ c.self.inside.runs.items = c.as_slice.ensures.value ∙ c.reserve.ensures.items in
    subst (λ (rs : List RunView). ArePosted rs c.args.run 0 c.as_mut_slice.result.now) (sym runs)
    (subst (λ (bs : List (List Departure)). ArePosted c.self.inside.runs.items c.args.run 0 bs) (sym c.as_mut_slice.ensures.value) (start_boards before c.args.run c.self.inside.boards.items c.self.invariant.2))

pub invariant_of-self-2 : goal.invariant_of-self-2
invariant_of-self-2 c =
    let before : RunsView = record { stations = c.self.inside.stations.items; runs = c.self.inside.runs.items } in
    let runs : c.push.new.self.items ≡ c.self.inside.runs.items ++ c.args.run ∷ [] = elim c.match-push.branch [
      | in-Ok w ↦ w.in-Ok.ensures.items ∙ ap (λ (rs : List RunView). rs ++ c.args.run ∷ []) c.reserve.ensures.items
      | in-Err w ↦ absurd (omega (arith, w.in-Err.ensures.full, c.in_ok-reserve.ensures.ok))
    ] in
    let kept : take c.self.inside.boards.len (c.post_from.new.boards ++ drop (length c.post_from.new.boards) c.self.inside.boards.items) ≡ c.post_from.new.boards =
    take_at c.post_from.new.boards _ c.self.inside.boards.len (c.post_from.ensures.same ∙ c.as_mut_slice.ensures.len) in
    let size : length c.post_from.new.boards ≡ length c.self.inside.boards.items = c.post_from.ensures.same ∙ ap length c.as_mut_slice.ensures.value in
    let seen : c.as_slice.result.now ≡ c.self.inside.runs.items = c.as_slice.ensures.value ∙ c.reserve.ensures.items in
    let posted = subst (λ (rs : List RunView). ArePosted rs c.args.run (length c.args.run.stops - 1) c.post_from.new.boards) seen c.in_ok-post_from.ensures.ok in
    let known = subst (λ (r : RunsView). All (λ s. s.station.0 < length r.stations) c.args.run.stops) (sym c.self.view_is) c.requires.known in
    let fine = subst (λ (r : RunsView). run_fault r.runs c.args.run ≡ None) (sym c.self.view_is) c.requires.faultless in (
      subst (λ (rs : List RunView). AreSound (record { stations = c.self.inside.stations.items; runs = rs })) (sym runs) (sound_with before c.args.run c.self.invariant.0 fine known),
      c.self.invariant.1,
      subst (λ (rs : List RunView). HasBoards (record { stations = c.self.inside.stations.items; runs = rs }) (take c.self.inside.boards.len (c.post_from.new.boards ++ drop (length c.post_from.new.boards) c.self.inside.boards.items))) (sym runs)
          (subst (λ (bs : List (List Departure)). HasBoards (record { stations = c.self.inside.stations.items; runs = c.self.inside.runs.items ++ c.args.run ∷ [] }) bs) (sym kept)
          (boards_with before c.args.run c.self.inside.boards.items c.post_from.new.boards c.self.invariant.2 size posted)),
    )
