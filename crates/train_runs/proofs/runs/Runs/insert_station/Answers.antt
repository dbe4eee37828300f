use Rattle.std.proofs.Common.{rules, ◌≡◌, ◌<◌, ◌++◌, ◌∷◌, [], ℕ, List, ◌∙◌, sym, ap, subst, None, length}
use Rattle.std.proofs.Common.{true}
use Rattle.std.specs.BTreeMap.{get}
use Rattle.std.specs.Ordering.{nat_cmp}
use Rattle.train_runs.specs.Stations.{StationView, station_with, is_code, code_number}
use Rattle.train_runs.specs.Runs.{RunsView, AreSound}
use Rattle.train_runs.specs.declared.departure.Departure.{Departure}
use Rattle.train_runs.specs.Boards.{HasBoards}
use Rattle.train_runs.proofs.Coding.{grows}
use Rattle.train_runs.proofs.Numbers.{finds_number}
use Rattle.train_runs.proofs.Posting.{boards_grow}
use Rattle.train_runs.proofs.runs.Runs.insert_station.Goals as goal

pub invariant_of-self-in-Ok : goal.invariant_of-self-in-Ok
invariant_of-self-in-Ok c =
    let last : StationView = record { code = c.args.code.now; change = c.args.change } in
    let was : c.self.inside.stations.items ≡ c.args.self.now.stations = ap (λ (r : RunsView). r.stations) c.self.view_is in
    let made : c.new.result ≡ last = c.new.ensures ∙ ap (λ (code : List ℕ). record { code = code; change = c.args.change }) c.in_ok-from_str.ensures.ok in
    let stations : c.push.new.self.items ≡ c.self.inside.stations.items ++ last ∷ [] = c.in_ok-push.ensures.items ∙ ap (λ (s : StationView). c.self.inside.stations.items ++ s ∷ []) made in
    let boards : c.push-2.new.self.items ≡ c.self.inside.boards.items ++ [] ∷ [] = c.in_default.ensures.items ∙ ap (λ (b : List Departure). c.self.inside.boards.items ++ b ∷ []) c.new-2.ensures in
    let count : c.len.result ≡ length c.self.inside.stations.items = search rules in
    let fresh : station_with c.args.code.now c.self.inside.stations.items ≡ None = ap (station_with c.args.code.now) was ∙ c.requires.fresh in
    let keyed : c.code_number-key.result ≡ code_number c.args.code.now = c.code_number-key.ensures ∙ ap code_number c.as_bytes.ensures.value in (
      subst (λ (ss : List StationView). AreSound (record { stations = ss; runs = c.self.inside.runs.items })) (sym stations)
          (grows (record { stations = c.self.inside.stations.items; runs = c.self.inside.runs.items }) last c.self.invariant.0 (subst (λ (ss : List StationView). length ss < 65536) (sym was) c.requires.room) c.requires.code),
      subst (λ (ss : List StationView). (code : List ℕ) → is_code code ≡ true → get nat_cmp c.insert.new.self (code_number code) ≡ station_with code ss) (sym stations)
          (finds_number c.self.inside.stations.items last c.self.inside.numbers c.insert.new.self c.code_number-key.result c.len.result c.requires.code fresh keyed count c.in-Ok.ensures.updates c.self.invariant.1),
      subst (λ (ss : List StationView). HasBoards (record { stations = ss; runs = c.self.inside.runs.items }) c.push-2.new.self.items) (sym stations)
          (subst (λ (bs : List (List Departure)). HasBoards (record { stations = c.self.inside.stations.items ++ last ∷ []; runs = c.self.inside.runs.items }) bs) (sym boards)
          (boards_grow (record { stations = c.self.inside.stations.items; runs = c.self.inside.runs.items }) last c.self.inside.boards.items c.self.invariant.0 c.self.invariant.2)),
    )
