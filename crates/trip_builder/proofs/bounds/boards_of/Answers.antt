use Rattle.std.proofs.Common.{◌≡◌, ◌∙◌, ◌+◌, List, ◌∷◌, [], ◌++◌, length, length-append, sym, ap, subst, arith}
use Rattle.train_runs.specs.declared.wish.TripWish.{TripWish}
use Rattle.trip_builder.specs.declared.board.Useful.{Useful}
use Rattle.trip_builder.specs.declared.boards.Draft.{Draft}
use Rattle.trip_builder.specs.declared.ranks.FirstTwo.{FirstTwo}
use Rattle.trip_builder.specs.Bounds.{AreRanks, AreRides, AreFirsts, AreBoards}
use Rattle.trip_builder.specs.Boards.{ArePosted}
use Rattle.trip_builder.proofs.Bounding.{boards_more, late_board, board_posted}
use Rattle.trip_builder.proofs.bounds.boards_of.Goals as goal
use Rattle.trip_builder.proofs.bounds.boards_of.Goals.{then-is_marked+in_ok-gather+in_ok-add, else-is_marked+in_ok-skip}

pub loop-station-preserved : goal.loop-station-preserved
loop-station-preserved c =
    let r = c.args.runs.now in
    let v = c.args.ranks.now in
    let rides = c.args.rides.now in
    let changes = c.args.changes in
    let station = c.loop-station.station in
    let old = c.loop-station.draft.boards in
    let was = c.loop-station.invariant in
    let count = was.count in
    elim c.if-is_marked.branch [
      | then-is_marked+in_ok-gather+in_ok-add x ↦
          let added = x.in_ok-add.ensures in
          let new = x.add.new.self.boards in
          let ds = x.all_leaving-departures.result.now in
          let twos = x.as_slice.result.now in
          let more : length new ≡ length old + 1 = ap (λ (l : List (List Useful)). length l) added.is ∙ length-append old (added.board ∷ []) in
          let posted : ArePosted ds twos v.late added.board = subst (λ n. ArePosted ds twos n added.board) x.late.ensures added.posted in
          record {
            count = subst (λ (d : Draft). length d.boards ≡ station + 1) (sym x.draft-is) (omega (arith, more, count));
            each = subst (λ (d : Draft). (w : TripWish) → AreRanks r w v → AreRides r w v changes rides → AreBoards r w v changes d.boards) (sym x.draft-is)
                (λ w ranks are.
                (let firsts = subst (λ (l : List FirstTwo). AreFirsts r w v changes ds (length ds) l) (sym x.as_slice.ensures.value) (x.in_ok-gather.ensures r w ranks are) in
                boards_more r w v changes station old new added.board added.is count (was.each w ranks are)
                (board_posted r w v changes (record { 0 = station }) ds twos added.board x.all_leaving-departures.ensures.leaving firsts posted)));
          }
      | else-is_marked+in_ok-skip x ↦
          let new = x.skip.new.self.boards in
          let none : List Useful = [] in
          let is : new ≡ old ++ none ∷ [] = x.in_ok-skip.ensures in
          let more : length new ≡ length old + 1 = ap (λ (l : List (List Useful)). length l) is ∙ length-append old (none ∷ []) in
          record {
            count = subst (λ (d : Draft). length d.boards ≡ station + 1) (sym x.draft-is) (omega (arith, more, count));
            each = subst (λ (d : Draft). (w : TripWish) → AreRanks r w v → AreRides r w v changes rides → AreBoards r w v changes d.boards) (sym x.draft-is)
                (λ w ranks are.
                boards_more r w v changes station old new none is count (was.each w ranks are) (late_board r w v changes station none (c.is_marked.ensures r w v changes are x.if-is_marked.false)));
          }
    ]
