use Rattle.std.proofs.Common.{◌≡◌, ◌∙◌, ◌++◌, take, drop, length, Bool, List, sym, subst}
use Rattle.std.proofs.lemmas.List.{take_at}
use Rattle.trip_builder.specs.Bounds.{IsMarkedRun}
use Rattle.trip_builder.specs.Reached.{StayMarked}
use Rattle.trip_builder.proofs.Arriving.{still_marked}
use Rattle.trip_builder.proofs.rides.Rides.leave_far.Goals as goal

pub returns : goal.returns
returns c =
    let times = c.args.reached.now in
    let marks = c.args.self.now.marks in
    let new = c.unmark_far.new.marks in
    let kept : take marks.len (new ++ drop (length new) marks.items) ≡ new = take_at new _ marks.len (c.unmark_far.auto.marks ∙ c.as_mut_slice.ensures.len) in
    let stay : StayMarked times marks.items new = subst (λ (l : List Bool). StayMarked times l new) c.as_mut_slice.ensures.value c.unmark_far.ensures in
    λ r w v changes reached are. record {
      firsts = are.firsts;
      whole = λ says run. subst (IsMarkedRun r w v changes run) (sym kept) (still_marked r w v changes run times marks.items new reached stay (are.whole says run));
    }
