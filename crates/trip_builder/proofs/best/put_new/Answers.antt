use Rattle.std.proofs.Common.{◌≡◌, ◌<◌, ◌≤◌, true, false, List, length, sym, subst, get_or}
use Rattle.std.specs.List.{AllWithin}
use Rattle.train_runs.specs.declared.segment.Segment.{Segment}
use Rattle.trip_builder.specs.Order.{stands_before}
use Rattle.trip_builder.specs.Best.{IsTrip, IsDecided}
use Rattle.trip_builder.specs.Search.{Grows}
use Rattle.trip_builder.proofs.Placing.{placed, next_after, not_among}
use Rattle.trip_builder.proofs.Deciding.{keep_grows}
use Rattle.trip_builder.proofs.best.put_new.Goals as goal

pub put-requires-clause-place : goal.put-requires-clause-place
put-requires-clause-place c =
    let r = c.args.runs.now in
    let best = c.args.best.now.items in
    let t = c.args.way.now in
    let at = c.place_among-at.result in
    let within = subst (λ (l : List (List Segment)). at ≤ length l) c.as_slice.ensures.value c.place_among-at.ensures.within in
    let before = subst (λ (l : List (List Segment)). AllWithin (λ u. stands_before r u t ≡ true) l 0 at) c.as_slice.ensures.value c.place_among-at.ensures.before in
    let after = subst (λ (l : List (List Segment)). AllWithin (λ u. stands_before r u t ≡ false) l at (length l)) c.as_slice.ensures.value c.place_among-at.ensures.after in
    let apart = subst (λ (l : List (List Segment)). at < length l → ¬ (get_or l at t ≡ t)) c.as_slice-2.ensures.value (c.is_at.ensures.apart c.if-is_at.false) in
    placed r best at t within before (next_after r best at t after apart)

pub returns-clause-grows : goal.returns-clause-grows
returns-clause-grows c =
    let r = c.args.runs.now in
    let w = c.args.wish.now in
    let best = c.args.best.now.items in
    let t = c.args.way.now in
    let at = c.place_among-at.result in
    let before = subst (λ (l : List (List Segment)). AllWithin (λ u. stands_before r u t ≡ true) l 0 at) c.as_slice.ensures.value c.place_among-at.ensures.before in
    let after = subst (λ (l : List (List Segment)). AllWithin (λ u. stands_before r u t ≡ false) l at (length l)) c.as_slice.ensures.value c.place_among-at.ensures.after in
    let apart = subst (λ (l : List (List Segment)). at < length l → ¬ (get_or l at t ≡ t)) c.as_slice-2.ensures.value (c.is_at.ensures.apart c.if-is_at.false) in
    let fresh = not_among r best at t c.requires.best.order before (next_after r best at t after apart) in
    subst (Grows r w best) (sym c.in_ok-put.ensures) (keep_grows r w best t c.requires.best fresh c.requires.way c.requires.some c.requires.few).0

pub returns-clause-decided : goal.returns-clause-decided
returns-clause-decided c =
    let r = c.args.runs.now in
    let w = c.args.wish.now in
    let best = c.args.best.now.items in
    let t = c.args.way.now in
    let at = c.place_among-at.result in
    let before = subst (λ (l : List (List Segment)). AllWithin (λ u. stands_before r u t ≡ true) l 0 at) c.as_slice.ensures.value c.place_among-at.ensures.before in
    let after = subst (λ (l : List (List Segment)). AllWithin (λ u. stands_before r u t ≡ false) l at (length l)) c.as_slice.ensures.value c.place_among-at.ensures.after in
    let apart = subst (λ (l : List (List Segment)). at < length l → ¬ (get_or l at t ≡ t)) c.as_slice-2.ensures.value (c.is_at.ensures.apart c.if-is_at.false) in
    let fresh = not_among r best at t c.requires.best.order before (next_after r best at t after apart) in
    subst (λ (l : List (List Segment)). IsTrip r w t → IsDecided r l t) (sym c.in_ok-put.ensures) (keep_grows r w best t c.requires.best fresh c.requires.way c.requires.some c.requires.few).1
