use Rattle.std.proofs.Common.{◌≡◌, ◌∙◌, ◌-◌, ◌^◌, ◌%◌, ◌<◌, List, length, drop, sym, subst, arith, get_or}
use Rattle.std.proofs.Math.Nat.{div-le_self}
use Rattle.std.proofs.lemmas.List.{take_at}
use Rattle.trip_builder.specs.declared.ranks.FirstTwo.{FirstTwo}
use Rattle.trip_builder.specs.Bounds.{unknown}
use Rattle.trip_builder.specs.Boards.{AreHints, part_at}
use Rattle.trip_builder.proofs.Resting.{nothing, hints_made}
use Rattle.trip_builder.proofs.hints.Hints.set.Goals as goal

pub returns : goal.returns
returns c =
    let board = c.args.useful.now in
    let parts = c.between-parts.result in
    let last = c.moment_at-last.result in
    let made = c.make.new.rests in
    let items = c.resize.new.self.items in
    let size : length made ≡ c.resize.new.self.len = c.make.auto.rests ∙ c.as_mut_slice.ensures.len in
    let count : part_at parts last < length made =
    let low = div-le_self (last - parts.start) (2 ^ (parts.shift % 64)) in
    let small = c.moment_at-last.ensures.small in
    let at = c.at.ensures in
    let more = c.saturating_add-count.ensures in
    let long = c.in_ok-resize.ensures.len in
    omega (arith, low, small, at, more, long, size) in
    subst (λ (l : List FirstTwo). AreHints board parts last (length l) (λ n. get_or l n unknown)) (sym (take_at made (drop (length made) items) c.resize.new.self.len size))
    (hints_made board parts last made c.requires.some c.requires.rises (c.moment_at-last.ensures.value nothing) count c.make.ensures)
