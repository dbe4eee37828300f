use Rattle.std.proofs.Common.{◌≡◌, map, take, length}
use Rattle.std.specs.List.{AllByRecursion}
use Rattle.leg_masks.specs.Interval.{item_word}
use Rattle.booking_rows.specs.Views.{HasWord}
use Rattle.booking_rows.proofs.views.items_of.Given as goal

abbrev pub invariant-loop-word : goal.invariant-loop-word
invariant-loop-word l = record {
  many : length l.items.items ≡ l.word-index;
  words : map (λ i. item_word i.place i.span) l.items.items ≡ take l.word-index l.words;
  each : AllByRecursion HasWord l.items.items;
}
