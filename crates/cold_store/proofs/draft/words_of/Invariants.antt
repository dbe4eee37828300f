-- The words of the items so far stand behind the first eight.
use Rattle.std.proofs.Common.{◌≡◌, ◌++◌, map, take}
use Rattle.leg_masks.specs.Interval.{item_word}
use Rattle.cold_store.proofs.draft.words_of.Given as goal

abbrev pub invariant-loop-item : goal.invariant-loop-item
invariant-loop-item l = l.words.items ≡ l.initial.words.items ++ map (λ i. item_word i.place i.span) (take l.item-index l.items)
