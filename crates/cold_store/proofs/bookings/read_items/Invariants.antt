use Rattle.std.proofs.Common.{option_map}
use Rattle.cold_store.proofs.ItemsRead.{AreReadSoFar}
use Rattle.cold_store.proofs.bookings.read_items.Given as goal

abbrev pub invariant-loop : goal.invariant-loop
invariant-loop l =
    AreReadSoFar l.legs l.count l.counter l.fn.reader.rest.now l.reader.rest.now (option_map (λ v. v.items) l.items)
