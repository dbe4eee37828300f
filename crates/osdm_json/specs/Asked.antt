-- What a request asks, with its ids and codes as the texts that stand in it.
use Rattle.std.specs.Prelude.{ℕ, Bool, List}
use Rattle.place_map.specs.declared.coach.Class.{Class}
use Rattle.train_runs.specs.declared.segment.Segment.{Segment}
use Rattle.train_runs.specs.declared.wish.TripWish.{TripWish}

pub data Asked : Type 0 where
  offers : TripWish → ℕ → ℕ → Class → ℕ → Asked
  book : List ℕ → Bool → Asked
  reserve : Segment → Class → ℕ → ℕ → Bool → Asked
  show release confirm fulfil quote_refund : List ℕ → Asked
  accept_refund quote_exchange accept_exchange : List ℕ → List ℕ → Asked
  places : Segment → Asked
  sweep : Asked
