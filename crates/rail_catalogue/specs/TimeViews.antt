-- The times of a stop while they are read, as contracts see them.
use Rattle.std.specs.Prelude.{ℕ, List, codes}
use Rattle.rail_catalogue.specs.declared.stops.Time.{Time as ReadTime}
use Rattle.rail_catalogue.specs.declared.stops.Time.TheVariants as read
use Rattle.rail_catalogue.specs.declared.stops.Side.{Side}
use Rattle.rail_catalogue.specs.declared.stops.Side.TheVariants.{Arrive, Depart}
use Rattle.rail_catalogue.specs.Stops.{Time, missing, bad, given, Times}
use Rattle.rail_catalogue.specs.declared.stops.Times.{Times as ReadTimes}

abbrev pub time_view : ReadTime → Time
time_view read.Missing = missing
time_view read.Bad = bad
time_view (read.Given m) = given m

abbrev pub side_name : Side → List ℕ
side_name Arrive = codes ".arrive"
side_name Depart = codes ".depart"

abbrev pub times_view : ReadTimes → Times
times_view t = record { arrive = t.arrive; depart = t.depart }
