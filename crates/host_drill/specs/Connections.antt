-- One connection of a drill.
use Rattle.std.specs.Prelude.{◌≡◌, ℕ, ◌+◌, List, [], ◌++◌, Option, Some, None}
use Rattle.rail_ids.specs.declared.RetailerNo.{RetailerNo}
use Rattle.rail_io.specs.Clocks.{script_reading}
use Rattle.rail_io.specs.Memory.{source_left, sink_taken}
use Rattle.session_loop.specs.declared.end.ConnEnd.TheVariants.{Done}
use Rattle.history_model.specs.Booking.{Layout}
use Rattle.history_model.specs.History.{own}
use Rattle.claim_rule.specs.Rule.{BooksView, DeskView}
use Rattle.claim_rule.specs.Desks.{IsOf}
use Rattle.claim_rule.specs.Out.{IsIdle}
use Rattle.catalogue_contents.specs.Contents.{CatalogueView, legs_in}
use Rattle.rail_service.specs.Connections.{ServiceView, HasServed, IsServed}
use Rattle.host_drill.specs.Generator.{requests_of}
use Rattle.host_drill.specs.declared.connection.Connection.{Connection}

-- the books of a catalogue, as they are opened
abbrev pub layout_of : CatalogueView → Layout
layout_of cat = record { legs = legs_in cat; rows = cat.rows; opening = [] }

-- a connection begins at this desk, with no known retailer and at moment 0
abbrev pub beginning : DeskView → ServiceView
beginning desk = record { desk = desk; first = None; clock = Some (script_reading 0 0) }

-- the connection was served: it took these of its bytes, and was answered
abbrev pub Serves : CatalogueView → Connection → Connection → Type 0
Serves cat old new =
    (taken : List ℕ) × (written : List ℕ) × (first : Option RetailerNo)
    × (source_left old.source ≡ taken ++ source_left new.source)
    × (sink_taken new.sink ≡ sink_taken old.sink ++ written)
    × HasServed cat
    (record { desk = old.desk; first = None; clock = Some (script_reading old.clock.next old.clock.tick) })
    (record { desk = new.desk; first = first; clock = Some (script_reading new.clock.next new.clock.tick) })
    taken (Some (source_left new.source)) written new.end

-- a connection that isn't served yet: its desk is a new one with the worker's number, it has the worker's requests, and
-- the clock stands at 0
pub record IsReady (books : BooksView) (seed size worker : ℕ) (c : Connection) : Type 0 where
  pub of : IsOf books c.desk
  pub idle : IsIdle c.desk
  pub number : c.desk.number ≡ worker + 1
  pub none : own c.desk.seen (worker + 1) ≡ []
  pub joined : c.desk.joined ≡ []
  pub requests : source_left c.source ≡ requests_of seed size worker
  pub fresh : sink_taken c.sink ≡ []
  pub first : c.clock.next ≡ 0
  pub tick : c.clock.tick ≡ 0

-- A worker's connection, over its requests and up to its end. The bytes that it was answered are the defined replies,
-- as of every connection. The desk that it began at, which is of the catalogue's books, had no entry before.
pub record IsConnection (cat : CatalogueView) (seed size worker : ℕ) (desk : DeskView)
    (answered : List ℕ) : Type 0 where
  pub begins : DeskView
  pub first : Option RetailerNo
  pub clock : Option (ℕ → ℕ)
  pub number : begins.number ≡ worker + 1
  pub none : own begins.seen (worker + 1) ≡ []
  pub layout : desk.layout ≡ layout_of cat
  pub taken : List ℕ
  pub left : List ℕ
  pub requests : requests_of seed size worker ≡ taken ++ left
  pub served : IsServed cat (beginning begins) (record { desk = desk; first = first; clock = clock })
      taken (Some left) answered Done
