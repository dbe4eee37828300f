-- What `replay` and `export` share: their words, their books, and how they end.
use Rattle.std.specs.Prelude.{◌≡◌, ◌⊎◌, ℕ, List, [], ◌++◌, Option, Some, None}
use Rattle.rail_io.specs.Clocks.{script_reading}
use Rattle.session_loop.specs.declared.end.ConnEnd.{ConnEnd}
use Rattle.session_loop.specs.declared.end.ConnEnd.TheVariants.{NoMemory}
use Rattle.claim_rule.specs.Openings.{KeptBooking, MayOpen, layout_with}
use Rattle.claim_rule.specs.Rule.{DeskView}
use Rattle.claim_rule.specs.Desks.{IsNew}
use Rattle.catalogue_contents.specs.Contents.{CatalogueView, legs_in}
use Rattle.rail_service.specs.Connections.{ServiceView, IsServed}
use Rattle.rail_service.specs.OneThread.{PlainView}
use Rattle.plain_host.specs.PlainOf.{plain_kept}
use Rattle.plain_host.specs.Plainly.{IsLone}
use Rattle.host_catalogue.specs.Files.{Files, HasCause}
use Rattle.host_catalogue.specs.Opening.{HasBooks, IsRefusedFile, LacksBooks}
use Rattle.host_words.specs.Commands.{IsFor, name_of}
use Rattle.host_words.specs.declared.command.CommandName.{CommandName}
use Rattle.host_words.specs.Replay.{ReplayView, input_words}
use Rattle.host_catalogue.specs.Ends.{end_of, status_of}
use Rattle.host_catalogue.specs.declared.ending.CommandEnd.{CommandEnd}
use Rattle.host_catalogue.specs.declared.ending.CommandEnd.TheVariants as ended
use Rattle.host_replay.specs.declared.end.ReplayEnd.{ReplayEnd}
use Rattle.host_replay.specs.declared.end.ReplayEnd.TheVariants as end

-- the words are those of the command, and say this
pub record IsAsked (name : CommandName) (words : List (List ℕ)) (said : ReplayView) : Type 0 where
  pub command : IsFor name words
  pub is : input_words (name_of name) words ≡ Some said

-- the command's end
abbrev pub end_of_replay : ReplayEnd → CommandEnd
end_of_replay end.NoMemory = ended.NoMemory
end_of_replay (end.NotLoaded fault) = ended.NotLoaded fault
end_of_replay (end.Served e) = end_of e

-- its status
abbrev pub status_of_replay : ReplayEnd → ℕ
status_of_replay e = status_of (end_of_replay e)

-- the first desk of books with the catalogue's places and rows that open with these bookings
pub record IsFirstDesk (cat : CatalogueView) (kept : List KeptBooking) (desk : DeskView) : Type 0 where
  pub lone : IsLone cat desk
  pub layout : desk.layout ≡ layout_with (legs_in cat) cat.rows kept
  pub may : MayOpen (legs_in cat) cat.rows kept
  pub new : IsNew desk 0 []

-- what a connection begins with: a desk, no retailer, and the clock of the words
abbrev pub opening : DeskView → ReplayView → ServiceView
opening desk said = record { desk = desk; first = None; clock = Some (script_reading said.start said.tick) }

-- and what a host of one thread does: the bookings that its books open with
abbrev pub plain_opening : List KeptBooking → ReplayView → PlainView
plain_opening kept said =
    record { plain = plain_kept kept; first = None; clock = Some (script_reading said.start said.tick) }

-- A connection that began so ended so after these bytes were taken; or there was no memory, and nothing was taken or
-- written.
abbrev pub IsInputEnd : CatalogueView → ServiceView → List ℕ → Option (List ℕ) → List ℕ → ConnEnd → Type 0
IsInputEnd cat before taken left written e =
    ((e ≡ NoMemory) × (taken ≡ []) × (written ≡ []))
    ⊎ ((after : ServiceView) × IsServed cat before after taken left written e)

-- the words, the catalogue of their file, and the bookings that its books open with
pub record IsInputOf (name : CommandName) (words : List (List ℕ)) (files : Files) (said : ReplayView)
    (cat : CatalogueView) (kept : List KeptBooking) : Type 0 where
  pub words_are : IsAsked name words said
  pub books : HasBooks files said.catalogue said.from cat kept

-- what the input and the output tell: the bytes to come before the call and what is left of them after it, and the
-- bytes written before it and after it
pub record Told : Type 0 where
  pub input : Option (List ℕ)
  pub left : Option (List ℕ)
  pub output : Option (List ℕ)
  pub sent : Option (List ℕ)

abbrev pub told_of : Option (List ℕ) → Option (List ℕ) → Option (List ℕ) → Option (List ℕ) → Told
told_of input left output sent = record { input = input; left = left; output = output; sent = sent }

-- nothing was read or written
pub record IsUntouched (t : Told) : Type 0 where
  pub no_read : t.left ≡ t.input
  pub no_write : t.sent ≡ t.output

-- there was no memory to read the words
pub record IsUnread (name : CommandName) (words : List (List ℕ)) (t : Told) (e : ReplayEnd) : Type 0 where
  pub command : IsFor name words
  pub is : e ≡ end.NoMemory
  pub untouched : IsUntouched t

-- Where the shelf gave no books, its counts show why; and where it didn't fail, its count of faults is as it was.
abbrev pub HasShelfCause : ReplayEnd → ℕ → ℕ → ℕ → ℕ → Type 0
HasShelfCause (end.NotLoaded fault) failed fails missed misses = HasCause fault failed fails missed misses
HasShelfCause (end.Served e) failed fails missed misses = fails ≡ failed
HasShelfCause end.NoMemory failed fails missed misses = fails ≡ failed

-- the words are those of the command, and the shelf, where it tells its files, has no books for them
pub record IsWithoutBooks (name : CommandName) (words : List (List ℕ)) (files : Files) : Type 0 where
  pub said : ReplayView
  pub words_are : IsAsked name words said
  pub none : LacksBooks files said.catalogue said.from

-- the words are those of the command, and a text of one of their files was refused
pub record IsOfRefusedText (name : CommandName) (words : List (List ℕ)) (files : Files) : Type 0 where
  pub said : ReplayView
  pub words_are : IsAsked name words said
  pub refused_text : IsRefusedFile files said.catalogue said.from

-- the bytes taken are those before what the input still tells
pub record IsTaken (stream : List ℕ) (told : Option (List ℕ)) (taken : List ℕ) : Type 0 where
  pub left : List ℕ
  pub is : stream ≡ taken ++ left
  pub remains : told ≡ Some left
