-- What `replay` does.
use Rattle.std.specs.Prelude.{◌≡◌, ◌⊎◌, ℕ, List, Option}
use Rattle.rail_io.specs.Told.{with_front, with_end}
use Rattle.http_wire.specs.declared.request.WireFault.{WireFault}
use Rattle.http_wire.specs.Requests.{Rest, empty, unfinished, closed, refused}
use Rattle.session_loop.specs.declared.end.ConnEnd.{ConnEnd}
use Rattle.session_loop.specs.Session.{IsAnswered, IsCutShort}
use Rattle.claim_rule.specs.Openings.{KeptBooking}
use Rattle.claim_rule.specs.Rule.{DeskView}
use Rattle.catalogue_contents.specs.Contents.{CatalogueView}
use Rattle.rail_service.specs.Connections.{ServiceView, answers_of, refusals_of}
use Rattle.rail_service.specs.OneThread.{PlainView, plain_answers_of, plain_refusals_of}
use Rattle.host_catalogue.specs.Files.{Files}
use Rattle.host_catalogue.specs.Opening.{Fails, HasBooks}
use Rattle.host_words.specs.Commands.{IsFor}
use Rattle.host_words.specs.declared.command.CommandName.{CommandName}
use Rattle.host_words.specs.declared.command.CommandName.TheVariants as command
use Rattle.host_words.specs.Replay.{ReplayView}
use Rattle.host_replay.specs.declared.end.ReplayEnd.{ReplayEnd}
use Rattle.host_replay.specs.declared.end.ReplayEnd.TheVariants as end
use Rattle.host_replay.specs.Input.{IsAsked, IsFirstDesk, IsInputEnd, IsInputOf, IsTaken, IsUnread, IsUntouched, Told}
use Rattle.host_replay.specs.Input.{opening, plain_opening}

-- the command is `replay`
abbrev pub IsForReplay : List (List ℕ) → Type 0
IsForReplay words = IsFor command.Replay words

-- the words are those of `replay`, and say this
abbrev pub IsReplay : List (List ℕ) → ReplayView → Type 0
IsReplay words said = IsAsked command.Replay words said

-- not the words of `replay`
abbrev pub IsNoReplay : List (List ℕ) → Type 0
IsNoReplay words = (said : ReplayView) → IsReplay words said → ⊥

-- what was taken of the input and written to the output, and how the connection ended
pub record IsReplayRun (said : ReplayView) (files : Files) (t : Told) (e : ConnEnd) : Type 0 where
  pub cat : CatalogueView
  pub kept : List KeptBooking
  pub books : HasBooks files said.catalogue said.from cat kept
  pub desk : DeskView
  pub first : IsFirstDesk cat kept desk
  pub taken : List ℕ
  pub written : List ℕ
  pub takes : t.input ≡ with_front taken t.left
  pub writes : t.sent ≡ with_end t.output written
  pub ends : IsInputEnd cat (opening desk said) taken t.left written e

-- what the words ask for ended so
abbrev pub RanReplay : ReplayView → Files → Told → ReplayEnd → Type 0
RanReplay said files t end.NoMemory = IsUntouched t
RanReplay said files t (end.NotLoaded fault) =
    Fails files said.catalogue said.from fault × IsUntouched t
RanReplay said files t (end.Served e) = IsReplayRun said files t e

-- `replay` ran so
abbrev pub Replays : List (List ℕ) → Files → Told → ReplayEnd → Type 0
Replays words files t e =
    IsUnread command.Replay words t e
    ⊎ ((said : ReplayView) × IsReplay words said × RanReplay said files t e)

-- The bytes are the defined replies to the stream, which ends so, and those of a host of one thread that begins with
-- the bookings that the books open with.
pub record IsReplayed (words : List (List ℕ)) (files : Files) (stream : List ℕ) (rest : Rest)
    (written : List ℕ) : Type 0 where
  pub said : ReplayView
  pub cat : CatalogueView
  pub kept : List KeptBooking
  pub of : IsInputOf command.Replay words files said cat kept
  pub desk : DeskView
  pub after : ServiceView
  pub first : IsFirstDesk cat kept desk
  pub answers : IsAnswered (answers_of cat) (refusals_of cat) (opening desk said) after stream rest written
  pub plain : PlainView
  pub plainly : IsAnswered (plain_answers_of cat) (plain_refusals_of cat) (plain_opening kept said) plain stream rest
      written

-- The bytes written are a beginning of the defined replies to the stream, and of those of a host of one thread.
pub record IsReplayCut (words : List (List ℕ)) (files : Files) (stream written : List ℕ) : Type 0 where
  pub said : ReplayView
  pub cat : CatalogueView
  pub kept : List KeptBooking
  pub of : IsInputOf command.Replay words files said cat kept
  pub desk : DeskView
  pub after : ServiceView
  pub first : IsFirstDesk cat kept desk
  pub answers : IsCutShort (answers_of cat) (refusals_of cat) (opening desk said) after stream written
  pub plain : PlainView
  pub plainly : IsCutShort (plain_answers_of cat) (plain_refusals_of cat) (plain_opening kept said) plain stream written

-- the bytes written are the defined replies to those to come, to their end or to a last request
abbrev pub RepliesAll : List (List ℕ) → Files → List ℕ → List ℕ → Type 0
RepliesAll words files stream written =
    IsReplayed words files stream empty written ⊎ IsReplayed words files stream closed written

-- the bytes are the defined replies to those to come, which end inside a request or in a refusal
abbrev pub RepliesCut : List (List ℕ) → Files → List ℕ → List ℕ → Type 0
RepliesCut words files stream written =
    IsReplayed words files stream unfinished written
    ⊎ ((fault : WireFault) × IsReplayed words files stream (refused fault) written)

-- they are those to the requests that are whole in the bytes taken
abbrev pub RepliesTaken : List (List ℕ) → Files → List ℕ → Option (List ℕ) → List ℕ → Type 0
RepliesTaken words files stream told written =
    (taken : List ℕ) × IsTaken stream told taken
    × (IsReplayed words files taken empty written ⊎ IsReplayed words files taken unfinished written)

-- they are a beginning of those to the bytes taken
abbrev pub RepliesPart : List (List ℕ) → Files → List ℕ → Option (List ℕ) → List ℕ → Type 0
RepliesPart words files stream told written =
    (taken : List ℕ) × IsTaken stream told taken × IsReplayCut words files taken written
