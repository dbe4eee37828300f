-- What `export` does.
use Rattle.std.specs.Prelude.{◌≡◌, ◌⊎◌, ℕ, List, ◌++◌, codes, map, length, Option}
use Rattle.rail_io.specs.Told.{with_front, with_end}
use Rattle.http_wire.specs.Requests.{RequestText, Rest, empty, unfinished, closed, refused}
use Rattle.http_wire.specs.declared.request.WireFault.{WireFault}
use Rattle.session_loop.specs.declared.end.ConnEnd.{ConnEnd}
use Rattle.session_loop.specs.declared.end.ConnEnd.TheVariants as conn
use Rattle.session_loop.specs.Session.{Answering, IsAnswered}
use Rattle.history_model.specs.Booking.{Layout, State}
use Rattle.claim_rule.specs.Openings.{KeptBooking, kept_bookings}
use Rattle.claim_rule.specs.Rule.{DeskView, state_seen}
use Rattle.cold_store.specs.Written.{said_of}
use Rattle.line_text.specs.Lines.{export_text_of}
use Rattle.catalogue_contents.specs.Contents.{CatalogueView, legs_in}
use Rattle.osdm_parts.specs.declared.problem.Problem.TheVariants.{NoMemory}
use Rattle.osdm_texts.specs.Answers.{problem}
use Rattle.plain_host.specs.PlainOf.{plain_in}
use Rattle.plain_host.specs.Settled.{IsSettled}
use Rattle.rail_service.specs.Connections.{ServiceView, IsServed, answers_of, refusals_of}
use Rattle.rail_service.specs.OneThread.{PlainView, IsPlainAnswer, plain_refusals_of}
use Rattle.host_catalogue.specs.Files.{Files}
use Rattle.host_catalogue.specs.Opening.{Fails, HasBooks}
use Rattle.host_words.specs.Commands.{IsFor}
use Rattle.host_words.specs.declared.command.CommandName.TheVariants as command
use Rattle.host_words.specs.Replay.{ReplayView}
use Rattle.host_replay.specs.declared.end.ReplayEnd.{ReplayEnd}
use Rattle.host_replay.specs.declared.end.ReplayEnd.TheVariants as end
use Rattle.host_replay.specs.Input.{IsAsked, IsFirstDesk, IsInputOf, IsUnread, IsUntouched, Told}
use Rattle.host_replay.specs.Input.{opening, plain_opening}

-- the command is `export`
abbrev pub IsForExport : List (List ℕ) → Type 0
IsForExport words = IsFor command.Export words

-- the words are those of `export`, and say this
abbrev pub IsExport : List (List ℕ) → ReplayView → Type 0
IsExport words said = IsAsked command.Export words said

-- not the words of `export`
abbrev pub IsNoExport : List (List ℕ) → Type 0
IsNoExport words = (said : ReplayView) → IsExport words said → ⊥

-- the line stands in the text
abbrev pub StandsIn : List ℕ → List ℕ → Type 0
StandsIn line text = (front back : List ℕ) × (text ≡ front ++ (line ++ back))

-- the line with which an answer begins that there is no memory
abbrev pub no_memory_line : List ℕ
no_memory_line = codes "HTTP/1.1 500 Internal Server Error\r\n"

-- the text of the kept bookings of a state, in books with as many places and rows
abbrev pub export_text_in : ℕ → ℕ → State → List ℕ
export_text_in places rows s = export_text_of places rows (map said_of (kept_bookings rows s))

abbrev pub export_with : Layout → State → List ℕ
export_with g s = export_text_in (length g.legs) g.rows s

abbrev pub export_in : CatalogueView → State → List ℕ
export_in cat s = export_text_in (length (legs_in cat)) cat.rows s

-- All requests were answered at the desk, none of them that there is no memory, and the text is that of the state that
-- they left.
pub record IsExportOf (cat : CatalogueView) (desk : DeskView) (said : ReplayView) (taken : List ℕ)
    (left : Option (List ℕ)) (text : List ℕ) : Type 0 where
  pub answers : List ℕ
  pub after : ServiceView
  pub served : IsServed cat (opening desk said) after taken left answers conn.Done
  pub spared : StandsIn no_memory_line answers → ⊥
  pub settled : IsSettled (state_seen after.desk)
  pub is : text ≡ export_in cat (state_seen after.desk)

-- The connection ended so, and not with the answer to a last request. No answer was that there is no memory.
pub record IsCutOf (cat : CatalogueView) (desk : DeskView) (said : ReplayView) (taken : List ℕ) (left : Option (List ℕ))
    (e : ConnEnd) : Type 0 where
  pub answers : List ℕ
  pub after : ServiceView
  pub served : IsServed cat (opening desk said) after taken left answers e
  pub spared : StandsIn no_memory_line answers → ⊥

-- where there is no text: how the connection ended, unless there was no memory
abbrev pub HasNoText : CatalogueView → DeskView → ReplayView → List ℕ → Option (List ℕ) → ConnEnd → Type 0
HasNoText cat desk said taken left conn.Done = ⊥
HasNoText cat desk said taken left conn.WriteFault = ⊥
HasNoText cat desk said taken left conn.NoMemory = Unit {0}
HasNoText cat desk said taken left e = IsCutOf cat desk said taken left e

-- what was taken of the input, which is P of the catalogue and of the first desk of its books
pub record IsInputRun (said : ReplayView) (files : Files) (input left : Option (List ℕ))
    (P : CatalogueView → DeskView → List ℕ → Type 0) : Type 0 where
  pub cat : CatalogueView
  pub kept : List KeptBooking
  pub books : HasBooks files said.catalogue said.from cat kept
  pub desk : DeskView
  pub first : IsFirstDesk cat kept desk
  pub taken : List ℕ
  pub takes : input ≡ with_front taken left
  pub is : P cat desk taken

abbrev pub IsTextRun : ReplayView → Files → Option (List ℕ) → Option (List ℕ) → List ℕ → Type 0
IsTextRun said files input left text =
    IsInputRun said files input left (λ cat desk taken. IsExportOf cat desk said taken left text)

-- What the words ask for ended so. Nothing is written but the text.
abbrev pub ServedSo : ReplayView → Files → Told → ConnEnd → Type 0
ServedSo said files t conn.Done =
    (text : List ℕ) × IsTextRun said files t.input t.left text × (t.sent ≡ with_end t.output text)
ServedSo said files t conn.WriteFault =
    (front back : List ℕ) × IsTextRun said files t.input t.left (front ++ back) × (t.sent ≡ with_end t.output front)
ServedSo said files t e =
    IsInputRun said files t.input t.left (λ cat desk taken. HasNoText cat desk said taken t.left e)
    × (t.sent ≡ t.output)

abbrev pub RanExport : ReplayView → Files → Told → ReplayEnd → Type 0
RanExport said files t end.NoMemory = IsUntouched t
RanExport said files t (end.NotLoaded fault) =
    Fails files said.catalogue said.from fault × IsUntouched t
RanExport said files t (end.Served e) = ServedSo said files t e

-- `export` ran so
abbrev pub Exports : List (List ℕ) → Files → Told → ReplayEnd → Type 0
Exports words files t e =
    IsUnread command.Export words t e
    ⊎ ((said : ReplayView) × IsExport words said × RanExport said files t e)

-- A request is answered by a host of one thread, and not that there is no memory: so by the outcome of what it asks.
pub record IsSureAnswer (cat : CatalogueView) (before : PlainView) (request : RequestText) (written : List ℕ)
    (after : PlainView) : Type 0 where
  pub answer : IsPlainAnswer cat before request written after
  pub had : answer.reply ≡ problem NoMemory → ⊥

abbrev pub sure_answers_of : CatalogueView → Answering PlainView
sure_answers_of cat = λ before request written after. IsSureAnswer cat before request written after

-- The replies to the stream, which ends so, are the defined ones, and those of a host of one thread that begins with
-- the bookings that the books open with. None of them is that there is no memory.
pub record IsSurelyReplayed (words : List (List ℕ)) (files : Files) (stream : List ℕ) (rest : Rest)
    (replies : List ℕ) : Type 0 where
  pub said : ReplayView
  pub cat : CatalogueView
  pub kept : List KeptBooking
  pub of : IsInputOf command.Export words files said cat kept
  pub desk : DeskView
  pub after : ServiceView
  pub first : IsFirstDesk cat kept desk
  pub answers : IsAnswered (answers_of cat) (refusals_of cat) (opening desk said) after stream rest replies
  pub plain : PlainView
  pub plainly : IsAnswered (sure_answers_of cat) (plain_refusals_of cat) (plain_opening kept said) plain stream rest
      replies

-- the bytes to come end inside a request or in a refusal, and these are the replies to them
abbrev pub EndsCut : List (List ℕ) → Files → List ℕ → List ℕ → Type 0
EndsCut words files stream replies =
    IsSurelyReplayed words files stream unfinished replies
    ⊎ ((fault : WireFault) × IsSurelyReplayed words files stream (refused fault) replies)

-- The text is that of the kept bookings of one state, which the replies to the stream leave. Its sealed present
-- bookings are those of the host of one thread, after all requests of the stream. Where that host keeps a row, it is
-- the state's one row in the making; else the state has none.
pub record IsExported (words : List (List ℕ)) (files : Files) (stream : List ℕ) (rest : Rest)
    (text : List ℕ) : Type 0 where
  pub replies : List ℕ
  pub by : IsSurelyReplayed words files stream rest replies
  pub bookings : plain_in (state_seen by.after.desk) ≡ by.plain.plain
  pub settled : IsSettled (state_seen by.after.desk)
  pub is : text ≡ export_in by.cat (state_seen by.after.desk)

-- the text is that of the requests of the bytes to come, to their end or to a last request
abbrev pub ExportsAll : List (List ℕ) → Files → List ℕ → List ℕ → Type 0
ExportsAll words files stream text =
    IsExported words files stream empty text ⊎ IsExported words files stream closed text
