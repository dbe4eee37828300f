-- How far the reading of a request has come.
use Rattle.std.specs.Prelude.{◌≡◌, ℕ, ◌≤◌, List, length, take, drop, min, IfNone, None, ⊤}
use Rattle.http_wire.specs.declared.head.ServedHead.{ServedHead}
use Rattle.http_wire.specs.declared.intake.Front.{Front}
use Rattle.http_wire.specs.declared.intake.Front.TheVariants.{Whole, Fault, Blank, Open}
use Rattle.http_wire.specs.declared.intake.Stage.{Stage}
use Rattle.http_wire.specs.declared.intake.Stage.TheVariants.{Head, Body}
use Rattle.http_wire.specs.declared.scan.HeadScan.{HeadScan}
use Rattle.http_wire.specs.HeadRead.{IsServedRead, IsServedWithin}
use Rattle.http_wire.specs.Requests.{HeadAt}
use Rattle.http_wire.specs.Scan.{StandsFor}

-- the search stands after the first bytes of the text
pub record IsSearched (text : List ℕ) (scan : HeadScan) : Type 0 where
  pub within : scan.at ≤ length text
  pub short : scan.at ≤ 16384
  pub stands : StandsFor scan (take scan.at text)

-- the search stands at a head's end, or after all bytes that a head may have
abbrev pub IsSearchOver : List ℕ → HeadScan → Type 0
IsSearchOver text scan = IfNone scan.ended (scan.at ≡ min (length text) 16384)

-- the text begins with a head that says this
pub record IsHeadSaid (number : ℕ) (text : List ℕ) (end : ℕ) (head : ServedHead) : Type 0 where
  pub at : HeadAt text (take end text) (drop end text)
  pub within : end ≤ length text
  pub read : IsServedRead number (take end text) head
  pub places : IsServedWithin (length (take end text)) head

abbrev pub IsStage : ℕ → List ℕ → Stage → Type 0
IsStage number text (Head scan) = IsSearched text scan
IsStage number text (Body end head) = IsHeadSaid number text end head

-- how many bytes of the text were searched
abbrev pub searched : Stage → ℕ
searched (Head scan) = scan.at
searched (Body end head) = end

-- no byte after a whole request was searched
abbrev pub EndsAtRequest : Front → Stage → Type 0
EndsAtRequest (Whole request n) stage = searched stage ≤ n
EndsAtRequest (Fault fault) stage = ⊤
EndsAtRequest Blank stage = ⊤
EndsAtRequest Open stage = ⊤

-- where more of a request is to come, a head that has ended isn't read again: what it says is kept
abbrev pub KeepsHead : Front → Stage → Type 0
KeepsHead (Whole request n) stage = ⊤
KeepsHead (Fault fault) stage = ⊤
KeepsHead Blank stage = ⊤
KeepsHead Open (Head scan) = scan.ended ≡ None
KeepsHead Open (Body end head) = ⊤
