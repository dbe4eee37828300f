-- What `tiny` does.
use Rattle.std.specs.Prelude.{◌≡◌, ◌⊎◌, ℕ, List, [], ◌++◌, Option, Some}
use Rattle.rail_io.specs.Told.{with_front, with_end}
use Rattle.http_wire.specs.declared.request.WireFault.{WireFault}
use Rattle.http_wire.specs.Requests.{empty, unfinished, closed, refused}
use Rattle.session_loop.specs.declared.end.ConnEnd.{ConnEnd}
use Rattle.session_loop.specs.declared.end.ConnEnd.TheVariants.{NoMemory}
use Rattle.session_loop.specs.Session.{IsEnd}
use Rattle.host_tiny.specs.Reservations.{Held}
use Rattle.host_tiny.specs.Tiny.{AnswersTiny, Refuses, IsOneThread, IsOneThreadCut}
use Rattle.host_words.specs.Tiny.{IsTiny}

-- A connection with nothing reserved ended so after these bytes were taken, with those left, and what
-- was written is the host's; or there was no memory, and nothing was taken or written.
abbrev pub IsHostEnd : ℕ → ℕ → List ℕ → Option (List ℕ) → List ℕ → ConnEnd → Type 0
IsHostEnd legs places taken left written end =
    ((end ≡ NoMemory) × (taken ≡ []) × (written ≡ []))
    ⊎ ((after : List Held) × IsEnd (AnswersTiny legs places) Refuses [] after taken left written end)

-- `tiny` ran so: what was taken of the input and written to the output, and how the connection ended
pub record IsTinyRun (words : List (List ℕ)) (input left output sent : Option (List ℕ)) (end : ConnEnd) : Type 0 where
  pub legs : ℕ
  pub places : ℕ
  pub words_are : IsTiny words legs places
  pub taken : List ℕ
  pub written : List ℕ
  pub takes : input ≡ with_front taken left
  pub writes : sent ≡ with_end output written
  pub ends : IsHostEnd legs places taken left written end

-- The bytes written are the answers of the bytes to come, to their end or to a last request.
pub record ServesAll (words : List (List ℕ)) (stream written : List ℕ) : Type 0 where
  pub legs : ℕ
  pub places : ℕ
  pub words_are : IsTiny words legs places
  pub answers : IsOneThread legs places stream empty written ⊎ IsOneThread legs places stream closed written

-- The bytes written are the answers of the bytes to come, which end inside a request or in a refusal.
pub record IsCutOrRefused (words : List (List ℕ)) (stream written : List ℕ) : Type 0 where
  pub legs : ℕ
  pub places : ℕ
  pub words_are : IsTiny words legs places
  pub answers : IsOneThread legs places stream unfinished written
      ⊎ ((fault : WireFault) × IsOneThread legs places stream (refused fault) written)

-- The bytes written are the answers of the requests that are whole in the bytes taken, which are those
-- before what the input still tells.
pub record IsReadFault (words : List (List ℕ)) (stream : List ℕ) (told : Option (List ℕ))
    (written : List ℕ) : Type 0 where
  pub legs : ℕ
  pub places : ℕ
  pub words_are : IsTiny words legs places
  pub taken : List ℕ
  pub left : List ℕ
  pub is : stream ≡ taken ++ left
  pub remains : told ≡ Some left
  pub answers : IsOneThread legs places taken empty written ⊎ IsOneThread legs places taken unfinished written

-- The bytes written are a beginning of the answers of the bytes taken, which are those before what the input
-- still tells.
pub record IsWriteFault (words : List (List ℕ)) (stream : List ℕ) (told : Option (List ℕ))
    (written : List ℕ) : Type 0 where
  pub legs : ℕ
  pub places : ℕ
  pub words_are : IsTiny words legs places
  pub taken : List ℕ
  pub left : List ℕ
  pub is : stream ≡ taken ++ left
  pub remains : told ≡ Some left
  pub answers : IsOneThreadCut legs places taken written
