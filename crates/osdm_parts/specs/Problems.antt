-- The table of problems (RFC 9457), and the JSON of each.
use Rattle.std.specs.Prelude.{ℕ, List, ◌++◌, Option, Some, None, codes}
use Rattle.serde_json.specs.Data.{Data, number, string, object, unsigned, Members, no_members, member}
use Rattle.osdm_parts.specs.Times.{time_text}
use Rattle.osdm_parts.specs.declared.problem.Problem.{Problem}
use Rattle.osdm_parts.specs.declared.problem.Problem.TheVariants.{BadHead, HeadTooLarge, BodyTooLarge, Coding, BadLength, NotBuilt, NoRetailer, OtherRetailer, NoRoute, NoMethod, NotJson, BadField, UnknownStation, UnknownOffer, OfferTooOld, UnknownBooking, QuoteWrong, WrongState, TooLate, RowsFull, NoPlace, Contended, NoMemory}
use Rattle.osdm_parts.specs.Fields.{name_of}
use Rattle.osdm_parts.specs.Statuses.{phase_text}

pub record ProblemLine : Type 0 where
  pub code : List ℕ
  pub status : ℕ
  pub title : List ℕ
  pub detail : Option (List ℕ)

abbrev pub plain : List ℕ → ℕ → List ℕ → ProblemLine
plain code status title = record { code = code; status = status; title = title; detail = None }

abbrev pub detailed : List ℕ → ℕ → List ℕ → List ℕ → ProblemLine
detailed code status title detail = record { code = code; status = status; title = title; detail = Some detail }

abbrev pub two_moments : ℕ → ℕ → List ℕ
two_moments a b = time_text a ++ (codes " " ++ time_text b)

-- code, HTTP status, title and detail of each problem
abbrev pub problem_line : Problem → ProblemLine
problem_line BadHead = plain (codes "BadHead") 400 (codes "Bad head")
problem_line HeadTooLarge = plain (codes "HeadTooLarge") 431 (codes "Head too large")
problem_line BodyTooLarge = plain (codes "BodyTooLarge") 413 (codes "Body too large")
problem_line Coding = plain (codes "Coding") 501 (codes "Coding not supported")
problem_line BadLength = plain (codes "BadLength") 400 (codes "Bad length")
problem_line NotBuilt = plain (codes "NotBuilt") 501 (codes "Not built")
problem_line NoRetailer = plain (codes "NoRetailer") 401 (codes "No retailer")
problem_line OtherRetailer = plain (codes "OtherRetailer") 403 (codes "Other retailer")
problem_line NoRoute = plain (codes "NoRoute") 404 (codes "No route")
problem_line NoMethod = plain (codes "NoMethod") 405 (codes "No method")
problem_line NotJson = plain (codes "NotJson") 400 (codes "Not JSON")
problem_line (BadField name) = detailed (codes "BadField") 400 (codes "Bad field") (name_of name)
problem_line (UnknownStation name) = detailed (codes "UnknownStation") 404 (codes "Unknown station") (name_of name)
problem_line UnknownOffer = plain (codes "UnknownOffer") 404 (codes "Unknown offer")
problem_line (OfferTooOld made now) = detailed (codes "OfferTooOld") 410 (codes "Offer too old") (two_moments made now)
problem_line UnknownBooking = plain (codes "UnknownBooking") 404 (codes "Unknown booking")
problem_line QuoteWrong = plain (codes "QuoteWrong") 404 (codes "Quote wrong")
problem_line (WrongState shown) = detailed (codes "WrongState") 409 (codes "Wrong state") (phase_text shown)
problem_line (TooLate limit now) = detailed (codes "TooLate") 410 (codes "Too late") (two_moments limit now)
problem_line RowsFull = plain (codes "RowsFull") 507 (codes "Rows full")
problem_line NoPlace = plain (codes "NoPlace") 409 (codes "No place")
problem_line Contended = plain (codes "Contended") 503 (codes "Contended")
problem_line NoMemory = plain (codes "NoMemory") 500 (codes "No memory")

-- `detail` stands only where the line has one
abbrev pub detail_members : Option (List ℕ) → Members → Members
detail_members None rest = rest
detail_members (Some detail) rest = member (codes "detail") (string detail) rest

abbrev pub line_tree : ProblemLine → Data
line_tree line =
    object (member (codes "code") (string line.code) (detail_members line.detail
    (member (codes "status") (number (unsigned line.status)) (member (codes "title") (string line.title) no_members))))

abbrev pub problem_tree : Problem → Data
problem_tree p = line_tree (problem_line p)
