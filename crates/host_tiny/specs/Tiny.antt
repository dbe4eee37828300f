-- The one-thread host of one run: how it answers a connection from a list of reservations.
use Rattle.std.specs.Prelude.{◌≡◌, ℕ, ◌<◌, ◌≤◌, List, [], ◌∷◌, ◌++◌, length, codes, Ok, Err}
use Rattle.leg_masks.specs.Interval.{Interval}
use Rattle.http_wire.specs.Requests.{Rest}
use Rattle.session_loop.specs.Session.{Answering, Refusing, IsAnswered, IsCutShort}
use Rattle.host_tiny.specs.declared.reply.Reply.{Reply}
use Rattle.host_tiny.specs.declared.reply.Reply.TheVariants.{Reserved, NotBuilt, NotJson, BadField}
use Rattle.host_tiny.specs.declared.reply.Reply.TheVariants.{RowsFull, NoPlace, NoMemory}
use Rattle.host_tiny.specs.declared.wish.WishFault.{WishFault}
use Rattle.host_tiny.specs.declared.wish.WishFault.TheVariants as wish
use Rattle.host_tiny.specs.Json.{json_of}
use Rattle.host_tiny.specs.Wish.{wish_of}
use Rattle.host_tiny.specs.Reservations.{Held, IsLeastFree, IsNoneFree, most_reservations}
use Rattle.host_tiny.specs.Replies.{answer_text, fault_text}

-- the request is one for a reservation
pub record IsReservation (verb target : List ℕ) : Type 0 where
  pub method : verb ≡ codes "POST"
  pub path : target ≡ codes "/reservations"

-- the request is one for a reservation on this span
pub record Wants (legs : ℕ) (verb target text : List ℕ) (span : Interval) : Type 0 where
  pub reservation : IsReservation verb target
  pub wish : wish_of legs (json_of text) ≡ Ok span

-- the request is one for a reservation whose body is at fault
pub record Faults (legs : ℕ) (verb target text : List ℕ) (fault : WishFault) : Type 0 where
  pub reservation : IsReservation verb target
  pub wish : wish_of legs (json_of text) ≡ Err fault

-- what a request asks: its method, its path and its body
pub record Asked : Type 0 where
  pub method : List ℕ
  pub path : List ℕ
  pub body : List ℕ

-- The reply to what is asked where these reservations are held, and those held after it.
abbrev pub IsReply : ℕ → ℕ → List Held → Asked → Reply → List Held → Type 0
IsReply legs places held a (Reserved place span) after =
    Wants legs a.method a.path a.body span × (length held < most_reservations)
    × IsLeastFree held places place span × (after ≡ held ++ record { place = place; span = span } ∷ [])
IsReply legs places held a NotBuilt after = (IsReservation a.method a.path → ⊥) × (after ≡ held)
IsReply legs places held a NotJson after = Faults legs a.method a.path a.body wish.NotJson × (after ≡ held)
IsReply legs places held a (BadField name) after =
    Faults legs a.method a.path a.body (wish.BadField name) × (after ≡ held)
IsReply legs places held a RowsFull after =
    (span : Interval) × Wants legs a.method a.path a.body span × (most_reservations ≤ length held) × (after ≡ held)
IsReply legs places held a NoPlace after =
    (span : Interval) × Wants legs a.method a.path a.body span × (length held < most_reservations)
    × IsNoneFree held places span × (after ≡ held)
IsReply legs places held a NoMemory after = IsReservation a.method a.path × (after ≡ held)

-- a request is answered so, by a run with these legs and places
abbrev pub AnswersTiny : ℕ → ℕ → Answering (List Held)
AnswersTiny legs places held request text after =
    (reply : Reply)
    × IsReply legs places held (record { method = request.method; path = request.path; body = request.body }) reply
    after
    × (text ≡ answer_text reply request.last)

-- what stands in a request's place is answered so
abbrev pub Refuses : Refusing (List Held)
Refuses held fault text = text ≡ fault_text fault

-- The bytes written are the host's answers to the stream, which ends so.
abbrev pub IsOneThread : ℕ → ℕ → List ℕ → Rest → List ℕ → Type 0
IsOneThread legs places stream rest written =
    (after : List Held) × IsAnswered (AnswersTiny legs places) Refuses [] after stream rest written

-- The bytes written are a beginning of the host's answers to the stream.
abbrev pub IsOneThreadCut : ℕ → ℕ → List ℕ → List ℕ → Type 0
IsOneThreadCut legs places stream written =
    (after : List Held) × IsCutShort (AnswersTiny legs places) Refuses [] after stream written
