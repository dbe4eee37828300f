-- What a run's status says of its bytes.
use Rattle.std.proofs.Common.{◌≡◌, ℕ, List, [], ◌++◌, Option, Some, ◌∙◌, ap, subst, arith, inl, inr}
use Rattle.std.specs.Prelude.{◌⊎◌}
use Rattle.rail_io.specs.Told.{with_front}
use Rattle.http_wire.specs.declared.request.WireFault.{WireFault}
use Rattle.http_wire.specs.Requests.{RequestText, empty, unfinished, closed, refused}
use Rattle.session_loop.specs.declared.end.ConnEnd.{ConnEnd}
use Rattle.session_loop.specs.Session.{IsEnd}
use Rattle.session_loop.proofs.Views.{end_seen}
use Rattle.host_catalogue.specs.Ends.{status_of_end}
use Rattle.host_catalogue.proofs.Streams.{stream_is, done_from, cut_from as cut_stream, read_from as read_stream, write_from as write_stream}
use Rattle.host_tiny.specs.Reservations.{Held}
use Rattle.host_tiny.specs.Run.{RunView}
use Rattle.host_tiny.specs.declared.responder.Tiny.{Tiny}
use Rattle.host_tiny.specs.Host.{IsHostEnd}
use Rattle.host_tiny.specs.Responding.{Responds, Declines}
use Rattle.host_tiny.specs.Tiny.{AnswersTiny, Refuses, IsOneThread, IsOneThreadCut}

-- the run stays the one with these legs and places
abbrev HasSize : ℕ → ℕ → Tiny → Type 0
HasSize legs places tiny = (tiny.run.legs ≡ legs) × (tiny.run.places ≡ places)

answer_seen : (legs places : ℕ) (before : Tiny) (request : RequestText) (text : List ℕ) (after : Tiny) → HasSize legs places before
    → Responds before request text after → HasSize legs places after × AnswersTiny legs places before.run.held request text after.run.held
answer_seen legs places before request text after (l, p) is = (
  (is.legs ∙ l, is.places ∙ p),
  subst (λ (n : ℕ). AnswersTiny n places before.run.held request text after.run.held) l
      (subst (λ (n : ℕ). AnswersTiny before.run.legs n before.run.held request text after.run.held) p is.answer),
)

-- An end of a session of the run with nothing reserved is one of the host.
pub end_of_run : (legs places : ℕ) (start after : Tiny) (taken : List ℕ) (left : Option (List ℕ)) (written : List ℕ) (end : ConnEnd)
    → start.run ≡ record { legs = legs; places = places; held = [] } → IsEnd Responds Declines start after taken left written end
    → IsHostEnd legs places taken left written end
end_of_run legs places start after taken left written end fresh is = inr (
  after.run.held,
  subst (λ (held : List Held). IsEnd (AnswersTiny legs places) Refuses held after.run.held taken left written end) (ap (λ (r : RunView). r.held) fresh)
      (end_seen Responds Declines (AnswersTiny legs places) Refuses (λ (t : Tiny). t.run.held) (HasSize legs places)
      (answer_seen legs places) (λ now fault text run e. e) start after taken left written end (ap (λ (r : RunView). r.legs) fresh, ap (λ (r : RunView). r.places) fresh) is),
)

module _ (legs places : ℕ) (taken stream written : List ℕ) (left : Option (List ℕ)) (end : ConnEnd) (told : Some stream ≡ with_front taken left)
    (is : IsHostEnd legs places taken left written end) where
  pub served_from : status_of_end end ≡ 0 → IsOneThread legs places stream empty written ⊎ IsOneThread legs places stream closed written
  served_from zero = elim is [
    | inl none ↦ absurd (omega (arith, ap status_of_end none.0, zero))
    | inr t ↦ elim (done_from (AnswersTiny legs places) Refuses [] t.0 taken stream written left end told t.1 zero) [ inl a ↦ inl (t.0, a) | inr a ↦ inr (t.0, a) ]
  ]

  pub cut_from : status_of_end end ≡ 6
      → IsOneThread legs places stream unfinished written ⊎ ((fault : WireFault) × IsOneThread legs places stream (refused fault) written)
  cut_from six = elim is [
    | inl none ↦ absurd (omega (arith, ap status_of_end none.0, six))
    | inr t ↦ elim (cut_stream (AnswersTiny legs places) Refuses [] t.0 taken stream written left end told t.1 six) [ inl a ↦ inl (t.0, a) | inr a ↦ inr (a.0, (t.0, a.1)) ]
  ]

  -- at a read fault: the bytes left, and the answers of those taken
  pub read_from : status_of_end end ≡ 3 → (l : List ℕ) × (left ≡ Some l) × (stream ≡ taken ++ l)
      × (IsOneThread legs places taken empty written ⊎ IsOneThread legs places taken unfinished written)
  read_from three = elim is [
    | inl none ↦ absurd (omega (arith, ap status_of_end none.0, three))
    | inr t ↦
        let s = stream_is left taken stream told in (
          s.0,
          s.1,
          s.2,
          elim (read_stream (AnswersTiny legs places) Refuses [] t.0 taken written left end t.1 three) [ inl a ↦ inl (t.0, a) | inr a ↦ inr (t.0, a) ],
        )
  ]

  -- at a write fault: the bytes left, and a beginning of the answers of those taken
  pub write_from : status_of_end end ≡ 4 → (l : List ℕ) × (left ≡ Some l) × (stream ≡ taken ++ l) × IsOneThreadCut legs places taken written
  write_from four = elim is [
    | inl none ↦ absurd (omega (arith, ap status_of_end none.0, four))
    | inr t ↦
        let s = stream_is left taken stream told in
        (s.0, s.1, s.2, (t.0, write_stream (AnswersTiny legs places) Refuses [] t.0 taken written left end t.1 four))
  ]
