-- What an export's status says of its text, where the input tells its bytes.
use Rattle.std.proofs.Common.{◌≡◌, ℕ, Bool, true, List, [], ◌∷◌, ◌++◌, length, decimal, codes, Option, Some, refl, sym, ◌∙◌, ap, subst, arith, inl, inr, append_assoc, append-nil}
use Rattle.std.specs.Fmt.{digits}
use Rattle.rail_io.specs.Told.{with_front, with_end}
use Rattle.serde_json.specs.Written.{compact_text}
use Rattle.http_wire.specs.Answers.{close_of, head_text}
use Rattle.http_wire.specs.Requests.{RequestText, Rest, empty, closed, refused}
use Rattle.session_loop.specs.declared.end.ConnEnd.{ConnEnd}
use Rattle.session_loop.specs.declared.end.ConnEnd.TheVariants as conn
use Rattle.session_loop.specs.Session.{Chain, IsAnswered}
use Rattle.session_loop.specs.Writes.{Writes}
use Rattle.claim_rule.specs.Openings.{KeptBooking}
use Rattle.claim_rule.specs.Rule.{DeskView}
use Rattle.osdm_parts.specs.declared.problem.Problem.TheVariants.{NoMemory}
use Rattle.osdm_parts.specs.Problems.{problem_tree}
use Rattle.osdm_texts.specs.Answers.{problem}
use Rattle.catalogue_contents.specs.Contents.{CatalogueView}
use Rattle.rail_service.specs.Bytes.{reply_bytes}
use Rattle.rail_service.specs.Connections.{answers_of, refusals_of, ServiceView}
use Rattle.rail_service.specs.OneThread.{PlainView, plain_view, plain_answers_of, plain_refusals_of}
use Rattle.rail_service.proofs.Alone.{stream_plainly}
use Rattle.host_catalogue.specs.Files.{Files}
use Rattle.host_catalogue.specs.Opening.{Fails, HasBooks, HasNoBooks}
use Rattle.host_words.specs.Replay.{ReplayView}
use Rattle.host_words.specs.declared.command.CommandName.TheVariants as command
use Rattle.host_catalogue.specs.Ends.{status_of_end}
use Rattle.host_catalogue.proofs.Streams.{done_from, cut_from}
use Rattle.host_replay.specs.Input.{told_of}
use Rattle.host_replay.specs.Input.{IsAsked, IsFirstDesk, IsUntouched, opening, plain_opening, status_of_replay, HasShelfCause, IsOfRefusedText, IsWithoutBooks}
use Rattle.host_replay.specs.Export.{RanExport, EndsCut, Exports, ExportsAll, HasNoText, IsCutOf, IsExport, IsSurelyReplayed, IsExportOf, IsInputRun, IsTextRun, ServedSo}
use Rattle.host_replay.specs.Export.{StandsIn, no_memory_line, sure_answers_of}
use Rattle.host_replay.specs.declared.end.ReplayEnd.{ReplayEnd}
use Rattle.host_replay.specs.declared.end.ReplayEnd.TheVariants as end
use Rattle.host_replay.proofs.Replaying.{Given, opens_plainly, served_end, without, missed, ends_without}
use Rattle.rail_io.specs.Faults.{Rose}
use Rattle.std.specs.Prelude.{◌⊎◌}

-- an answer for want of memory begins with its line
stands_answer : (last : Bool) (body : List ℕ) → StandsIn no_memory_line (head_text 500 true (length body) last ++ body)
unfolding head_text digits
stands_answer last body = (
  [],
  (codes "Content-Type: application/problem+json\r\nContent-Length: " ++ decimal (length body) ++ close_of last ++ codes "\r\n\r\n") ++ body,
  refl,
)

stands_reply : (cat : CatalogueView) (last : Bool) → StandsIn no_memory_line (reply_bytes cat last (problem NoMemory))
unfolding reply_bytes
stands_reply cat last = stands_answer last (compact_text (problem_tree NoMemory))

stands_first : (line a b : List ℕ) → StandsIn line a → StandsIn line (a ++ b)
stands_first line a b (front, back, is) =
    (front, back ++ b, ap (λ (l : List ℕ). l ++ b) is ∙ (append_assoc front (line ++ back) b ∙ ap (λ (l : List ℕ). front ++ l) (append_assoc line back b)))

stands_second : (line a b : List ℕ) → StandsIn line b → StandsIn line (a ++ b)
stands_second line a b (front, back, is) = (a ++ front, back, ap (λ (l : List ℕ). a ++ l) is ∙ sym (append_assoc a front (line ++ back)))

-- where the line stands nowhere, no answer is for want of memory
sure_chain : (cat : CatalogueView) (before : PlainView) (requests : List RequestText) (written : List ℕ) (after : PlainView) → (StandsIn no_memory_line written → ⊥)
    → Chain (plain_answers_of cat) before requests written after → Chain (sure_answers_of cat) before requests written after
sure_chain cat before [] written after spared chain = chain
sure_chain cat before (request ∷ requests) written after spared (next, answer, more, is, parts, rest) = (
  next,
  answer,
  more,
  record {
    answer = is;
    had = λ bad. spared (subst (StandsIn no_memory_line) (sym parts) (stands_first no_memory_line answer more
        (subst (StandsIn no_memory_line) (sym (is.bytes ∙ ap (reply_bytes cat request.last) bad)) (stands_reply cat request.last))));
  },
  parts,
  sure_chain cat next requests more after (λ stands. spared (subst (StandsIn no_memory_line) (sym parts) (stands_second no_memory_line answer more stands))) rest,
)

surely : (cat : CatalogueView) (before after : PlainView) (stream : List ℕ) (rest : Rest) (written : List ℕ) → (StandsIn no_memory_line written → ⊥)
    → IsAnswered (plain_answers_of cat) (plain_refusals_of cat) before after stream rest written
    → IsAnswered (sure_answers_of cat) (plain_refusals_of cat) before after stream rest written
surely cat before after stream rest written spared a = record {
  requests = a.requests;
  spells = a.spells;
  replies = a.replies;
  chain = sure_chain cat before a.requests a.replies after (λ stands. spared (subst (StandsIn no_memory_line) (sym a.is) (stands_first no_memory_line a.replies a.text stands))) a.chain;
  text = a.text;
  refusal = a.refusal;
  is = a.is;
}

module _ (words : List (List ℕ)) (files : Files) (said : ReplayView) (asked : IsAsked command.Export words said) where
  replayed_surely : (cat : CatalogueView) (kept : List KeptBooking) → HasBooks files said.catalogue said.from cat kept → (desk : DeskView) → IsFirstDesk cat kept desk
      → (after : ServiceView) (stream : List ℕ) (rest : Rest) (replies : List ℕ) → (StandsIn no_memory_line replies → ⊥)
      → IsAnswered (answers_of cat) (refusals_of cat) (opening desk said) after stream rest replies → IsSurelyReplayed words files stream rest replies
  replayed_surely cat kept books desk first after stream rest replies spared a = record {
    said = said;
    cat = cat;
    kept = kept;
    of = record { words_are = asked; books = books };
    desk = desk;
    after = after;
    first = first;
    answers = a;
    plain = plain_view after;
    plainly = surely cat (plain_opening kept said) (plain_view after) stream rest replies spared
        (subst (λ (begun : PlainView). IsAnswered (plain_answers_of cat) (plain_refusals_of cat) begun (plain_view after) stream rest replies) (opens_plainly cat kept desk said first)
        (stream_plainly cat (opening desk said) after stream rest replies first.lone a));
  }

  module _ (input left : Option (List ℕ)) (stream : List ℕ) (told : input ≡ Some stream) where
    exports_all : (text : List ℕ) → IsTextRun said files input left text → ExportsAll words files stream text
    unfolding replayed_surely
    exports_all text run =
        elim (done_from (answers_of run.cat) (refusals_of run.cat) (opening run.desk said) run.is.after run.taken stream run.is.answers left conn.Done (sym told ∙ run.takes) run.is.served.answered refl) [
          | inl a ↦ inl (record { replies = run.is.answers; by = replayed_surely run.cat run.kept run.books run.desk run.first run.is.after stream empty run.is.answers run.is.spared a; bookings = refl; settled = run.is.settled; is = run.is.is })
          | inr a ↦ inr (record { replies = run.is.answers; by = replayed_surely run.cat run.kept run.books run.desk run.first run.is.after stream closed run.is.answers run.is.spared a; bookings = refl; settled = run.is.settled; is = run.is.is })
        ]

    ends_cut : (c : ConnEnd) → status_of_end c ≡ 6 → (run : IsInputRun said files input left (λ cat desk taken. IsCutOf cat desk said taken left c))
        → (answers : List ℕ) × EndsCut words files stream answers
    ends_cut c six run = (
      run.is.answers,
      elim (cut_from (answers_of run.cat) (refusals_of run.cat) (opening run.desk said) run.is.after run.taken stream run.is.answers left c (sym told ∙ run.takes) run.is.served.answered six) [
        | inl a ↦ inl (replayed_surely run.cat run.kept run.books run.desk run.first run.is.after _ _ _ run.is.spared a)
        | inr a ↦ inr (a.0, replayed_surely run.cat run.kept run.books run.desk run.first run.is.after _ _ _ run.is.spared a.1)
      ],
    )

-- a run that has books
pub export_given : (files : Files) (input left output sent : Option (List ℕ)) (said : ReplayView) (c : ConnEnd) → RanExport said files (told_of input left output sent) (end.Served c) → Given said files
export_given files input left output sent said conn.Done did = (did.1.cat, did.1.kept, did.1.books)
export_given files input left output sent said conn.WriteFault did = (did.2.cat, did.2.kept, did.2.books)
export_given files input left output sent said c did = (did.0.cat, did.0.kept, did.0.books)

pub export_fails : (files : Files) (input left output sent : Option (List ℕ)) (said : ReplayView) (fault : _) → RanExport said files (told_of input left output sent) (end.NotLoaded fault) → Fails files said.catalogue said.from fault × IsUntouched (told_of input left output sent)
export_fails files input left output sent said fault ends = ends

module _ (words : List (List ℕ)) (files : Files) (input left output sent : Option (List ℕ)) where
  abbrev Ran : ReplayEnd → Type 0
  Ran e = Exports words files (told_of input left output sent) e

  abbrev Made : ReplayView → ReplayEnd → Type 0
  Made said e = RanExport said files (told_of input left output sent) e

  pub export_without : (e : ReplayEnd) → Ran e → status_of_replay e ≡ 1 → IsWithoutBooks command.Export words files
  export_without e ran one = without command.Export words files input left output sent Made (export_fails files input left output sent) (export_given files input left output sent) e ran one

  pub export_missed : (e : ReplayEnd) (failed now before after : ℕ) → Ran e → HasShelfCause e failed now before after
      → status_of_replay e ≡ 1 → Rose before after ⊎ IsOfRefusedText command.Export words files
  export_missed e failed now before after ran cause one =
      missed command.Export words files input left output sent Made (export_fails files input left output sent) (export_given files input left output sent) e failed now before after ran cause one

  pub export_no_books : (told : List ℕ → Option (List ℕ)) → files ≡ Some told → (wanted : ReplayView) → IsExport words wanted → HasNoBooks told wanted.catalogue wanted.from
      → (e : ReplayEnd) → Ran e → (status_of_replay e ≡ 1) ⊎ (status_of_replay e ≡ 3) ⊎ (status_of_replay e ≡ 5)
  export_no_books told tells wanted asked none e ran =
      ends_without command.Export words files input left output sent Made (export_fails files input left output sent) (export_given files input left output sent) told tells wanted asked none e ran

  -- the statuses that are those of a connection's end alone
  by_end : {A : Type 0} (n : ℕ) → (n ≡ 1 → ⊥) → (n ≡ 3 → ⊥) → (n ≡ 5 → ⊥)
      → ((said : ReplayView) (c : ConnEnd) → IsExport words said → status_of_end c ≡ n → ServedSo said files (told_of input left output sent) c → A)
      → (e : ReplayEnd) → Ran e → status_of_replay e ≡ n → A
  by_end n one three five so e ran is =
      elim (served_end command.Export words files input left output sent Made (export_fails files input left output sent) (export_given files input left output sent) n one five e ran is) [
        | inl untouched ↦ absurd (three untouched.1)
        | inr (said, c, asked, did, ended) ↦ so said c asked ended did
      ]

  module _ (stream : List ℕ) (told : input ≡ Some stream) where
    -- status 0: the whole text
    abbrev pub Whole : Type 0
    Whole = (text : List ℕ) × (sent ≡ with_end output text) × ExportsAll words files stream text

    whole_of : (said : ReplayView) (c : ConnEnd) → IsExport words said → status_of_end c ≡ 0 → ServedSo said files (told_of input left output sent) c → Whole
    whole_of said conn.Done asked zero did = (did.0, did.2, exports_all words files said asked input left stream told did.0 did.1)
    whole_of said c asked zero did = absurd (omega (arith, zero))

    pub whole : (e : ReplayEnd) → Ran e → status_of_replay e ≡ 0 → Whole
    whole e ran zero = by_end 0 (λ z. omega (arith, z)) (λ z. omega (arith, z)) (λ z. omega (arith, z)) whole_of e ran zero

    -- status 4: a beginning of it
    abbrev pub Beginning : Type 0
    Beginning = (front back : List ℕ) × (sent ≡ with_end output front) × ExportsAll words files stream (front ++ back)

    beginning_of : (said : ReplayView) (c : ConnEnd) → IsExport words said → status_of_end c ≡ 4 → ServedSo said files (told_of input left output sent) c → Beginning
    beginning_of said conn.WriteFault asked four did = (did.0, did.1, did.3, exports_all words files said asked input left stream told (did.0 ++ did.1) did.2)
    beginning_of said c asked four did = absurd (omega (arith, four))

    pub beginning : (e : ReplayEnd) → Ran e → status_of_replay e ≡ 4 → Beginning
    beginning e ran four = by_end 4 (λ z. omega (arith, z)) (λ z. omega (arith, z)) (λ z. omega (arith, z)) beginning_of e ran four

    -- status 6: the connection was cut or refused
    abbrev pub Cutting : Type 0
    Cutting = (answers : List ℕ) × EndsCut words files stream answers

    cutting_of : (said : ReplayView) (c : ConnEnd) → IsExport words said → status_of_end c ≡ 6 → ServedSo said files (told_of input left output sent) c → Cutting
    cutting_of said conn.Cut asked six did = ends_cut words files said asked input left stream told conn.Cut six did.0
    cutting_of said (conn.Refused fault) asked six did = ends_cut words files said asked input left stream told (conn.Refused fault) six did.0
    cutting_of said c asked six did = absurd (omega (arith, six))

    pub cutting : (e : ReplayEnd) → Ran e → status_of_replay e ≡ 6 → Cutting
    cutting e ran six = by_end 6 (λ z. omega (arith, z)) (λ z. omega (arith, z)) (λ z. omega (arith, z)) cutting_of e ran six

-- where there is no text nothing is written
pub no_text : (said : ReplayView) (files : Files) (input left output : Option (List ℕ)) (cat : CatalogueView) (kept : List KeptBooking) → HasBooks files said.catalogue said.from cat kept → (desk : DeskView) → IsFirstDesk cat kept desk
    → (taken : List ℕ) → input ≡ with_front taken left → (e : ConnEnd) → HasNoText cat desk said taken left e → ServedSo said files (told_of input left output output) e
no_text said files input left output cat kept books desk first taken takes conn.Done none = absurd none
no_text said files input left output cat kept books desk first taken takes conn.WriteFault none = absurd none
no_text said files input left output cat kept books desk first taken takes e none = (record { cat = cat; kept = kept; books = books; desk = desk; first = first; taken = taken; takes = takes; is = none }, refl)

-- what was written of a text
pub wrote_whole : (before after : Option (List ℕ)) (piece text : List ℕ) (all : Bool) → piece ≡ text → Writes before after piece all → all ≡ true → after ≡ with_end before text
wrote_whole before after piece text all same w every =
    w.told ∙ ap (with_end before) (sym (w.is ∙ (ap (λ (l : List ℕ). w.written ++ l) (w.whole every) ∙ append-nil w.written)) ∙ same)
