-- What a replay's status says of its bytes, where the input and the output tell them.
use Rattle.std.proofs.Common.{◌≡◌, ℕ, List, ◌++◌, Option, Some, None, refl, sym, ◌∙◌, ap, subst, arith, inl, inr}
use Rattle.std.specs.Prelude.{◌⊎◌}
use Rattle.rail_io.specs.Faults.{Rose}
use Rattle.rail_io.specs.Told.{with_end, with_front}
use Rattle.http_wire.specs.declared.request.WireFault.{WireFault}
use Rattle.http_wire.specs.Requests.{Rest, empty, unfinished, closed, refused}
use Rattle.session_loop.specs.declared.end.ConnEnd.{ConnEnd}
use Rattle.session_loop.specs.declared.end.ConnEnd.TheVariants as conn
use Rattle.session_loop.specs.Session.{IsAnswered, IsCutShort}
use Rattle.history_model.specs.Booking.{Layout}
use Rattle.history_model.specs.History.{state_of}
use Rattle.claim_rule.specs.Openings.{KeptBooking}
use Rattle.claim_rule.specs.Rule.{DeskView}
use Rattle.rail_io.specs.Clocks.{script_reading}
use Rattle.catalogue_contents.specs.Contents.{CatalogueView, legs_in}
use Rattle.plain_host.specs.Plain.{Plain}
use Rattle.plain_host.specs.PlainOf.{plain_in}
use Rattle.plain_host.proofs.Kept.{plain_begun}
use Rattle.rail_service.specs.Connections.{ServiceView, answers_of, refusals_of, IsServed}
use Rattle.rail_service.specs.OneThread.{PlainView, plain_view, plain_answers_of, plain_refusals_of}
use Rattle.rail_service.proofs.Alone.{stream_plainly, cut_plainly}
use Rattle.host_catalogue.specs.Files.{Files}
use Rattle.host_catalogue.specs.Opening.{Fails, HasBooks, HasNoBooks}
use Rattle.host_words.specs.Replay.{ReplayView}
use Rattle.host_words.specs.declared.command.CommandName.{CommandName}
use Rattle.host_words.specs.declared.command.CommandName.TheVariants as command
use Rattle.host_catalogue.specs.Ends.{status_of_end}
use Rattle.host_replay.specs.Input.{told_of}
use Rattle.host_replay.specs.Input.{HasShelfCause, IsAsked, IsFirstDesk, IsInputOf, IsOfRefusedText, IsTaken, IsUnread, IsUntouched, IsWithoutBooks}
use Rattle.host_replay.specs.Input.{opening, plain_opening, status_of_replay}
use Rattle.host_replay.specs.Replay.{RanReplay, IsReplay, IsReplayRun, IsReplayed, IsReplayCut, Replays}
use Rattle.host_replay.specs.declared.end.ReplayEnd.{ReplayEnd}
use Rattle.host_replay.specs.declared.end.ReplayEnd.TheVariants as end
use Rattle.host_catalogue.proofs.Streams.{stream_is, done_from, cut_from, read_from, write_from}
use Rattle.host_catalogue.proofs.Without.{fault_status, lacks_books, missed_file, never_opened}

-- a connection at the first desk begins as a host of one thread with the bookings that the books open with
pub opens_plainly : (cat : CatalogueView) (kept : List KeptBooking) (desk : DeskView) (said : ReplayView) → IsFirstDesk cat kept desk → plain_view (opening desk said) ≡ plain_opening kept said
opens_plainly cat kept desk said first =
    ap (λ (p : Plain). record { plain = p; first = None; clock = Some (script_reading said.start said.tick) })
    (ap plain_in (ap (state_of desk.layout) first.new.seen ∙ ap (λ (g : Layout). g.opening) first.layout) ∙ plain_begun (legs_in cat) cat.rows kept first.may)

replayed : (words : List (List ℕ)) (files : Files) (cat : CatalogueView) (kept : List KeptBooking) (said : ReplayView) (desk : DeskView) (after : ServiceView) → IsInputOf command.Replay words files said cat kept
    → IsFirstDesk cat kept desk → (stream : List ℕ) (rest : Rest) (written : List ℕ)
    → IsAnswered (answers_of cat) (refusals_of cat) (opening desk said) after stream rest written → IsReplayed words files stream rest written
replayed words files cat kept said desk after of first stream rest written a = record {
  said = said;
  cat = cat;
  kept = kept;
  of = of;
  desk = desk;
  after = after;
  first = first;
  answers = a;
  plain = plain_view after;
  plainly = subst (λ (begun : PlainView). IsAnswered (plain_answers_of cat) (plain_refusals_of cat) begun (plain_view after) stream rest written) (opens_plainly cat kept desk said first)
      (stream_plainly cat (opening desk said) after stream rest written first.lone a);
}

replayed_part : (words : List (List ℕ)) (files : Files) (cat : CatalogueView) (kept : List KeptBooking) (said : ReplayView) (desk : DeskView) (after : ServiceView) → IsInputOf command.Replay words files said cat kept
    → IsFirstDesk cat kept desk → (stream written : List ℕ)
    → IsCutShort (answers_of cat) (refusals_of cat) (opening desk said) after stream written → IsReplayCut words files stream written
replayed_part words files cat kept said desk after of first stream written a = record {
  said = said;
  cat = cat;
  kept = kept;
  of = of;
  desk = desk;
  after = after;
  first = first;
  answers = a;
  plain = plain_view after;
  plainly = subst (λ (begun : PlainView). IsCutShort (plain_answers_of cat) (plain_refusals_of cat) begun (plain_view after) stream written) (opens_plainly cat kept desk said first)
      (cut_plainly cat (opening desk said) after stream written first.lone a);
}

-- the books that a run was given
abbrev pub Given : ReplayView → Files → Type 0
Given said files = (cat : CatalogueView) × (kept : List KeptBooking) × HasBooks files said.catalogue said.from cat kept

pub end_is_not_one : (e : ConnEnd) → status_of_end e ≡ 1 → ⊥
end_is_not_one conn.Done one = absurd (omega (arith, one))
end_is_not_one e one = absurd (omega (arith, one))

-- What a status says where P says what the command did: it had books, or there were none, and nothing was read or
-- written.
module _ (name : CommandName) (words : List (List ℕ)) (files : Files) (input left output sent : Option (List ℕ)) (P : ReplayView → ReplayEnd → Type 0)
    (fails : (said : ReplayView) (fault : _) → P said (end.NotLoaded fault) → Fails files said.catalogue said.from fault × IsUntouched (told_of input left output sent))
    (given : (said : ReplayView) (c : ConnEnd) → P said (end.Served c) → Given said files) where
  abbrev pub Ran : ReplayEnd → Type 0
  Ran e = IsUnread name words (told_of input left output sent) e ⊎ ((said : ReplayView) × IsAsked name words said × P said e)

  pub without : (e : ReplayEnd) → Ran e → status_of_replay e ≡ 1 → IsWithoutBooks name words files
  without e (inl unread) one = absurd (omega (arith, ap status_of_replay unread.is, one))
  without end.NoMemory (inr (said, is, did)) one = absurd (omega (arith, one))
  without (end.NotLoaded fault) (inr (said, is, did)) one =
      record { said = said; words_are = is; none = lacks_books files said.catalogue said.from fault one (fails said fault did).0 }
  without (end.Served c) (inr (said, is, did)) one = absurd (end_is_not_one c one)

  pub missed : (e : ReplayEnd) (failed now before after : ℕ) → Ran e → HasShelfCause e failed now before after
      → status_of_replay e ≡ 1 → Rose before after ⊎ IsOfRefusedText name words files
  missed e failed now before after (inl unread) cause one = absurd (omega (arith, ap status_of_replay unread.is, one))
  missed end.NoMemory failed now before after (inr (said, is, did)) cause one = absurd (omega (arith, one))
  missed (end.NotLoaded fault) failed now before after (inr (said, is, did)) cause one =
      elim (missed_file files said.catalogue said.from fault failed now before after one (fails said fault did).0 cause) [
        | inl rose ↦ inl rose
        | inr text ↦ inr (record { said = said; words_are = is; refused_text = text })
      ]
  missed (end.Served c) failed now before after (inr (said, is, did)) cause one = absurd (end_is_not_one c one)

  -- a connection was served, where the status is that of a connection's end alone; or the shelf failed
  pub served_end : (n : ℕ) → (n ≡ 1 → ⊥) → (n ≡ 5 → ⊥) → (e : ReplayEnd) → Ran e → status_of_replay e ≡ n
      → (IsUntouched (told_of input left output sent) × (n ≡ 3)) ⊎ ((said : ReplayView) × (c : ConnEnd) × IsAsked name words said × P said (end.Served c) × (status_of_end c ≡ n))
  served_end n one five e (inl unread) is = absurd (five (sym is ∙ ap status_of_replay unread.is))
  served_end n one five end.NoMemory (inr (said, asked, did)) is = absurd (five (sym is))
  served_end n one five (end.NotLoaded fault) (inr (said, asked, did)) is = elim (fault_status fault) [
    | inl h ↦ absurd (one (sym is ∙ h))
    | inr more ↦ elim more [ inl h ↦ inl ((fails said fault did).1, sym is ∙ h) | inr h ↦ absurd (five (sym is ∙ h)) ]
  ]
  served_end n one five (end.Served c) (inr (said, asked, did)) is = inr (said, c, asked, did, is)

  -- the shelf tells that it has no books for the words
  pub ends_without : (told : List ℕ → Option (List ℕ)) → files ≡ Some told → (wanted : ReplayView) → IsAsked name words wanted → HasNoBooks told wanted.catalogue wanted.from
      → (e : ReplayEnd) → Ran e → (status_of_replay e ≡ 1) ⊎ (status_of_replay e ≡ 3) ⊎ (status_of_replay e ≡ 5)
  ends_without told tells wanted asked none e (inl unread) = inr (inr (ap status_of_replay unread.is))
  ends_without told tells wanted asked none end.NoMemory (inr (said, is, did)) = inr (inr refl)
  ends_without told tells wanted asked none (end.NotLoaded fault) (inr (said, is, did)) = fault_status fault
  ends_without told tells wanted asked none (end.Served c) (inr (said, is, did)) =
      let same : wanted ≡ said = (let e : Some wanted ≡ Some said = sym asked.is ∙ is.is in cc) in
      let has = subst (Given said) tells (given said c did) in
      absurd (never_opened told said.catalogue said.from has.0 has.1 (subst (λ (v : ReplayView). HasNoBooks told v.catalogue v.from) same none) has.2)

-- what a replay had
pub replay_fails : (files : Files) (input left output sent : Option (List ℕ)) (said : ReplayView) (fault : _) → RanReplay said files (told_of input left output sent) (end.NotLoaded fault) → Fails files said.catalogue said.from fault × IsUntouched (told_of input left output sent)
replay_fails files input left output sent said fault ends = ends

pub replay_given : (files : Files) (input left output sent : Option (List ℕ)) (said : ReplayView) (c : ConnEnd) → RanReplay said files (told_of input left output sent) (end.Served c) → Given said files
replay_given files input left output sent said c run = (run.cat, run.kept, run.books)

module _ (words : List (List ℕ)) (files : Files) (input left output sent : Option (List ℕ)) where
  abbrev Made : ReplayView → ReplayEnd → Type 0
  Made said e = RanReplay said files (told_of input left output sent) e

  pub replay_without : (e : ReplayEnd) → Replays words files (told_of input left output sent) e → status_of_replay e ≡ 1 → IsWithoutBooks command.Replay words files
  replay_without e ran one = without command.Replay words files input left output sent Made (replay_fails files input left output sent) (replay_given files input left output sent) e ran one

  pub replay_missed : (e : ReplayEnd) (failed now before after : ℕ) → Replays words files (told_of input left output sent) e → HasShelfCause e failed now before after
      → status_of_replay e ≡ 1 → Rose before after ⊎ IsOfRefusedText command.Replay words files
  replay_missed e failed now before after ran cause one =
      missed command.Replay words files input left output sent Made (replay_fails files input left output sent) (replay_given files input left output sent) e failed now before after ran cause one

  pub replay_no_books : (told : List ℕ → Option (List ℕ)) → files ≡ Some told → (wanted : ReplayView) → IsReplay words wanted → HasNoBooks told wanted.catalogue wanted.from
      → (e : ReplayEnd) → Replays words files (told_of input left output sent) e → (status_of_replay e ≡ 1) ⊎ (status_of_replay e ≡ 3) ⊎ (status_of_replay e ≡ 5)
  replay_no_books told tells wanted asked none e ran =
      ends_without command.Replay words files input left output sent Made (replay_fails files input left output sent) (replay_given files input left output sent) told tells wanted asked none e ran

module _ (words : List (List ℕ)) (files : Files) (input left output sent : Option (List ℕ)) (stream before : List ℕ) (told : input ≡ Some stream)
    (shown : output ≡ Some before) where
  -- what was written, behind what the output told
  abbrev pub Wrote : (List ℕ → Type 0) → Type 0
  Wrote P = (written : List ℕ) × (sent ≡ Some (before ++ written)) × P written

  -- what a connection that ended with this status wrote
  abbrev Writes : ℕ → (List ℕ → Type 0) → Type 0
  Writes n P = (said : ReplayView) (c : ConnEnd) (run : IsReplayRun said files (told_of input left output sent) c) (after : ServiceView) → IsReplay words said
      → IsServed run.cat (opening run.desk said) after run.taken left run.written c → status_of_end c ≡ n → P run.written

  wrote : (P : List ℕ → Type 0) (n : ℕ) → (n ≡ 1 → ⊥) → (n ≡ 5 → ⊥) → Writes n P → (e : ReplayEnd) → Replays words files (told_of input left output sent) e → status_of_replay e ≡ n
      → (IsUntouched (told_of input left output sent) × (n ≡ 3)) ⊎ Wrote P
  wrote P n one five writes e ran is =
      elim (served_end command.Replay words files input left output sent (Made words files input left output sent) (replay_fails files input left output sent) (replay_given files input left output sent) n one five e ran is) [
        | inl untouched ↦ inl untouched
        | inr (said, c, asked, run, ended) ↦ inr (elim run.ends [
          | inl none ↦ absurd (five (sym ended ∙ ap status_of_end none.0))
          | inr (after, served) ↦ (run.written, run.writes ∙ ap (λ (o : Option (List ℕ)). with_end o run.written) shown, writes said c run after asked served ended)
        ])
      ]

  surely_wrote : (P : List ℕ → Type 0) (n : ℕ) → (n ≡ 1 → ⊥) → (n ≡ 3 → ⊥) → (n ≡ 5 → ⊥) → Writes n P → (e : ReplayEnd) → Replays words files (told_of input left output sent) e
      → status_of_replay e ≡ n → Wrote P
  surely_wrote P n one three five writes e ran is = elim (wrote P n one five writes e ran is) [ inl u ↦ absurd (three u.1) | inr w ↦ w ]

  replays : (said : ReplayView) (c : ConnEnd) (run : IsReplayRun said files (told_of input left output sent) c) (after : ServiceView) → IsReplay words said
      → (taken : List ℕ) (rest : Rest) (written : List ℕ) → IsAnswered (answers_of run.cat) (refusals_of run.cat) (opening run.desk said) after taken rest written
      → IsReplayed words files taken rest written
  replays said c run after asked taken rest written a =
      replayed words files run.cat run.kept said run.desk after (record { words_are = asked; books = run.books }) run.first taken rest written a

  abbrev pub Done : List ℕ → Type 0
  Done written = IsReplayed words files stream empty written ⊎ IsReplayed words files stream closed written

  done : Writes 0 Done
  done said c run after asked served zero =
      elim (done_from (answers_of run.cat) (refusals_of run.cat) (opening run.desk said) after run.taken stream run.written left c (sym told ∙ run.takes) served.answered zero) [
        | inl a ↦ inl (replays said c run after asked _ _ _ a)
        | inr a ↦ inr (replays said c run after asked _ _ _ a)
      ]

  pub done_replay : (e : ReplayEnd) → Replays words files (told_of input left output sent) e → status_of_replay e ≡ 0 → Wrote Done
  done_replay e ran zero = surely_wrote Done 0 (λ z. omega (arith, z)) (λ z. omega (arith, z)) (λ z. omega (arith, z)) done e ran zero

  abbrev pub Cutting : List ℕ → Type 0
  Cutting written = IsReplayed words files stream unfinished written ⊎ ((fault : WireFault) × IsReplayed words files stream (refused fault) written)

  cut : Writes 6 Cutting
  cut said c run after asked served six =
      elim (cut_from (answers_of run.cat) (refusals_of run.cat) (opening run.desk said) after run.taken stream run.written left c (sym told ∙ run.takes) served.answered six) [
        | inl a ↦ inl (replays said c run after asked _ _ _ a)
        | inr a ↦ inr (a.0, replays said c run after asked _ _ _ a.1)
      ]

  pub cut_replay : (e : ReplayEnd) → Replays words files (told_of input left output sent) e → status_of_replay e ≡ 6 → Wrote Cutting
  cut_replay e ran six = surely_wrote Cutting 6 (λ z. omega (arith, z)) (λ z. omega (arith, z)) (λ z. omega (arith, z)) cut e ran six

  taken_of : (taken : List ℕ) → input ≡ with_front taken left → IsTaken stream left taken
  taken_of taken takes = let s = stream_is left taken stream (sym told ∙ takes) in record { left = s.0; is = s.2; remains = s.1 }

  abbrev pub Taking : List ℕ → Type 0
  Taking written = (taken : List ℕ) × IsTaken stream left taken × (IsReplayed words files taken empty written ⊎ IsReplayed words files taken unfinished written)

  read : Writes 3 Taking
  read said c run after asked served three = (
    run.taken,
    taken_of run.taken run.takes,
    elim (read_from (answers_of run.cat) (refusals_of run.cat) (opening run.desk said) after run.taken run.written left c served.answered three) [
      | inl a ↦ inl (replays said c run after asked _ _ _ a)
      | inr a ↦ inr (replays said c run after asked _ _ _ a)
    ],
  )

  pub read_replay : (e : ReplayEnd) → Replays words files (told_of input left output sent) e → status_of_replay e ≡ 3 → IsUntouched (told_of input left output sent) ⊎ Wrote Taking
  read_replay e ran three = elim (wrote Taking 3 (λ z. omega (arith, z)) (λ z. omega (arith, z)) read e ran three) [ inl u ↦ inl u.0 | inr w ↦ inr w ]

  abbrev pub Part : List ℕ → Type 0
  Part written = (taken : List ℕ) × IsTaken stream left taken × IsReplayCut words files taken written

  write : Writes 4 Part
  write said c run after asked served four = (
    run.taken,
    taken_of run.taken run.takes,
    replayed_part words files run.cat run.kept said run.desk after (record { words_are = asked; books = run.books }) run.first _ _
        (write_from (answers_of run.cat) (refusals_of run.cat) (opening run.desk said) after run.taken run.written left c served.answered four),
  )

  pub write_replay : (e : ReplayEnd) → Replays words files (told_of input left output sent) e → status_of_replay e ≡ 4 → Wrote Part
  write_replay e ran four = surely_wrote Part 4 (λ z. omega (arith, z)) (λ z. omega (arith, z)) (λ z. omega (arith, z)) write e ran four
