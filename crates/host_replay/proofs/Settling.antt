-- The wall of books that were just opened, and what a settlement's status says of its bytes.
use Rattle.std.proofs.Common.{◌≡◌, ◌≤◌, ◌++◌, ◌∷◌, ℕ, List, [], true, false, Option, Some, refl, sym, ◌∙◌, ap, subst, arith, inl, inr, append-nil}
use Rattle.std.specs.Prelude.{◌⊎◌, codes}
use Rattle.std.specs.List.{AllByRecursion}
use Rattle.rail_io.specs.Faults.{Rose}
use Rattle.rail_io.specs.Told.{with_end}
use Rattle.session_loop.specs.Writes.{Writes}
use Rattle.history_model.specs.Booking.{Booking, Layout, State, most_rows, present}
use Rattle.history_model.specs.History.{IsLegal, state_of}
use Rattle.history_model.specs.Laws.{is_owners}
use Rattle.history_model.specs.Words.{AreWordsOf}
use Rattle.history_model.specs.declared.entry.Entry.{Entry}
use Rattle.history_model.specs.declared.phase.Phase.TheVariants.{Ending}
use Rattle.history_model.proofs.Keeping.{found}
use Rattle.history_model.proofs.Ranges.{all_found}
use Rattle.claim_rule.proofs.OpeningKept.{kept_back}
use Rattle.claim_rule.specs.Openings.{KeptBooking, MayOpen, kept_bookings, layout_with}
use Rattle.claim_rule.specs.Rule.{BooksView, DeskView, IsWhole}
use Rattle.claim_rule.specs.Desks.{IsNew}
use Rattle.claim_rule.specs.Walls.{Finishes, WallView}
use Rattle.settle_report.specs.Accounts.{IsSettled, NoneEnding, kept_on}
use Rattle.catalogue_contents.specs.Contents.{CatalogueView, legs_in}
use Rattle.host_words.specs.Settle.{IsSettle}
use Rattle.host_catalogue.specs.Files.{Files}
use Rattle.host_catalogue.specs.Opening.{HasBooks, HasNoBooks, IsOpened, IsRefusedFile, LacksBooks}
use Rattle.host_catalogue.specs.declared.file.LoadFault.{LoadFault}
use Rattle.host_catalogue.specs.Ends.{status_of_fault}
use Rattle.host_catalogue.proofs.Without.{fault_status, lacks_books, missed_file, never_opened}
use Rattle.host_replay.specs.Settle.{RanSettle, HasSettleCause, IsFetchedTable, IsTableOf, IsUnused, status_of_settle}
use Rattle.host_replay.specs.declared.settle_end.SettleEnd.{SettleEnd}
use Rattle.host_replay.specs.declared.settle_end.SettleEnd.TheVariants as end

-- where no booking is anyone's, none is ending
none_ending : (s : State) (rows : ℕ) → AllByRecursion (λ b. is_owners b.phase ≡ false) s → NoneEnding s rows
none_ending s rows settled row kind below on =
    let b = found (present s row) (λ b. b.phase ≡ Ending kind) on in
    let not_owners : is_owners b.0.phase ≡ false = all_found (λ (b : Booking). is_owners b.phase ≡ false) s row b.0 settled b.1 in
    let owners : is_owners b.0.phase ≡ true = ap is_owners b.2 in
    let bad : true ≡ false = sym owners ∙ not_owners in
    absurd cc

-- books that their first desk finishes at once
module _ (books : BooksView) (desk : DeskView) (w : WallView) (new : IsNew desk 0 []) (layout : w.layout ≡ books.layout)
    (ends : Finishes books.layout desk w.words w.history) where
  whole : IsWhole desk.number desk.parted desk.joined
  whole = (new.number, λ j low high. let none : desk.parted ≡ 0 = new.parted in absurd (omega (arith, low, high, none)))

  nothing : w.history ≡ []
  nothing = ends.whole whole ∙ new.seen

  pub unused : IsUnused books.layout w
  unused = record {
    layout = layout;
    history = nothing;
    words = subst (λ (h : List Entry). AreWordsOf books.layout (state_of books.layout h) w.words) nothing ends.are;
  }

  pub settled : books.layout.rows ≤ most_rows → IsSettled w
  settled few =
      let opening = none_ending books.layout.opening books.layout.rows ends.legal.0.settled in
      let same = subst (λ (h : List Entry). NoneEnding (state_of books.layout h) books.layout.rows) (sym nothing) opening in
      record {
        legal = subst (λ (g : Layout). IsLegal g w.history) (sym layout) ends.legal;
        words = subst (λ (g : Layout). AreWordsOf g (state_of g w.history) w.words) (sym layout) ends.are;
        rows = subst (λ (g : Layout). g.rows ≤ most_rows) (sym layout) few;
        none_ending = subst (λ (g : Layout). NoneEnding (state_of g w.history) g.rows) (sym layout) same;
      }

-- the bookings on a wall at which nothing was done are those that its books open with
kept_are : (legs : List ℕ) (rows : ℕ) (kept : List KeptBooking) (w : WallView) → MayOpen legs rows kept → IsUnused (layout_with legs rows kept) w
    → kept_on w ≡ kept
kept_are legs rows kept w may u =
    ap (λ (g : Layout). kept_bookings g.rows (state_of g w.history)) u.layout
    ∙ ap (λ (h : List Entry). kept_bookings rows (state_of (layout_with legs rows kept) h)) u.history
    ∙ kept_back legs rows kept may

pub fault_not_zero : (fault : LoadFault) → status_of_fault fault ≡ 0 → ⊥
fault_not_zero fault zero = elim (fault_status fault) [
  | inl h ↦ omega (arith, h, zero)
  | inr more ↦ elim more [ inl h ↦ omega (arith, h, zero) | inr h ↦ omega (arith, h, zero) ]
]

pub fault_not_four : (fault : LoadFault) → status_of_fault fault ≡ 4 → ⊥
fault_not_four fault four = elim (fault_status fault) [
  | inl h ↦ omega (arith, h, four)
  | inr more ↦ elim more [ inl h ↦ omega (arith, h, four) | inr h ↦ omega (arith, h, four) ]
]

pub fault_few : (fault : LoadFault) → status_of_fault fault ≤ 5
fault_few fault = elim (fault_status fault) [
  | inl h ↦ omega (arith, h)
  | inr more ↦ elim more [ inl h ↦ omega (arith, h) | inr h ↦ omega (arith, h) ]
]

pub few : (e : SettleEnd) → status_of_settle e ≤ 5
few end.Written = omega (arith)
few (end.NotLoaded fault) = fault_few fault
few end.WriteFault = omega (arith)
few end.NoMemory = omega (arith)

module _ (files : Files) (catalogue export : List ℕ) (output sent : Option (List ℕ)) where
  module _ (cat : CatalogueView) (kept : List KeptBooking) (books : BooksView) (desk : DeskView) (has : HasBooks files catalogue (Some export) cat kept)
      (opened : IsOpened cat kept books desk) (text : List ℕ) (table : IsTableOf books.layout text) where
    fetched : IsFetchedTable files catalogue export text
    fetched =
        let of = subst (λ (g : Layout). IsTableOf g text) opened.layout table in
        record {
          cat = cat;
          kept = kept;
          books = has;
          wall = of.0;
          unused = of.1;
          bookings = kept_are (legs_in cat) cat.rows kept of.0 opened.may of.1;
          is = of.2;
        }

    pub wrote : Writes output sent text true → RanSettle files catalogue export output sent end.Written
    wrote w =
        let same : text ≡ w.written = w.is ∙ ap (λ (l : List ℕ). w.written ++ l) (w.whole refl) ∙ append-nil w.written in
        (text, fetched, w.told ∙ ap (with_end output) (sym same))

    pub broke : Writes output sent text false → RanSettle files catalogue export output sent end.WriteFault
    broke w = (w.written, w.left, subst (λ (t : List ℕ). IsFetchedTable files catalogue export t) w.is fetched, w.told)

  pub whole_table : (e : SettleEnd) → RanSettle files catalogue export output sent e → status_of_settle e ≡ 0
      → (text : List ℕ) × IsFetchedTable files catalogue export text × (sent ≡ with_end output text)
  whole_table end.Written ends zero = ends
  whole_table (end.NotLoaded fault) ends zero = absurd (fault_not_zero fault zero)
  whole_table end.WriteFault ends zero = absurd (omega (arith, zero))
  whole_table end.NoMemory ends zero = absurd (omega (arith, zero))

  pub front_table : (e : SettleEnd) → RanSettle files catalogue export output sent e → status_of_settle e ≡ 4
      → (front back : List ℕ) × IsFetchedTable files catalogue export (front ++ back) × (sent ≡ with_end output front)
  front_table end.Written ends four = absurd (omega (arith, four))
  front_table (end.NotLoaded fault) ends four = absurd (fault_not_four fault four)
  front_table end.WriteFault ends four = ends
  front_table end.NoMemory ends four = absurd (omega (arith, four))

  pub without : (e : SettleEnd) → RanSettle files catalogue export output sent e → status_of_settle e ≡ 1 → LacksBooks files catalogue (Some export)
  without end.Written ends one = absurd (omega (arith, one))
  without (end.NotLoaded fault) ends one = lacks_books files catalogue (Some export) fault one ends.0
  without end.WriteFault ends one = absurd (omega (arith, one))
  without end.NoMemory ends one = absurd (omega (arith, one))

  pub missed : (e : SettleEnd) (failed fails before after : ℕ) → RanSettle files catalogue export output sent e → HasSettleCause e failed fails before after
      → status_of_settle e ≡ 1 → Rose before after ⊎ IsRefusedFile files catalogue (Some export)
  missed end.Written failed fails before after ends cause one = absurd (omega (arith, one))
  missed (end.NotLoaded fault) failed fails before after ends cause one =
      missed_file files catalogue (Some export) fault failed fails before after one ends.0 cause
  missed end.WriteFault failed fails before after ends cause one = absurd (omega (arith, one))
  missed end.NoMemory failed fails before after ends cause one = absurd (omega (arith, one))

-- where the shelf tells that it has no books
module _ (told : List ℕ → Option (List ℕ)) (catalogue export : List ℕ) (output sent : Option (List ℕ)) (none : HasNoBooks told catalogue (Some export)) where
  never : (text : List ℕ) → IsFetchedTable (Some told) catalogue export text → ⊥
  never text table = never_opened told catalogue (Some export) table.cat table.kept none table.books

  pub ends_without : (e : SettleEnd) → RanSettle (Some told) catalogue export output sent e
      → (status_of_settle e ≡ 1) ⊎ (status_of_settle e ≡ 3) ⊎ (status_of_settle e ≡ 5)
  ends_without end.Written (text, table, wrote) = absurd (never text table)
  ends_without (end.NotLoaded fault) ends = fault_status fault
  ends_without end.WriteFault (front, back, table, wrote) = absurd (never (front ++ back) table)
  ends_without end.NoMemory ends = inr (inr refl)

-- two readings of the same words
pub same_catalogue : (words : List (List ℕ)) (a b c d : List ℕ) → IsSettle words a b → IsSettle words c d → a ≡ c
same_catalogue words a b c d p q = (let e : codes "settle" ∷ a ∷ b ∷ [] ≡ codes "settle" ∷ c ∷ d ∷ [] = sym p ∙ q in cc)

pub same_export : (words : List (List ℕ)) (a b c d : List ℕ) → IsSettle words a b → IsSettle words c d → b ≡ d
same_export words a b c d p q = (let e : codes "settle" ∷ a ∷ b ∷ [] ≡ codes "settle" ∷ c ∷ d ∷ [] = sym p ∙ q in cc)
