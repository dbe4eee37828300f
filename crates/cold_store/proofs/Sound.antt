-- What is wrong with the bookings of a draft, and what they open where nothing is.
use Rattle.std.proofs.Common.{◌≡◌, ◌≢◌, inl, ℕ, ◌+◌, ◌<◌, ◌≤◌, ◌&&◌, Bool, true, cond, leb, ltb, List, [], ◌∷◌, ◌++◌, length, map, Option, Some, None, IfSome, IfNone, refl, sym, ap, ◌∙◌, subst, arith, le-leb, lt-ltb}
use Rattle.std.specs.List.{AllByRecursion}
use Rattle.std.specs.Option.{option_map_or}
use Rattle.rail_ids.specs.Spelling.{last_generation}
use Rattle.history_model.specs.Booking.{Booking, Layout, State, most_rows, successor_word}
use Rattle.history_model.specs.Lists.{Pairwise}
use Rattle.history_model.specs.Words.{AreWordsOf}
use Rattle.history_model.proofs.ListLemmas.{All-map}
use Rattle.claim_rule.specs.Openings.{AllOpenings, KeptBooking, OpensWith, layout_with, opening_of}
use Rattle.line_text.specs.declared.ends.SaidRow.{SaidRow}
use Rattle.cold_store.specs.Drafts.{DraftView, EachDraft, IsDraftOf, IsDrafted, IsFirstWrongAlone, IsLeastOwn, IsSomeDraft, drafted, drafted_successor}
use Rattle.cold_store.specs.Exports.{IsLeastBelow, NoneBelow}
use Rattle.cold_store.specs.declared.fault.ImportFault.{ImportFault}
use Rattle.cold_store.specs.declared.fault.ImportFault.TheVariants.{NotAnExport, Sizes, RowWrong, Overlap, OwnSuccessor, NoMemory}
use Rattle.cold_store.specs.Imports.{AreSound, IsFaultOf, IsImportFault, IsReadFault, IsReadText, IsSized, OpensAs}
use Rattle.line_text.specs.Lines.{IsExportOf, IsSayable, SaidBooking}
use Rattle.cold_store.specs.Right.{AreRight, HasLine, IsApartAt, IsRight, IsRightAlone, OwnsSuccessor, kept_of}
use Rattle.cold_store.proofs.Follows.{All-in, In, in_of, in_right, said_rise}
use Rattle.cold_store.proofs.Opens.{may_open}

abbrev EachRight : DraftView → Type 0
EachRight d = EachDraft d (λ legs said. AreRight legs d.rows said said)

-- where all are right, none was wrong
pub wrong_none : (legs : List ℕ) (said : List SaidBooking) (d : DraftView) → IsDraftOf legs d.rows said d → AreRight legs d.rows said said → d.wrong ≡ None
wrong_none legs said d was right = go d.wrong refl
  where
    go : (o : Option ℕ) → d.wrong ≡ o → d.wrong ≡ None
    go None e = e
    go (Some w) e =
        let f : IsFirstWrongAlone legs d.rows said w = subst (λ (o : Option ℕ). IfSome o (IsFirstWrongAlone legs d.rows said)) e was.wrong in
        let there : In f.booking said = subst (In f.booking) (sym f.parts) (in_right f.before (f.booking ∷ f.behind) f.booking (inl refl)) in
        absurd (f.wrong (All-in (IsRight legs d.rows said) said f.booking right there).alone)

pub drafted_now : (legs : List ℕ) (said : List SaidBooking) (d : DraftView) → IsDraftOf legs d.rows said d → AreRight legs d.rows said said → IsDrafted legs d.rows said d
drafted_now legs said d was right = subst (λ (o : Option ℕ). IfNone o (IsDrafted legs d.rows said d)) (wrong_none legs said d was right) was.right

pub overlap_fault : (d : DraftView) (place : ℕ) → EachRight d → d.overlap ≡ Some place → EachDraft d (λ legs said. AreRight legs d.rows said said × IsLeastBelow (length legs) (λ at. ¬ IsApartAt said at) place)
overlap_fault d place right e legs said was =
    let r = right legs said was in
    (r, subst (λ (o : Option ℕ). IfSome o (IsLeastBelow (length legs) (λ at. ¬ IsApartAt said at))) e (drafted_now legs said d was r).overlap)

none_overlaps : (legs : List ℕ) (said : List SaidBooking) (d : DraftView) → IsDraftOf legs d.rows said d → AreRight legs d.rows said said → d.overlap ≡ None → NoneBelow (length legs) (λ at. ¬ IsApartAt said at)
none_overlaps legs said d was right e = subst (λ (o : Option ℕ). IfNone o (NoneBelow (length legs) (λ at. ¬ IsApartAt said at))) e (drafted_now legs said d was right).none

row_in : (legs : List ℕ) (rows : ℕ) (said : List SaidBooking) (row : ℕ) → AreRight legs rows said said → OwnsSuccessor said row → row < rows
row_in legs rows said row right own =
    let inside : own.0.row < rows = (All-in (IsRight legs rows said) said own.0 right (in_of said own.0 own.1)).alone.head.row in
    subst (λ (n : ℕ). n < rows) own.2 inside

pub own_fault : (d : DraftView) (row : ℕ) → EachRight d → d.overlap ≡ None → EachDraft d (λ _ said. IsLeastOwn said row)
    → EachDraft d (λ legs said. AreRight legs d.rows said said × NoneBelow (length legs) (λ at. ¬ IsApartAt said at) × IsLeastBelow d.rows (OwnsSuccessor said) row)
own_fault d row right e least legs said was =
    let r = right legs said was in
    let l = least legs said was in
    (r, none_overlaps legs said d was r e, (row_in legs d.rows said row r l.0, l.0, l.1))

pub own_row : (d : DraftView) (row : ℕ) → IsSomeDraft d → EachRight d → EachDraft d (λ _ said. IsLeastOwn said row) → row < d.rows
own_row d row some right least = row_in some.0 d.rows some.1 row (right some.0 some.1 some.2) (least some.0 some.1 some.2).0

pub none_fault : (d : DraftView) → EachRight d → d.overlap ≡ None → EachDraft d (λ _ said. (row : ℕ) → ¬ OwnsSuccessor said row) → EachDraft d (λ legs said. AreSound legs d.rows said)
none_fault d right e others legs said was =
    let r = right legs said was in
    record { right = r; apart = none_overlaps legs said d was r e; others = λ n l own. others legs said was n own }

-- where the successors have lines, the words are those that the bookings open with

successor_same : (legs : List ℕ) (rows : ℕ) (said : List SaidBooking) → rows ≤ most_rows → AreRight legs rows said said → (o : Option SaidRow) → IfSome o (HasLine said)
    → drafted_successor o ≡ option_map_or (λ (s : SaidRow). successor_word s.row s.generation) o 0
successor_same legs rows said most right None h = refl
successor_same legs rows said most right (Some s) h =
    let line = (All-in (IsRight legs rows said) said h.0 right (in_of said h.0 h.1)).alone.head in
    let row : h.0.row < rows = line.row in
    let generation : h.0.generation ≤ last_generation = line.generation in
    let same : h.0.row ≡ s.row = h.2 in
    let least : s.generation ≤ h.0.generation = h.3 in
    ap (λ (t : Bool). cond (t && leb s.generation last_generation) (successor_word s.row s.generation) 0) (lt-ltb s.row 4294967296 (omega arith))
    ∙ ap (λ (t : Bool). cond t (successor_word s.row s.generation) 0) (le-leb s.generation last_generation (omega arith))

drafted_same : (b : SaidBooking) → drafted_successor b.end.successor ≡ option_map_or (λ (s : SaidRow). successor_word s.row s.generation) b.end.successor 0 → drafted b ≡ kept_of b
drafted_same b e = λ j. record (kept_of b) { end = record (kept_of b).end { successor = e j } }

all_same : (xs : List SaidBooking) → AllByRecursion (λ (b : SaidBooking). drafted b ≡ kept_of b) xs → map drafted xs ≡ map kept_of xs
all_same [] h = refl
all_same (b ∷ bs) h = λ j. h.0 j ∷ all_same bs h.1 j

pub kept_same : (legs : List ℕ) (rows : ℕ) (said : List SaidBooking) → rows ≤ most_rows → AreRight legs rows said said → map drafted said ≡ map kept_of said
kept_same legs rows said most right =
    all_same said (All-map {P = IsRight legs rows said} {Q = λ (b : SaidBooking). drafted b ≡ kept_of b} (λ b r. drafted_same b (successor_same legs rows said most right b.end.successor r.successor)) said right)

pub opens_with : (legs : List ℕ) (said : List SaidBooking) (d : DraftView) → d.rows ≤ most_rows → IsDraftOf legs d.rows said d → AllByRecursion IsSayable said → AreSound legs d.rows said → OpensWith legs d.rows d.words (map kept_of said)
opens_with legs said d most was each sound =
    record {
      may = may_open legs d.rows said each (said_rise d.lines said was.lines was.rising) sound.right sound.apart;
      are = subst (λ (ks : List KeptBooking). AreWordsOf (layout_with legs d.rows ks) (opening_of ks) d.words) (kept_same legs d.rows said most sound.right) (drafted_now legs said d was sound.right).are;
    }

-- what the import answers

pub fault_is : (legs : List ℕ) (rows : ℕ) (text : List ℕ) (said : List SaidBooking) (fault : ImportFault) → IsSized legs rows text said → IsFaultOf legs rows said fault → IsImportFault legs rows text fault
fault_is legs rows text said (NotAnExport line) sized h = absurd h
fault_is legs rows text said Sizes sized h = absurd h
fault_is legs rows text said (RowWrong row) sized h = (said, sized, h)
fault_is legs rows text said (Overlap place) sized h = (said, sized, h.0, h.1)
fault_is legs rows text said (OwnSuccessor row) sized h = (said, sized, h.0, h.1, h.2)
fault_is legs rows text said NoMemory sized h = absurd h

pub read_fault : (legs : List ℕ) (rows : ℕ) (text : List ℕ) (fault : ImportFault) → IsReadFault text fault → IsImportFault legs rows text fault
read_fault legs rows text (NotAnExport line) h = h
read_fault legs rows text Sizes h = absurd h
read_fault legs rows text (RowWrong row) h = absurd h
read_fault legs rows text (Overlap place) h = absurd h
read_fault legs rows text (OwnSuccessor row) h = absurd h
read_fault legs rows text NoMemory h = tt

-- the text is an export of the right sizes, and the draft is that of its bookings
pub record IsReadAs (legs : List ℕ) (rows : ℕ) (text : List ℕ) (d : DraftView) : Type 0 where
  pub said : List SaidBooking
  pub sized : IsSized legs rows text said
  pub draft : IsDraftOf legs d.rows said d
  pub rows_is : d.rows ≡ rows

pub read_as : (legs : List ℕ) (rows : ℕ) (text : List ℕ) (d : DraftView) (first second : ℕ) → first ≡ length legs → second ≡ rows → d.rows ≡ rows → IsReadText legs text first second d → IsReadAs legs rows text d
read_as legs rows text d first second e f same h =
    record { said = h.0; sized = subst (λ (x : ℕ × ℕ). IsExportOf text x.0 x.1 h.0) (λ j. (e j, f j)) h.1; draft = h.2; rows_is = same }

pub import_opens : (legs : List ℕ) (rows : ℕ) (text : List ℕ) (d : DraftView) → rows ≤ most_rows → (read : IsReadAs legs rows text d) → EachDraft d (λ legs said. AreSound legs d.rows said) → OpensWith legs rows d.words (map kept_of read.said)
import_opens legs rows text d most read h =
    subst (λ (n : ℕ). OpensWith legs n d.words (map kept_of read.said)) read.rows_is
    (opens_with legs read.said d (subst (λ (n : ℕ). n ≤ most_rows) (sym read.rows_is) most) read.draft read.sized.each (h legs read.said read.draft))

pub import_layout : (legs : List ℕ) (rows : ℕ) (text : List ℕ) (d : DraftView) (layout : Layout) → rows ≤ most_rows → (read : IsReadAs legs rows text d) → EachDraft d (λ legs said. AreSound legs d.rows said)
    → AllOpenings legs rows d.words layout → OpensAs legs rows text layout
import_layout legs rows text d layout most read h all =
    let sound : AreSound legs rows read.said = subst (λ (n : ℕ). AreSound legs n read.said) read.rows_is (h legs read.said read.draft) in
    (read.said, record { sized = read.sized; right = sound.right; apart = sound.apart; others = sound.others }, all (map kept_of read.said) (import_opens legs rows text d most read h))
