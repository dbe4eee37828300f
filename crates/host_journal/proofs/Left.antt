-- What a journal leaves.
use Rattle.std.proofs.Common.{◌≡◌, ◌∙◌, ◌<◌, ℕ, List, [], Option, None, Some, inl, inr, length, ap, subst}
use Rattle.std.specs.Prelude.{IfSome}
use Rattle.claim_rule.specs.Openings.{KeptBooking}
use Rattle.claim_rule.specs.Rule.{BooksView, DeskView}
use Rattle.history_model.specs.Booking.{Layout}
use Rattle.catalogue_contents.specs.Contents.{CatalogueView, legs_in}
use Rattle.rail_io.specs.Journals.{Opens}
use Rattle.rail_io.specs.declared.journal.JournalOpened.TheVariants.{Missing, Text, TooLarge}
use Rattle.host_catalogue.specs.Files.{Files, most_of}
use Rattle.host_catalogue.specs.declared.file.File.TheVariants.{Journal}
use Rattle.host_journal.specs.declared.opened.Opened.{Opened}
use Rattle.line_text.specs.Lines.{IsExportOf, SaidBooking}
use Rattle.row_cuts.specs.Exports.{AreLinesOf}
use Rattle.host_catalogue.specs.Prints.{print_in}
use Rattle.host_journal.specs.declared.log.Head.{Head}
use Rattle.host_journal.specs.declared.log.Lines.{Lines}
use Rattle.host_catalogue.specs.Opening.{BeginsWith, IsExportFor, IsNotOpened, IsOpened}
use Rattle.host_catalogue.specs.declared.file.LoadFault.{LoadFault}
use Rattle.host_journal.specs.declared.keeping.KeepFault.{KeepFault}
use Rattle.host_journal.specs.declared.keeping.KeepFault.TheVariants as fault
use Rattle.host_journal.specs.Left.{AreLinesFor, IsHeadFor, IsNotLeft, IsShutOut, LeavesIn, LeavesOpened, NamesNone}

-- a journal that tells what it keeps tells the text that was read
text_told : (told : Option (List ℕ)) (text : _) (room : ℕ) → IfSome told (λ all. Opens all room (Text text)) → IfSome told (λ all. all ≡ text.items)
text_told None text room is = tt
text_told (Some all) text room is = is.0

none_told : (told : Option (List ℕ)) (room : ℕ) → IfSome told (λ all. Opens all room Missing) → IfSome told (λ all. all ≡ [])
none_told None room is = tt
none_told (Some all) room is = is

-- what a text leaves is what the journal leaves
pub left_in : (files : Files) (from told : Option (List ℕ)) (cat : CatalogueView) (text : _) (room : ℕ) (opened : Opened) (lines : Lines) → IfSome told (λ all. Opens all room (Text text))
    → NamesNone from → LeavesIn cat text.items opened lines → LeavesOpened (record { files = files; from = from; told = told }) cat opened lines
left_in files from told cat text room opened lines is none leaves =
    (leaves.2, inr (none, text.items, text_told told text room is, leaves.0, leaves.1, leaves.3), leaves.4, leaves.5)

-- and where there is none, what the export begins with
pub left_from : (files : Files) (from told : Option (List ℕ)) (cat : CatalogueView) (room : ℕ) (opened : Opened) (lines : Lines) → IfSome told (λ all. Opens all room Missing)
    → (bookings : List KeptBooking) × BeginsWith files cat from bookings × IsOpened cat bookings opened.books opened.first × AreLinesFor bookings lines
    → LeavesOpened (record { files = files; from = from; told = told }) cat opened lines
left_from files from told cat room opened lines is begins = (begins.0, inl (none_told told room is, begins.1), begins.2, begins.3)

-- the lines that were found in an export are those of its bookings
pub lines_for : (cat : CatalogueView) (export : List ℕ) (bookings : List KeptBooking) (lines : Lines) → IsExportFor cat export bookings
    → ((places rows : ℕ) (said : List SaidBooking) → IsExportOf export places rows said → AreLinesOf said lines.text.items lines.count) → AreLinesFor bookings lines
lines_for cat export bookings lines is found = (is.0, is.2, found (length (legs_in cat)) cat.rows is.0 is.1.sized)

-- the head that is written is this catalogue's
pub head_for : (cat : CatalogueView) (bookings : List KeptBooking) (books : BooksView) (desk : DeskView) (head : Head) → IsOpened cat bookings books desk
    → head.places ≡ length books.layout.legs → head.rows ≡ books.layout.rows → head.print.digits ≡ print_in cat → IsHeadFor cat head
head_for cat bookings books desk head is places rows print =
    let legs : head.places ≡ length (legs_in cat) = places ∙ ap (λ (l : Layout). length l.legs) is.layout in
    let all : head.rows ≡ cat.rows = rows ∙ ap (λ (l : Layout). l.rows) is.layout in
    λ j. record { places = legs j; rows = all j; print = print j }

-- why a text leaves no books is why the journal leaves none
pub not_left_in : (files : Files) (from told : Option (List ℕ)) (cat : CatalogueView) (text : _) (room : ℕ) (f : KeepFault) → IfSome told (λ all. Opens all room (Text text))
    → IsShutOut cat from text.items f → IsNotLeft cat (record { files = files; from = from; told = told }) f
not_left_in files from told cat text room fault.Locked is not = tt
not_left_in files from told cat text room fault.Failed is not = tt
not_left_in files from told cat text room fault.NoMemory is not = tt
not_left_in files from told cat text room fault.Exists is not = not
not_left_in files from told cat text room fault.TooLarge is not = absurd not
not_left_in files from told cat text room (fault.NotLoaded cause) is not = absurd not
not_left_in files from told cat text room (fault.Refused refusal) is not = (not.0, text.items, text_told told text room is, not.1)

pub not_left_from : (files : Files) (from told : Option (List ℕ)) (cat : CatalogueView) (room : ℕ) (f : LoadFault) → IfSome told (λ all. Opens all room Missing)
    → IsNotOpened files cat from f → IsNotLeft cat (record { files = files; from = from; told = told }) (fault.NotLoaded f)
not_left_from files from told cat room f is not = (none_told told room is, not)

pub too_large : (files : Files) (from told : Option (List ℕ)) (cat : CatalogueView) (room : ℕ) → room ≡ most_of Journal → IfSome told (λ all. Opens all room TooLarge)
    → IsNotLeft cat (record { files = files; from = from; told = told }) fault.TooLarge
too_large files from None cat room same is = tt
too_large files from (Some all) cat room same is = subst (λ (n : ℕ). n < length all) same is
