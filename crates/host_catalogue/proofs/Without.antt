-- What status 1 says of the shelf's files, and they of it.
use Rattle.std.proofs.Common.{◌≡◌, ◌≤◌, ◌<◌, ℕ, List, Option, Some, None, length, refl, sym, ◌∙◌, ap, subst, arith, inl, inr}
use Rattle.std.specs.Prelude.{◌⊎◌, IfSome, IsSomeAnd, Ok, Err}
use Rattle.rail_io.specs.Faults.{Rose}
use Rattle.catalogue_contents.specs.Contents.{CatalogueView}
use Rattle.rail_catalogue.specs.Faults.{Fault, fault_of}
use Rattle.rail_catalogue.specs.Format.{catalogue_of}
use Rattle.claim_rule.specs.Openings.{KeptBooking}
use Rattle.host_catalogue.specs.Files.{Files, HasCause, IsText, IsTooLarge, most_of}
use Rattle.host_catalogue.specs.Loading.{HasNone, IsNoCatalogue, IsRefusedText, LacksCatalogue, Loads}
use Rattle.host_catalogue.specs.Opening.{BeginsWith, Fails, HasBooks, HasNoBooks, HasNoExport, IsExportFor, IsNotOpened}
use Rattle.host_catalogue.specs.Opening.{IsRefusedExport, IsRefusedFile, LacksBooks, LacksExport}
use Rattle.host_catalogue.specs.declared.file.File.{File}
use Rattle.host_catalogue.specs.declared.file.File.TheVariants.{Catalogue, Export}
use Rattle.host_catalogue.specs.declared.file.LoadFault.{LoadFault}
use Rattle.host_catalogue.specs.declared.file.LoadFault.TheVariants as load
use Rattle.host_catalogue.specs.Ends.{status_of_fault}

refused_text : (o : Option Fault) (text : List ℕ) → IsSomeAnd o (λ f. catalogue_of text ≡ Err f) → IsNoCatalogue text
refused_text None text is = absurd is
refused_text (Some f) text is = (f, is)

-- status 1: the shelf has none, where it tells its files
pub lacks : (files : Files) (name : List ℕ) (fault : LoadFault) → status_of_fault fault ≡ 1 → Loads files name (Err fault) → LacksCatalogue files name
lacks None name fault one is = tt
lacks (Some told) name (load.Missing f) one is = inl is.1
lacks (Some told) name (load.TooLarge f) one is = inr (inl is.1)
lacks (Some told) name (load.Refused fault) one is = inr (inr (is.0, is.1, refused_text (fault_of fault) is.0 is.2))
lacks (Some told) name (load.RefusedExport fault) one is = absurd is
lacks (Some told) name load.Failed one is = absurd (omega (arith, one))
lacks (Some told) name load.NoMemory one is = absurd (omega (arith, one))

-- a file was missed, or a text refused
pub missed : (files : Files) (name : List ℕ) (fault : LoadFault) (failed fails missed misses : ℕ) → status_of_fault fault ≡ 1
    → Loads files name (Err fault) → HasCause fault failed fails missed misses → Rose missed misses ⊎ IsRefusedText files name
missed files name (load.Missing f) failed fails before after one is cause = inl cause.1
missed files name (load.TooLarge f) failed fails before after one is cause = inl cause.1
missed files name (load.Refused fault) failed fails before after one is cause =
    inr (record { text = is.0; is = is.1; none = refused_text (fault_of fault) is.0 is.2 })
missed files name (load.RefusedExport fault) failed fails before after one is cause = absurd is
missed files name load.Failed failed fails before after one is cause = absurd (omega (arith, one))
missed files name load.NoMemory failed fails before after one is cause = absurd (omega (arith, one))

-- a file that is missing or too large gives no text
pub never_text : (file : File) (told : List ℕ → Option (List ℕ)) (name text : List ℕ) → (told name ≡ None) ⊎ IsTooLarge file told name → IsText file told name text → ⊥
never_text file told name text (inl none) is =
    let bad : None ≡ Some text = sym none ∙ is.is in
    absurd cc
never_text file told name text (inr large) is =
    let same : large.text ≡ text = (let e : Some large.text ≡ Some text = sym large.is ∙ is.is in cc) in
    let few : length large.text ≤ most_of file = subst (λ (t : List ℕ). length t ≤ most_of file) (sym same) is.few in
    let many : most_of file < length large.text = large.many in
    absurd (omega (arith, few, many))

pub same_text : (file : File) (told : List ℕ → Option (List ℕ)) (name one other : List ℕ) → IsText file told name one → IsText file told name other → one ≡ other
same_text file told name one other a b = (let e : Some one ≡ Some other = sym a.is ∙ b.is in cc)

-- a shelf that has none gives no catalogue
pub never_loaded : (told : List ℕ → Option (List ℕ)) (name : List ℕ) (cat : CatalogueView) → HasNone told name → Loads (Some told) name (Ok cat) → ⊥
never_loaded told name cat (inl none) (text, is, read) = never_text Catalogue told name text (inl none) is
never_loaded told name cat (inr (inl large)) (text, is, read) = never_text Catalogue told name text (inr large) is
never_loaded told name cat (inr (inr none)) (text, is, read) =
    let same : none.0 ≡ text = same_text Catalogue told name none.0 text none.1 is in
    let bad : Err none.2.0 ≡ Ok cat = sym none.2.1 ∙ ap catalogue_of same ∙ read in
    absurd cc

-- the statuses that a fault may have
pub fault_status : (fault : LoadFault) → (status_of_fault fault ≡ 1) ⊎ (status_of_fault fault ≡ 3) ⊎ (status_of_fault fault ≡ 5)
fault_status (load.Missing f) = inl refl
fault_status (load.TooLarge f) = inl refl
fault_status (load.Refused fault) = inl refl
fault_status (load.RefusedExport fault) = inl refl
fault_status load.Failed = inr (inl refl)
fault_status load.NoMemory = inr (inr refl)

-- status 1: the shelf has no export for the books, where it tells its files
lacks_export : (files : Files) (cat : CatalogueView) (from : Option (List ℕ)) (fault : LoadFault) → status_of_fault fault ≡ 1
    → IsNotOpened files cat from fault → LacksExport files cat from
lacks_export files cat None fault one is = absurd (omega (arith, ap status_of_fault is, one))
lacks_export None cat (Some name) fault one is = tt
lacks_export (Some told) cat (Some name) (load.Missing f) one is = inl is.1
lacks_export (Some told) cat (Some name) (load.TooLarge f) one is = inr (inl is.1)
lacks_export (Some told) cat (Some name) (load.Refused fault) one is = absurd is
lacks_export (Some told) cat (Some name) (load.RefusedExport fault) one is = inr (inr (is.0, is.1, fault, is.2))
lacks_export (Some told) cat (Some name) load.Failed one is = absurd (omega (arith, one))
lacks_export (Some told) cat (Some name) load.NoMemory one is = absurd (omega (arith, one))

pub lacks_books : (files : Files) (name : List ℕ) (from : Option (List ℕ)) (fault : LoadFault) → status_of_fault fault ≡ 1
    → Fails files name from fault → LacksBooks files name from
lacks_books files name from fault one (inl none) = inl (lacks files name fault one none)
lacks_books files name from fault one (inr (cat, loads, none)) = inr (cat, loads, lacks_export files cat from fault one none)

missed_export : (files : Files) (cat : CatalogueView) (from : Option (List ℕ)) (fault : LoadFault) (failed fails missed misses : ℕ)
    → status_of_fault fault ≡ 1 → IsNotOpened files cat from fault → HasCause fault failed fails missed misses
    → Rose missed misses ⊎ IsRefusedExport files cat from
missed_export files cat None fault failed fails before after one is cause = absurd (omega (arith, ap status_of_fault is, one))
missed_export files cat (Some name) (load.Missing f) failed fails before after one is cause = inl cause.1
missed_export files cat (Some name) (load.TooLarge f) failed fails before after one is cause = inl cause.1
missed_export files cat (Some name) (load.Refused fault) failed fails before after one is cause = absurd is
missed_export files cat (Some name) (load.RefusedExport fault) failed fails before after one is cause = inr (is.0, is.1, fault, is.2)
missed_export files cat (Some name) load.Failed failed fails before after one is cause = absurd (omega (arith, one))
missed_export files cat (Some name) load.NoMemory failed fails before after one is cause = absurd (omega (arith, one))

pub missed_file : (files : Files) (name : List ℕ) (from : Option (List ℕ)) (fault : LoadFault) (failed fails missed misses : ℕ)
    → status_of_fault fault ≡ 1 → Fails files name from fault → HasCause fault failed fails missed misses
    → Rose missed misses ⊎ IsRefusedFile files name from
missed_file files name from fault failed fails before after one (inl none) cause =
    elim (missed files name fault failed fails before after one none cause) [ inl rose ↦ inl rose | inr text ↦ inr (inl text) ]
missed_file files name from fault failed fails before after one (inr (cat, loads, none)) cause =
    elim (missed_export files cat from fault failed fails before after one none cause) [ inl rose ↦ inl rose | inr text ↦ inr (inr (cat, loads, text)) ]

-- a shelf that has none gives no books
never_begun : (told : List ℕ → Option (List ℕ)) (cat : CatalogueView) (from : Option (List ℕ)) (kept : List KeptBooking)
    → HasNoExport told cat from → BeginsWith (Some told) cat from kept → ⊥
never_begun told cat None kept none is = none
never_begun told cat (Some name) kept (inl none) (text, is, export) = never_text Export told name text (inl none) is
never_begun told cat (Some name) kept (inr (inl large)) (text, is, export) = never_text Export told name text (inr large) is
never_begun told cat (Some name) kept (inr (inr (refused, has, none))) (text, is, export) =
    let same : text ≡ refused = same_text Export told name text refused is has in
    none kept (subst (λ (t : List ℕ). IsExportFor cat t kept) same export)

pub never_opened : (told : List ℕ → Option (List ℕ)) (name : List ℕ) (from : Option (List ℕ)) (cat : CatalogueView) (kept : List KeptBooking)
    → HasNoBooks told name from → HasBooks (Some told) name from cat kept → ⊥
never_opened told name from cat kept (inl none) books = never_loaded told name cat none books.0
never_opened told name from cat kept (inr (other, (text, is, read), none)) ((again, has, reads), begins) =
    let same : text ≡ again = same_text Catalogue told name text again is has in
    let one : other ≡ cat = (let e : Ok other ≡ Ok cat = sym read ∙ ap catalogue_of same ∙ reads in cc) in
    never_begun told cat from kept (subst (λ (c : CatalogueView). HasNoExport told c from) one none) begins
