-- What a recovery's status says of its bytes and of the shelf.
use Rattle.std.proofs.Common.{◌≡◌, ◌≤◌, ◌++◌, ◌∷◌, ℕ, List, [], true, false, Option, Some, None, refl, sym, ◌∙◌, ap, subst, arith, inl, inr, append-nil}
use Rattle.std.specs.Prelude.{◌⊎◌, Ok, codes}
use Rattle.rail_io.specs.Faults.{Rose}
use Rattle.rail_io.specs.Told.{with_end}
use Rattle.session_loop.specs.Writes.{Writes}
use Rattle.catalogue_contents.specs.Contents.{CatalogueView}
use Rattle.rail_catalogue.specs.Format.{catalogue_of}
use Rattle.claim_rule.specs.Openings.{KeptBooking}
use Rattle.journal_text.specs.Folds.{FoldView}
use Rattle.host_words.specs.Recover.{IsRecover}
use Rattle.host_catalogue.specs.Files.{Files, HasCause, IsFileFault, IsText, IsTooLarge}
use Rattle.host_catalogue.specs.Journals.{HasNoJournal, HasNoRecovery, HasRecoverCause, IsFoldFor, IsJournalRefusal, IsNotFolded, IsNotRecovered}
use Rattle.host_catalogue.specs.Journals.{IsRecovered, IsRefusedSource, LacksRecovery}
use Rattle.host_catalogue.specs.Opening.{IsExportFor}
use Rattle.host_catalogue.specs.declared.file.File.TheVariants.{Catalogue, Journal}
use Rattle.host_catalogue.specs.declared.file.LoadFault.{LoadFault}
use Rattle.host_catalogue.specs.declared.file.LoadFault.TheVariants as load
use Rattle.host_catalogue.specs.declared.journal.JournalRefusal.{JournalRefusal}
use Rattle.host_catalogue.specs.declared.journal.JournalRefusal.TheVariants as refusal
use Rattle.host_catalogue.specs.declared.journal.RecoverFault.{RecoverFault}
use Rattle.host_catalogue.specs.declared.journal.RecoverFault.TheVariants as fault
use Rattle.host_catalogue.specs.Ends.{status_of_fault, status_of_refusal}
use Rattle.host_catalogue.proofs.Without.{fault_status, lacks, missed, never_loaded, never_text, same_text}
use Rattle.host_replay.specs.Recover.{HasEndCause, RanRecover, status_of_recover}
use Rattle.host_replay.specs.declared.recover_end.RecoverEnd.{RecoverEnd}
use Rattle.host_replay.specs.declared.recover_end.RecoverEnd.TheVariants as end
use Rattle.host_replay.proofs.Settling.{fault_few, fault_not_four, fault_not_zero}

-- the statuses that a refused journal may have
refusal_status : (e : JournalRefusal) → (status_of_refusal e ≡ 1) ⊎ (status_of_refusal e ≡ 5)
refusal_status (refusal.NoJournal fault) = inl refl
refusal_status refusal.OtherCatalogue = inl refl
refusal_status (refusal.Export fault) = inl refl
refusal_status refusal.NoMemory = inr refl

refusal_not_zero : (e : JournalRefusal) → status_of_refusal e ≡ 0 → ⊥
refusal_not_zero e zero = elim (refusal_status e) [ inl h ↦ omega (arith, h, zero) | inr h ↦ omega (arith, h, zero) ]

refusal_not_four : (e : JournalRefusal) → status_of_refusal e ≡ 4 → ⊥
refusal_not_four e four = elim (refusal_status e) [ inl h ↦ omega (arith, h, four) | inr h ↦ omega (arith, h, four) ]

refusal_few : (e : JournalRefusal) → status_of_refusal e ≤ 5
refusal_few e = elim (refusal_status e) [ inl h ↦ omega (arith, h) | inr h ↦ omega (arith, h) ]

pub few : (e : RecoverEnd) → status_of_recover e ≤ 5
few end.Written = omega (arith)
few (end.NotRecovered (fault.NotLoaded e)) = fault_few e
few (end.NotRecovered (fault.Refused e)) = refusal_few e
few end.WriteFault = omega (arith)

-- status 1: the text is refused
refused_text : (cat : CatalogueView) (text : List ℕ) (e : JournalRefusal) → status_of_refusal e ≡ 1 → IsNotFolded cat text e → IsJournalRefusal cat text e
refused_text cat text (refusal.NoJournal fault) one is = is
refused_text cat text refusal.OtherCatalogue one is = is
refused_text cat text (refusal.Export fault) one is = is
refused_text cat text refusal.NoMemory one is = absurd (omega (arith, one))

-- status 1: there is no file, or one that is too large
lacks_file : (told : List ℕ → Option (List ℕ)) (journal : List ℕ) (e : LoadFault) → status_of_fault e ≡ 1 → IsFileFault Journal (Some told) journal e
    → (told journal ≡ None) ⊎ IsTooLarge Journal told journal
lacks_file told journal (load.Missing f) one is = inl is.1
lacks_file told journal (load.TooLarge f) one is = inr is.1
lacks_file told journal (load.Refused fault) one is = absurd is
lacks_file told journal (load.RefusedExport fault) one is = absurd is
lacks_file told journal load.Failed one is = absurd (omega (arith, one))
lacks_file told journal load.NoMemory one is = absurd (omega (arith, one))

missed_journal : (files : Files) (journal : List ℕ) (e : LoadFault) (failed fails before after : ℕ) → status_of_fault e ≡ 1
    → IsFileFault Journal files journal e → HasCause e failed fails before after → Rose before after
missed_journal files journal (load.Missing f) failed fails before after one is cause = cause.1
missed_journal files journal (load.TooLarge f) failed fails before after one is cause = cause.1
missed_journal files journal (load.Refused fault) failed fails before after one is cause = absurd is
missed_journal files journal (load.RefusedExport fault) failed fails before after one is cause = absurd is
missed_journal files journal load.Failed failed fails before after one is cause = absurd (omega (arith, one))
missed_journal files journal load.NoMemory failed fails before after one is cause = absurd (omega (arith, one))

lacks_recovery : (files : Files) (name journal : List ℕ) (e : RecoverFault) → status_of_recover (end.NotRecovered e) ≡ 1
    → IsNotRecovered files name journal e → LacksRecovery files name journal
lacks_recovery files name journal (fault.NotLoaded e) one (inl none) = inl (lacks files name e one none)
lacks_recovery None name journal (fault.NotLoaded e) one (inr (cat, loads, none)) = inr (cat, loads, tt)
lacks_recovery (Some told) name journal (fault.NotLoaded e) one (inr (cat, loads, none)) =
    elim (lacks_file told journal e one none) [ inl gone ↦ inr (cat, loads, inl gone) | inr large ↦ inr (cat, loads, inr (inl large)) ]
lacks_recovery None name journal (fault.Refused e) one is = inr (is.cat, is.loads, tt)
lacks_recovery (Some told) name journal (fault.Refused e) one is =
    inr (is.cat, is.loads, inr (inr (is.source, is.given, e, refused_text is.cat is.source e one is.refused)))

missed_recovery : (files : Files) (name journal : List ℕ) (e : RecoverFault) (failed fails before after : ℕ) → status_of_recover (end.NotRecovered e) ≡ 1
    → IsNotRecovered files name journal e → HasRecoverCause e failed fails before after → Rose before after ⊎ IsRefusedSource files name journal
missed_recovery files name journal (fault.NotLoaded e) failed fails before after one (inl none) cause =
    elim (missed files name e failed fails before after one none cause) [ inl rose ↦ inl rose | inr text ↦ inr (inl text) ]
missed_recovery files name journal (fault.NotLoaded e) failed fails before after one (inr (cat, loads, none)) cause =
    inl (missed_journal files journal e failed fails before after one none cause)
missed_recovery files name journal (fault.Refused e) failed fails before after one is cause =
    inr (inr (record {
      cat = is.cat;
      loads = is.loads;
      source = is.source;
      given = is.given;
      refused = (e, refused_text is.cat is.source e one is.refused);
    }))

module _ (files : Files) (catalogue journal : List ℕ) (output sent : Option (List ℕ)) where
  module _ (text : List ℕ) (recovered : IsRecovered files catalogue journal text) where
    pub wrote : Writes output sent text true → RanRecover files catalogue journal output sent end.Written
    wrote w =
        let same : text ≡ w.written = w.is ∙ ap (λ (l : List ℕ). w.written ++ l) (w.whole refl) ∙ append-nil w.written in
        (text, recovered, w.told ∙ ap (with_end output) (sym same))

    pub broke : Writes output sent text false → RanRecover files catalogue journal output sent end.WriteFault
    broke w = (w.written, w.left, subst (λ (t : List ℕ). IsRecovered files catalogue journal t) w.is recovered, w.told)

  pub whole_export : (e : RecoverEnd) → RanRecover files catalogue journal output sent e → status_of_recover e ≡ 0
      → (text : List ℕ) × IsRecovered files catalogue journal text × (sent ≡ with_end output text)
  whole_export end.Written ends zero = ends
  whole_export (end.NotRecovered (fault.NotLoaded e)) ends zero = absurd (fault_not_zero e zero)
  whole_export (end.NotRecovered (fault.Refused e)) ends zero = absurd (refusal_not_zero e zero)
  whole_export end.WriteFault ends zero = absurd (omega (arith, zero))

  pub front_export : (e : RecoverEnd) → RanRecover files catalogue journal output sent e → status_of_recover e ≡ 4
      → (front back : List ℕ) × IsRecovered files catalogue journal (front ++ back) × (sent ≡ with_end output front)
  front_export end.Written ends four = absurd (omega (arith, four))
  front_export (end.NotRecovered (fault.NotLoaded e)) ends four = absurd (fault_not_four e four)
  front_export (end.NotRecovered (fault.Refused e)) ends four = absurd (refusal_not_four e four)
  front_export end.WriteFault ends four = ends

  pub without : (e : RecoverEnd) → RanRecover files catalogue journal output sent e → status_of_recover e ≡ 1 → LacksRecovery files catalogue journal
  without end.Written ends one = absurd (omega (arith, one))
  without (end.NotRecovered e) ends one = lacks_recovery files catalogue journal e one ends.0
  without end.WriteFault ends one = absurd (omega (arith, one))

  pub missed_source : (e : RecoverEnd) (failed fails before after : ℕ) → RanRecover files catalogue journal output sent e
      → HasEndCause e failed fails before after → status_of_recover e ≡ 1 → Rose before after ⊎ IsRefusedSource files catalogue journal
  missed_source end.Written failed fails before after ends cause one = absurd (omega (arith, one))
  missed_source (end.NotRecovered e) failed fails before after ends cause one =
      missed_recovery files catalogue journal e failed fails before after one ends.0 cause
  missed_source end.WriteFault failed fails before after ends cause one = absurd (omega (arith, one))

-- where the shelf tells that it has nothing to recover from
never_folded : (told : List ℕ → Option (List ℕ)) (cat : CatalogueView) (journal source : List ℕ) (view : FoldView) (kept : List KeptBooking)
    → HasNoJournal told cat journal → IsText Journal told journal source → IsFoldFor cat source view → IsExportFor cat view.export kept → ⊥
never_folded told cat journal source view kept (inl gone) given fold opens = never_text Journal told journal source (inl gone) given
never_folded told cat journal source view kept (inr (inl large)) given fold opens = never_text Journal told journal source (inr large) given
never_folded told cat journal source view kept (inr (inr (other, has, none))) given fold opens =
    let same : source ≡ other = same_text Journal told journal source other given has in
    none view kept (subst (λ (t : List ℕ). IsFoldFor cat t view) same fold) opens

never : (told : List ℕ → Option (List ℕ)) (name journal text : List ℕ) → HasNoRecovery told name journal → IsRecovered (Some told) name journal text → ⊥
never told name journal text (inl none) is = never_loaded told name is.cat none is.loads
never told name journal text (inr (other, (one, has, read), none)) is =
    let same : one ≡ is.loads.0 = same_text Catalogue told name one is.loads.0 has is.loads.1 in
    let cat : other ≡ is.cat = (let e : Ok other ≡ Ok is.cat = sym read ∙ ap catalogue_of same ∙ is.loads.2 in cc) in
    never_folded told is.cat journal is.source is.view is.kept
    (subst (λ (c : CatalogueView). HasNoJournal told c journal) cat none) is.given is.fold is.opens

module _ (told : List ℕ → Option (List ℕ)) (catalogue journal : List ℕ) (output sent : Option (List ℕ)) (none : HasNoRecovery told catalogue journal) where
  pub ends_without : (e : RecoverEnd) → RanRecover (Some told) catalogue journal output sent e
      → (status_of_recover e ≡ 1) ⊎ (status_of_recover e ≡ 3) ⊎ (status_of_recover e ≡ 5)
  ends_without end.Written (text, is, wrote) = absurd (never told catalogue journal text none is)
  ends_without (end.NotRecovered (fault.NotLoaded e)) ends = fault_status e
  ends_without (end.NotRecovered (fault.Refused e)) ends = elim (refusal_status e) [ inl one ↦ inl one | inr five ↦ inr (inr five) ]
  ends_without end.WriteFault (front, back, is, wrote) = absurd (never told catalogue journal (front ++ back) none is)

-- two readings of the same words
pub same_catalogue : (words : List (List ℕ)) (a b c d : List ℕ) → IsRecover words a b → IsRecover words c d → a ≡ c
same_catalogue words a b c d p q = (let e : codes "recover" ∷ a ∷ b ∷ [] ≡ codes "recover" ∷ c ∷ d ∷ [] = sym p ∙ q in cc)

pub same_journal : (words : List (List ℕ)) (a b c d : List ℕ) → IsRecover words a b → IsRecover words c d → b ≡ d
same_journal words a b c d p q = (let e : codes "recover" ∷ a ∷ b ∷ [] ≡ codes "recover" ∷ c ∷ d ∷ [] = sym p ∙ q in cc)
