-- What a status says.
use Rattle.std.proofs.Common.{◌≡◌, ◌⊎◌, ℕ, List, Option, Some, None, refl, sym, ◌∙◌, subst, inl, inr, arith}
use Rattle.std.specs.Prelude.{IsSomeAnd}
use Rattle.rail_io.specs.Faults.{Rose}
use Rattle.claim_rule.specs.Walls.{WallView}
use Rattle.claim_rule.specs.Openings.{KeptBooking}
use Rattle.catalogue_contents.specs.Contents.{CatalogueView}
use Rattle.host_catalogue.specs.Files.{Files}
use Rattle.host_catalogue.specs.Opening.{HasBooks, HasNoBooks}
use Rattle.host_catalogue.specs.declared.file.LoadFault.TheVariants as load
use Rattle.host_catalogue.proofs.Without.{lacks_books, missed_file, never_opened}
use Rattle.host_words.specs.Serve.{ServeView}
use Rattle.host_journal.specs.declared.end.ServeOutcome.{ServeOutcome}
use Rattle.host_journal.specs.declared.end.ServeOutcome.TheVariants as end
use Rattle.host_journal.specs.Ends.{status_of_serve}
use Rattle.host_journal.specs.Causes.{HasShelfCause}
use Rattle.host_serve.specs.Serve.{Left, Runs, IsNoServe, IsOfRefusedText, IsOnlyLimited, IsServe, IsWithoutBooks}

pub refused_by : (o : ServeOutcome) → status_of_serve o ≡ 2 → o ≡ end.Refused
refused_by end.Refused e = refl
refused_by end.NoMemory e = absurd (omega (arith, e))
refused_by (end.NotLoaded (load.Missing f)) e = absurd (omega (arith, e))
refused_by (end.NotLoaded (load.TooLarge f)) e = absurd (omega (arith, e))
refused_by (end.NotLoaded (load.Refused fault)) e = absurd (omega (arith, e))
refused_by (end.NotLoaded (load.RefusedExport fault)) e = absurd (omega (arith, e))
refused_by (end.NotLoaded load.Failed) e = absurd (omega (arith, e))
refused_by (end.NotLoaded load.NoMemory) e = absurd (omega (arith, e))
refused_by end.NotBound e = absurd (omega (arith, e))
refused_by end.AcceptFailed e = absurd (omega (arith, e))
refused_by end.Served e = absurd (omega (arith, e))
refused_by end.NoText e = absurd (omega (arith, e))
refused_by end.Unwritten e = absurd (omega (arith, e))

pub some_wall : (P : WallView → Type 0) (wall : Option WallView) → IsSomeAnd wall P → wall ≡ None → ⊥
some_wall P None is none = is
some_wall P (Some w) is none = absurd cc

module _ (words : List (List ℕ)) (files : Files) (left : Left) where
  pub no_words : (o : ServeOutcome) → Runs words files left o → status_of_serve o ≡ 2 → IsNoServe words
  no_words end.Refused r e = r.0
  no_words end.NoMemory r e = absurd (omega (arith, e))
  no_words (end.NotLoaded fault) r e = absurd (let f = refused_by (end.NotLoaded fault) e in cc)
  no_words end.NotBound r e = absurd (omega (arith, e))
  no_words end.AcceptFailed r e = absurd (omega (arith, e))
  no_words end.Served r e = absurd (omega (arith, e))
  no_words end.NoText r e = absurd (omega (arith, e))
  no_words end.Unwritten r e = absurd (omega (arith, e))

  pub refused_wall : (o : ServeOutcome) → Runs words files left o → status_of_serve o ≡ 2 → left.wall ≡ None
  refused_wall end.Refused r e = r.3
  refused_wall end.NoMemory r e = absurd (omega (arith, e))
  refused_wall (end.NotLoaded fault) r e = absurd (let f = refused_by (end.NotLoaded fault) e in cc)
  refused_wall end.NotBound r e = absurd (omega (arith, e))
  refused_wall end.AcceptFailed r e = absurd (omega (arith, e))
  refused_wall end.Served r e = absurd (omega (arith, e))
  refused_wall end.NoText r e = absurd (omega (arith, e))
  refused_wall end.Unwritten r e = absurd (omega (arith, e))

  pub when_refused : (o : ServeOutcome) → Runs words files left o → IsNoServe words → (status_of_serve o ≡ 2) ⊎ (status_of_serve o ≡ 5)
  when_refused end.Refused r none = inl refl
  when_refused end.NoMemory r none = inr refl
  when_refused (end.NotLoaded fault) r none = absurd (none r.0 r.1)
  when_refused end.NotBound r none = absurd (none r.0 r.1)
  when_refused end.AcceptFailed r none = absurd (none r.0 r.1)
  when_refused end.Served r none = absurd (none r.0 r.1)
  when_refused end.NoText r none = absurd (none r.0 r.1)
  when_refused end.Unwritten r none = absurd (none r.0 r.1)

  pub refused_runs : (o : ServeOutcome) → o ≡ end.Refused → IsNoServe words → left.after ≡ left.before → left.faults_after ≡ left.faults_before
      → left.wall ≡ None → Runs words files left o
  refused_runs o is unsaid same steady none = subst (λ (p : ServeOutcome). Runs words files left p) (sym is) (unsaid, same, steady, none)

  pub stays : (o : ServeOutcome) → Runs words files left o → (status_of_serve o ≡ 3 → ⊥) → left.faults_after ≡ left.faults_before
  stays end.Refused r other = r.2
  stays end.NoMemory r other = r.2
  stays (end.NotLoaded fault) r other = r.2.2
  stays end.NotBound r other = absurd (other refl)
  stays end.AcceptFailed r other = absurd (other refl)
  stays end.NoText r other = r.2.0.steady
  stays end.Served r other = r.2.0.steady
  stays end.Unwritten r other = r.2.0.steady

  pub wall_missing : (o : ServeOutcome) (failed fails missed misses : ℕ) → Runs words files left o → HasShelfCause o failed fails missed misses
      → status_of_serve o ≡ 3 → left.wall ≡ None → Rose failed fails ⊎ IsOnlyLimited words left.before left.after
  wall_missing end.Refused failed fails before after r cause e none = absurd (omega (arith, e))
  wall_missing end.NoMemory failed fails before after r cause e none = absurd (omega (arith, e))
  wall_missing (end.NotLoaded (load.Missing f)) failed fails before after r cause e none = absurd (omega (arith, e))
  wall_missing (end.NotLoaded (load.TooLarge f)) failed fails before after r cause e none = absurd (omega (arith, e))
  wall_missing (end.NotLoaded (load.Refused fault)) failed fails before after r cause e none = absurd (omega (arith, e))
  wall_missing (end.NotLoaded (load.RefusedExport fault)) failed fails before after r cause e none = absurd (omega (arith, e))
  wall_missing (end.NotLoaded load.Failed) failed fails before after r cause e none = inl cause
  wall_missing (end.NotLoaded load.NoMemory) failed fails before after r cause e none = absurd (omega (arith, e))
  wall_missing end.NotBound failed fails before after r cause e none = inr (record { said = r.0; words_are = r.1; only = r.2.1.only })
  wall_missing end.AcceptFailed failed fails before after r cause e none = absurd (some_wall _ left.wall r.2.1.closed none)
  wall_missing end.Served failed fails before after r cause e none = absurd (omega (arith, e))
  wall_missing end.NoText failed fails before after r cause e none = absurd (omega (arith, e))
  wall_missing end.Unwritten failed fails before after r cause e none = absurd (omega (arith, e))

  pub without : (o : ServeOutcome) → Runs words files left o → status_of_serve o ≡ 1 → IsWithoutBooks words files
  without (end.NotLoaded fault) r one = record { said = r.0; words_are = r.1; none = lacks_books files r.0.catalogue r.0.from fault one r.2.0 }
  without end.Refused r one = absurd (omega (arith, one))
  without end.NoMemory r one = absurd (omega (arith, one))
  without end.NotBound r one = absurd (omega (arith, one))
  without end.AcceptFailed r one = absurd (omega (arith, one))
  without end.Served r one = absurd (omega (arith, one))
  without end.NoText r one = absurd (omega (arith, one))
  without end.Unwritten r one = absurd (omega (arith, one))

  pub missed : (o : ServeOutcome) (failed fails before after : ℕ) → Runs words files left o → HasShelfCause o failed fails before after
      → status_of_serve o ≡ 1 → Rose before after ⊎ IsOfRefusedText words files
  missed (end.NotLoaded fault) failed fails before after r cause one =
      elim (missed_file files r.0.catalogue r.0.from fault failed fails before after one r.2.0 cause) [
        | inl rose ↦ inl rose
        | inr text ↦ inr (record { said = r.0; words_are = r.1; refused_text = text })
      ]
  missed end.Refused failed fails before after r cause one = absurd (omega (arith, one))
  missed end.NoMemory failed fails before after r cause one = absurd (omega (arith, one))
  missed end.NotBound failed fails before after r cause one = absurd (omega (arith, one))
  missed end.AcceptFailed failed fails before after r cause one = absurd (omega (arith, one))
  missed end.Served failed fails before after r cause one = absurd (omega (arith, one))
  missed end.NoText failed fails before after r cause one = absurd (omega (arith, one))
  missed end.Unwritten failed fails before after r cause one = absurd (omega (arith, one))

-- where the shelf tells that it has no books
module _ (words : List (List ℕ)) (told : List ℕ → Option (List ℕ)) (left : Left) (wanted : ServeView) (asked : IsServe words wanted)
    (none : HasNoBooks told wanted.catalogue wanted.from) where
  never : (said : ServeView) → IsServe words said → (cat : CatalogueView) (kept : List KeptBooking)
      → HasBooks (Some told) said.catalogue said.from cat kept → ⊥
  never said is cat kept books =
      let same : wanted ≡ said = (let e : Some wanted ≡ Some said = sym asked.is ∙ is.is in cc) in
      never_opened told said.catalogue said.from cat kept (subst (λ (v : ServeView). HasNoBooks told v.catalogue v.from) same none) books

  without_any : (o : ServeOutcome) (failed fails missed misses : ℕ) → Runs words (Some told) left o → HasShelfCause o failed fails missed misses
      → (status_of_serve o ≡ 2 → ⊥) → (status_of_serve o ≡ 1) ⊎ ((status_of_serve o ≡ 3) × Rose failed fails) ⊎ (status_of_serve o ≡ 5)
  without_any (end.NotLoaded (load.Missing f)) failed fails missed misses r cause two = inl refl
  without_any (end.NotLoaded (load.TooLarge f)) failed fails missed misses r cause two = inl refl
  without_any (end.NotLoaded (load.Refused fault)) failed fails missed misses r cause two = inl refl
  without_any (end.NotLoaded (load.RefusedExport fault)) failed fails missed misses r cause two = inl refl
  without_any (end.NotLoaded load.Failed) failed fails missed misses r cause two = inr (inl (refl, cause))
  without_any (end.NotLoaded load.NoMemory) failed fails missed misses r cause two = inr (inr refl)
  without_any end.Refused failed fails missed misses r cause two = absurd (two refl)
  without_any end.NoMemory failed fails missed misses r cause two = inr (inr refl)
  without_any end.NotBound failed fails missed misses r cause two = absurd (never r.0 r.1 r.2.0.cat r.2.0.kept r.2.0.books)
  without_any end.AcceptFailed failed fails missed misses r cause two = absurd (never r.0 r.1 r.2.1.cat r.2.1.kept r.2.1.books)
  without_any end.NoText failed fails missed misses r cause two = absurd (never r.0 r.1 r.2.1.cat r.2.1.kept r.2.1.books)
  without_any end.Served failed fails missed misses r cause two = absurd (never r.0 r.1 r.2.1.cat r.2.1.kept r.2.1.books)
  without_any end.Unwritten failed fails missed misses r cause two = absurd (never r.0 r.1 r.2.1.cat r.2.1.kept r.2.1.books)

  pub ends_without : (files : Files) → files ≡ Some told → (o : ServeOutcome) (failed fails missed misses : ℕ) → Runs words files left o
      → HasShelfCause o failed fails missed misses → (status_of_serve o ≡ 2 → ⊥)
      → (status_of_serve o ≡ 1) ⊎ ((status_of_serve o ≡ 3) × Rose failed fails) ⊎ (status_of_serve o ≡ 5)
  ends_without files is o failed fails missed misses r cause two =
      without_any o failed fails missed misses (subst (λ (f : Files). Runs words f left o) is r) cause two
