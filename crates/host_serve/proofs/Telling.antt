-- What the export makes of the end, and what the notes took.
use Rattle.std.proofs.Common.{◌≡◌, ◌∙◌, ◌≤◌, ◌<◌, ⊎_elim, ℕ, true, false, List, [], ◌∷◌, ◌++◌, Option, Some, None, refl, sym, ap, subst, inl, inr, arith, append-nil}
use Rattle.std.specs.Prelude.{IfSome, IsSomeAnd}
use Rattle.std.proofs.lemmas.Bool.{cases_lt}
use Rattle.rail_io.specs.Faults.{Rose}
use Rattle.rail_io.specs.Told.{with_end}
use Rattle.claim_rule.specs.Walls.{WallView}
use Rattle.cold_store.specs.Exports.{IsClosed, text_on}
use Rattle.cold_store.specs.Tidy.{IsTidyWall}
use Rattle.claim_rule.specs.Openings.{layout_with}
use Rattle.history_model.specs.Booking.{Layout}
use Rattle.catalogue_contents.specs.Contents.{CatalogueView, legs_in}
use Rattle.host_catalogue.specs.Files.{Files}
use Rattle.host_catalogue.specs.declared.file.LoadFault.{LoadFault}
use Rattle.host_catalogue.specs.declared.file.LoadFault.TheVariants as load
use Rattle.host_catalogue.specs.Ends.{status_of_fault}
use Rattle.host_catalogue.specs.Noted.{IsNoted}
use Rattle.host_words.specs.Serve.{ServeView}
use Rattle.host_journal.specs.Ends.{status_of_serve}
use Rattle.host_journal.specs.Causes.{HasShelfCause}
use Rattle.host_serve.specs.Serve.{Ends, HasWall, IsExporting, IsPlain, IsServe, IsServedWall, Left, Runs}
use Rattle.host_serve.specs.Telling.{IsBefore, IsSilent, IsTold, Noting, Tells, WritesExport}
use Rattle.host_serve.proofs.Ending.{some_wall}
use Rattle.host_journal.specs.declared.end.ServeOutcome.{ServeOutcome}
use Rattle.host_journal.specs.declared.end.ServeOutcome.TheVariants as end

-- no fault of books has these statuses
pub never_zero : (fault : LoadFault) → status_of_fault fault ≡ 0 → ⊥
never_zero (load.Missing f) e = omega (arith, e)
never_zero (load.TooLarge f) e = omega (arith, e)
never_zero (load.Refused fault) e = omega (arith, e)
never_zero (load.RefusedExport fault) e = omega (arith, e)
never_zero load.Failed e = omega (arith, e)
never_zero load.NoMemory e = omega (arith, e)

pub never_four : (fault : LoadFault) → status_of_fault fault ≡ 4 → ⊥
never_four (load.Missing f) e = omega (arith, e)
never_four (load.TooLarge f) e = omega (arith, e)
never_four (load.Refused fault) e = omega (arith, e)
never_four (load.RefusedExport fault) e = omega (arith, e)
never_four load.Failed e = omega (arith, e)
never_four load.NoMemory e = omega (arith, e)

-- a run of words that say this
pub runs_so : (words : List (List ℕ)) (files : Files) (left : Left) (said : ServeView) (o : ServeOutcome) → IsServe words said → Ends files said left o
    → Runs words files left o
runs_so words files left said end.Refused is ends = absurd ends
runs_so words files left said end.NoMemory is ends = ends
runs_so words files left said (end.NotLoaded fault) is ends = (said, is, ends)
runs_so words files left said end.NotBound is ends = (said, is, ends)
runs_so words files left said end.AcceptFailed is ends = (said, is, ends)
runs_so words files left said end.Served is ends = (said, is, ends)
runs_so words files left said end.NoText is ends = (said, is, ends)
runs_so words files left said end.Unwritten is ends = (said, is, ends)

-- without the export nothing is written
pub tells_plain : (words : List (List ℕ)) (wall : Option WallView) (n : Noting) (o : ServeOutcome) → IsPlain words → IsSilent n → IsBefore o
    → Tells words wall n o
tells_plain words wall n end.Refused plain silent before = silent
tells_plain words wall n end.NoMemory plain silent before = silent
tells_plain words wall n (end.NotLoaded fault) plain silent before = silent
tells_plain words wall n end.NotBound plain silent before = silent
tells_plain words wall n end.AcceptFailed plain silent before = inl (plain, silent)
tells_plain words wall n end.Served plain silent before = inl (plain, silent)
tells_plain words wall n end.NoText plain silent before = absurd before
tells_plain words wall n end.Unwritten plain silent before = absurd before

-- the wall of an end is free for an export
of_wall : (P : WallView → Type 0) (files : Files) (said : ServeView) (left : Left) → HasWall files said left
    → ((cat : CatalogueView) (plan : Layout) (w : WallView) → IsServedWall cat plan said.numbers left w → P w) → IfSome left.wall P
of_wall P files said left has so = go left.wall has.closed
  where
    plan : Layout
    plan = layout_with (legs_in has.cat) has.cat.rows has.kept

    go : (wall : Option WallView) → IsSomeAnd wall (IsServedWall has.cat plan said.numbers left) → IfSome wall P
    go None is = tt
    go (Some w) is = so has.cat plan w is

none_so : (P : WallView → Type 0) (wall : Option WallView) → wall ≡ None → IfSome wall P
none_so P wall none = subst (λ (o : Option WallView). IfSome o P) (sym none) tt

wall_so : (P : WallView → Type 0) (files : Files) (said : ServeView) (left : Left) (o : ServeOutcome) → Ends files said left o
    → ((cat : CatalogueView) (plan : Layout) (w : WallView) → IsServedWall cat plan said.numbers left w → P w) → IfSome left.wall P
wall_so P files said left end.Refused ends so = absurd ends
wall_so P files said left end.NoMemory ends so = none_so P left.wall ends.0
wall_so P files said left (end.NotLoaded fault) ends so = none_so P left.wall ends.3
wall_so P files said left end.NotBound ends so = none_so P left.wall ends.2
wall_so P files said left end.AcceptFailed ends so = of_wall P files said left ends.1 so
wall_so P files said left end.Served ends so = of_wall P files said left ends.1 so
wall_so P files said left end.NoText ends so = of_wall P files said left ends.1 so
wall_so P files said left end.Unwritten ends so = of_wall P files said left ends.1 so

pub wall_closed : (files : Files) (said : ServeView) (left : Left) (o : ServeOutcome) → Ends files said left o → IfSome left.wall IsClosed
wall_closed files said left o ends = wall_so IsClosed files said left o ends (λ cat plan w is. is.closed)

pub wall_tidy : (files : Files) (said : ServeView) (left : Left) (o : ServeOutcome) → Ends files said left o → IfSome left.wall IsTidyWall
wall_tidy files said left o ends = wall_so IsTidyWall files said left o ends (λ cat plan w is. is.tidy)

-- the export was written, where there is a wall
module _ (words : List (List ℕ)) (files : Files) (said : ServeView) (n : Noting) (is : IsServe words said) (asks : said.export ≡ true)
    (failed fails missed misses : ℕ) where
  asked : IsExporting words
  asked = (said, is, asks)

  -- so it ends
  abbrev Over : Left → Option WallView → ServeOutcome → Type 0
  Over left wall o = Ends files said left o × Tells words wall n o × HasShelfCause o failed fails missed misses

  silent_end : (left : Left) (o : ServeOutcome) → left.wall ≡ None → Ends files said left o → IsBefore o → IsSilent n
      → HasShelfCause o failed fails missed misses → Over left None o
  silent_end left end.Refused none ends before silent cause = (ends, silent, cause)
  silent_end left end.NoMemory none ends before silent cause = (ends, silent, cause)
  silent_end left (end.NotLoaded fault) none ends before silent cause = (ends, silent, cause)
  silent_end left end.NotBound none ends before silent cause = (ends, silent, cause)
  silent_end left end.AcceptFailed none ends before silent cause = absurd (some_wall _ left.wall ends.1.closed none)
  silent_end left end.Served none ends before silent cause = absurd (some_wall _ left.wall ends.1.closed none)
  silent_end left end.NoText none ends before silent cause = absurd before
  silent_end left end.Unwritten none ends before silent cause = absurd before

  served : (left : Left) (w : WallView) (old new : ServeOutcome) → left.wall ≡ Some w → Ends files said left old → IsBefore old
      → HasShelfCause old failed fails missed misses → WritesExport (Some w) n old new → Over left (Some w) new
  served left w end.Refused new some ends before cause wrote = absurd ends
  served left w end.NoMemory new some ends before cause wrote = absurd (let no : None ≡ Some w = sym ends.0 ∙ some in cc)
  served left w (end.NotLoaded fault) new some ends before cause wrote = absurd (let no : None ≡ Some w = sym ends.3 ∙ some in cc)
  served left w end.NotBound new some ends before cause wrote = absurd (let no : None ≡ Some w = sym ends.2 ∙ some in cc)
  served left w end.Served new some ends before cause (inl (silent, same)) =
      subst (λ (o : ServeOutcome). Over left (Some w) o) (sym same) (ends, (asked, silent), cause)
  served left w end.Served new some ends before cause (inr (inl (whole, same))) =
      subst (λ (o : ServeOutcome). Over left (Some w) o) (sym same) (ends, inr (asked, whole), cause)
  served left w end.Served new some ends before cause (inr (inr (part, same))) =
      subst (λ (o : ServeOutcome). Over left (Some w) o) (sym same) (ends, (asked, part), cause)
  served left w end.AcceptFailed new some ends before cause (inl (silent, same)) =
      subst (λ (o : ServeOutcome). Over left (Some w) o) (sym same) (ends, inr (asked, inr (inr silent)), cause)
  served left w end.AcceptFailed new some ends before cause (inr (inl (whole, same))) =
      subst (λ (o : ServeOutcome). Over left (Some w) o) (sym same) (ends, inr (asked, inl whole), cause)
  served left w end.AcceptFailed new some ends before cause (inr (inr (part, same))) =
      subst (λ (o : ServeOutcome). Over left (Some w) o) (sym same) (ends, inr (asked, inr (inl part)), cause)
  served left w end.NoText new some ends before cause wrote = absurd before
  served left w end.Unwritten new some ends before cause wrote = absurd before

  pub exported : (left : Left) (old new : ServeOutcome) → Ends files said left old → IsBefore old
      → HasShelfCause old failed fails missed misses → WritesExport left.wall n old new → Over left left.wall new
  exported left old new ends before cause = go left.wall refl
    where
      go : (wall : Option WallView) → left.wall ≡ wall → WritesExport wall n old new → Over left wall new
      go None none wrote = subst (λ (o : ServeOutcome). Over left None o) (sym wrote.1) (silent_end left old none ends before wrote.0 cause)
      go (Some w) some wrote = served left w old new some ends before cause wrote

-- words say one thing
one_saying : (words : List (List ℕ)) → IsPlain words → IsExporting words → ⊥
one_saying words plain asked =
    let same : Some plain.0 ≡ Some asked.0 = sym plain.1.is ∙ asked.1.is in
    let flags : plain.0.export ≡ asked.0.export = (let e : plain.0 ≡ asked.0 = cc in ap (λ (v : ServeView). v.export) e) in
    let no : false ≡ true = sym plain.2 ∙ (flags ∙ asked.2) in
    absurd cc

-- a note that is nothing
no_note : (before after : Option (List ℕ)) (failed fails : ℕ) → IsNoted before after failed fails [] → after ≡ before
no_note before after failed fails note = go note.written note.is note.told
  where
    nothing : (o : Option (List ℕ)) → with_end o [] ≡ o
    nothing None = refl
    nothing (Some bs) = ap (λ (l : List ℕ). Some l) (append-nil bs)

    go : (written : List ℕ) → [] ≡ written ++ note.left → after ≡ with_end before written → after ≡ before
    go [] is told = told ∙ nothing before
    go (b ∷ bs) is told = absurd (let e = is in cc)

-- status 0: the notes took the export alone
pub told_whole : (words : List (List ℕ)) (wall : Option WallView) (n : Noting) (o : ServeOutcome) → IsTold words wall n o → status_of_serve o ≡ 0
    → IsExporting words → IsSomeAnd wall (λ w. n.after ≡ with_end n.before (text_on w))
told_whole words wall n end.Served told zero asked = go wall told.text told.note
  where
    go : (v : Option WallView) → Tells words v (record { before = n.before; failed = n.failed; after = told.between; fails = told.count }) end.Served
        → IsNoted told.between n.after told.count n.fails [] → IsSomeAnd v (λ w. n.after ≡ with_end n.before (text_on w))
    go v (inl plain) note = absurd (one_saying words plain.0 asked)
    go None (inr whole) note = absurd whole.1
    go (Some w) (inr whole) note = no_note told.between n.after told.count n.fails note ∙ whole.1.told
told_whole words wall n end.Refused told zero asked = absurd (omega (arith, zero))
told_whole words wall n end.NoMemory told zero asked = absurd (omega (arith, zero))
told_whole words wall n (end.NotLoaded fault) told zero asked = absurd (never_zero fault zero)
told_whole words wall n end.NotBound told zero asked = absurd (omega (arith, zero))
told_whole words wall n end.AcceptFailed told zero asked = absurd (omega (arith, zero))
told_whole words wall n end.NoText told zero asked = absurd (omega (arith, zero))
told_whole words wall n end.Unwritten told zero asked = absurd (omega (arith, zero))

-- a count that rose before a later one rose
pub rose_before : (old mid new : ℕ) → old ≤ mid → mid ≤ new → Rose old mid → Rose old new
rose_before old mid new low le (inl less) = inl (omega (arith, le, less))
rose_before old mid new low le (inr last) = ⊎_elim
    (λ (more : mid < new). inl (omega (arith, low, more)))
    (λ (same : new ≤ mid). let at : new ≡ mid = omega (arith, same, le) in inr (at ∙ last))
    (cases_lt mid new)

-- status 4: the notes failed in the export
pub told_part : (words : List (List ℕ)) (wall : Option WallView) (n : Noting) (o : ServeOutcome) → Tells words wall n o → status_of_serve o ≡ 4
    → IsExporting words × Rose n.failed n.fails × (n.failed ≤ n.fails)
told_part words wall n end.Unwritten told four = go wall told
  where
    go : (v : Option WallView) → Tells words v n end.Unwritten → IsExporting words × Rose n.failed n.fails × (n.failed ≤ n.fails)
    go None t = absurd t.1
    go (Some w) t = (t.0, t.1.rose, t.1.never_falls)
told_part words wall n end.Refused told four = absurd (omega (arith, four))
told_part words wall n end.NoMemory told four = absurd (omega (arith, four))
told_part words wall n (end.NotLoaded fault) told four = absurd (never_four fault four)
told_part words wall n end.NotBound told four = absurd (omega (arith, four))
told_part words wall n end.AcceptFailed told four = absurd (omega (arith, four))
told_part words wall n end.NoText told four = absurd (omega (arith, four))
told_part words wall n end.Served told four = absurd (omega (arith, four))
