-- What a run of `serve` without a journal says of its devices.
use Rattle.std.proofs.Common.{◌≡◌, ◌≤◌, ◌⊎◌, ◌∙◌, ℕ, List, None, ap, arith, inl, inr, refl, subst, sym}
use Rattle.std.proofs.lemmas.Bool.{eqb-false}
use Rattle.std.specs.Prelude.{false}
use Rattle.std.proofs.Math.Dec.{eqb}
use Rattle.rail_io.specs.Faults.{Rose}
use Rattle.host_catalogue.specs.Files.{Files}
use Rattle.host_catalogue.specs.declared.file.LoadFault.TheVariants as load
use Rattle.host_journal.specs.Ends.{status_of_serve}
use Rattle.host_serve.specs.Kept.{EndsAlone}
use Rattle.host_journal.specs.Causes.{HasShelfCause}
use Rattle.host_serve.specs.Serve.{Left, Runs}
use Rattle.host_journal.specs.declared.end.ServeOutcome.{ServeOutcome}
use Rattle.host_journal.specs.declared.end.ServeOutcome.TheVariants as end
use Rattle.host_serve.specs.Telling.{IsTold}
use Rattle.host_serve.proofs.Ending.{ends_without, missed, no_words, refused_wall, some_wall, stays, wall_missing, when_refused, without}
use Rattle.host_serve.proofs.Telling.{rose_before, told_part, told_whole}
use Rattle.plain_commands.specs.Devices.{Devices, IsUntouched, ShelfFailed, files_of}
use Rattle.rail_host.specs.Commands.{EndsServe, noting, scene}

module _ (words : List (List ℕ)) (files : Files) (left : Left) where
  -- status 3: the listener failed, or the shelf
  failed_by : (o : ServeOutcome) (failed fails missed misses : ℕ) → Runs words files left o → HasShelfCause o failed fails missed misses
      → status_of_serve o ≡ 3 → Rose left.faults_before left.faults_after ⊎ Rose failed fails
  failed_by (end.NotLoaded (load.Missing f)) failed fails missed misses r cause three = absurd (eqb-false _ _ refl three)
  failed_by (end.NotLoaded (load.TooLarge f)) failed fails missed misses r cause three = absurd (eqb-false _ _ refl three)
  failed_by (end.NotLoaded (load.Refused fault)) failed fails missed misses r cause three = absurd (eqb-false _ _ refl three)
  failed_by (end.NotLoaded (load.RefusedExport fault)) failed fails missed misses r cause three = absurd (eqb-false _ _ refl three)
  failed_by (end.NotLoaded load.Failed) failed fails missed misses r cause three = inr cause
  failed_by (end.NotLoaded load.NoMemory) failed fails missed misses r cause three = absurd (eqb-false _ _ refl three)
  failed_by end.NotBound failed fails missed misses r cause three = inl r.2.1.rose
  failed_by end.AcceptFailed failed fails missed misses r cause three = inl r.2.0.rose
  failed_by end.Refused failed fails missed misses r cause three = absurd (eqb-false _ _ refl three)
  failed_by end.NoMemory failed fails missed misses r cause three = absurd (eqb-false _ _ refl three)
  failed_by end.Served failed fails missed misses r cause three = absurd (eqb-false _ _ refl three)
  failed_by end.NoText failed fails missed misses r cause three = absurd (eqb-false _ _ refl three)
  failed_by end.Unwritten failed fails missed misses r cause three = absurd (eqb-false _ _ refl three)

  -- status 0: there is a wall
  walled : (o : ServeOutcome) → Runs words files left o → status_of_serve o ≡ 0 → left.wall ≡ None → ⊥
  walled end.Served r zero none = some_wall _ left.wall r.2.1.closed none
  walled (end.NotLoaded (load.Missing f)) r zero none = eqb-false _ _ refl zero
  walled (end.NotLoaded (load.TooLarge f)) r zero none = eqb-false _ _ refl zero
  walled (end.NotLoaded (load.Refused fault)) r zero none = eqb-false _ _ refl zero
  walled (end.NotLoaded (load.RefusedExport fault)) r zero none = eqb-false _ _ refl zero
  walled (end.NotLoaded load.Failed) r zero none = eqb-false _ _ refl zero
  walled (end.NotLoaded load.NoMemory) r zero none = eqb-false _ _ refl zero
  walled end.NotBound r zero none = eqb-false _ _ refl zero
  walled end.AcceptFailed r zero none = eqb-false _ _ refl zero
  walled end.Refused r zero none = eqb-false _ _ refl zero
  walled end.NoMemory r zero none = eqb-false _ _ refl zero
  walled end.NoText r zero none = eqb-false _ _ refl zero
  walled end.Unwritten r zero none = eqb-false _ _ refl zero

-- at any other status the shelf didn't fail
unfailed : (o : ServeOutcome) (failed fails missed misses : ℕ) → HasShelfCause o failed fails missed misses
    → (status_of_serve o ≡ 3 → ⊥) → fails ≡ failed
unfailed (end.NotLoaded (load.Missing f)) failed fails missed misses cause other = cause.0
unfailed (end.NotLoaded (load.TooLarge f)) failed fails missed misses cause other = cause.0
unfailed (end.NotLoaded (load.Refused fault)) failed fails missed misses cause other = cause
unfailed (end.NotLoaded (load.RefusedExport fault)) failed fails missed misses cause other = cause
unfailed (end.NotLoaded load.Failed) failed fails missed misses cause other = absurd (other refl)
unfailed (end.NotLoaded load.NoMemory) failed fails missed misses cause other = cause
unfailed end.NotBound failed fails missed misses cause other = cause
unfailed end.AcceptFailed failed fails missed misses cause other = cause
unfailed end.Refused failed fails missed misses cause other = cause
unfailed end.NoMemory failed fails missed misses cause other = cause
unfailed end.Served failed fails missed misses cause other = cause
unfailed end.NoText failed fails missed misses cause other = cause
unfailed end.Unwritten failed fails missed misses cause other = cause

module _ {F S K E : Type 0} (words : List (List ℕ)) (left : Left) (status : ℕ) (d : Devices F S K E) (e : EndsAlone (scene words left d) status) where
  at : (n : ℕ) → status ≡ n → status_of_serve e.outcome ≡ n
  at n is = sym e.is ∙ is

  -- so the command ran without a journal
  pub alone : left.faults_before ≤ left.faults_after → d.shelf.told d.shelf.new ≡ d.shelf.told d.shelf.old → (status ≡ 2 → IsUntouched d)
      → d.input.new ≡ d.input.old → d.output.new ≡ d.output.old → EndsServe words left status d
  alone never same untouched unread unwritten =
      let files = files_of d.shelf in
      record {
        outcome = e.outcome;
        is = e.is;
        ran = e.runs;
        told = e.told;
        exported = λ zero asked. told_whole words left.wall (noting d.notes) e.outcome e.told (at 0 zero) asked;
        write_cause = λ four. let part = told_part words left.wall _ e.outcome e.told.text (at 4 four) in
            (part.0, rose_before _ _ _ part.2 e.later part.1);
        cause = e.cause;
        from = record {
          without = λ one. without words files left e.outcome e.runs (at 1 one);
          no_books = λ told is said asked none.
              subst (λ (n : ℕ). (n ≡ 1) ⊎ ((n ≡ 3) × ShelfFailed d.shelf) ⊎ (n ≡ 5)) (sym e.is)
              (ends_without words told left said asked none files is e.outcome _ _ _ _ e.runs e.cause
              (λ two. no_words words files left e.outcome e.runs two said asked));
          missed = λ one. missed words files left e.outcome _ _ _ _ e.runs e.cause (at 1 one);
          read_cause = λ three. failed_by words files left e.outcome _ _ _ _ e.runs e.cause (at 3 three);
          shelf_steady = λ other. unfailed e.outcome _ _ _ _ e.cause (λ three. other (e.is ∙ three));
          steady = λ other. stays words files left e.outcome e.runs (λ three. other (e.is ∙ three));
          never_falls = never;
          wall = λ zero none. walled words files left e.outcome e.runs (at 0 zero) none;
          no_wall = λ three none. wall_missing words files left e.outcome _ _ _ _ e.runs e.cause (at 3 three) none;
          same = same;
        };
        refused = λ two. (
          no_words words files left e.outcome e.runs (at 2 two),
          untouched two,
          refused_wall words files left e.outcome e.runs (at 2 two),
        );
        refused_words = λ none. subst (λ (n : ℕ). (n ≡ 2) ⊎ (n ≡ 5)) (sym e.is) (when_refused words files left e.outcome e.runs none);
        unread = unread;
        unwritten = unwritten;
      }

module _ {F S K E : Type 0} (words : List (List ℕ)) (left : Left) (status : ℕ) (d : Devices F S K E) (five : status ≡ 5) where
  is_not : (n : ℕ) → eqb 5 n ≡ false → status ≡ n → ⊥
  is_not n other is = eqb-false 5 n other (sym five ∙ is)

  -- and so it ended where there was no memory to begin with
  pub unclocked : left.wall ≡ None → left.after.handed ≡ 0 → left.faults_after ≡ left.faults_before
      → IsTold words left.wall (noting d.notes) end.NoMemory → d.shelf.new ≡ d.shelf.old → d.input.new ≡ d.input.old
      → d.output.new ≡ d.output.old → EndsServe words left status d
  unclocked no_wall handed steady told unfetched unread unwritten = record {
    outcome = end.NoMemory;
    is = five;
    ran = (no_wall, handed, steady);
    told = told;
    exported = λ zero asked. absurd (is_not 0 refl zero);
    write_cause = λ four. absurd (is_not 4 refl four);
    cause = ap d.shelf.faults unfetched;
    from = record {
      without = λ one. absurd (is_not 1 refl one);
      no_books = λ files told said is none. inr (inr five);
      missed = λ one. absurd (is_not 1 refl one);
      read_cause = λ three. absurd (is_not 3 refl three);
      shelf_steady = λ other. ap d.shelf.faults unfetched;
      steady = λ other. steady;
      never_falls = subst (λ (n : ℕ). left.faults_before ≤ n) (sym steady) (omega arith);
      wall = λ zero none. absurd (is_not 0 refl zero);
      no_wall = λ three none. absurd (is_not 3 refl three);
      same = ap d.shelf.told unfetched;
    };
    refused = λ two. absurd (is_not 2 refl two);
    refused_words = λ none. inr five;
    unread = unread;
    unwritten = unwritten;
  }
