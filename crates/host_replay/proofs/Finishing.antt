-- The first desk of opened books, and the export of what it leaves.
use Rattle.std.proofs.Common.{◌≡◌, ◌⊎◌, inl, inr, ℕ, zero, suc, ◌+◌, ◌<◌, ◌≤◌, true, false, List, [], ◌∷◌, ◌++◌, length, Option, Some, None, refl, sym, ap, ◌∙◌, subst, arith, append_assoc, length-append}
use Rattle.std.specs.Prelude.{slice_index}
use Rattle.std.specs.List.{AllByRecursion}
use Rattle.std.proofs.lemmas.List.{get_or-append-add, get_or_append_left}
use Rattle.memchr.specs.Find.{FindsNeedle, OccursAt}
use Rattle.rail_io.specs.Told.{with_end}
use Rattle.session_loop.specs.declared.end.ConnEnd.{ConnEnd}
use Rattle.session_loop.specs.declared.end.ConnEnd.TheVariants as conn
use Rattle.history_model.specs.declared.phase.Phase.{Phase}
use Rattle.history_model.specs.declared.phase.Phase.TheVariants.{Making, Ending}
use Rattle.history_model.specs.declared.phase.EndKind.{EndKind}
use Rattle.history_model.specs.declared.entry.Entry.{Entry}
use Rattle.history_model.specs.Phase.{is_sealed}
use Rattle.history_model.specs.Laws.{is_owners}
use Rattle.history_model.specs.Booking.{Booking, Layout, State, most_rows}
use Rattle.history_model.specs.History.{own, state_of}
use Rattle.history_model.proofs.ListLemmas.{All-append, All-map}
use Rattle.claim_rule.specs.Openings.{KeptBooking}
use Rattle.claim_rule.specs.Out.{AreSettled, IsIdle, IsTidy}
use Rattle.claim_rule.specs.Rule.{BooksView, DeskView, IsWhole, state_seen}
use Rattle.claim_rule.specs.Desks.{IsOf}
use Rattle.claim_rule.specs.Walls.{Finishes, WallView}
use Rattle.cold_store.specs.Tidy.{AreSucceeded, IsTidyWall}
use Rattle.lone_desk.specs.Lone.{IsAlone}
use Rattle.plain_host.specs.Settled.{IsEmptyRow, IsSettled, IsStanding}
use Rattle.plain_host.proofs.OwnWork.{alone_is_lone, alone_settles}
use Rattle.catalogue_contents.specs.Contents.{CatalogueView}
use Rattle.rail_service.specs.Connections.{ServiceView, HasServed, IsServed}
use Rattle.host_catalogue.specs.Opening.{IsOpened}
use Rattle.host_words.specs.Replay.{ReplayView}
use Rattle.host_replay.specs.Input.{IsFirstDesk, opening}
use Rattle.host_replay.specs.Export.{HasNoText, IsExportOf, StandsIn, export_in, export_with, no_memory_line}

alone_at_first : (cat : CatalogueView) (kept : List KeptBooking) (books : BooksView) (desk : DeskView) → IsOpened cat kept books desk → IsAlone desk
alone_at_first cat kept books desk is = record { number = is.new.number; parted = is.new.parted }

pub first_desk : (cat : CatalogueView) (kept : List KeptBooking) (books : BooksView) (desk : DeskView) → IsOpened cat kept books desk → IsFirstDesk cat kept desk
first_desk cat kept books desk is = record {
  lone = alone_is_lone cat books desk is.own (alone_at_first cat kept books desk is) is.tidy.0
      (ap (λ (g : Layout). g.rows) is.layout) (ap (λ (g : Layout). g.legs) is.layout) is.fit;
  layout = is.own.layout ∙ is.layout;
  may = is.may;
  new = is.new;
}

-- a needle that is found nowhere stands nowhere
pub lacking : (hay needle : List ℕ) → FindsNeedle hay needle 0 None → StandsIn needle hay → ⊥
lacking hay needle nowhere (front, back, is) =
    let long : length hay ≡ length front + (length needle + length back) =
    ap (λ (l : List ℕ). length l) is ∙ (length-append front (needle ++ back) ∙ ap (λ (n : ℕ). length front + n) (length-append needle back)) in
    nowhere (length front) (omega arith) (omega (arith, long)) (record {
      fits = omega (arith, long);
      reads = λ j below.
          ap (λ (l : List ℕ). slice_index l (length front + j)) is
          ∙ (get_or-append-add front (needle ++ back) j 0 ∙ get_or_append_left needle back 0 j below);
    })

-- a settled state holds nothing up
none_ends : (b : Booking) → IsStanding b → (kind : EndKind) → b.phase ≡ Ending kind → ⊥
none_ends b is kind ending = let bad : true ≡ false = sym (ap is_owners ending) ∙ is.still in cc

none_makes : (b : Booking) → IsStanding b → b.phase ≡ Making → b.items ≡ []
none_makes b is making = absurd (let bad : false ≡ true = sym (ap is_sealed making) ∙ is.sealed in cc)

over_settled : (P : Booking → Type 0) → ((b : Booking) → IsStanding b → P b) → ((b : Booking) → IsEmptyRow b → P b) → (s : State) → IsSettled s → AllByRecursion P s
over_settled P stands empty s is = elim is.is [
  | inl same ↦ subst (AllByRecursion P) (sym same) (All-map {Q = P} stands is.standing is.each)
  | inr more ↦ subst (AllByRecursion P) (sym more.2) (All-append P is.standing (more.0 ∷ []) (All-map {Q = P} stands is.standing is.each) (empty more.0 more.1, tt))
]

empty_ends : (b : Booking) → IsEmptyRow b → (kind : EndKind) → b.phase ≡ Ending kind → ⊥
empty_ends b is kind ending = let bad : Making ≡ Ending kind = sym is.making ∙ ending in cc

module _ (books : BooksView) (desk : DeskView) (w : WallView) (of : IsOf books desk) (alone : IsAlone desk) (tidy : IsTidy desk) (same : w.layout ≡ books.layout)
    (ends : Finishes books.layout desk w.words w.history) where
  whole : IsWhole desk.number desk.parted desk.joined
  whole = (alone.number, λ j some few. absurd (let none : desk.parted ≡ 0 = alone.parted in omega (arith, some, few, none)))

  seen : w.history ≡ desk.seen
  seen = ends.whole whole

  settled_state : IsSettled (state_of w.layout w.history)
  settled_state = subst (λ (g : Layout). IsSettled (state_of g w.history)) (of.layout ∙ sym same)
      (subst (λ (h : List Entry). IsSettled (state_of desk.layout h)) (sym seen) (alone_settles books desk of alone tidy.0))

  others : (k : ℕ) → AreSettled (own w.history k)
  others zero = subst (λ (h : List Entry). AreSettled (own h 0)) (sym seen) (subst (λ (n : ℕ). AreSettled (own desk.seen n)) alone.number tidy.1)
  others (suc k) = subst AreSettled (sym (ends.no_others alone.number (suc k) (let none : desk.parted ≡ 0 = alone.parted in omega (arith, none)))) tt

  pub tidy_wall : AreSucceeded books.layout.opening → books.layout.rows ≤ most_rows → IsTidyWall w
  tidy_wall succeeded few = record {
    none_ending = over_settled (λ b. (kind : EndKind) → b.phase ≡ Ending kind → ⊥) none_ends empty_ends _ settled_state;
    empty = over_settled (λ b. b.phase ≡ Making → b.items ≡ []) none_makes (λ b is making. is.none) _ settled_state;
    settled = others;
    succeeded = subst (λ (g : Layout). AreSucceeded g.opening) (sym same) succeeded;
    rows = subst (λ (g : Layout). g.rows ≤ most_rows) (sym same) few;
  }

-- a connection that ended with its last answer was served
pub was_served : {cat : CatalogueView} {before after : ServiceView} {taken : List ℕ} {left : Option (List ℕ)} {written : List ℕ} (e : ConnEnd) → e ≡ conn.Done
    → HasServed cat before after taken left written e → IsServed cat before after taken left written conn.Done
was_served {cat} {before} {after} {taken} {left} {written} e done (inl none) = absurd (let bad : conn.Done ≡ conn.NoMemory = sym done ∙ none.0 in cc)
was_served {cat} {before} {after} {taken} {left} {written} e done (inr served) = subst (λ (x : ConnEnd). IsServed cat before after taken left written x) done served

-- the desk after it is alone, where it was before
still_alone : (cat : CatalogueView) (before after : ServiceView) (taken : List ℕ) (left : Option (List ℕ)) (written : List ℕ) (e : _)
    → IsServed cat before after taken left written e → IsAlone before.desk → IsAlone after.desk
still_alone cat before after taken left written e served alone = record {
  number = served.shape.same.2 ∙ alone.number;
  parted = served.shape.same.4 ∙ alone.parted;
}

module _ (cat : CatalogueView) (kept : List KeptBooking) (books : BooksView) (first : DeskView) (is : IsOpened cat kept books first) (said : ReplayView) (after : ServiceView)
    (taken : List ℕ) (left : Option (List ℕ)) (written : List ℕ) (served : IsServed cat (opening first said) after taken left written conn.Done) where
  pub alone_after : IsAlone after.desk
  alone_after = still_alone cat (opening first said) after taken left written conn.Done served (alone_at_first cat kept books first is)

  pub export_made : IsOf books after.desk → IsIdle after.desk → (StandsIn no_memory_line written → ⊥) → (text : List ℕ) → text ≡ export_with books.layout (state_seen after.desk)
      → IsExportOf cat first said taken left text
  export_made of idle spared text text_is = record {
    answers = written;
    after = after;
    served = served;
    spared = spared;
    settled = alone_settles books after.desk of alone_after idle;
    is = text_is ∙ ap (λ (g : Layout). export_with g (state_seen after.desk)) is.layout;
  }

-- a connection that ended otherwise, with no answer for want of memory, leaves no text
pub none_made : (cat : CatalogueView) (first : DeskView) (said : ReplayView) (after : ServiceView) (taken : List ℕ) (left : Option (List ℕ)) (answers : List ℕ) (e : ConnEnd)
    → (e ≡ conn.Done → ⊥) → (e ≡ conn.WriteFault → ⊥) → (StandsIn no_memory_line answers → ⊥) → HasServed cat (opening first said) after taken left answers e
    → HasNoText cat first said taken left e
none_made cat first said after taken left answers e done write spared (inl none) = subst (λ (x : ConnEnd). HasNoText cat first said taken left x) (sym none.0) tt
none_made cat first said after taken left answers conn.Done done write spared (inr served) = absurd (done refl)
none_made cat first said after taken left answers conn.WriteFault done write spared (inr served) = absurd (write refl)
none_made cat first said after taken left answers conn.NoMemory done write spared (inr served) = tt
none_made cat first said after taken left answers e done write spared (inr served) = record { answers = answers; after = after; served = served; spared = spared }
