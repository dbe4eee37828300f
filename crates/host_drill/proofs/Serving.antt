-- A connection that was ready, and was served.
use Rattle.std.proofs.Common.{◌≡◌, ◌∙◌, inl, inr, ◌+◌, ◌<◌, ℕ, List, [], ◌++◌, Option, Some, None, sym, ap, subst, slice_index_or, length, take, drop, arith, append-nil}
use Rattle.std.proofs.lemmas.List.{drop_all, take_all}
use Rattle.rail_io.specs.Clocks.{script_reading}
use Rattle.rail_io.specs.Memory.{source_left, sink_taken}
use Rattle.session_loop.specs.declared.end.ConnEnd.{ConnEnd}
use Rattle.session_loop.specs.declared.end.ConnEnd.TheVariants.{Done}
use Rattle.history_model.specs.History.{own}
use Rattle.claim_rule.specs.Rule.{BooksView, DeskView}
use Rattle.claim_rule.specs.Desks.{IsOf}
use Rattle.claim_rule.specs.Out.{IsIdle}
use Rattle.catalogue_contents.specs.Contents.{CatalogueView}
use Rattle.rail_service.specs.Connections.{ServiceView, HasServed, IsServed}
use Rattle.host_words.specs.declared.drill.DrillWords.{DrillWords}
use Rattle.host_drill.specs.Generator.{requests_of}
use Rattle.host_drill.specs.Meeting.{EachAt, EachPair, IsFirst}
use Rattle.host_drill.specs.declared.connection.Connection.{Connection}
use Rattle.host_drill.specs.Connections.{IsReady, Serves, beginning, layout_of}
use Rattle.host_drill.specs.Drilled.{IsDone}

-- a connection at a desk that was just parted is ready
pub ready_new : (books : BooksView) (seed size worker : ℕ) (old new : DeskView) (c : Connection) → IsFirst old worker worker → IsOf books c.desk → IsIdle c.desk
    → new.parted ≡ old.parted + 1 → c.desk.number ≡ new.parted → own c.desk.seen new.parted ≡ [] → c.desk.joined ≡ [] → source_left c.source ≡ requests_of seed size worker
    → sink_taken c.sink ≡ [] → (c.clock.next ≡ 0) × (c.clock.tick ≡ 0) → IsReady books seed size worker c
ready_new books seed size worker old new c first of idle made number none taken requests fresh clock =
    let count : new.parted ≡ worker + 1 = made ∙ ap (λ (n : ℕ). n + 1) first.parted in
    record {
      of = of;
      idle = idle;
      number = number ∙ count;
      none = subst (λ (n : ℕ). own c.desk.seen n ≡ []) count none;
      joined = taken;
      requests = requests;
      fresh = fresh;
      first = clock.0;
      tick = clock.1;
    }

-- the desk stays the same one
same_desk : (cat : CatalogueView) (before after : ServiceView) (taken : List ℕ) (told : Option (List ℕ)) (written : List ℕ) (end : ConnEnd)
    → HasServed cat before after taken told written end → (after.desk.number ≡ before.desk.number) × (after.desk.joined ≡ before.desk.joined)
same_desk cat before after taken told written end (inl none) =
    (ap (λ (v : ServiceView). v.desk.number) none.1.same, ap (λ (v : ServiceView). v.desk.joined) none.1.same)
same_desk cat before after taken told written end (inr served) = (served.shape.same.2, served.shape.same.3)

abbrev is_done : ConnEnd → Type 0
is_done Done = Unit {0}
is_done _ = ⊥

-- at the end Done it was served
was_served : (cat : CatalogueView) (before after : ServiceView) (taken : List ℕ) (told : Option (List ℕ)) (written : List ℕ) (end : ConnEnd)
    → HasServed cat before after taken told written end → end ≡ Done → IsServed cat before after taken told written Done
was_served cat before after taken told written end (inl none) done = absurd (subst is_done (sym done ∙ none.0) tt)
was_served cat before after taken told written end (inr served) done = subst (λ (e : ConnEnd). IsServed cat before after taken told written e) done served

-- a connection that was ready and was served is done
pub done_served : (books : BooksView) (cat : CatalogueView) (said : DrillWords) (worker : ℕ) (old new : Connection)
    → books.layout ≡ layout_of cat → IsReady books said.seed said.size worker old → IsOf books new.desk → IsIdle new.desk → Serves cat old new
    → IsDone books cat said worker new
done_served books cat said worker old new layout ready of idle served = record {
  of = of;
  idle = idle;
  number = desk.0 ∙ ready.number;
  joined = desk.1 ∙ ready.joined;
  connection = λ done. record {
    begins = old.desk;
    first = served.2;
    clock = Some (script_reading new.clock.next new.clock.tick);
    number = ready.number;
    none = ready.none;
    layout = of.layout ∙ layout;
    taken = served.0;
    left = source_left new.source;
    requests = sym ready.requests ∙ served.3;
    served = subst (λ (w : List ℕ). IsServed cat (beginning old.desk) after served.0 told w Done) answered
        (subst (λ (tick : ℕ). IsServed cat (record { desk = old.desk; first = None; clock = Some (script_reading 0 tick) }) after served.0 told served.1 Done) ready.tick
        (subst (λ (next : ℕ). IsServed cat (record { desk = old.desk; first = None; clock = Some (script_reading next old.clock.tick) }) after served.0 told served.1 Done) ready.first
        (was_served cat before after served.0 told served.1 new.end served.5 done)));
  };
}
  where
    before : ServiceView
    before = record { desk = old.desk; first = None; clock = Some (script_reading old.clock.next old.clock.tick) }

    after : ServiceView
    after = record { desk = new.desk; first = served.2; clock = Some (script_reading new.clock.next new.clock.tick) }

    told : Option (List ℕ)
    told = Some (source_left new.source)

    desk : (new.desk.number ≡ old.desk.number) × (new.desk.joined ≡ old.desk.joined)
    desk = same_desk cat before after served.0 told served.1 new.end served.5

    answered : served.1 ≡ sink_taken new.sink
    answered = sym (served.4 ∙ ap (λ (l : List ℕ). l ++ served.1) ready.fresh)

-- so of all connections
pub all_done : (books : BooksView) (cat : CatalogueView) (said : DrillWords) (old new : List Connection) → books.layout ≡ layout_of cat
    → length new ≡ length old → EachAt (IsReady books said.seed said.size) old → EachPair (λ _ c. IsOf books c.desk) old new → EachPair (λ _ c. IsIdle c.desk) old new
    → EachPair (Serves cat) old new → EachAt (IsDone books cat said) new
all_done books cat said old new layout same ready of idle served i none less =
    let within : i < length old = subst (λ (n : ℕ). i < n) same less in
    done_served books cat said i (slice_index_or old i none) (slice_index_or new i none) layout (ready i none within) (of i none within) (idle i none within) (served i none within)

-- a list that is written over another of its length stands alone
pub all_written : {A : Type 0} (n : ℕ) (old new : List A) → length new ≡ n → length new ≡ length old → take n (new ++ drop (length new) old) ≡ new
all_written n old new len same =
    let none : drop (length new) old ≡ [] = drop_all (length new) old (omega (arith, same)) in
    ap (λ l. take n (new ++ l)) none ∙ (ap (take n) (append-nil new) ∙ take_all n new (omega (arith, len)))
