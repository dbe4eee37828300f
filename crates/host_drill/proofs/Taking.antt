-- The first desk joins the desks of connections that are done.
use Rattle.std.proofs.Common.{◌≡◌, ◌≢◌, ◌∙◌, ◌+◌, ℕ, suc, List, [], ◌∷◌, ◌++◌, refl, sym, ap, subst, length, arith}
use Rattle.rail_io.specs.Memory.{sink_taken}
use Rattle.session_loop.specs.declared.end.ConnEnd.TheVariants.{Done}
use Rattle.history_model.specs.declared.entry.Step.TheVariants.{Met}
use Rattle.history_model.specs.declared.entry.Entry.{Entry}
use Rattle.history_model.specs.History.{own}
use Rattle.std.specs.List.{AllByRecursion}
use Rattle.claim_rule.specs.Rule.{BooksView, DeskView}
use Rattle.claim_rule.specs.Desks.{HasMet, IsNew, IsOf}
use Rattle.claim_rule.specs.Out.{IsIdle}
use Rattle.catalogue_contents.specs.Contents.{CatalogueView}
use Rattle.host_words.specs.declared.drill.DrillWords.{DrillWords}
use Rattle.host_drill.specs.Meeting.{AreAnswered, EachAt, IsFirst}
use Rattle.host_drill.specs.Totals.{times, refused_line, no_memory_line, busy_line}
use Rattle.host_drill.proofs.Meetings.{first_meets, one_more}
use Rattle.host_drill.proofs.Workers.{each_front}
use Rattle.host_drill.specs.declared.connection.Connection.{Connection}
use Rattle.host_drill.specs.Drilled.{IsDone, connection_of}

-- these connections are left, and those behind them are joined and counted
pub record IsTaking (books : BooksView) (cat : CatalogueView) (said : DrillWords) (desk : DeskView) (left : List Connection) (refused busy : ℕ) : Type 0 where
  pub of : IsOf books desk
  pub idle : IsIdle desk
  pub first : IsFirst desk said.workers (length left)
  pub done : EachAt (IsDone books cat said) left
  pub answered : AreAnswered (connection_of cat said) desk.seen said.workers (length left) refused busy

pub takes_none : (books : BooksView) (cat : CatalogueView) (said : DrillWords) (desk : DeskView) (left : List Connection) → IsOf books desk → IsIdle desk
    → IsFirst desk said.workers said.workers → length left ≡ said.workers → EachAt (IsDone books cat said) left → IsTaking books cat said desk left 0 0
takes_none books cat said desk left of idle first count done = record {
  of = of;
  idle = idle;
  first = subst (λ (n : ℕ). IsFirst desk said.workers n) (sym count) first;
  done = done;
  answered = record {
    answered = [];
    number = (let e : length left + 0 ≡ said.workers = omega (arith, count) in e);
    each = tt;
    refused_is = refl;
    busy_is = refl;
    no_memory = refl;
  };
}

more_long : (rest : List Connection) (connection : Connection) → length (rest ++ connection ∷ []) ≡ length rest + 1
more_long [] connection = refl
more_long (c ∷ rest) connection = (let e : suc (length (rest ++ connection ∷ [])) ≡ suc (length rest) + 1 = omega (arith, more_long rest connection) in e)

-- the last of those left is done
pub last_done : (books : BooksView) (cat : CatalogueView) (said : DrillWords) (left rest : List Connection) (connection : Connection)
    → EachAt (IsDone books cat said) left → left ≡ rest ++ connection ∷ [] → EachAt (IsDone books cat said) rest × IsDone books cat said (length rest) connection
last_done books cat said left rest connection done is =
    each_front (IsDone books cat said) rest connection (subst (λ (l : List Connection). EachAt (IsDone books cat said) l) is done)

pub not_first : (k n : ℕ) → n ≡ k + 1 → n ≢ 0
not_first k n is zero' = (let e : ⊥ = omega (arith, is, zero') in e)

-- its desk is joined
pub takes_one : (books : BooksView) (cat : CatalogueView) (said : DrillWords) (desk new : DeskView) (left rest : List Connection) (connection : Connection)
    (refused busy refused_now busy_now : ℕ) → IsTaking books cat said desk left refused busy → left ≡ rest ++ connection ∷ []
    → IsOf books new → IsIdle new → HasMet desk connection.desk new → connection.end ≡ Done
    → refused_now ≡ refused + times refused_line (sink_taken connection.sink) → busy_now ≡ busy + times busy_line (sink_taken connection.sink)
    → times no_memory_line (sink_taken connection.sink) ≡ 0 → IsTaking books cat said new rest refused_now busy_now
takes_one books cat said desk new left rest connection refused busy refused_now busy_now taking is of idle met done refused_is busy_is none =
    let both = last_done books cat said left rest connection taking.done is in
    let size : length left ≡ length rest + 1 = ap length is ∙ more_long rest connection in
    let first = subst (λ (n : ℕ). IsFirst desk said.workers n) size taking.first in
    let behind = subst (λ (n : ℕ). AreAnswered (connection_of cat said) desk.seen said.workers n refused busy) size taking.answered in
    let counted = one_more (connection_of cat said) desk connection.desk new said.workers (length rest) first both.1.number met
    refused busy (sink_taken connection.sink) behind (both.1.connection done) none in
    record {
      of = of;
      idle = idle;
      first = first_meets desk connection.desk new said.workers (length rest) first both.1.number met;
      done = both.0;
      answered = subst (λ (r : ℕ). AreAnswered (connection_of cat said) new.seen said.workers (length rest) r busy_now) (sym refused_is)
          (subst (λ (b : ℕ). AreAnswered (connection_of cat said) new.seen said.workers (length rest) (refused + times refused_line (sink_taken connection.sink)) b) (sym busy_is) counted);
    }

-- a new desk has parted none
pub first_new : (desk : DeskView) → IsNew desk 0 [] → IsFirst desk 0 0
first_new desk new = record {
  number = new.number;
  parted = new.parted;
  mets = subst (λ (es : List Entry). AllByRecursion (λ e. e.step ≡ Met) (own es 0)) (sym new.seen) tt;
  joined = λ j more few. absurd (let e : ⊥ = omega (arith, more, few) in e);
}
