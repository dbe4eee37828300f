-- The wall of books that are closed as they opened.
use Rattle.std.proofs.Common.{◌≡◌, ◌∙◌, ℕ, ◌≤◌, List, [], arith, sym, ap, subst, false}
use Rattle.std.proofs.lemmas.Bool.{false≢true}
use Rattle.std.specs.List.{AllByRecursion}
use Rattle.history_model.specs.declared.entry.Entry.{Entry}
use Rattle.history_model.specs.declared.phase.Phase.TheVariants.{Ending}
use Rattle.history_model.specs.Booking.{Booking, Layout, State, most_rows, present, stands_in}
use Rattle.history_model.specs.History.{IsLegal, state_of}
use Rattle.history_model.specs.Laws.{is_owners}
use Rattle.history_model.specs.Words.{AreWordsOf}
use Rattle.history_model.proofs.Keeping.{found}
use Rattle.history_model.proofs.ListLemmas.{All-found}
use Rattle.claim_rule.specs.Rule.{DeskView}
use Rattle.claim_rule.specs.Desks.{IsNew}
use Rattle.claim_rule.specs.Walls.{Finishes, WallView}
use Rattle.settle_report.specs.Accounts.{IsSettled, NoneEnding, state_on}

none_ending : (s : State) (rows : ℕ) → AllByRecursion (λ b. is_owners b.phase ≡ false) s → NoneEnding s rows
none_ending s rows settled row kind within ending =
    let b = found (present s row) (λ b. b.phase ≡ Ending kind) ending in
    let mine = All-found (λ (b : Booking). is_owners b.phase ≡ false) (stands_in s row) s b.0 b.1 settled in
    false≢true (sym mine ∙ ap is_owners b.2)

-- where the history is empty, no booking is ending
pub opened : (w : WallView) → IsLegal w.layout w.history → AreWordsOf w.layout (state_on w) w.words → w.layout.rows ≤ most_rows → w.history ≡ []
    → IsSettled w
opened w legal words rows empty =
    record {
      legal = legal;
      words = words;
      rows = rows;
      none_ending = subst (λ (h : List Entry). NoneEnding (state_of w.layout h) w.layout.rows) (sym empty) (none_ending w.layout.opening w.layout.rows legal.0.settled);
    }

-- so it is where the only desk of the books closes them, and has seen nothing
pub finished : (w : WallView) (layout : Layout) (desk : DeskView) → w.layout ≡ layout → Finishes layout desk w.words w.history
    → IsNew desk 0 [] → layout.rows ≤ most_rows → IsSettled w
finished w layout desk same ends fresh rows =
    let none = fresh.parted in
    let empty : w.history ≡ [] =
    ends.whole (fresh.number, λ j some few. absurd (omega (arith, some, few, none))) ∙ fresh.seen in
    opened w
    (subst (λ (g : Layout). IsLegal g w.history) (sym same) ends.legal)
    (subst (λ (g : Layout). AreWordsOf g (state_of g w.history) w.words) (sym same) ends.are)
    (subst (λ (g : Layout). g.rows ≤ most_rows) (sym same) rows)
    empty
