use Rattle.std.proofs.Common.{◌≡◌, ◌∙◌, ◌++◌, ◌<◌, ℕ, List, length, take, drop, ◌*◌, sym, ap, subst, refl, rules}
use Rattle.std.specs.Prelude.{slice_index_or}
use Rattle.claim_rule.specs.Desks.{IsOf}
use Rattle.claim_rule.specs.Out.{IsIdle}
use Rattle.host_drill.specs.Meeting.{EachAt, EachPair}
use Rattle.host_drill.specs.declared.connection.Connection.{Connection}
use Rattle.host_drill.specs.Connections.{Serves}
use Rattle.host_drill.specs.Totals.{sold_of}
use Rattle.host_drill.specs.Drilled.{IsDone, state_at}
use Rattle.host_drill.proofs.Serving.{all_done, all_written}
use Rattle.host_drill.proofs.Drilling.{drilled}
use Rattle.host_drill.proofs.Work.{worked}
use Rattle.host_drill.proofs.drill.work.Goals as goal

pub serve_all-requires-clause-idle : goal.serve_all-requires-clause-idle
serve_all-requires-clause-idle g c κs within k d less =
    let same = c.as_mut_slice.ensures.value in
    subst (λ (l : List Connection). IsIdle (slice_index_or l k d).desk) (sym same)
    (c.in_ok-crew.ensures.ready k d (subst (λ (l : List Connection). k < length l) same less)).idle

pub meet_all-requires-clause-done : goal.meet_all-requires-clause-done
meet_all-requires-clause-done g c =
    let books = c.in_ok-books.books in
    let cat = c.in_ok-catalogue.catalogue in
    let said = c.args.said in
    let was = c.as_mut_slice.result.now in
    let old = c.in_ok-crew.crew.items in
    let crew = c.serve_all.new.crew in
    let same : was ≡ old = c.as_mut_slice.ensures.value in
    let count : length crew ≡ length old = search rules in
    let same_len : length crew ≡ c.in_ok-crew.crew.len = search rules in
    let written : take c.in_ok-crew.crew.len (crew ++ drop (length crew) old) ≡ crew = all_written c.in_ok-crew.crew.len old crew same_len count in
    let ran = c.serve_all.ensures in
    let done : EachAt (IsDone books cat said) crew = all_done books cat said old crew c.in_ok-books.ensures.layout count c.in_ok-crew.ensures.ready
    (subst (λ (l : List Connection). EachPair (λ _ d. IsOf books d.desk) l crew) same ran.own)
    (subst (λ (l : List Connection). EachPair (λ _ d. IsIdle d.desk) l crew) same ran.idle)
    (subst (λ (l : List Connection). EachPair (Serves cat) l crew) same ran.served) in
    subst (λ (l : List Connection). EachAt (IsDone books cat said) l) (sym written) done

pub returns : goal.returns
returns g c =
    let said = c.args.said in
    let cat = c.in_ok-catalogue.catalogue in
    let made = c.in_ok-catalogue.ensures in
    let sold = c.count_sold-sold.result in
    let answers = c.in-Some.answers in
    drilled said cat c.in_ok-books.books.layout c.meet_all.new.desk c.finish-wall.result
    (record { requests = said.workers * said.size; sold = sold; refused = answers.refused; busy = answers.busy; double = 0 })
    made.catalogue made.fits.has (λ worker desk answered. worked cat said.places said.seed said.size worker desk answered made.fits c.requires.size)
    c.requires.size c.requires.workers c.in_ok-books.ensures.layout c.finish-wall.ensures.layout c.finish-wall.ensures.history c.in-Some.ensures.first
    c.in-Some.ensures.answered refl (c.count_sold-sold.ensures ∙ ap (λ (n : ℕ). sold_of (state_at c.finish-wall.result) n) c.rows.ensures.rows) refl
