use Rattle.std.proofs.Common.{◌≡◌, Ok, sym, ap, ◌∙◌}
use Rattle.rail_catalogue.specs.Faults.{after}
use Rattle.rail_catalogue.specs.Format.{catalogue_of}
use Rattle.rail_catalogue.specs.Networks.{front_in, front_view, with_runs, runs_at}
use Rattle.json_text.specs.View.{view}
use Rattle.rail_catalogue.proofs.Fronts.{front_read, front_refused, of_answer, refuses_on}
use Rattle.rail_catalogue.proofs.reader.read_front.Goals as goal

pub returns-clause-ok : goal.returns-clause-ok
returns-clause-ok c =
    let text = c.args.text.now in
    let place = c.in_ok-outline.outline.place in
    let kept = view c.in_ok-outline.outline.kept in
    let whole = front_read c.in_ok-outline.ensures.ok c.in_ok-outline.ensures.utf8 in
    of_answer (λ f. front_in kept ≡ Ok (front_view f)) (λ f. f.place ≡ place) (λ f. catalogue_of text ≡ with_runs (front_view f) (runs_at f.place text))
    (λ f read at. whole ∙ ap (λ r. after r (λ g. with_runs g (runs_at place text))) read ∙ ap (λ p. with_runs (front_view f) (runs_at p text)) (sym at))
    c.front_of.result c.front_of.ensures.ok c.front_of.ensures.place

pub returns-clause-err : goal.returns-clause-err
returns-clause-err c =
    refuses_on (front_in (view c.in_ok-outline.outline.kept)) (catalogue_of c.args.text.now) (front_refused c.in_ok-outline.ensures.ok c.in_ok-outline.ensures.utf8)
    c.front_of.result c.front_of.ensures.err
