use Rattle.std.proofs.Common.{[], ◌∷◌, ◌++◌, ◌∙◌, ap}
use Rattle.std.specs.Prelude.{codes}
use Rattle.journal_text.specs.Texts.{sum_of}
use Rattle.host_catalogue.specs.Prints.{places_text, runs_text}
use Rattle.host_catalogue.proofs.Printing.{whole}
use Rattle.host_catalogue.proofs.prints.print_of.Goals as goal

pub returns : goal.returns
returns c =
    let cat = c.args.catalogue.now in
    c.of.ensures
    ∙ ap sum_of (c.as_slice.ensures.value
    ∙ whole c.new-text.result.items c.extend_from_slice.new.self.items c.push_runs.new.text.items c.push_places.new.text.items
    (codes "rail-print 1" ++ 10 ∷ []) (runs_text cat.runs cat.runs.runs) (places_text cat.places)
    c.new-text.ensures.items c.in_ok-extend_from_slice.ensures.items
    (c.in_ok-push_runs.ensures ∙ ap (λ r. c.extend_from_slice.new.self.items ++ runs_text r r.runs) c.runs.ensures.value)
    (c.in_ok-push_places.ensures ∙ ap (λ p. c.push_runs.new.text.items ++ places_text p) (c.all.ensures.places ∙ c.places.ensures.value)))
