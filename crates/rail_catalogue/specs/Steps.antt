-- The refund steps and the fees of a catalogue.
use Rattle.std.specs.Prelude.{ℕ, List, [], ◌∷◌, ◌++◌, length, codes, Option, Some, None, Result, Ok, Err}
use Rattle.serde_json.specs.Data.{Data}
use Rattle.serde_json.specs.Find.{get, as_object}
use Rattle.tariff.specs.declared.terms.RefundStep.{RefundStep}
use Rattle.tariff.specs.declared.terms.TermsFault.{TermsFault}
use Rattle.tariff.specs.Refunds.{RefundTerms, terms_fault}
use Rattle.rail_catalogue.specs.Json.{whole_in, whole_or, list_in}
use Rattle.rail_catalogue.specs.Faults.{Fault, tariff, need, after, item_path}

-- the n-th item as a step
abbrev pub step_at : ℕ → Data → Result RefundStep Fault
step_at n d = let at : List ℕ → List ℕ = item_path (codes "refundSteps") n in
    need (at []) (as_object d) (λ _.
    need (at (codes ".before")) (whole_in 0 4_294_967_295 (get (codes "before") d)) (λ before.
    need (at (codes ".fee")) (whole_in 0 4_294_967_295 (get (codes "fee") d)) (λ fee.
    Ok (record { before = before; fee = fee }))))

abbrev pub steps_from : List RefundStep → List Data → Result (List RefundStep) Fault
steps_from found [] = Ok found
steps_from found (d ∷ ds) = after (step_at (length found) d) (λ s. steps_from (found ++ s ∷ []) ds)

abbrev pub unless_faulty : RefundTerms → Option TermsFault → Result RefundTerms Fault
unless_faulty terms None = Ok terms
unless_faulty terms (Some e) = Err (tariff e)

-- the terms of the whole, where a booking can be confirmed for that many seconds
abbrev pub terms_of : ℕ → Data → Result RefundTerms Fault
terms_of confirm d =
    need (codes "refundSteps") (list_in 0 64 (get (codes "refundSteps") d)) (λ items.
    after (steps_from [] items) (λ steps.
    need (codes "ticketFee") (whole_or 0 0 4_294_967_295 (get (codes "ticketFee") d)) (λ ticket.
    need (codes "exchangeFee") (whole_or 0 0 4_294_967_295 (get (codes "exchangeFee") d)) (λ exchange.
    unless_faulty (record { steps = steps; ticket_fee = ticket; exchange_fee = exchange; confirm_seconds = confirm })
    (terms_fault steps ticket exchange)))))
