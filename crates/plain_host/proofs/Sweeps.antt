-- A sweep, and what is refused, come to the outcomes of a plain host.
use Rattle.std.proofs.Common.{◌≡◌, ℕ, ◌+◌, ◌<◌, inl, Bool, true, false, cond, List, [], ◌∷◌, map, length, Ok, Err, sym, ap, ◌∙◌, subst, arith}
use Rattle.std.specs.Prelude.{◌&&◌, count_by}
use Rattle.std.specs.List.{AllByRecursion, filter}
use Rattle.history_model.specs.declared.entry.Step.{Step}
use Rattle.history_model.specs.Phase.{is_sealed}
use Rattle.history_model.specs.Booking.{Booking, Layout, State}
use Rattle.history_model.specs.History.{IsLegalFrom}
use Rattle.history_model.specs.Laws.{IsInRange}
use Rattle.history_model.proofs.ListLemmas.{All-map}
use Rattle.history_model.proofs.Ranges.{ranges_all}
use Rattle.claim_rule.specs.Rule.{DeskView, state_seen}
use Rattle.claim_rule.proofs.Moves.{is_sound}
use Rattle.booking_rows.specs.declared.swept.Swept.{Swept}
use Rattle.expiry_sweeper.specs.AllRows.{sweeps_steps}
use Rattle.catalogue_contents.specs.Contents.{CatalogueView}
use Rattle.osdm_parts.specs.declared.problem.Problem.{Problem}
use Rattle.osdm_texts.specs.Answers.{swept}
use Rattle.booking_service.specs.Sweeping.{SweepsRows}
use Rattle.service_rules.specs.Ordered as order
use Rattle.service_rules.specs.Performing.{DoesNothing}
use Rattle.lone_desk.specs.Lone.{entries_of, after_steps}
use Rattle.lone_desk.proofs.Following.{shape_follows}
use Rattle.plain_host.specs.Plain.{Standing}
use Rattle.plain_host.specs.Outcomes.{is_late, is_waiting, swept_one}
use Rattle.plain_host.specs.PlainOf.{standing_of, standings_of, plain_in, plain_of}
use Rattle.plain_host.specs.Settled.{IsSettled}
use Rattle.plain_host.specs.Plainly.{IsLone, AnswersPlainly}
use Rattle.plain_host.proofs.Standings.{is_there, standings_by}
use Rattle.plain_host.proofs.Staying.{stays_by, still_lone}
use Rattle.plain_host.proofs.Sweeping.{rows_swept, all_swept, late_counts, wait_counts}

rows_below : (m : ℕ) (test : Booking → Bool) (s : State) → AllByRecursion (λ (b : Booking). b.row < m) s → AllByRecursion (λ (x : Standing). x.row.row < m) (standings_by test s)
rows_below m test [] below = tt
rows_below m test (b ∷ s) below = go (test b && is_sealed b.phase) (rows_below m test s below.1) where
  go : (t : Bool) → AllByRecursion (λ (x : Standing). x.row.row < m) (standings_by test s)
      → AllByRecursion (λ (x : Standing). x.row.row < m) (map standing_of (cond t (b ∷ filter (λ (x : Booking). test x && is_sealed x.phase) s) (filter (λ (x : Booking). test x && is_sealed x.phase) s)))
  go true all = (below.0, all)
  go false all = all

pub sweep_plain : (cat : CatalogueView) (retailer now : ℕ) → AnswersPlainly cat retailer now (Ok order.sweep)
sweep_plain cat retailer now old new reply lone (n, (es, did, shape), told) =
    let f = shape_follows old new es lone.alone shape in
    let s = state_seen old in
    let d = old.number in
    let steps = sweeps_steps now 0 did.sweeps in
    let legal = subst (λ (x : List Step). IsLegalFrom old.layout s (entries_of d x)) did.steps f.legal in
    let state : state_seen new ≡ after_steps s d steps = f.state ∙ ap (λ (x : List Step). after_steps s d x) did.steps in
    let rows : new.layout.rows ≡ length did.sweeps = ap (λ (g : Layout). g.rows) f.layout ∙ (lone.rows ∙ sym did.every) in
    let below = All-map (λ (b : Booking) (r : IsInRange new.layout b). let l : b.row < 0 + length did.sweeps = omega (arith, r.row, rows) in l)
    (state_seen new) (ranges_all new.layout new.seen shape.legal) in
    let all = rows_swept old.layout d now did.sweeps 0 s (is_sound old.layout old.seen lone.legal) did.each legal
    (rows_below (0 + length did.sweeps) (is_there (after_steps s d steps)) (after_steps s d steps) (subst (AllByRecursion (λ (b : Booking). b.row < 0 + length did.sweeps)) state below)) in
    let settled : IsSettled (state_seen new) = subst IsSettled (sym state) (all.settled lone.settled) in
    let list : standings_of (state_seen new) ≡ map (swept_one now) (standings_of s) =
    ap standings_of state ∙ (all.bookings ∙ all_swept now (standings_of s)) in
    let kept = ap (λ (u : State). (plain_in u).kept) state ∙ all.kept in
    let counts : n ≡ record { expired = count_by (is_late now) (standings_of s); lost = 0; waiting = count_by (is_waiting now) (standings_of s) } =
    did.counts
    ∙ (λ i. record {
      expired = (all.expired ∙ late_counts now (standings_of s)) i;
      lost = all.lost i;
      waiting = (all.waiting ∙ wait_counts now (standings_of s)) i;
    }) in (
      inl (told ∙ ap (λ (k : Swept). swept k) counts, λ i. record { bookings = list i; kept = kept i }),
      still_lone cat old new lone (stays_by old new es lone.alone shape) settled,
    )

-- nothing was done
nothing_done : (cat : CatalogueView) (old new : DeskView) → IsLone cat old → DoesNothing old new → (plain_of new ≡ plain_of old) × IsLone cat new
nothing_done cat old new lone did =
    let f = shape_follows old new [] lone.alone did in (
      ap plain_in f.state,
      still_lone cat old new lone (stays_by old new [] lone.alone did) (subst IsSettled (sym f.state) lone.settled),
    )

pub refused_plain : (cat : CatalogueView) (retailer now : ℕ) (p : Problem) → AnswersPlainly cat retailer now (Err p)
refused_plain cat retailer now p old new reply lone (did, told) =
    let none = nothing_done cat old new lone did in (inl (told, none.0), none.1)
