-- A worker's connection did what its requests ask.
use Rattle.std.proofs.Common.{◌≡◌, ◌∙◌, ℕ, zero, suc, ◌+◌, ◌*◌, ◌≤◌, ◌<◌, ◌%◌, ◌++◌, List, [], ◌∷◌, length, Option, Some, None, inl, inr, refl, sym, ap, subst, arith, append-nil}
use Rattle.rail_io.specs.Clocks.{script_reading}
use Rattle.session_loop.specs.declared.end.ConnEnd.TheVariants.{Done}
use Rattle.http_wire.specs.Requests.{RequestText, empty, closed, Spells}
use Rattle.http_wire.proofs.OnceLemmas.{spells_once}
use Rattle.http_wire.proofs.StreamLemmas.{closed_longer}
use Rattle.session_loop.specs.Session.{Chain, IsAnswered, IsEnd}
use Rattle.claim_rule.specs.Rule.{DeskView}
use Rattle.catalogue_contents.specs.Contents.{CatalogueView}
use Rattle.osdm_texts.specs.Answers.{Reply}
use Rattle.rail_service.specs.Connections.{ServiceView, IsAnswer, IsReading, answers_of, refusals_of}
use Rattle.host_drill.specs.Generator.{drill_leg, requests_from}
use Rattle.host_drill.specs.Connections.{IsConnection, beginning}
use Rattle.host_drill.specs.Fits.{FitsDrill}
use Rattle.host_drill.specs.Worked.{AnswersEach, IsWorked}
use Rattle.host_drill.proofs.Spelling.{request_for, requests_for, spells}
use Rattle.host_drill.proofs.Reserved.{IsFirstKnown, first_known, reserves_leg}

-- all readings to come are 0
abbrev StandsAt : (ℕ → ℕ) → Type 0
StandsAt readings = (i : ℕ) → readings i ≡ 0

-- the connection knows no other key, and its clock stands
record IsDrilling (s : ServiceView) : Type 0 where
  first : IsFirstKnown s.first
  readings : ℕ → ℕ
  clock : s.clock ≡ Some readings
  stands : StandsAt readings

later_clock : (before after : Option (ℕ → ℕ)) (readings : ℕ → ℕ) (moment : ℕ) → before ≡ Some readings → StandsAt readings → IsReading before moment after
    → (moment ≡ 0) × ((later : ℕ → ℕ) × (after ≡ Some later) × StandsAt later)
later_clock before after readings moment is stands reads = told after (subst (λ (b : Option (ℕ → ℕ)). IsReading b moment after) is reads)
  where
    told : (a : Option (ℕ → ℕ)) → IsReading (Some readings) moment a → (moment ≡ 0) × ((later : ℕ → ℕ) × (a ≡ Some later) × StandsAt later)
    told None reads = absurd reads.1
    told (Some later) reads = (reads.0 ∙ stands 0, (later, refl, λ i. reads.1 i ∙ stands (i + 1)))

below : (x : ℕ) → x % 8 < 8
below x = omega arith

-- a request more was answered
drilling_on : (cat : CatalogueView) (places leg : ℕ) (before after : ServiceView) (written : List ℕ) → FitsDrill cat places → leg < 8 → IsDrilling before
    → (a : IsAnswer cat before (request_for leg) written after) → (a.moment ≡ 0) × IsDrilling after
drilling_on cat places leg before after written fits less drilling a =
    let clock = later_clock before.clock after.clock drilling.readings a.moment drilling.clock drilling.stands a.reading in (
      clock.0,
      record {
        first = subst IsFirstKnown (sym a.first) (first_known cat places leg before.first fits drilling.first);
        readings = clock.1.0;
        clock = clock.1.1;
        stands = clock.1.2;
      },
    )

-- so many requests were answered one after the other
abbrev IsEachWorked : CatalogueView → ℕ → ℕ → ℕ → ServiceView → List ℕ → ServiceView → Type 0
IsEachWorked cat seed k n before written after =
    (replies : List Reply) × (length replies ≡ n) × AnswersEach cat seed k before.desk replies written after.desk

each_worked : (n : ℕ) (cat : CatalogueView) (places seed k : ℕ) (before after : ServiceView) (written : List ℕ) → FitsDrill cat places → IsDrilling before
    → Chain (answers_of cat) before (requests_for seed k n) written after → IsEachWorked cat seed k n before written after
each_worked zero cat places seed k before after written fits drilling (none, same) = ([], refl, (none, ap (λ (s : ServiceView). s.desk) same))
each_worked (suc n) cat places seed k before after written fits drilling (next, answer, more, is, split, chain) =
    let leg = drill_leg seed k in
    let on = drilling_on cat places leg before next answer fits (below (seed + k * k)) drilling is in
    let rest = each_worked n cat places seed (k + 1) next after more fits on.1 chain in (
      is.reply ∷ rest.0,
      ap suc rest.1,
      (
        next.desk,
        is.steps,
        more,
        reserves_leg cat places leg before.first is.moment before.desk next.desk is.reply fits (below (seed + k * k)) drilling.first on.0 is.is,
        is.shape,
        is.idle,
        split ∙ ap (λ (l : List ℕ). l ++ more) is.bytes,
        rest.2,
      ),
    )

-- the bytes taken are those of all requests, and what they were answered is all that was written
answers_all : (cat : CatalogueView) (places seed size k : ℕ) (before after : ServiceView) (taken written : List ℕ) → FitsDrill cat places → size ≤ 2000
    → IsDrilling before → taken ≡ requests_from seed k size → IsAnswered (answers_of cat) (refusals_of cat) before after taken empty written
    → IsEachWorked cat seed k size before written after
answers_all cat places seed size k before after taken written fits small drilling is answered =
    let spelled : Spells 1 taken (requests_for seed k size) empty =
    subst (λ (s : List ℕ). Spells 1 s (requests_for seed k size) empty) (sym is) (spells size 1 seed k (omega (arith, small))) in
    let same = (spells_once answered.requests (requests_for seed k size) 1 taken empty empty answered.spells spelled).0 in
    let all : written ≡ answered.replies = answered.is ∙ ap (λ (l : List ℕ). answered.replies ++ l) answered.refusal ∙ append-nil answered.replies in
    each_worked size cat places seed k before after written fits drilling
    (subst (λ (w : List ℕ). Chain (answers_of cat) before (requests_for seed k size) w after) (sym all)
    (subst (λ (r : List RequestText). Chain (answers_of cat) before r answered.replies after) same answered.chain))

-- no request is the last of its connection, so the stream isn't closed
not_closed : (seed size k : ℕ) (taken left : List ℕ) (requests : List RequestText) → size ≤ 2000 → requests_from seed k size ≡ taken ++ left
    → Spells 1 taken requests closed → ⊥
not_closed seed size k taken left requests small is spelled =
    let all : Spells 1 (requests_from seed k size) requests closed =
    subst (λ (s : List ℕ). Spells 1 s requests closed) (sym is) (closed_longer requests 1 taken left spelled) in
    let other : closed ≡ empty = (spells_once requests (requests_for seed k size) 1 (requests_from seed k size) closed empty all
    (spells size 1 seed k (omega (arith, small)))).1 in
    absurd cc

works_all : (cat : CatalogueView) (places seed size k : ℕ) (before after : ServiceView) (taken left written : List ℕ) → FitsDrill cat places → size ≤ 2000
    → IsDrilling before → requests_from seed k size ≡ taken ++ left → IsEnd (answers_of cat) (refusals_of cat) before after taken (Some left) written Done
    → IsEachWorked cat seed k size before written after
works_all cat places seed size k before after taken left written fits small drilling is (inl (none, answered)) =
    let whole : taken ≡ requests_from seed k size = sym (append-nil taken) ∙ ap (λ (l : List ℕ). taken ++ l) (sym none) ∙ sym is in
    answers_all cat places seed size k before after taken written fits small drilling whole answered
works_all cat places seed size k before after taken left written fits small drilling is (inr answered) =
    absurd (not_closed seed size k taken left answered.requests small is answered.spells)

-- A worker's connection: each of its requests was answered in turn.
pub worked : (cat : CatalogueView) (places seed size worker : ℕ) (desk : DeskView) (answered : List ℕ) → FitsDrill cat places → size ≤ 2000
    → (c : IsConnection cat seed size worker desk answered) → (replies : List Reply) × IsWorked cat seed size worker c.begins desk answered replies
worked cat places seed size worker desk answered fits small c =
    let drilling : IsDrilling (beginning c.begins) = record {
      first = inl refl;
      readings = script_reading 0 0;
      clock = refl;
      stands = λ i. omega arith;
    } in
    let all = works_all cat places seed size (worker * size) (beginning c.begins) (record { desk = desk; first = c.first; clock = c.clock }) c.taken c.left
    answered fits small drilling c.requests c.served.answered in
    (all.0, record { number = all.1; each = all.2 })
