-- What all requests of a worker add to the history.
use Rattle.std.proofs.Common.{◌≡◌, ◌≢◌, ◌∙◌, ℕ, ◌+◌, ◌*◌, Bool, List, [], ◌∷◌, ◌++◌, length, map, refl, sym, ap, subst, arith, append_assoc, append-nil}
use Rattle.std.specs.Prelude.{◌==◌}
use Rattle.std.specs.List.{AllByRecursion}
use mathlib.Core.List.{IsPrefix, map-append}
use Rattle.history_model.specs.declared.entry.Entry.{Entry}
use Rattle.history_model.specs.declared.entry.Step.{Step}
use Rattle.history_model.specs.Booking.{Layout}
use Rattle.history_model.specs.History.{entry, own}
use Rattle.claim_rule.specs.Rule.{DeskView}
use Rattle.catalogue_contents.specs.Contents.{CatalogueView}
use Rattle.osdm_parts.specs.declared.problem.Problem.TheVariants.{NoMemory}
use Rattle.osdm_texts.specs.Answers.{Reply, problem, status_of}
use Rattle.host_drill.specs.Generator.{drill_leg}
use Rattle.host_drill.specs.Totals.{one_if}
use Rattle.host_drill.specs.Parts.{Outcome, AreParts, HasWork, is_turned_away, is_busy, outcomes_in}
use Rattle.host_drill.proofs.Meetings.{prefix_on}
use Rattle.host_drill.specs.Fits.{HasPlaces}
use Rattle.host_drill.specs.Worked.{AnswersEach, IsWorked, replies_with}
use Rattle.host_drill.proofs.Parting.{one_part}

-- a desk that goes on from what it had seen
pub record GoesOn (old new : DeskView) : Type 0 where
  pub front : IsPrefix old.seen new.seen
  pub layout : new.layout ≡ old.layout
  pub number : new.number ≡ old.number

goes_on : (cat : CatalogueView) (seed k : ℕ) (old : DeskView) (replies : List Reply) (written : List ℕ) (new : DeskView)
    → AnswersEach cat seed k old replies written new → GoesOn old new
goes_on cat seed k old [] written new (none, same) = record {
  front = ([], append-nil old.seen ∙ sym (ap (λ (d : DeskView). d.seen) same));
  layout = ap (λ (d : DeskView). d.layout) same;
  number = ap (λ (d : DeskView). d.number) same;
}
goes_on cat seed k old (reply ∷ more) written new (mid, steps, rest, did, shape, idle, are, later) =
    let on = goes_on cat seed (k + 1) mid more rest new later in
    record {
      front = prefix_on old.seen mid.seen new.seen shape.front on.front;
      layout = on.layout ∙ shape.same.1;
      number = on.number ∙ shape.same.2;
    }

-- none of the requests was answered for want of memory
abbrev pub HaveMemory : List Reply → Type 0
HaveMemory replies = AllByRecursion (λ r. r ≢ problem NoMemory) replies

-- so where none has the status 500
pub have_memory : (replies : List Reply) → replies_with 500 replies ≡ 0 → HaveMemory replies
have_memory [] none = tt
have_memory (reply ∷ more) none = (
  (λ is.
      let one = subst (λ (r : Reply). replies_with 500 (r ∷ more) ≡ 0) is none in
      let e : ⊥ = omega (arith, one) in e),
  have_memory more (let e : replies_with 500 more ≡ 0 = omega (arith, none) in e),
)

-- one reply more
counted : (test : Outcome → Bool) (status : ℕ) (outcome : Outcome) (outcomes : List Outcome) (reply : Reply) (more : List Reply)
    → test outcome ≡ (status_of reply == status) → outcomes_in test outcomes ≡ replies_with status more
    → outcomes_in test (outcome ∷ outcomes) ≡ replies_with status (reply ∷ more)
counted test status outcome outcomes reply more one rest =
    ap (λ (b : Bool). one_if b + outcomes_in test outcomes) one
    ∙ ap (λ (n : ℕ). one_if (status_of reply == status) + n) rest

-- the requests from the k-th on, by the replies
pub record AreWorkedParts (g : Layout) (history : List Entry) (places seed k : ℕ) (old new : DeskView) (replies : List Reply) : Type 0 where
  pub outcomes : List Outcome
  pub steps : List Step
  pub number : length outcomes ≡ length replies
  pub parts : AreParts g history places seed k outcomes steps
  pub own : own new.seen old.number ≡ own old.seen old.number ++ map (entry old.number) steps
  pub refused : outcomes_in is_turned_away outcomes ≡ replies_with 409 replies
  pub busy : outcomes_in is_busy outcomes ≡ replies_with 503 replies

module _ (cat : CatalogueView) (g : Layout) (history : List Entry) (places seed : ℕ) (has : HasPlaces cat places) where
  pub parts_of : (k : ℕ) (old : DeskView) (replies : List Reply) (written : List ℕ) (new : DeskView) → old.layout ≡ g → IsPrefix new.seen history
      → AnswersEach cat seed k old replies written new → HaveMemory replies → AreWorkedParts g history places seed k old new replies
  parts_of k old [] written new layout front (none, same) memory = record {
    outcomes = [];
    steps = [];
    number = refl;
    parts = refl;
    own = ap (λ (d : DeskView). own d.seen old.number) same ∙ sym (append-nil (own old.seen old.number));
    refused = refl;
    busy = refl;
  }
  parts_of k old (reply ∷ more) written new layout front (mid, steps, rest, did, shape, idle, are, later) memory =
      let d = old.number in
      let on = goes_on cat seed (k + 1) mid more rest new later in
      let here = shape.same.1 ∙ layout in
      let one = one_part cat g history places (drill_leg seed k) has old mid reply here (prefix_on mid.seen new.seen history on.front front) memory.0 did in
      let tail = parts_of (k + 1) mid more rest new here front later memory.1 in
      let mine : own new.seen d ≡ own mid.seen d ++ map (entry d) tail.steps =
      subst (λ (n : ℕ). own new.seen n ≡ own mid.seen n ++ map (entry n) tail.steps) shape.same.2 tail.own in
      record {
        outcomes = one.outcome ∷ tail.outcomes;
        steps = one.steps ++ tail.steps;
        number = (let e : length (one.outcome ∷ tail.outcomes) ≡ length (reply ∷ more) = omega (arith, tail.number) in e);
        parts = (one.steps, tail.steps, refl, one.part, tail.parts);
        own = mine
            ∙ (ap (λ (l : List Entry). l ++ map (entry d) tail.steps) one.shape.mine
            ∙ (append_assoc (own old.seen d) (map (entry d) one.steps) (map (entry d) tail.steps)
            ∙ ap (λ (l : List Entry). own old.seen d ++ l) (sym (map-append (entry d) one.steps tail.steps))));
        refused = counted is_turned_away 409 one.outcome tail.outcomes reply more one.refused tail.refused;
        busy = counted is_busy 503 one.outcome tail.outcomes reply more one.busy tail.busy;
      }

-- what a worker came to, by its replies
pub record HasWorked (g : Layout) (history : List Entry) (places seed size worker : ℕ) (replies : List Reply) : Type 0 where
  pub outcomes : List Outcome
  pub work : HasWork g history places seed size worker outcomes
  pub refused : outcomes_in is_turned_away outcomes ≡ replies_with 409 replies
  pub busy : outcomes_in is_busy outcomes ≡ replies_with 503 replies

pub work_of : (cat : CatalogueView) (g : Layout) (history : List Entry) (places seed size worker : ℕ) (begins desk : DeskView) (answered : List ℕ) (replies : List Reply)
    → HasPlaces cat places → IsWorked cat seed size worker begins desk answered replies → begins.number ≡ worker + 1 → own begins.seen (worker + 1) ≡ []
    → desk.layout ≡ g → IsPrefix desk.seen history → own history (worker + 1) ≡ own desk.seen (worker + 1) → HaveMemory replies
    → HasWorked g history places seed size worker replies
work_of cat g history places seed size worker begins desk answered replies has worked number none layout front same memory =
    let on = goes_on cat seed (worker * size) begins replies answered desk worked.each in
    let parts = parts_of cat g history places seed has (worker * size) begins replies answered desk (sym on.layout ∙ layout) front worked.each memory in
    let mine : own desk.seen (worker + 1) ≡ own begins.seen (worker + 1) ++ map (entry (worker + 1)) parts.steps =
    subst (λ (n : ℕ). own desk.seen n ≡ own begins.seen n ++ map (entry n) parts.steps) number parts.own in
    record {
      outcomes = parts.outcomes;
      work = record {
        steps = parts.steps;
        own = same ∙ (mine ∙ ap (λ (l : List Entry). l ++ map (entry (worker + 1)) parts.steps) none);
        number = parts.number ∙ worked.number;
        parts = parts.parts;
      };
      refused = parts.refused;
      busy = parts.busy;
    }
