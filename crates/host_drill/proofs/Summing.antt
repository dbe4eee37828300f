-- What the workers of a drill come to, together.
use Rattle.std.proofs.Common.{◌≡◌, ◌∙◌, ◌+◌, ◌*◌, ◌<◌, ◌≤◌, Bool, ℕ, suc, List, [], ◌∷◌, length, refl, sym, ap, arith}
use Rattle.std.specs.List.{AllByRecursion}
use Rattle.history_model.specs.declared.entry.Entry.{Entry}
use Rattle.history_model.specs.declared.entry.Step.TheVariants.{Met}
use Rattle.history_model.specs.History.{IsLegal, own, state_of}
use Rattle.claim_rule.specs.Rule.{DeskView}
use Rattle.catalogue_contents.specs.Contents.{CatalogueView}
use Rattle.osdm_texts.specs.Answers.{Reply}
use Rattle.host_words.specs.declared.drill.DrillWords.{DrillWords}
use Rattle.host_drill.specs.Meeting.{AreAll, IsOneOf}
use Rattle.host_drill.specs.Parts.{Outcome, AllWork, IsWholeCount, all_outcomes_in, is_busy, is_turned_away, outcomes_in}
use Rattle.host_drill.specs.Totals.{busy_line, no_memory_line, refused_line, sold_of, times, times_in}
use Rattle.host_drill.proofs.Law.{law}
use Rattle.host_drill.specs.Connections.{IsConnection, layout_of}
use Rattle.host_drill.specs.Fits.{HasPlaces}
use Rattle.host_drill.specs.Drilled.{AreWorkers, connection_of}
use Rattle.host_drill.specs.Worked.{IsWorked, all_replies_with, replies_with}
use Rattle.host_drill.proofs.Lines.{lines_counted}
use Rattle.host_drill.proofs.Parts.{HasWorked, HaveMemory, have_memory, work_of}

-- each worker's connection did what its requests ask
abbrev pub AllWorked : CatalogueView → DrillWords → Type 0
AllWorked cat said =
    (worker : ℕ) (desk : DeskView) (answered : List ℕ) → (c : IsConnection cat said.seed said.size worker desk answered)
    → (replies : List Reply) × IsWorked cat said.seed said.size worker c.begins desk answered replies

-- the workers from the k-th on, by what they were answered
pub record AreCrew (cat : CatalogueView) (said : DrillWords) (history : List Entry) (k : ℕ) (answered : List (List ℕ)) : Type 0 where
  pub replies : List (List Reply)
  pub number : length replies ≡ length answered
  pub workers : AreWorkers cat said history k replies
  pub outcomes : List (List Outcome)
  pub same : length outcomes ≡ length answered
  pub work : AllWork (layout_of cat) history said.places said.seed said.size k outcomes
  pub refused : all_outcomes_in is_turned_away outcomes ≡ all_replies_with 409 replies
  pub busy : all_outcomes_in is_busy outcomes ≡ all_replies_with 503 replies
  pub refused_lines : times_in refused_line answered ≡ all_replies_with 409 replies
  pub busy_lines : times_in busy_line answered ≡ all_replies_with 503 replies

-- one worker more
both : (test : Outcome → Bool) (status : ℕ) (mine : List Outcome) (others : List (List Outcome)) (replies : List Reply) (more : List (List Reply))
    → outcomes_in test mine ≡ replies_with status replies → all_outcomes_in test others ≡ all_replies_with status more
    → all_outcomes_in test (mine ∷ others) ≡ all_replies_with status (replies ∷ more)
both test status mine others replies more one rest =
    ap (λ (n : ℕ). n + all_outcomes_in test others) one
    ∙ ap (λ (n : ℕ). replies_with status replies + n) rest

both_lines : (line : List ℕ) (status : ℕ) (answered : List ℕ) (others : List (List ℕ)) (replies : List Reply) (more : List (List Reply))
    → times line answered ≡ replies_with status replies → times_in line others ≡ all_replies_with status more
    → times_in line (answered ∷ others) ≡ all_replies_with status (replies ∷ more)
both_lines line status answered others replies more one rest =
    ap (λ (n : ℕ). n + times_in line others) one
    ∙ ap (λ (n : ℕ). replies_with status replies + n) rest

module _ (cat : CatalogueView) (said : DrillWords) (history : List Entry) (has : HasPlaces cat said.places) (works : AllWorked cat said) where
  one_worked : (worker : ℕ) (answered : List ℕ) (one : IsOneOf (connection_of cat said) history worker answered) (replies : List Reply)
      → IsWorked cat said.seed said.size worker one.is.begins one.desk answered replies → HaveMemory replies
      → HasWorked (layout_of cat) history said.places said.seed said.size worker replies
  one_worked worker answered one replies worked memory =
      work_of cat (layout_of cat) history said.places said.seed said.size worker one.is.begins one.desk answered replies has worked one.is.number one.is.none one.is.layout
      one.front one.own memory

  pub crew_of : (k : ℕ) (answered : List (List ℕ)) → AreAll (connection_of cat said) history k answered → times_in no_memory_line answered ≡ 0
      → AreCrew cat said history k answered
  crew_of k [] all none = record {
    replies = [];
    number = refl;
    workers = tt;
    outcomes = [];
    same = refl;
    work = tt;
    refused = refl;
    busy = refl;
    refused_lines = refl;
    busy_lines = refl;
  }
  crew_of k (answered ∷ more) all none =
      let one = all.0 in
      let did = works k one.desk answered one.is in
      let mine : times no_memory_line answered ≡ 0 = omega (arith, none) in
      let others : times_in no_memory_line more ≡ 0 = omega (arith, none) in
      let rest = crew_of (k + 1) more all.1 others in
      let lines = lines_counted cat said.seed (k * said.size) one.is.begins one.desk did.0 answered did.1.each in
      let worked = one_worked k answered one did.0 did.1 (have_memory did.0 (sym lines.2 ∙ mine)) in
      record {
        replies = did.0 ∷ rest.replies;
        number = ap suc rest.number;
        workers = (record { answered = answered; one = one; worked = did.1 }, rest.workers);
        outcomes = worked.outcomes ∷ rest.outcomes;
        same = ap suc rest.same;
        work = (worked.work, rest.work);
        refused = both is_turned_away 409 worked.outcomes rest.outcomes did.0 rest.replies worked.refused rest.refused;
        busy = both is_busy 503 worked.outcomes rest.outcomes did.0 rest.replies worked.busy rest.busy;
        refused_lines = both_lines refused_line 409 answered more did.0 rest.replies lines.0 rest.refused_lines;
        busy_lines = both_lines busy_line 503 answered more did.0 rest.replies lines.1 rest.busy_lines;
      }

  -- what is counted of them
  pub whole_of : (answered : List (List ℕ)) → said.size ≤ 2000 → said.workers ≤ 16 → IsLegal (layout_of cat) history
      → AllByRecursion (λ e. e.step ≡ Met) (own history 0) → ((k : ℕ) → said.workers < k → own history k ≡ []) → length answered ≡ said.workers
      → (c : AreCrew cat said history 0 answered)
      → IsWholeCount (sold_of (state_of (layout_of cat) history) cat.rows) said.seed (said.workers * said.size) said.places c.outcomes
  whole_of answered size workers legal mets others number c =
      law (layout_of cat) history said.seed said.size said.workers said.places c.outcomes has.legs has.rows refl size workers legal mets others (c.same ∙ number) c.work
