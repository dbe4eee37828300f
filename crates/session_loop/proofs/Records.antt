-- What an outlet keeps of its own calls, it has kept of all that was handed over: also where it doesn't tell it.
use Rattle.std.proofs.Common.{◌≡◌, ℕ, zero, suc, ◌<◌, ◌≤◌, List, [], ◌∷◌, ◌++◌, map, refl, sym, ◌∙◌, ap, subst, arith, append_assoc, append-nil}
use Rattle.session_loop.specs.Writes.{Showing, joined, Takes, Took, TookFor, TakesInOrder, Handed}

module _ {K : Type 0} (shows : Showing K) (record_of : K → List ℕ)
    (grows : (before : K) (bytes : List ℕ) (after : K) → shows.takes before bytes after → record_of after ≡ record_of before ++ bytes)
    (stays : (before : K) (cut : ℕ) (after : K) → shows.held before cut after → record_of after ≡ record_of before) where
  calls_recorded : (first last : K) (pieces : List (List ℕ)) → Takes shows.takes first pieces last → record_of last ≡ record_of first ++ joined pieces
  calls_recorded first last [] same = ap record_of same ∙ sym (append-nil (record_of first))
  calls_recorded first last (piece ∷ pieces) (mid, one, others) =
      calls_recorded mid last pieces others ∙ ap (λ (l : List ℕ). l ++ joined pieces) (grows first piece mid one)
      ∙ append_assoc (record_of first) piece (joined pieces)

  between_recorded : (first between : K) (cut : ℕ) → (0 < cut → shows.held first cut between) → (cut ≡ 0 → between ≡ first)
      → record_of between ≡ record_of first
  between_recorded first between zero said unsaid = ap record_of (unsaid refl)
  between_recorded first between (suc cut) said unsaid = stays first (suc cut) between (said (omega arith))

  -- an answer, or a part of one
  pub part_recorded : (first last : K) (cut : ℕ) (bytes : List ℕ) → TookFor shows first cut bytes last → record_of last ≡ record_of first ++ bytes
  part_recorded first last cut bytes t =
      calls_recorded t.between last t.took.pieces t.took.calls ∙ ap (λ (l : List ℕ). record_of t.between ++ l) (sym t.took.are)
      ∙ ap (λ (l : List ℕ). l ++ bytes) (between_recorded first t.between cut t.said t.unsaid)

  answers_recorded : (first last : K) (answers : List (ℕ × List ℕ)) → TakesInOrder shows first answers last
      → record_of last ≡ record_of first ++ joined (map (λ (answer : ℕ × List ℕ). answer.1) answers)
  answers_recorded first last [] same = ap record_of same ∙ sym (append-nil (record_of first))
  answers_recorded first last (answer ∷ answers) (mid, one, others) =
      answers_recorded mid last answers others
      ∙ ap (λ (l : List ℕ). l ++ joined (map (λ (a : ℕ × List ℕ). a.1) answers)) (part_recorded first mid answer.0 answer.1 one)
      ∙ append_assoc (record_of first) answer.1 (joined (map (λ (a : ℕ × List ℕ). a.1) answers))

  -- all that was handed over
  pub handed_recorded : (first last : K) (bytes : List ℕ) → Handed shows first bytes last → record_of last ≡ record_of first ++ bytes
  handed_recorded first last bytes h =
      answers_recorded first last h.answers h.calls ∙ ap (λ (l : List ℕ). record_of first ++ l) (sym h.are)

-- the cut that an outlet holds its bytes for never falls, and is one that it was told of, or a later one
module _ {K : Type 0} (shows : Showing K) (cut_of : K → ℕ)
    (keeps : (before : K) (bytes : List ℕ) (after : K) → shows.takes before bytes after → cut_of before ≤ cut_of after)
    (holds : (before : K) (cut : ℕ) (after : K) → shows.held before cut after → (cut_of before ≤ cut_of after) × (cut ≤ cut_of after)) where
  calls_hold : (first last : K) (pieces : List (List ℕ)) → Takes shows.takes first pieces last → cut_of first ≤ cut_of last
  calls_hold first last [] same = subst (λ (k : K). cut_of first ≤ cut_of k) (sym same) (omega arith)
  calls_hold first last (piece ∷ pieces) (mid, one, others) =
      let a = keeps first piece mid one in
      let b = calls_hold mid last pieces others in
      omega (arith, a, b)

  between_holds : (first between : K) (cut : ℕ) → (0 < cut → shows.held first cut between) → (cut ≡ 0 → between ≡ first)
      → (cut_of first ≤ cut_of between) × (cut ≤ cut_of between)
  between_holds first between zero said unsaid = (subst (λ (k : K). cut_of first ≤ cut_of k) (sym (unsaid refl)) (omega arith), omega arith)
  between_holds first between (suc cut) said unsaid = holds first (suc cut) between (said (omega arith))

  -- the cut of the answer that is being handed over
  pub part_held : (first last : K) (cut : ℕ) (bytes : List ℕ) → TookFor shows first cut bytes last → (cut_of first ≤ cut_of last) × (cut ≤ cut_of last)
  part_held first last cut bytes t =
      let a = between_holds first t.between cut t.said t.unsaid in
      let b = calls_hold t.between last t.took.pieces t.took.calls in
      (omega (arith, a.0, b), omega (arith, a.1, b))
