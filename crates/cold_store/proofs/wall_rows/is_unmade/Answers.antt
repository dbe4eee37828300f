use Rattle.std.proofs.Common.{◌≡◌, ◌∙◌, ◌<◌, ◌≤◌, refl, inl, ⊎_elim, arith, sym, eq-eqb}
use Rattle.std.proofs.lemmas.Bool.{cases_lt, eqb-true, false≢true}
use Rattle.cold_store.specs.Exports.{state_on}
use Rattle.history_model.specs.Words.{row_word}
use Rattle.cold_store.proofs.WallRows.{word_there}
use Rattle.cold_store.proofs.OpenRows.{free_is_unmade, making_is_unmade, none_behind, unmade_word}
use Rattle.cold_store.proofs.wall_rows.is_unmade.Goals as goal

pub returns-then-word-eq0 : goal.returns-then-word-eq0
returns-then-word-eq0 c =
    let w = c.args.wall.now in
    let within = c.in-Some.ensures.there.0 refl in
    let word : c.in-Some.word ≡ row_word (state_on w) c.args.row.row 0 = word_there w c.args.row.row 0 c.in-Some.word c.requires.closed within.0 within.1 c.in-Some.ensures.word in
    (λ _. free_is_unmade w c.args.row.row c.args.row.generation c.requires.closed (sym word ∙ c.if-word-eq0.true), λ _. eq-eqb c.in-Some.word 0 c.if-word-eq0.true)

pub returns-else-word-eq0 : goal.returns-else-word-eq0
returns-else-word-eq0 c =
    let w = c.args.wall.now in
    let within = c.in-Some.ensures.there.0 refl in
    let word : c.in-Some.word ≡ row_word (state_on w) c.args.row.row 0 = word_there w c.args.row.row 0 c.in-Some.word c.requires.closed within.0 within.1 c.in-Some.ensures.word in (
      λ e. making_is_unmade (state_on w) c.args.row.row c.args.row.generation (sym word ∙ (eqb-true c.in-Some.word c.row_word_of.result e ∙ c.row_word_of.ensures)),
      λ u. eq-eqb c.in-Some.word c.row_word_of.result (word ∙ (unmade_word (state_on w) c.args.row.row c.args.row.generation (λ e. c.if-word-eq0.false (word ∙ e)) u ∙ sym c.row_word_of.ensures)),
    )

pub returns-in-None : goal.returns-in-None
returns-in-None c =
    let w = c.args.wall.now in
    let behind : w.layout.rows ≤ c.args.row.row =
    ⊎_elim (λ (lt : c.args.row.row < w.layout.rows). absurd (false≢true (c.in-None.ensures.there.1 (lt, omega arith)))) (λ (le : w.layout.rows ≤ c.args.row.row). le) (cases_lt c.args.row.row w.layout.rows) in
    (λ _. inl (none_behind w c.args.row.row c.requires.closed behind), λ _. refl)
