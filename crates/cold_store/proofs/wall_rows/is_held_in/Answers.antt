use Rattle.std.proofs.Common.{◌≡◌, ◌∙◌, eqb, slice_index, sym, ap}
use Rattle.std.specs.List.{filter}
use Rattle.std.proofs.lemmas.Bool.{both_ways, eq-eqb, ne_eqb, not-true, not_from_false}
use Rattle.std.proofs.lemmas.Option.{get_or_from_slice_get}
use Rattle.history_model.specs.declared.word.Word.TheVariants.{Place}
use Rattle.history_model.specs.Booking.{State}
use Rattle.history_model.specs.Phase.{is_live}
use Rattle.history_model.specs.Words.{place_number, place_word}
use Rattle.cold_store.specs.Exports.{state_on}
use Rattle.cold_store.proofs.LiveBookings.{live_all}
use Rattle.cold_store.proofs.wall_rows.is_held_in.Goals as goal

pub returns : goal.returns
returns c =
    let w = c.args.wall.now in
    let p = c.args.place in
    let h = c.args.half in
    let word = c.in-Some.word in
    let other = slice_index c.args.words.now (place_number p h) in
    let is : word ≡ place_word (state_on w) p h =
    sym (get_or_from_slice_get w.words (place_number p h) word 0 c.in-Some.ensures.word) ∙ c.requires.closed.are.each (Place p h) c.requires.half in
    let live : other ≡ place_word (filter (λ b. is_live b.phase) (state_on w)) p h =
    c.requires.words.each p h c.requires.half.0 c.requires.half.1 ∙ ap (λ (s : State). place_word s p h) (live_all w c.requires.closed) in (
      λ t e. both_ways (eqb word other) (not-true (eqb word other) t) (eq-eqb word other (is ∙ (e ∙ sym live))),
      λ n. not_from_false (eqb word other) (ne_eqb word other (λ e. n (sym is ∙ (e ∙ live)))),
    )
