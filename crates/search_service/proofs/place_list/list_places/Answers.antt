use Rattle.std.proofs.Common.{◌≡◌, ◌∙◌, ◌==◌, ℕ, List, length, refl, sym, ap}
use Rattle.rail_ids.specs.declared.PlaceNo.{PlaceNo}
use Rattle.catalogue_contents.specs.Contents.{CatalogueView}
use Rattle.place_map.specs.declared.coach.Place.{Place}
use Rattle.place_map.specs.Candidates.{numbers_of}
use Rattle.shop.proofs.Homes.{stays}
use Rattle.search_service.specs.Searching.{numbers_on}
use Rattle.search_service.proofs.Numbers.{of_books, one_each}
use Rattle.search_service.proofs.Answers.{listed, unlisted}
use Rattle.search_service.proofs.place_list.list_places.Goals as goal

-- the numbers that were looked at are those of the run's places
are_numbers : (cat : CatalogueView) (run : ℕ) (places : List Place) (numbers shown : List PlaceNo) → shown ≡ numbers → numbers ≡ numbers_of (λ p. p.run.0 == run) 0 places → places ≡ cat.places → shown ≡ numbers_on cat run
are_numbers cat run places numbers shown a b same = a ∙ (b ∙ ap (λ (l : List Place). numbers_of (λ p. p.run.0 == run) 0 l) same)

pub returns-in_default-clause-answer : goal.returns-in_default-clause-answer
returns-in_default-clause-answer c = unlisted c.args.shop.now.cat.now c.args.segment c.args.desk.now c.args.desk.now refl

pub place_states-requires-clause-places : goal.place_states-requires-clause-places
place_states-requires-clause-places c =
    of_books c.args.shop.now.cat.now c.args.segment.run.0 c.args.shop.now.books.now.layout.legs c.as_slice.result.now c.args.shop.now.legs
    (are_numbers c.args.shop.now.cat.now c.args.segment.run.0 c.places.result.now c.in-Ok.numbers.items c.as_slice.result.now c.as_slice.ensures.value c.in-Ok.ensures.numbers c.places.ensures.value)

pub returns-in_default-place_states-clause-answer :
    goal.returns-in_default-place_states-clause-answer
returns-in_default-place_states-clause-answer c = unlisted c.args.shop.now.cat.now c.args.segment c.args.desk.now c.place_states.new.desk c.in_default-place_states.ensures.untouched

pub place_answer-requires : goal.place_answer-requires
place_answer-requires c = record {
  one_each = ap length c.as_slice-2.ensures.value ∙ one_each c.args.shop.now.cat.now c.args.segment.run.0 c.as_slice.result.now c.args.segment.span c.in-Ok-place_states.free.items c.in-Ok-place_states.ensures.entries.0
      (are_numbers c.args.shop.now.cat.now c.args.segment.run.0 c.places.result.now c.in-Ok.numbers.items c.as_slice.result.now c.as_slice.ensures.value c.in-Ok.ensures.numbers c.places.ensures.value) c.in-Ok-place_states.ensures.entries.1;
}

pub returns-clause-answer : goal.returns-clause-answer
returns-clause-answer c =
    listed c.args.shop.now.cat.now c.args.segment c.as_slice.result.now c.in-Ok-place_states.free.items c.args.desk.now c.place_states.new.desk c.place_answer.result
    (are_numbers c.args.shop.now.cat.now c.args.segment.run.0 c.places.result.now c.in-Ok.numbers.items c.as_slice.result.now c.as_slice.ensures.value c.in-Ok.ensures.numbers c.places.ensures.value) c.in-Ok-place_states.ensures.entries
    (rw (sym c.as_slice-2.ensures.value) c.place_answer.ensures.told) c.place_answer.ensures.untold

pub returns-in_default-place_states-clause-home : goal.returns-in_default-place_states-clause-home
returns-in_default-place_states-clause-home c = let did = c.place_states.ensures in stays _ _ _ did.own did.holds did.endings did.tidy c.requires.home

pub returns-clause-home : goal.returns-clause-home
returns-clause-home c = let did = c.place_states.ensures in stays _ _ _ did.own did.holds did.endings did.tidy c.requires.home

-- no place was looked at
pub returns-in_default-clause-home : goal.returns-in_default-clause-home
returns-in_default-clause-home c = record { home = c.requires.home; tidy = λ tidy. tidy }
