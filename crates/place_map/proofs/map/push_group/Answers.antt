use Rattle.std.proofs.Common.{◌≡◌, ◌∙◌, ℕ, suc, ◌+◌, ◌-◌, ◌<◌, List, [], ◌∷◌, ◌++◌, ap, sym, arith, append_assoc}
use Rattle.place_map.specs.declared.coach.Class.{Class}
use Rattle.place_map.specs.declared.coach.Place.{Place}
use Rattle.place_map.specs.Seats.{Seats}
use Rattle.place_map.specs.Places.{places_from}
use Rattle.place_map.proofs.map.push_group.Goals as goal

one_more : (run coach : ℕ) (class : Class) (traits number last : ℕ) (p : Place) (xs out : List Place) → number < last + 1
    → p ≡ record { run = record { 0 = run }; coach = coach; number = number; class = class; traits = traits }
    → xs ++ places_from run coach class traits number (last + 1 - number) ≡ out
    → (xs ++ p ∷ []) ++ places_from run coach class traits (number + 1) (last + 1 - (number + 1)) ≡ out
one_more run coach class traits number last p xs out below is h =
    let left : last + 1 - number ≡ suc (last + 1 - (number + 1)) = omega arith in
    append_assoc xs (p ∷ []) _ ∙ ap (λ (q : Place). xs ++ (q ∷ places_from run coach class traits (number + 1) (last + 1 - (number + 1)))) is
    ∙ ap (λ n. xs ++ places_from run coach class traits number n) (sym left) ∙ h

pub loop-number-preserved : goal.loop-number-preserved
loop-number-preserved c =
    let g = c.args.group.now in
    let end : c.from-number-end.result ≡ g.last = c.from-number-end.ensures ∙ ap (λ (s : Seats). s.last) c.group.view_is in
    let as_place : Seats → Place = λ s. record { run = record { 0 = c.args.run.0 }; coach = c.args.coach; number = c.loop-number.number; class = c.args.class; traits = s.traits } in
    let below : c.loop-number.number < g.last + 1 = omega (arith, c.loop-number-test.true) in
    let step = one_more c.args.run.0 c.args.coach c.args.class g.traits c.loop-number.number g.last _ c.loop-number.places.items _ below (ap as_place c.group.view_is) c.loop-number.invariant in
    rw c.in_ok-push.ensures.items step
