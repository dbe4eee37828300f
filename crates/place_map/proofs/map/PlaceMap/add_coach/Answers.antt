use Rattle.std.proofs.Common.{rules, ℕ, ◌≡◌, ◌≤◌, ◌+◌, ◌++◌, List, length, sym, ap, subst, ◌∙◌, arith, length-append}
use Rattle.place_map.specs.declared.coach.Place.{Place}
use Rattle.place_map.specs.Places.{coach_places, EndsWithRun, AreByRun}
use Rattle.place_map.specs.ByClass.{ByClass, with_numbers, numbers_up, AreByClass}
use Rattle.place_map.proofs.Adding.{AreByRun-append, AreOfRun-coach_places}
use Rattle.place_map.proofs.Classes.{AreOfClass-coach_places, by_class_more}
use Rattle.place_map.proofs.map.PlaceMap.add_coach.Goals as goal

pub invariant_of-self-in-Ok-extend_from_slice : goal.invariant_of-self-in-Ok-extend_from_slice
invariant_of-self-in-Ok-extend_from_slice c =
    let coach = c.args.coach.now in
    let fresh = coach_places c.args.run.0 coach.number coach.class coach.groups.items in
    let old = c.self.inside.places.items in
    let made : c.as_slice-3.result.now ≡ fresh = c.as_slice-3.ensures.value ∙ c.in_ok-fresh.ensures.fresh in
    let is : c.extend_from_slice.new.self.items ≡ old ++ fresh = c.in-Ok-extend_from_slice.ensures.items ∙ ap (λ (l : List Place). l ++ c.as_slice-3.result.now) c.reserve.ensures.items ∙ ap (λ (l : List Place). old ++ l) made in
    let ends : EndsWithRun c.args.run.0 old = subst (λ (l : List Place). EndsWithRun c.args.run.0 l) (sym c.self.view_is) c.requires.no_later_run in
    let both = AreByRun-append c.args.run.0 old fresh c.self.invariant.1 ends (AreOfRun-coach_places c.args.run.0 coach.number coach.class coach.groups.items) in
    let few : length old + length fresh ≤ 4_194_304 = omega (arith, c.in_ok-fresh.ensures.few, ap length c.as_slice.ensures.value, ap length c.in_ok-fresh.ensures.fresh) in
    let classes = by_class_more coach.class old fresh c.self.inside.by_class (AreOfClass-coach_places c.args.run.0 coach.number coach.class coach.groups.items) c.self.invariant.2 in
    let before : c.len-first.result ≡ length old = search rules in
    let count : c.len-2.result ≡ length c.in_ok-fresh.fresh.items = search rules in
    let numbered : c.add.new.self ≡ with_numbers coach.class (numbers_up (length old) (length fresh)) c.self.inside.by_class =
    c.in-Ok-add.ensures.ok ∙ ap (λ (n : ℕ). with_numbers coach.class (numbers_up n c.len-2.result) c.self.inside.by_class) before ∙ ap (λ (n : ℕ). with_numbers coach.class (numbers_up (length old) n) c.self.inside.by_class) (count ∙ ap length c.in_ok-fresh.ensures.fresh) in
    subst (λ (l : List Place). (length l ≤ 4_194_304) × AreByRun l × AreByClass l c.add.new.self) (sym is)
    (omega (arith, few, length-append old fresh), both.0, subst (λ (n : ByClass). AreByClass (old ++ fresh) n) (sym numbered) classes)

pub returns-in-Ok-extend_from_slice-clause-no_later_run : goal.returns-in-Ok-extend_from_slice-clause-no_later_run
returns-in-Ok-extend_from_slice-clause-no_later_run c =
    let coach = c.args.coach.now in
    let fresh = coach_places c.args.run.0 coach.number coach.class coach.groups.items in
    let old = c.self.inside.places.items in
    let made : c.as_slice-3.result.now ≡ fresh = c.as_slice-3.ensures.value ∙ c.in_ok-fresh.ensures.fresh in
    let is : c.extend_from_slice.new.self.items ≡ old ++ fresh = c.in-Ok-extend_from_slice.ensures.items ∙ ap (λ (l : List Place). l ++ c.as_slice-3.result.now) c.reserve.ensures.items ∙ ap (λ (l : List Place). old ++ l) made in
    let ends : EndsWithRun c.args.run.0 old = subst (λ (l : List Place). EndsWithRun c.args.run.0 l) (sym c.self.view_is) c.requires.no_later_run in
    let both = AreByRun-append c.args.run.0 old fresh c.self.invariant.1 ends (AreOfRun-coach_places c.args.run.0 coach.number coach.class coach.groups.items) in
    subst (λ (l : List Place). EndsWithRun c.args.run.0 l) (sym is) both.1
