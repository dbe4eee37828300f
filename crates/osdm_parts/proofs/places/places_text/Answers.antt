use Rattle.std.proofs.Common.{◌≡◌, ◌∙◌, ◌+◌, ◌++◌, ◌<◌, ◌≤◌, ◌∷◌, [], length, get_or, List, ℕ, codes, sym, ap, arith, refl, nat_lt, true, false}
use Rattle.std.proofs.lemmas.Bool.Decides.{nat_tests}
use Rattle.serde_json.specs.View.{items_of}
use Rattle.serde_json.specs.Written.{items_text}
use Rattle.osdm_parts.specs.Places.{place_trees}
use Rattle.osdm_parts.proofs.PlaceLines.{framed_is, first_listed, none_listed, item_turned, list_text}
use Rattle.osdm_parts.proofs.places.places_text.Goals as goal

pub loop-n-init : goal.loop-n-init
loop-n-init c = (
  ap (λ (l : List ℕ). l ++ items_text false (items_of (place_trees c.args.places.now c.args.free.now)))
      (c.in_ok-put.ensures ∙ ap (λ (l : List ℕ). l ++ codes "{\"places\":[") c.in_ok-text.ensures.items),
  c.in_ok-end.ensures,
)

pub loop-n-preserved : goal.loop-n-preserved
loop-n-preserved c =
    let places = c.args.places.now in
    let free = c.args.free.now in
    let n = c.loop-n.n in
    let within : n < length free = omega arith in
    let later : nat_lt 0 (n + 1) ≡ true = grind (arith, nat_tests) in
    let keys = c.in_ok-renew.ensures in (
      rw later (item_turned _ _ _ _ _ _ _ (first_listed places free n _ _ c.loop-n-test.true within) c.loop-n.invariant.0
          (c.in_ok-put_place.ensures ∙ ap (λ (l : List ℕ). c.loop-n.text.items ++ l) (framed_is _ _ _ _ _ (get_or places n _) (get_or free n _) keys.0 keys.1 keys.2 (c.as_slice.ensures.value ∙ c.in_ok-renew_end.ensures)))),
      c.in_ok-renew_end.ensures,
    )

pub returns : goal.returns
returns c =
    let places = c.args.places.now in
    let free = c.args.free.now in
    let n = c.loop-n.n in
    let ended : length places ≤ n = omega (arith, c.loop-n-test.false) in
    let closed : c.loop-n.text.items ++ 93 ∷ [] ≡ codes "{\"places\":[" ++ items_text false (items_of (place_trees places free)) =
    sym (ap (λ l. c.loop-n.text.items ++ items_text (nat_lt 0 n) (items_of l)) (none_listed places free n ended)) ∙ c.loop-n.invariant.0 in
    list_text c.loop-n.text.items _ _ places free refl closed c.in_ok-put-2.ensures
