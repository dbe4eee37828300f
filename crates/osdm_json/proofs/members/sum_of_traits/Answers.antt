use Rattle.std.proofs.Common.{◌≡◌, ◌∙◌, ◌^◌, ◌<◌, ◌+◌, ℕ, List, ◌∷◌, map, length, drop, get_or, Option, Some, bit_or, arith, add-one, refl, sym, ap}
use Rattle.std.specs.Prelude.{option_and_then}
use Rattle.std.proofs.Math.Seq.{drop-cons}
use Rattle.std.proofs.lemmas.Nat.{or_lt}
use Rattle.serde_json.specs.Data.{Data}
use Rattle.serde_json.specs.Find.{as_str}
use Rattle.json_text.specs.View.{view}
use Rattle.json_text.specs.declared.value.Value.{Value}
use Rattle.rail_catalogue.specs.Coaches.{trait_named}
use Rattle.osdm_json.specs.Members.{traits_from}
use Rattle.osdm_json.proofs.members.sum_of_traits.Goals as goal

-- one item more is read of those that are left
turned : (found bit : ℕ) (ds rest : List Data) (d : Data) (name : List ℕ) (whole : Option ℕ) → ds ≡ d ∷ rest → Some name ≡ as_str d → Some bit ≡ trait_named name → traits_from found ds ≡ whole
    → traits_from (bit_or found bit) rest ≡ whole
turned found bit ds rest d name whole left text named before =
    ap (option_and_then (λ (b : ℕ). traits_from (bit_or found b) rest)) named
    ∙ ap (λ (o : Option (List ℕ)). option_and_then (λ (b : ℕ). traits_from (bit_or found b) rest) (option_and_then trait_named o)) text
    ∙ sym (ap (traits_from found) left) ∙ before

seen : (xs : List Value) (i : ℕ) (x : Value) → i < length xs → x ≡ get_or xs i x → map view (drop i xs) ≡ view x ∷ map view (drop (i + 1) xs)
seen xs i x small is = rw (drop-cons xs i x, ← is, add-one) refl

pub loop-item-preserved : goal.loop-item-preserved
loop-item-preserved c =
    let small : bit_or c.loop-item.found c.in_ok-found.field-0 < 2 ^ 5 = or_lt 5 c.loop-item.found c.in_ok-found.field-0 (omega (arith, c.loop-item.invariant.most)) (omega (arith, c.in_ok-found.ensures.most)) in
    record {
      rest = turned c.loop-item.found c.in_ok-found.field-0 _ _ (view c.item-item.result) c.in_ok-as_str.field-0.now _
          (seen c.args.items.now c.loop-item.item-index c.item-item.result c.loop-item-test.true c.item-item.is) c.in_ok-as_str.ensures c.in_ok-found.ensures.value c.loop-item.invariant.rest;
      most = omega arith;
    }
