use Rattle.std.proofs.Common.{◌+◌, ◌++◌, [], ◌∷◌, List, ap, sym, ◌∙◌}
use Rattle.std.proofs.lemmas.List.{append_assoc}
use Rattle.rail_ids.specs.declared.PlaceNo.{PlaceNo}
use Rattle.place_map.specs.ByClass.{numbers_up}
use Rattle.place_map.proofs.Classes.{numbers_up_more}
use Rattle.place_map.proofs.class_numbers.push_numbers.Goals as goal

pub loop-n-preserved : goal.loop-n-preserved
loop-n-preserved c =
    let next : PlaceNo = record { 0 = c.args.from + c.loop-n.n } in
    c.in_default.ensures.items ∙ ap (λ (l : List PlaceNo). l ++ next ∷ []) c.loop-n.invariant ∙ append_assoc c.args.numbers.now.items (numbers_up c.args.from c.loop-n.n) (next ∷ [])
    ∙ ap (λ (l : List PlaceNo). c.args.numbers.now.items ++ l) (sym (numbers_up_more c.args.from c.loop-n.n))
