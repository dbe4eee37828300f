use Rattle.place_map.proofs.Apart.{none_repeats}
use Rattle.place_map.proofs.map.are_apart.Goals as goal

pub returns : goal.returns
returns c = λ e. none_repeats _ c.args.places.now c.args.fresh.now (c.is_new.ensures c.if-not-is_new.false) (c.rises.ensures e)
