use Rattle.claim_rule.proofs.ending.item_of.Goals as goal

pub unreachable-requires : goal.unreachable-requires
unreachable-requires c = let i = c.requires.item in c.in-None.ensures.none i.0 i.1 i.2
