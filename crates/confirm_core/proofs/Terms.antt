-- What the four looks at a booking's terms keep.
use Rattle.claim_rule.specs.Rule.{DeskView}
use Rattle.claim_rule.specs.Out.{KeepsHolds, KeepsEndings}
use Rattle.claim_rule.proofs.Out.{holds_then, endings_then}

pub four_holds : (a b c d e : DeskView) → KeepsHolds a b → KeepsHolds b c → KeepsHolds c d → KeepsHolds d e → KeepsHolds a e
four_holds a b c d e p q r s = holds_then a b e p (holds_then b c e q (holds_then c d e r s))

pub four_endings : (a b c d e : DeskView) → KeepsEndings a b → KeepsEndings b c → KeepsEndings c d → KeepsEndings d e → KeepsEndings a e
four_endings a b c d e p q r s = endings_then a b e p (endings_then b c e q (endings_then c d e r s))
