use Rattle.std.proofs.Common.{◌≡◌, List, [], ◌∷◌, ◌++◌, length, length-append, refl, ap, arith}
use Rattle.leg_masks.specs.Interval.{PlacedSpan as Item}
use Rattle.claim_rule.specs.Holds.{HoldView}
use Rattle.claim_rule.proofs.Out.{endings_then}
use Rattle.table_tests.proofs.rows.undo_and_keep.Goals as goal

no_item : (items all : List Item) (i : Item) → all ≡ items ++ i ∷ [] → length all ≡ 1 → items ≡ []
no_item [] all i e one = refl
no_item (x ∷ xs) all i e one = let l = length-append (x ∷ xs) (i ∷ []) in let m = ap length e in absurd (omega (arith, l, m, one))

pub keep_row-requires-clause-empty : goal.keep_row-requires-clause-empty
keep_row-requires-clause-empty c =
    let u = c.undo_last in
    no_item u.new.hold.items c.args.hold.items u.ensures.last.0 (ap (λ (h : HoldView). h.items) u.ensures.last.1) c.requires.one

pub returns-clause-own : goal.returns-clause-own
returns-clause-own c = c.keep_row.ensures.own c.args.books.now c.undo_last.ensures.own

pub returns-clause-endings : goal.returns-clause-endings
returns-clause-endings c = endings_then c.args.desk.now c.undo_last.new.desk c.keep_row.new.desk c.undo_last.ensures.endings c.keep_row.ensures.endings
