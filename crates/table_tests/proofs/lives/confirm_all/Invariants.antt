use Rattle.claim_rule.specs.Desks.{IsOf}
use Rattle.table_tests.proofs.lives.confirm_all.Given as goal

abbrev pub invariant-loop-row : goal.invariant-loop-row
invariant-loop-row l = record { own : IsOf l.books l.member.desk }
