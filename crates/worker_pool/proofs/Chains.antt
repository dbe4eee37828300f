-- Turns one after the other.
use Rattle.std.proofs.Common.{ℕ, zero, suc, ◌++◌, [], refl, sym, ap, ◌∙◌, append_assoc, append-nil, subst}
use Rattle.claim_rule.specs.Rule.{DeskView}
use Rattle.worker_pool.specs.Turns.{KeepsDesk, Doing, GoesOn, RunsToEnd}

-- one turn after another keeps what each of them keeps
pub keeps_on : (a b c : DeskView) → KeepsDesk a b → KeepsDesk b c → KeepsDesk a c
keeps_on a b c p q = record {
  number = q.number ∙ p.number;
  parted = q.parted ∙ p.parted;
  joined = q.joined ∙ p.joined;
  seen = (p.seen.0 ++ q.seen.0, sym (append_assoc a.seen p.seen.0 q.seen.0) ∙ (ap (λ l. l ++ q.seen.0) p.seen.1 ∙ q.seen.1));
}

-- What holds of no turn, of one, and of one run behind another, holds of a whole run
pub whole_run : {W : Type 0} (does : Doing W) (ended : W → Type 0) (So : Doing W)
    → ((w : W) (d : DeskView) → So w d w d)
    → ((a : W) (x : DeskView) (b : W) (y : DeskView) (c : W) (z : DeskView) → So a x b y → So b y c z → So a x c z)
    → ((w : W) (d : DeskView) (v : W) (e : DeskView) → does w d v e → So w d v e)
    → (before : W) (old : DeskView) (after : W) (new : DeskView) → RunsToEnd does ended before old after new → So before old after new
whole_run {W} does ended So still next each before old after new run =
    next before old run.worker run.desk after new (front run.turns run.worker run.desk run.on) (each run.worker run.desk after new run.last)
  where
    front : (n : ℕ) (w : W) (d : DeskView) → GoesOn does ended n before old w d → So before old w d
    front zero w d on = subst (λ (v : W). So before old v d) (sym on.0) (subst (λ (e : DeskView). So before old before e) (sym on.1) (still before old))
    front (suc n) w d on = next before old on.0 on.1 w d (front n on.0 on.1 on.2) (each on.0 on.1 w d on.3)
