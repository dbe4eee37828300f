-- The first wrong line by itself, or the first successor without a line.
use Rattle.std.proofs.Common.{◌≡◌, ℕ, ◌+◌, ◌<◌, true, false, List, length, get_or, Option, Some, IfSome, refl, sym, ap, ◌∙◌, subst, arith}
use Rattle.cold_store.specs.declared.draft.Follows.{Follows}
use Rattle.line_text.specs.declared.ends.SaidRow.{SaidRow}
use Rattle.cold_store.specs.Drafts.{DraftView, EachDraft, HasLineOf, IsBeforeWrong}
use Rattle.cold_store.specs.Right.{IsFirstWrong}
use Rattle.cold_store.proofs.FirstWrong.{AreChecked, checked-more, right_late, wrong_early, wrong_late, wrong_successor}
use Rattle.cold_store.proofs.draft.Draft.first_wrong.Goals as goal

none : Follows
none = record { row = 0; successor = record { row = 0; generation = 0 } }

pub returns-then-not-is_before-clause-some : goal.returns-then-not-is_before-clause-some
unfolding none
returns-then-not-is_before-clause-some c =
    let d : DraftView = c.args.self.now in
    let k : ℕ = c.loop-k.k in
    let is : c.as_slice-follows.result.now ≡ d.follows = c.as_slice-follows.ensures.value ∙ ap (λ (e : DraftView). e.follows) c.self.view_is in
    let within : k < length d.follows = subst (λ (fs : List Follows). k < length fs) is c.loop-k-test.true in
    wrong_early d c.self.inside.wrong k none (ap (λ (e : DraftView). e.wrong) c.self.view_is) within c.loop-k.invariant
    (subst (λ (fs : List Follows). IsBeforeWrong c.self.inside.wrong (get_or fs k none).row → ⊥) is (λ before. let bad : false ≡ true = sym c.if-not-is_before.true ∙ c.is_before.ensures.1 before in cc))

pub returns-then-not-has_line-clause-some : goal.returns-then-not-has_line-clause-some
unfolding none
returns-then-not-has_line-clause-some c legs said was =
    let d : DraftView = c.args.self.now in
    let k : ℕ = c.loop-k.k in
    let is : c.as_slice-follows.result.now ≡ d.follows = c.as_slice-follows.ensures.value ∙ ap (λ (e : DraftView). e.follows) c.self.view_is in
    let wrong : c.self.inside.wrong ≡ d.wrong = ap (λ (e : DraftView). e.wrong) c.self.view_is in
    let within : k < length d.follows = subst (λ (fs : List Follows). k < length fs) is c.loop-k-test.true in
    let before : IsBeforeWrong c.self.inside.wrong (get_or c.as_slice-follows.result.now k none).row = c.is_before.ensures.0 c.if-not-is_before.false in
    let absent : HasLineOf d.lines (get_or c.as_slice-follows.result.now k none).successor → ⊥ = λ line. let bad : false ≡ true = sym c.if-not-has_line.true ∙ c.has_line.ensures.1 line in cc in
    subst (λ (fs : List Follows). IsFirstWrong legs d.rows said (get_or fs k none).row) (sym is)
    (wrong_successor legs said d was k none within c.loop-k.invariant
    (subst (λ (o : Option ℕ). IsBeforeWrong o (get_or d.follows k none).row) wrong (subst (λ (fs : List Follows). IsBeforeWrong c.self.inside.wrong (get_or fs k none).row) is before))
    (subst (λ (fs : List Follows). HasLineOf d.lines (get_or fs k none).successor → ⊥) is absent))

pub loop-k-preserved : goal.loop-k-preserved
unfolding none
loop-k-preserved c =
    let d : DraftView = c.args.self.now in
    let k : ℕ = c.loop-k.k in
    let is : c.as_slice-follows.result.now ≡ d.follows = c.as_slice-follows.ensures.value ∙ ap (λ (e : DraftView). e.follows) c.self.view_is in
    let wrong : c.self.inside.wrong ≡ d.wrong = ap (λ (e : DraftView). e.wrong) c.self.view_is in
    let within : k < length d.follows = subst (λ (fs : List Follows). k < length fs) is c.loop-k-test.true in
    let before : IsBeforeWrong c.self.inside.wrong (get_or c.as_slice-follows.result.now k none).row = c.is_before.ensures.0 c.if-not-is_before.false in
    let line : HasLineOf d.lines (get_or c.as_slice-follows.result.now k none).successor = c.has_line.ensures.0 c.if-not-has_line.false in
    checked-more d k none within c.loop-k.invariant
    (subst (λ (fs : List Follows). HasLineOf d.lines (get_or fs k none).successor) is line)
    (subst (λ (o : Option ℕ). IsBeforeWrong o (get_or d.follows k none).row) wrong (subst (λ (fs : List Follows). IsBeforeWrong c.self.inside.wrong (get_or fs k none).row) is before))

-- all successors are checked
all_checked : (d : DraftView) (fs : List Follows) (k : ℕ) → fs ≡ d.follows → k ≡ length fs → AreChecked d k → AreChecked d (length d.follows)
all_checked d fs k is e checked = subst (AreChecked d) (e ∙ ap (λ (xs : List Follows). length xs) is) checked

pub returns-clause-some : goal.returns-clause-some
returns-clause-some c =
    let d : DraftView = c.args.self.now in
    let is : c.as_slice-follows.result.now ≡ d.follows = c.as_slice-follows.ensures.value ∙ ap (λ (e : DraftView). e.follows) c.self.view_is in
    wrong_late d c.self.inside.wrong (ap (λ (e : DraftView). e.wrong) c.self.view_is) (all_checked d c.as_slice-follows.result.now c.loop-k.k is (omega arith) c.loop-k.invariant)

pub returns-clause-none : goal.returns-clause-none
returns-clause-none c =
    let d : DraftView = c.args.self.now in
    let is : c.as_slice-follows.result.now ≡ d.follows = c.as_slice-follows.ensures.value ∙ ap (λ (e : DraftView). e.follows) c.self.view_is in
    right_late d c.self.inside.wrong (ap (λ (e : DraftView). e.wrong) c.self.view_is) (all_checked d c.as_slice-follows.result.now c.loop-k.k is (omega arith) c.loop-k.invariant)
