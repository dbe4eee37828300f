-- The first that is its own row's is of the least row.
use Rattle.std.proofs.Common.{◌≡◌, ◌≢◌, ℕ, ◌+◌, ◌<◌, List, length, get_or, refl, sym, ap, ◌∙◌, subst, arith}
use Rattle.cold_store.specs.declared.draft.Follows.{Follows}
use Rattle.cold_store.specs.Drafts.{DraftView, IsLeastOwn}
use Rattle.cold_store.proofs.FirstWrong.{least_own, none_own}
use Rattle.cold_store.proofs.draft.Draft.own_successor.Goals as goal

none : Follows
none = record { row = 0; successor = record { row = 0; generation = 0 } }

pub returns-then-follows-k-clause-some : goal.returns-then-follows-k-clause-some
unfolding none
returns-then-follows-k-clause-some c legs said was =
    let d : DraftView = c.args.self.now in
    let k : ℕ = c.loop-k.k in
    let is : c.as_slice-follows.result.now ≡ d.follows = c.as_slice-follows.ensures.value ∙ ap (λ (e : DraftView). e.follows) c.self.view_is in
    let within : k < length d.follows = subst (λ (fs : List Follows). k < length fs) is c.loop-k-test.true in
    subst (λ (fs : List Follows). IsLeastOwn said (get_or fs k none).row) (sym is)
    (least_own legs said d was k none within (subst (λ (fs : List Follows). (get_or fs k none).successor.row ≡ (get_or fs k none).row) is c.if-follows-k.true) c.loop-k.invariant)

pub returns-clause-none : goal.returns-clause-none
returns-clause-none c legs said was =
    let d : DraftView = c.args.self.now in
    let is : c.as_slice-follows.result.now ≡ d.follows = c.as_slice-follows.ensures.value ∙ ap (λ (e : DraftView). e.follows) c.self.view_is in
    let all : c.loop-k.k ≡ length d.follows = (let e : c.loop-k.k ≡ length c.as_slice-follows.result.now = omega arith in e) ∙ ap (λ (xs : List Follows). length xs) is in
    none_own legs said d was (λ j x l. c.loop-k.invariant j x (subst (λ (n : ℕ). j < n) (sym all) l))
