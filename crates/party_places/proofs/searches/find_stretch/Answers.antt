use Rattle.std.proofs.Common.{◌≡◌, ◌∙◌, ◌+◌, ◌<◌, ◌≤◌, ◌&&◌, nat_lt, ℕ, refl, ap, sym, subst, arith}
use Rattle.std.specs.Prelude.{slice_index_or}
use Rattle.rail_ids.specs.declared.PlaceNo.{PlaceNo}
use Rattle.claim_rule.proofs.Out.{holds_same, endings_same, holds_then, endings_then}
use Rattle.party_places.specs.Stretches.{is_beside}
use Rattle.party_places.specs.Searches.{next_together}
use Rattle.party_places.proofs.Searching.{Searched, searched_none, found, found_within, goes_on, few_more}
use Rattle.party_places.proofs.searches.find_stretch.Goals as goal

abbrev first : PlaceNo
first = record { 0 = 0 }

pub loop-at-init : goal.loop-at-init
loop-at-init c = record {
  own = c.requires.own;
  holds = holds_same c.args.desk.now;
  endings = endings_same c.args.desk.now;
  few = (let some = c.requires.some in omega (arith, some));
  searched = searched_none c.args.places.now c.args.count c.args.span c.args.candidates.now c.args.desk.now first c.requires.some c.requires.own.legal;
}

pub returns-then-together-count-clause-found : goal.returns-then-together-count-clause-found
returns-then-together-count-clause-found c =
    let x = c.loop-at in
    let look = c.is_free-is_free in
    let next : c.grown-together.result ≡ next_together x.together look.result (nat_lt 0 x.together && is_beside c.args.places.now x.before.0 (slice_index_or c.args.candidates.now x.at first).0) =
    c.grown-together.ensures ∙ ap (next_together x.together look.result) c.follows.ensures in
    found c.args.places.now c.args.count c.args.span c.args.candidates.now c.args.desk.now x.desk look.new.desk x.at x.together x.before
    (slice_index_or c.args.candidates.now x.at first) first look.result x.invariant.searched c.loop-at-test.true refl look.ensures.entries (sym next ∙ c.if-together-count.true)

pub returns-then-together-count-clause-within : goal.returns-then-together-count-clause-within
returns-then-together-count-clause-within c =
    found_within c.args.places.now c.args.count c.args.span c.args.candidates.now (c.loop-at.at + 1) c.args.desk.now c.is_free-is_free.new.desk (returns-then-together-count-clause-found c)

pub returns-then-together-count-clause-holds : goal.returns-then-together-count-clause-holds
returns-then-together-count-clause-holds c = holds_then c.args.desk.now c.loop-at.desk c.is_free-is_free.new.desk c.loop-at.invariant.holds c.is_free-is_free.ensures.holds

pub returns-then-together-count-clause-endings : goal.returns-then-together-count-clause-endings
returns-then-together-count-clause-endings c = endings_then c.args.desk.now c.loop-at.desk c.is_free-is_free.new.desk c.loop-at.invariant.endings c.is_free-is_free.ensures.endings

-- not more, and not as many
fewer : (m n : ℕ) → m ≤ n → (m ≡ n → ⊥) → m < n
fewer m n few other = omega (arith, few, other)

pub loop-at-preserved : goal.loop-at-preserved
loop-at-preserved c =
    let x = c.loop-at in
    let i = x.invariant in
    let look = c.is_free-is_free in
    let place = slice_index_or c.args.candidates.now x.at first in
    let n : ℕ = next_together x.together look.result (nat_lt 0 x.together && is_beside c.args.places.now x.before.0 place.0) in
    let next : c.grown-together.result ≡ n = c.grown-together.ensures ∙ ap (next_together x.together look.result) c.follows.ensures in
    let most = few_more c.args.places.now c.args.count c.args.span c.args.candidates.now c.args.desk.now x.desk look.new.desk x.at x.together x.before place first look.result
    i.searched c.loop-at-test.true refl look.ensures.entries i.few in
    let few : n < c.args.count = fewer n c.args.count most (λ e. c.if-together-count.false (next ∙ e)) in
    record {
      own = look.ensures.own;
      holds = holds_then c.args.desk.now x.desk look.new.desk i.holds look.ensures.holds;
      endings = endings_then c.args.desk.now x.desk look.new.desk i.endings look.ensures.endings;
      few = subst (λ (m : ℕ). m < c.args.count) (sym next) few;
      searched = subst (λ (m : ℕ). Searched c.args.places.now c.args.count c.args.span c.args.candidates.now c.args.desk.now look.new.desk (x.at + 1) m place) (sym next)
          (goes_on c.args.places.now c.args.count c.args.span c.args.candidates.now c.args.desk.now x.desk look.new.desk x.at x.together x.before place first look.result
          i.searched c.loop-at-test.true refl look.ensures.entries few);
    }
