use Rattle.std.proofs.Common.{◌≡◌, ℕ, ◌+◌, ◌*◌, ◌<◌, ◌∷◌, [], length, sym, ap, ◌∙◌, refl, arith, subst}
use mathlib.Core.List.{IsPrefix}
use Rattle.claim_rule.specs.Rule.{BooksView, DeskView, ToldView}
use Rattle.claim_rule.specs.Seats.{desk_view}
use Rattle.claim_rule.proofs.Holding.{still_of}
use Rattle.claim_rule.proofs.Out.{looks_endings, looks_holds, settled_calm, still_idle, tidy_through}
use Rattle.claim_rule.proofs.Shapes.{step_shape}
use Rattle.claim_rule.proofs.Telling.{learned, learns}
use Rattle.claim_rule.proofs.books.Books.learn.Goals as goal
use Rattle.history_model.specs.declared.entry.Step.TheVariants.{Met}

some_words : (w n r : ℕ) → w ≡ 2 * n + 64 * r → 0 < n → 0 < w
some_words w n r e l = omega arith

pub join_seat-requires : goal.join_seat-requires
join_seat-requires c =
    let t = c.self.inside.table.shared in
    let to = sym (ap (λ (b : BooksView). b.table) c.self.view_is) in (
      ap (λ (d : DeskView). d.table) c.desk.view_is ∙ (c.requires.own.table ∙ to),
      ap (λ (d : ToldView). d.table) c.told.view_is ∙ (c.requires.table ∙ to),
      c.told.invariant.1,
      some_words t.table_id.words (length t.key.legs) t.key.rows c.self.invariant.2 c.self.invariant.3,
      learns t.key c.desk.inside.seat.id c.told.inside.seat.id c.desk.inside.seat.me.0 c.told.inside.seat.me.0 c.desk.invariant.fresh c.told.invariant.0,
    )

pub load_as-requires-clause-word : goal.load_as-requires-clause-word
load_as-requires-clause-word c = (subst (λ (b : BooksView). 0 < length b.layout.legs) c.self.view_is c.self.invariant.3, omega arith)

pub returns-clause-met : goal.returns-clause-met
returns-clause-met c =
    let j = c.join_seat.ensures in
    (learned c.args.self.now.layout c.desk.inside.seat c.join_seat.new.seat c.load_as.new.seat c.told.inside.seat.me.0 c.desk.inside.kept c.desk.inside.past c.args.desk.now c.desk.view_is
    (ap (λ (d : DeskView). d.layout) c.desk.view_is ∙ c.requires.own.layout) j.0 j.2 c.load_as.ensures).0

pub returns-clause-learned : goal.returns-clause-learned
returns-clause-learned c =
    let j = c.join_seat.ensures in
    subst (λ (t : ToldView). IsPrefix t.seen c.load_as.new.seat.me.0.seen) c.told.view_is
    (learned c.args.self.now.layout c.desk.inside.seat c.join_seat.new.seat c.load_as.new.seat c.told.inside.seat.me.0 c.desk.inside.kept c.desk.inside.past c.args.desk.now c.desk.view_is
    (ap (λ (d : DeskView). d.layout) c.desk.view_is ∙ c.requires.own.layout) j.0 j.2 c.load_as.ensures).1

pub returns-clause-own : goal.returns-clause-own
returns-clause-own c = still_of Met c.args.self.now c.args.desk.now (desk_view c.load_as.new.seat c.desk.inside.kept c.desk.inside.past) refl (λ r e. refl) (returns-clause-met c) c.requires.own

pub returns-clause-holds : goal.returns-clause-holds
returns-clause-holds c =
    let did = returns-clause-met c in
    looks_holds c.args.desk.now (desk_view c.load_as.new.seat c.desk.inside.kept c.desk.inside.past) (Met ∷ []) (step_shape Met c.args.desk.now (desk_view c.load_as.new.seat c.desk.inside.kept c.desk.inside.past) did) did.same.5 (refl, tt)

pub returns-clause-endings : goal.returns-clause-endings
returns-clause-endings c =
    let did = returns-clause-met c in
    looks_endings c.args.desk.now (desk_view c.load_as.new.seat c.desk.inside.kept c.desk.inside.past) (Met ∷ []) (step_shape Met c.args.desk.now (desk_view c.load_as.new.seat c.desk.inside.kept c.desk.inside.past) did) (refl, tt)

pub returns-clause-still : goal.returns-clause-still
returns-clause-still c =
    let old = c.args.desk.now in
    let new = desk_view c.load_as.new.seat c.desk.inside.kept c.desk.inside.past in
    let shape = step_shape Met old new (returns-clause-met c) in
    let idle = still_idle old new (returns-clause-holds c) (returns-clause-endings c) in
    (idle, λ tidy. tidy_through c.args.self.now old new (Met ∷ []) (returns-clause-own c) shape (settled_calm old.number (Met ∷ []) (refl, tt)) tidy (idle tidy.0))
