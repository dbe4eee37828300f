use Rattle.std.proofs.Common.{◌≡◌, ◌≤◌, ◌+◌, ℕ, List, ◌++◌, Option, length, drop, take, sym, ◌∙◌, ap, arith, length-append, append_assoc, take-append-drop}
use Rattle.std.proofs.lemmas.List.{length-take, take_at}
use borrow.Rule.Slice.PartMut.{put_mid, post_of}
use Rattle.rail_io.specs.Told.{Pulls}
use Rattle.rail_io.specs.declared.source.Pulled.{Pulled}
use Rattle.rail_io.specs.declared.source.Pulled.TheVariants.{Got, End, Failed}
use Rattle.http_wire.specs.Next.{PullsBehind, Stays}
use Rattle.http_wire.proofs.room.pull.Goals as goal

regroup : (f y z p : List ℕ) → f ++ ((y ++ z) ++ p) ≡ (f ++ y) ++ (z ++ p)
regroup f y z p = simp append_assoc

kept : (old room : List ℕ) (filled m n : ℕ) → filled ≤ length old → n ≤ length room
    → take (filled + n) (put_mid filled m old room) ≡ take filled old ++ take n room
kept old room filled m n within fits =
    let f = take filled old in
    let p = post_of filled m old in
    let y = take n room in
    let long : length (f ++ y) ≡ filled + n = omega (arith, length-append f y, length-take filled old, length-take n room, within, fits) in
    ap (λ (r : List ℕ). take (filled + n) (f ++ (r ++ p))) (sym (take-append-drop n room))
    ∙ ap (take (filled + n)) (regroup f y (drop n room) p)
    ∙ take_at (f ++ y) (drop n room ++ p) (filled + n) long

kept_front : (old room : List ℕ) (filled m : ℕ) → filled ≤ length old → take filled (put_mid filled m old room) ≡ take filled old
kept_front old room filled m within =
    take_at (take filled old) (room ++ post_of filled m old) filled (omega (arith, length-take filled old, within))

behind : (before after : Option (List ℕ)) (old room : List ℕ) (filled m : ℕ) (r : Pulled) → filled ≤ length old
    → Pulls before after room r → PullsBehind before after old (put_mid filled m old room) filled r
behind before after old room filled m (Got n) within pulls = (
  take n room,
  pulls.0,
  simp length-append (omega (arith, pulls.1, length-take filled old, within)),
  pulls.2,
  kept old room filled m n within pulls.1,
)
behind before after old room filled m End within pulls = (pulls.0, pulls.1, kept_front old room filled m within)
behind before after old room filled m Failed within pulls = (pulls, kept_front old room filled m within)

pub returns-clause-pulls : goal.returns-clause-pulls
returns-clause-pulls g c =
    behind (g.S.Source.told c.args.source.now) (g.S.Source.told c.read.new.self) c.args.memory.now c.read.new.room c.args.filled _
    c.read.result (omega arith) c.read.ensures.pulls

stays : (r : Pulled) (before after : ℕ) → ((r ≡ Failed → ⊥) → after ≡ before) → Stays r before after
stays (Got n) before after same = same (λ e. absurd cc)
stays End before after same = same (λ e. absurd cc)
stays Failed before after same = tt

pub returns-clause-steady : goal.returns-clause-steady
returns-clause-steady g c = stays c.read.result (g.S.Source.faults c.args.source.now) (g.S.Source.faults c.read.new.self) c.read.ensures.steady
