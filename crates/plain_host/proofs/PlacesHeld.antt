-- The row that a lone desk makes, from step to step.
use Rattle.std.proofs.Common.{◌≡◌, ◌≢◌, ℕ, zero, suc, ◌+◌, ◌-◌, ◌≤◌, Decides, List, [], ◌∷◌, ◌++◌, length, map, take, refl, sym, ap, ◌∙◌, subst, ⊎_elim, inl, inr, arith, append-nil, append_assoc}
use Rattle.std.specs.Prelude.{◌⊎◌}
use Rattle.std.specs.List.{AllByRecursion}
use Rattle.std.proofs.lemmas.List.{length-take-le, nil_from_length}
use mathlib.Core.List.{map-append}
use Rattle.rail_ids.specs.declared.RowNo.{RowNo}
use Rattle.leg_masks.specs.Interval.{Interval, item_word, pieces, PlacedSpan as Item}
use Rattle.leg_masks.proofs.HalfLegs.{pieces_some}
use Rattle.history_model.specs.declared.booking.BookedItem.{BookedItem}
use Rattle.history_model.specs.declared.entry.Step.{Step}
use Rattle.history_model.specs.declared.entry.Step.TheVariants.{Give}
use Rattle.history_model.specs.Allowed.{IsOpen}
use Rattle.history_model.specs.Apply.{item_taken, given, noted}
use Rattle.history_model.specs.Booking.{Booking, Layout, State, change, first_item_word}
use Rattle.history_model.specs.Laws.{IsWellFormed}
use Rattle.history_model.specs.Phase.{is_sealed}
use Rattle.history_model.specs.Lists.{Pairwise}
use Rattle.history_model.proofs.Keeping.{given_making}
use Rattle.claim_rule.specs.Rule.{DeskView, state_seen}
use Rattle.claim_rule.specs.Calls.{AddsStepsBy}
use Rattle.claim_rule.specs.Holds.{held}
use Rattle.claim_rule.proofs.Holding.{take_front}
use Rattle.hold_core.specs.declared.tries.Outcome.{Outcome}
use Rattle.hold_core.specs.declared.tries.Outcome.TheVariants.{Won, Refused, Contended}
use Rattle.hold_core.specs.declared.adds.Added.{Added}
use Rattle.hold_core.specs.Tries.{Part, Try, AreParts, IsTry, items_tried, part_steps, parts_steps, piece_won, try_steps, undone, won_steps}
use Rattle.hold_core.specs.Places.{Adds, items_won, tries_steps, won_by, gives_back}
use Rattle.lone_desk.specs.Lone.{IsAlone, after_steps}
use Rattle.lone_desk.proofs.Following.{shape_follows}
use Rattle.lone_desk.proofs.Looking.{after-append, after_part}
use Rattle.plain_host.specs.Plain.{Standing, is_free}
use Rattle.plain_host.specs.PlainOf.{row_of}
use Rattle.plain_host.specs.Settled.{IsStanding}
use Rattle.plain_host.specs.Found.{FindsFree}
use Rattle.plain_host.proofs.PlacesFree.{AreElsewhere, quiet_with, open_is_free}
use Rattle.plain_host.proofs.PlacesTries.{Tells, finds_none, finds_free}
use Rattle.plain_host.proofs.PlacesRows.{IsMaking, beside, change_last, standings_unsealed}

change_making : (standing : State) (row : RowNo) (items more : List BookedItem) (s : State) (f : Booking → Booking) → (m : IsMaking standing row items s)
    → row_of (f m.last) ≡ row_of m.last → (f m.last).items ≡ more → (f m.last).phase ≡ m.last.phase → (f m.last).owner ≡ m.last.owner
    → IsMaking standing row more (change s row.row f)
change_making standing row items more s f m same has phase owner = record {
  last = f m.last;
  row_is = same ∙ m.row_is;
  latest = m.latest;
  items_are = has;
  making = phase ∙ m.making;
  owner = owner ∙ m.owner;
  is = ap (λ (t : State). change t row.row f) m.is ∙ change_last standing m.last row f m.row_is m.latest;
}

-- ---- the parts of a candidate

-- the items of the parts that are won
abbrev parts_won : ℕ → List Part → List Item
parts_won place [] = []
parts_won place (t ∷ ts) = piece_won place t.piece t.outcome ++ parts_won place ts

-- an item more in the row, by its take and its note
piece_making : (standing : State) (row : RowNo) (desk k place : ℕ) (piece : Interval) (o : Outcome) (items : List BookedItem) (s : State) → IsMaking standing row items s
    → IsMaking standing row (items ++ map held (piece_won place piece o)) (after_steps s desk (won_steps row.row k place piece o))
piece_making standing row desk k place piece Won items s m =
    let more = items ++ held (record { place = place; span = piece }) ∷ [] in
    let took = change_making standing row items more s (item_taken place piece) m refl
    (ap (λ (is : List BookedItem). is ++ held (record { place = place; span = piece }) ∷ []) m.items_are) refl refl in
    change_making standing row more more (change s row.row (item_taken place piece)) (noted (first_item_word + k) (item_word place piece)) took refl took.items_are refl refl
piece_making standing row desk k place piece Refused items s m = subst (λ (is : List BookedItem). IsMaking standing row is s) (sym (append-nil items)) m
piece_making standing row desk k place piece Contended items s m = subst (λ (is : List BookedItem). IsMaking standing row is s) (sym (append-nil items)) m

-- the items of one list and then those of another
pub more_held : (items : List BookedItem) (xs ys : List Item) → (items ++ map held xs) ++ map held ys ≡ items ++ map held (xs ++ ys)
more_held items xs ys = append_assoc items (map held xs) (map held ys) ∙ ap (λ (is : List BookedItem). items ++ is) (sym (map-append held xs ys))

parts_making : (standing : State) (row : RowNo) (desk k place : ℕ) (ts : List Part) (items : List BookedItem) (s : State) → IsMaking standing row items s
    → IsMaking standing row (items ++ map held (parts_won place ts)) (after_steps s desk (parts_steps row.row k place ts))
parts_making standing row desk k place [] items s m = subst (λ (is : List BookedItem). IsMaking standing row is s) (sym (append-nil items)) m
parts_making standing row desk k place (t ∷ ts) items s m =
    let part = part_steps row.row k place t in
    let rest = parts_steps row.row (k + 1) place ts in
    let mine = piece_won place t.piece t.outcome in
    let mid = after_steps s desk part in
    let one : IsMaking standing row (items ++ map held mine) mid =
    subst (IsMaking standing row (items ++ map held mine)) (sym (after_part s desk row.row k place t)) (piece_making standing row desk k place t.piece t.outcome items s m) in
    let all = parts_making standing row desk (k + 1) place ts (items ++ map held mine) mid one in
    subst (λ (is : List BookedItem). IsMaking standing row is (after_steps s desk (part ++ rest))) (more_held items mine (parts_won place ts))
    (subst (IsMaking standing row ((items ++ map held mine) ++ map held (parts_won place ts))) (sym (after-append s desk part rest)) all)

none_won : (place : ℕ) (piece : Interval) (o : Outcome) → o ≢ Won → piece_won place piece o ≡ []
none_won place piece Won lost = absurd (lost refl)
none_won place piece Refused lost = refl
none_won place piece Contended lost = refl

-- where all parts are won, they have an item for each piece
all_won : (place : ℕ) (ps : List Interval) (ts : List Part) → AreParts ps ts Won → parts_won place ts ≡ map (λ (piece : Interval). record { place = place; span = piece }) ps
all_won place [] [] are = refl
all_won place [] (t ∷ ts) are = absurd are
all_won place (p ∷ ps) [] are = absurd are
all_won place (p ∷ ps) (t ∷ ts) (is, part, inl (won, rest)) =
    ap (λ (o : Outcome). piece_won place t.piece o ++ parts_won place ts) won
    ∙ (ap (λ (q : Interval). record { place = place; span = q } ∷ parts_won place ts) is ∙ ap (λ (l : List Item). record { place = place; span = p } ∷ l) (all_won place ps ts rest))
all_won place (p ∷ ps) (t ∷ ts) (is, part, inr (lost, none, same)) = absurd (lost (sym same))

-- of one or two pieces that aren't all won: one part alone, without an item, or two with that of the first
abbrev IsLost : ℕ → List Part → Type 0
IsLost place ts =
    ((t : Part) × (ts ≡ t ∷ []) × (parts_won place ts ≡ []))
    ⊎ ((t : Part) × (u : Part) × (i : Item) × (ts ≡ t ∷ u ∷ []) × (parts_won place ts ≡ i ∷ []))

is_lost : (place : ℕ) (ps : List Interval) (ts : List Part) (o : Outcome) → length ps ≤ 2 → AreParts ps ts o → o ≢ Won → IsLost place ts
is_lost place [] [] o few are lost = absurd (lost are)
is_lost place [] (t ∷ ts) o few are lost = absurd are
is_lost place (p ∷ ps) [] o few are lost = absurd are
is_lost place (p ∷ ps) (t ∷ ts) o few (is, part, inr (here, none, same)) lost =
    inl (t, ap (λ (l : List Part). t ∷ l) none, ap (λ (l : List Item). l ++ parts_won place ts) (none_won place t.piece t.outcome here) ∙ ap (parts_won place) none)
is_lost place (p ∷ []) (t ∷ []) o few (is, part, inl (won, rest)) lost = absurd (lost rest)
is_lost place (p ∷ []) (t ∷ u ∷ us) o few (is, part, inl (won, rest)) lost = absurd rest
is_lost place (p ∷ q ∷ ps) (t ∷ []) o few (is, part, inl (won, rest)) lost = absurd rest
is_lost place (p ∷ q ∷ []) (t ∷ u ∷ us) o few (is, part, inl (won, (same, second, inl (both, last)))) lost = absurd (more us last)
  where
    more : (us : List Part) → AreParts [] us o → ⊥
    more [] e = lost e
    more (x ∷ xs) never = never
is_lost place (p ∷ q ∷ []) (t ∷ u ∷ us) o few (is, part, inl (won, (same, second, inr (here, none, ends)))) lost =
    inr (
      t,
      u,
      record { place = place; span = t.piece },
      ap (λ (l : List Part). t ∷ u ∷ l) none,
      ap (λ (x : Outcome). piece_won place t.piece x ++ (piece_won place u.piece u.outcome ++ parts_won place us)) won
          ∙ ap (λ (l : List Item). record { place = place; span = t.piece } ∷ l)
          (ap (λ (l : List Item). l ++ parts_won place us) (none_won place u.piece u.outcome here) ∙ ap (parts_won place) none),
    )
is_lost place (p ∷ q ∷ r ∷ ps) ts o few are lost = absurd (omega (arith, few))

-- ---- gives

-- the last item given back
give_making : (standing : State) (row : RowNo) (n : ℕ) (items : List BookedItem) (s : State) → IsMaking standing row items s
    → IsMaking standing row (take (length items - 1) items) (change s row.row (given n))
give_making standing row n items s m =
    let gave = given_making n m.last m.making in
    change_making standing row items (take (length items - 1) items) s (given n) m
    (ap row_of gave)
    (ap (λ (b : Booking). b.items) gave ∙ ap (λ (is : List BookedItem). take (length is - 1) is) m.items_are)
    (ap (λ (b : Booking). b.phase) gave) (ap (λ (b : Booking). b.owner) gave)

pub gives_making : (standing : State) (row : RowNo) (desk n : ℕ) (items : List BookedItem) (s : State) → length items ≡ n → IsMaking standing row items s
    → IsMaking standing row [] (after_steps s desk (gives_back row.row n))
gives_making standing row desk zero items s many m = subst (λ (is : List BookedItem). IsMaking standing row is s) (nil_from_length items many) m
gives_making standing row desk (suc n) items s many m =
    gives_making standing row desk n (take (length items - 1) items) (change s row.row (given n))
    (omega (arith, many, length-take-le (length items - 1) items (omega (arith, many)))) (give_making standing row n items s m)

-- ---- tries

-- a candidate that isn't won leaves the row as it was
lost_making : (standing : State) (row : RowNo) (desk k place : ℕ) (ts : List Part) (o : Outcome) (items : List BookedItem) (s : State) → o ≢ Won → IsLost place ts
    → IsMaking standing row (items ++ map held (parts_won place ts)) s → IsMaking standing row items (after_steps s desk (undone row.row k o ts))
lost_making standing row desk k place ts o items s lost (inl (t, is, none)) m =
    subst (λ (l : List Part). IsMaking standing row items (after_steps s desk (undone row.row k o l))) (sym is)
    (subst (λ (steps : List Step). IsMaking standing row items (after_steps s desk steps)) (sym (undone_none o))
    (subst (λ (l : List BookedItem). IsMaking standing row l s) (ap (λ (l : List Item). items ++ map held l) none ∙ append-nil items) m))
  where
    undone_none : (o : Outcome) → undone row.row k o (t ∷ []) ≡ []
    undone_none Won = refl
    undone_none Refused = refl
    undone_none Contended = refl
lost_making standing row desk k place ts o items s lost (inr (t, u, i, is, one)) m =
    subst (λ (l : List Part). IsMaking standing row items (after_steps s desk (undone row.row k o l))) (sym is)
    (subst (λ (steps : List Step). IsMaking standing row items (after_steps s desk steps)) (sym (undone_first o lost))
    (subst (λ (l : List BookedItem). IsMaking standing row l (change s row.row (given k))) (take_front items (held i))
    (give_making standing row k (items ++ held i ∷ []) s (subst (λ (l : List BookedItem). IsMaking standing row l s) (ap (λ (l : List Item). items ++ map held l) one) m))))
  where
    undone_first : (o : Outcome) → o ≢ Won → undone row.row k o (t ∷ u ∷ []) ≡ Give row.row k ∷ []
    undone_first Won lost = absurd (lost refl)
    undone_first Refused lost = refl
    undone_first Contended lost = refl

-- a try leaves the row with what it won
try_making : (standing : State) (row : RowNo) (desk k : ℕ) (span : Interval) (t : Try) (items : List BookedItem) (s : State) → IsTry span t → IsMaking standing row items s
    → IsMaking standing row (items ++ map held (won_by span t)) (after_steps s desk (try_steps row.row k t))
try_making standing row desk k span t items s is m =
    let parts = parts_steps row.row k t.place t.parts in
    let back = undone row.row k t.outcome t.parts in
    let mid = parts_making standing row desk k t.place t.parts items s m in
    subst (IsMaking standing row (items ++ map held (won_by span t))) (sym (after-append s desk parts back)) (by t.outcome refl mid)
  where
    now : State
    now = after_steps s desk (parts_steps row.row k t.place t.parts)

    Leaves : Outcome → Type 0
    Leaves o = IsMaking standing row (items ++ map held (items_tried t.place span o)) (after_steps now desk (undone row.row k o t.parts))

    lost : (o : Outcome) → t.outcome ≡ o → o ≢ Won → IsMaking standing row (items ++ map held (parts_won t.place t.parts)) now
        → IsMaking standing row items (after_steps now desk (undone row.row k o t.parts))
    lost o e other mid = lost_making standing row desk k t.place t.parts o items now other
        (is_lost t.place (pieces span) t.parts o (pieces_some span).1 (subst (AreParts (pieces span) t.parts) e is) other) mid

    by : (o : Outcome) → t.outcome ≡ o → IsMaking standing row (items ++ map held (parts_won t.place t.parts)) now → Leaves t.outcome
    by Won e mid =
        subst Leaves (sym e)
        (subst (λ (l : List Item). IsMaking standing row (items ++ map held l) now) (all_won t.place (pieces span) t.parts (subst (AreParts (pieces span) t.parts) e is)) mid)
    by Refused e mid = subst Leaves (sym e) (subst (λ (l : List BookedItem). IsMaking standing row l (after_steps now desk (undone row.row k Refused t.parts))) (sym (append-nil items)) (lost Refused e (λ w. cc) mid))
    by Contended e mid = subst Leaves (sym e) (subst (λ (l : List BookedItem). IsMaking standing row l (after_steps now desk (undone row.row k Contended t.parts))) (sym (append-nil items)) (lost Contended e (λ w. cc) mid))

tries_making : (standing : State) (row : RowNo) (desk k : ℕ) (span : Interval) (ts : List Try) (items : List BookedItem) (s : State) → AllByRecursion (IsTry span) ts → IsMaking standing row items s
    → IsMaking standing row (items ++ map held (items_won span ts)) (after_steps s desk (tries_steps row.row k span ts))
tries_making standing row desk k span [] items s each m = subst (λ (is : List BookedItem). IsMaking standing row is s) (sym (append-nil items)) m
tries_making standing row desk k span (t ∷ ts) items s each m =
    let first = try_steps row.row k t in
    let rest = tries_steps row.row (k + length (won_by span t)) span ts in
    let one = try_making standing row desk k span t items s each.0 m in
    let all = tries_making standing row desk (k + length (won_by span t)) span ts (items ++ map held (won_by span t)) (after_steps s desk first) each.1 one in
    subst (λ (is : List BookedItem). IsMaking standing row is (after_steps s desk (first ++ rest))) (more_held items (won_by span t) (items_won span ts))
    (subst (IsMaking standing row ((items ++ map held (won_by span t)) ++ map held (items_won span ts))) (sym (after-append s desk first rest)) all)

-- ---- adding places

-- the row has the items won too
pub adds_making : (standing : State) (row : RowNo) (desk k : ℕ) (span : Interval) (count : ℕ) (candidates : List ℕ) (answer : Added) (won : List Item) (es : List Step) (items : List BookedItem) (s : State)
    → Adds row.row k span count candidates answer won es → IsMaking standing row items s → IsMaking standing row (items ++ map held won) (after_steps s desk es)
adds_making standing row desk k span count candidates answer won es items s adds m =
    let Has = λ (l : List Item) (steps : List Step). IsMaking standing row (items ++ map held l) (after_steps s desk steps) in
    subst (Has won) (sym adds.steps)
    (subst (λ (l : List Item). Has l (tries_steps row.row k span adds.tries)) (sym adds.items) (tries_making standing row desk k span adds.tries items s adds.each m))

pub tells_free : (g : Layout) (standing : State) (row : RowNo) (items : List BookedItem) (s : State) (span : Interval) (places : List ℕ) → AllByRecursion IsStanding standing
    → IsWellFormed g s → IsMaking standing row items s → AllByRecursion (λ p. AreElsewhere p items) places → Tells (is_free (beside standing row) span) s span places
tells_free g standing row items s span [] each well m other = tt
tells_free g standing row items s span (p ∷ ps) each well m other =
    let quiet = quiet_with p standing m.last each (ap is_sealed m.making) (subst (AreElsewhere p) (sym m.items_are) other.0) in
    let says = open_is_free g (standing ++ m.last ∷ []) p span (subst (IsWellFormed g) m.is well) quiet in
    let left = standings_unsealed standing m.last row m.row_is m.latest (ap is_sealed m.making) in (
      subst (λ (t : State). Decides (is_free (beside standing row) span p) (IsOpen t p span)) (sym m.is)
          (subst (λ (bs : List Standing). Decides (is_free bs span p) (IsOpen (standing ++ m.last ∷ []) p span)) left says),
      tells_free g standing row items s span ps each well m other.1,
    )

-- What adding places to the row finds and leaves, where the items before are at no candidate.
pub record HasAdded (standing : State) (row : RowNo) (items : List Item) (span : Interval) (count : ℕ) (candidates : List ℕ) (answer : Added) (won : List Item) (new : DeskView) : Type 0 where
  pub alone : IsAlone new
  pub making : IsMaking standing row (map held (items ++ won)) (state_seen new)
  pub found : FindsFree (is_free (beside standing row) span) span count candidates answer won

-- the span has no leg past the greatest, where there are places at all
abbrev pub FitsAt : {X : Type 0} → Interval → List X → Type 0
FitsAt span places = (places ≡ []) ⊎ (span.to ≤ 126)

pub has_added : (standing : State) (row : RowNo) (items : List Item) (span : Interval) (count : ℕ) (candidates : List ℕ) (answer : Added) (won : List Item) (old new : DeskView)
    → FitsAt span candidates → Pairwise (λ p q. p ≢ q) candidates → AllByRecursion (λ p. AreElsewhere p (map held items)) candidates → AllByRecursion IsStanding standing
    → IsAlone old → IsWellFormed old.layout (state_seen old) → IsMaking standing row (map held items) (state_seen old)
    → AddsStepsBy (Adds row.row (length items) span count candidates answer won) old new → HasAdded standing row items span count candidates answer won new
has_added standing row items span count candidates answer won old new fits apart other each alone well m (steps, adds, did) =
    let f = shape_follows old new steps alone did in
    let s = state_seen old in
    record {
      alone = f.alone;
      making = subst (IsMaking standing row (map held (items ++ won))) (sym f.state)
          (subst (λ (is : List BookedItem). IsMaking standing row is (after_steps s old.number steps)) (sym (map-append held items won))
          (adds_making standing row old.number (length items) span count candidates answer won steps (map held items) s adds m));
      found = ⊎_elim
          (λ (none : candidates ≡ []). subst (λ (cs : List ℕ). FindsFree (is_free (beside standing row) span) span count cs answer won) (sym none)
          (finds_none row.row (length items) count span (is_free (beside standing row) span) answer won steps
          (subst (λ (cs : List ℕ). Adds row.row (length items) span count cs answer won steps) none adds)))
          (λ (within : span.to ≤ 126). finds_free old.layout s old.number row.row (length items) count span candidates (is_free (beside standing row) span) answer won steps
          within apart (tells_free old.layout standing row (map held items) s span candidates each well m other) f.legal adds)
          fits;
    }
