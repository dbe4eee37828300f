-- The life of a booking over a legal history.
use Rattle.std.proofs.Common.{◌≡◌, ℕ, ℤ, ◌⊎◌, inl, inr, ⊎_elim, ◌+◌, ◌-◌, ◌<◌, Bool, true, false, List, [], ◌∷◌, ◌++◌, length, map, Option, Some, None, IfSome, IfNone, refl, sym, ap, ap₂, ◌∙◌, subst, append_assoc, append-nil, arith}
use Rattle.std.specs.List.{AllByRecursion}
use Rattle.std.proofs.lemmas.Bool.{cases_eq}
use Rattle.history_model.specs.declared.entry.Entry.{Entry}
use Rattle.history_model.specs.declared.entry.Step.{Step}
use Rattle.history_model.specs.declared.entry.Step.TheVariants.{Look, Take, Give, Start, SawRow, Note, Seal, Turn, LostTurn, Close, Met}
use Rattle.history_model.specs.declared.phase.Phase.{Phase}
use Rattle.history_model.specs.declared.phase.Phase.TheVariants.{Free, Making, Prebooked, Confirmed, Fulfilled, Ending, Ended}
use Rattle.history_model.specs.declared.phase.EndKind.{EndKind}
use Rattle.history_model.specs.declared.booking.BookedItem.{BookedItem}
use Rattle.history_model.specs.declared.booking.End.{End}
use Rattle.history_model.specs.Phase.{is_live, is_sealed, is_turn}
use Rattle.history_model.specs.Booking.{Booking, Layout, State, key_of, stands_as, booking_at, next_generation, present, change, limit_of, most_items}
use Rattle.history_model.specs.Allowed.{IsAllowed, IsAllowedStep, MayStart, MaySealAs, IsMadeBy, IsEndedBy, IsBeingEndedBy, IsMakerWord, IsEndWord, IsLeft, IsSealable, TurnsWith, AllGiven, HasEndWords}
use Rattle.history_model.specs.Apply.{apply_step, words_of_row, started, item_taken, given, noted, in_phase, turned, closed, ended_phase}
use Rattle.history_model.specs.History.{IsLegal, IsLegalFrom, state_of, entry}
use Rattle.history_model.specs.Laws.{MayBecome, IsOpening, IsSound, is_owners, is_turned_to_end, unmarked}
use Rattle.history_model.specs.Life.{all_given_back, IsPresentAt, IsSealedBy, HasEnded}
use Rattle.history_model.specs.WholeEnds.{end_at}
use Rattle.history_model.proofs.ListLemmas.{All-found}
use Rattle.history_model.proofs.Keeping.{found, turned-key, turned-items, turn_from}
use Rattle.history_model.proofs.Going.{GoesOn-step, GoesOn-Start, turned-phase}
use Rattle.history_model.proofs.Generations.{present_latest, present_key, key-changed, key-changed_other, key-started}
use Rattle.history_model.proofs.Legal.{WellFormed-history}
use Rattle.history_model.proofs.Seen.{state_of-append}

-- how the booking of the row came to be sealed
pub record WasSealed (g : Layout) (h : List Entry) (row j : ℕ) (c : Booking) : Type 0 where
  pub before : List Entry
  pub after : List Entry
  pub sealed : Booking
  pub sealing : IsSealedBy g row j before sealed
  pub is : h ≡ before ++ after
  pub items : map unmarked c.items ≡ map unmarked sealed.items

-- how it came to be ended
pub record WasTurned (g : Layout) (h : List Entry) (row j : ℕ) (kind : EndKind) (c : Booking) : Type 0 where
  pub before : List Entry
  pub between : List Entry
  pub after : List Entry
  pub ender : ℕ
  pub from : Phase
  pub sealed : Booking
  pub sealing : IsSealedBy g row j before sealed
  pub turning : IsPresentAt g (before ++ between) row j
  pub is : h ≡ (before ++ between) ++ entry ender (Turn row from (Ending kind) c.end.moment c.end.amount c.end.successor) ∷ after
  pub items : map unmarked c.items ≡ map unmarked sealed.items

pub record Life (g : Layout) (h : List Entry) (row j : ℕ) (c : Booking) : Type 0 where
  pub sealed : is_live c.phase ≡ true → WasSealed g h row j c
  pub turned : (kind : EndKind) → c.phase ≡ Ending kind → WasTurned g h row j kind c
  pub ended : (kind : EndKind) → c.phase ≡ Ended kind → (booking_at g.opening row j ≡ Some c) ⊎ WasTurned g h row j kind c

abbrev pub Lives : Layout → List Entry → ℕ → ℕ → Type 0
Lives g h row j = (c : Booking) → booking_at (state_of g h) row j ≡ Some c → Life g h row j c

some_same : (x y : Booking) → Some x ≡ Some y → x ≡ y
some_same x y e = cc

-- one more entry

longer : (h before after : List Entry) (e : Entry) → h ≡ before ++ after → h ++ e ∷ [] ≡ before ++ (after ++ e ∷ [])
longer h before after e is = ap (λ (l : List Entry). l ++ e ∷ []) is ∙ append_assoc before after (e ∷ [])

sealed_on : (g : Layout) (h : List Entry) (row j : ℕ) (b c : Booking) (e : Entry) → map unmarked c.items ≡ map unmarked b.items → WasSealed g h row j b → WasSealed g (h ++ e ∷ []) row j c
sealed_on g h row j b c e same w =
    record { before = w.before; after = w.after ++ e ∷ []; sealed = w.sealed; sealing = w.sealing; is = longer h w.before w.after e w.is; items = same ∙ w.items }

turned_on : (g : Layout) (h : List Entry) (row j : ℕ) (kind : EndKind) (b c : Booking) (e : Entry) → c.end ≡ b.end → map unmarked c.items ≡ map unmarked b.items → WasTurned g h row j kind b → WasTurned g (h ++ e ∷ []) row j kind c
turned_on g h row j kind b c e end same w =
    record {
      before = w.before;
      between = w.between;
      after = w.after ++ e ∷ [];
      ender = w.ender;
      from = w.from;
      sealed = w.sealed;
      sealing = w.sealing;
      turning = w.turning;
      is = subst (λ (x : End). h ++ e ∷ [] ≡ (w.before ++ w.between) ++ entry w.ender (Turn row w.from (Ending kind) x.moment x.amount x.successor) ∷ (w.after ++ e ∷ [])) (sym end)
          (longer h (w.before ++ w.between) (entry w.ender (Turn row w.from (Ending kind) b.end.moment b.end.amount b.end.successor) ∷ w.after) e w.is);
      items = same ∙ w.items;
    }

life_same : (g : Layout) (h : List Entry) (row j : ℕ) (b : Booking) (e : Entry) → Life g h row j b → Life g (h ++ e ∷ []) row j b
life_same g h row j b e l =
    record {
      sealed = λ t. sealed_on g h row j b b e refl (l.sealed t);
      turned = λ k p. turned_on g h row j k b b e refl refl (l.turned k p);
      ended = λ k p. ⊎_elim (λ o. inl o) (λ w. inr (turned_on g h row j k b b e refl refl w)) (l.ended k p);
    }

-- phases

unlive : (p q : Phase) → p ≡ q → is_live q ≡ false → is_live p ≡ true → ⊥
unlive p q e f t = let no : false ≡ true = sym f ∙ (sym (ap is_live e) ∙ t) in cc

apart : (p q r : Phase) → p ≡ q → p ≡ r → (q ≡ r → ⊥) → ⊥
apart p q r e f differ = differ (sym e ∙ f)

ending_same : (k l : EndKind) → Ending k ≡ Ending l → k ≡ l
ending_same k l e = cc

ended_same : (k l : EndKind) → Ended k ≡ Ended l → k ≡ l
ended_same k l e = cc

-- a booking in the making
life_making : (g : Layout) (h : List Entry) (row j : ℕ) (c : Booking) → c.phase ≡ Making → Life g h row j c
life_making g h row j c m =
    record {
      sealed = λ t. absurd (unlive c.phase Making m refl t);
      turned = λ k p. absurd (apart c.phase Making (Ending k) m p (λ e. cc));
      ended = λ k p. absurd (apart c.phase Making (Ended k) m p (λ e. cc));
    }

-- a live booking
life_live : (g : Layout) (h : List Entry) (row j : ℕ) (c : Booking) → is_live c.phase ≡ true → WasSealed g h row j c → Life g h row j c
life_live g h row j c t w =
    record {
      sealed = λ _. w;
      turned = λ k p. absurd (unlive c.phase (Ending k) p refl t);
      ended = λ k p. absurd (unlive c.phase (Ended k) p refl t);
    }

-- a booking that ends
life_ending : (g : Layout) (h : List Entry) (row j : ℕ) (kind : EndKind) (c : Booking) → c.phase ≡ Ending kind → WasTurned g h row j kind c → Life g h row j c
life_ending g h row j kind c m w =
    record {
      sealed = λ t. absurd (unlive c.phase (Ending kind) m refl t);
      turned = λ k p. subst (λ (x : EndKind). WasTurned g h row j x c) (ending_same kind k (sym m ∙ p)) w;
      ended = λ k p. absurd (apart c.phase (Ending kind) (Ended k) m p (λ e. cc));
    }

-- one that has ended
life_ended : (g : Layout) (h : List Entry) (row j : ℕ) (kind : EndKind) (c : Booking) → c.phase ≡ Ended kind → WasTurned g h row j kind c → Life g h row j c
life_ended g h row j kind c m w =
    record {
      sealed = λ t. absurd (unlive c.phase (Ended kind) m refl t);
      turned = λ k p. absurd (apart c.phase (Ended kind) (Ending k) m p (λ e. cc));
      ended = λ k p. inr (subst (λ (x : EndKind). WasTurned g h row j x c) (ended_same kind k (sym m ∙ p)) w);
    }

-- the steps that change a row's booking

keeps_items : (desk : ℕ) (b c : Booking) → is_sealed b.phase ≡ true → MayBecome desk b c → map unmarked c.items ≡ map unmarked b.items
keeps_items desk b c t m = (m.sealed t).items

ending_sealed : (p : Phase) (k : EndKind) → p ≡ Ending k → is_sealed p ≡ true
ending_sealed p k e = ap is_sealed e

-- what a change of the row's booking makes of it, by the law on each step
changed_to : (g : Layout) (s : State) (d : ℕ) (st : Step) (x : ℕ) (f : Booking → Booking) (b : Booking) → ((y : Booking) → key_of (f y) ≡ key_of y) → IsAllowedStep g s d st → present s x ≡ Some b → apply_step s d st ≡ change s x f → MayBecome d b (f b)
changed_to g s d st x f b keeps a at is =
    let n = found (booking_at (apply_step s d st) x b.generation) (MayBecome d b) (rw (present_key s x b at) at ((GoesOn-step g s d st a).bookings x b.generation)) in
    subst (MayBecome d b) (some_same n.0 (f b) (sym n.1 ∙ (ap (λ (t : State). booking_at t x b.generation) is ∙ key-changed s x f b keeps at))) n.2

-- a step that changes the present booking of row x: another stays as it was
on_change : (g : Layout) (h : List Entry) (row j x : ℕ) (f : Booking → Booking) (e : Entry) (b c : Booking) → ((y : Booking) → key_of (f y) ≡ key_of y) → Lives g h row j → present (state_of g h) x ≡ Some b
    → (Life g h x b.generation b → Life g (h ++ e ∷ []) x b.generation (f b)) → booking_at (change (state_of g h) x f) row j ≡ Some c → Life g (h ++ e ∷ []) row j c
on_change g h row j x f e b c keeps k at here to = ⊎_elim
    (λ (same : row ≡ x). ⊎_elim
    (λ (its : j ≡ b.generation).
    let is : f b ≡ c = some_same (f b) c (sym (key-changed (state_of g h) x f b keeps at) ∙ subst (λ (k : ℕ × ℕ). booking_at (change (state_of g h) x f) k.0 k.1 ≡ Some c) (λ i. (same i, its i)) to) in
    let stood : booking_at (state_of g h) row j ≡ Some b = subst (λ (z : ℕ × ℕ). booking_at (state_of g h) z.0 z.1 ≡ Some b) (λ i. (sym same i, sym its i)) (present_key (state_of g h) x b at) in
    let before : Life g h x b.generation b = subst (λ (z : ℕ × ℕ). Life g h z.0 z.1 b) (λ i. (same i, its i)) (k b stood) in
    subst (λ (z : ℕ × ℕ). Life g (h ++ e ∷ []) z.0 z.1 c) (λ i. (sym same i, sym its i)) (subst (λ (y : Booking). Life g (h ++ e ∷ []) x b.generation y) is (here before)))
    (λ (other : j ≡ b.generation → ⊥). elsewhere (λ _ top. other (top ∙ sym latest)))
    (cases_eq j b.generation))
    (λ (other : row ≡ x → ⊥). elsewhere (λ r _. other r))
    (cases_eq row x)
  where
    latest : b.generation ≡ next_generation (state_of g h) x - 1
    latest = let l = (present_latest (state_of g h) x b at).1 in omega (arith, l)

    elsewhere : (row ≡ x → j ≡ next_generation (state_of g h) x - 1 → ⊥) → Life g (h ++ e ∷ []) row j c
    elsewhere other = life_same g h row j c e (k c (sym (key-changed_other (state_of g h) x row j f keeps other) ∙ to))

-- a give or a note by the owner of an ending
ending_on : (g : Layout) (h : List Entry) (x j d : ℕ) (e : Entry) (k : EndKind) (b c : Booking) → b.phase ≡ Ending k → c.phase ≡ b.phase → MayBecome d b c → Life g h x j b → Life g (h ++ e ∷ []) x j c
ending_on g h x j d e k b c ending same m l =
    life_ending g (h ++ e ∷ []) x j k c (same ∙ ending)
    (turned_on g h x j k b c e (m.ended (ap is_turned_to_end ending)) (keeps_items d b c (ending_sealed b.phase k ending) m) (l.turned k ending))

sealed_live : (p : Phase) → (p ≡ Prebooked) ⊎ (p ≡ Confirmed) → is_live p ≡ true
sealed_live p to = ⊎_elim (λ e. ap is_live e) (λ e. ap is_live e) to

live_sealed : (p : Phase) → is_live p ≡ true → is_sealed p ≡ true
live_sealed Prebooked t = refl
live_sealed Confirmed t = refl
live_sealed Fulfilled t = refl
live_sealed Free t = absurd cc
live_sealed Making t = absurd cc
live_sealed (Ending k) t = refl
live_sealed (Ended k) t = refl

-- the seal itself
sealing_now : (g : Layout) (h : List Entry) (x d : ℕ) (phase : Phase) (b : Booking) → present (state_of g h) x ≡ Some b → (phase ≡ Prebooked) ⊎ (phase ≡ Confirmed) → Life g (h ++ entry d (Seal x phase) ∷ []) x b.generation (in_phase phase b)
sealing_now g h x d phase b at to =
    let e : Entry = entry d (Seal x phase) in
    let live : is_live phase ≡ true = sealed_live phase to in
    life_live g (h ++ e ∷ []) x b.generation (in_phase phase b) live
    (record {
      before = h ++ e ∷ [];
      after = [];
      sealed = in_phase phase b;
      sealing = record {
        found = ap (λ (t : State). booking_at t x b.generation) (state_of-append g h (e ∷ [])) ∙ key-changed (state_of g h) x (in_phase phase) b (λ _. refl) at;
        sealed = live_sealed phase live;
        last = inr (h, d, phase, sym (present_latest (state_of g h) x b at).1, refl);
      };
      is = sym (append-nil (h ++ e ∷ []));
      items = refl;
    })

turn_to : (from to : Phase) → is_turn from to ≡ true → (is_live to ≡ true) ⊎ ((k : EndKind) × (to ≡ Ending k))
turn_to from Prebooked t = inl refl
turn_to from Confirmed t = inl refl
turn_to from Fulfilled t = inl refl
turn_to from (Ending k) t = inr (k, refl)
turn_to Prebooked Free t = absurd cc
turn_to Prebooked Making t = absurd cc
turn_to Prebooked (Ended k) t = absurd cc
turn_to Confirmed Free t = absurd cc
turn_to Confirmed Making t = absurd cc
turn_to Confirmed (Ended k) t = absurd cc
turn_to Fulfilled Free t = absurd cc
turn_to Fulfilled Making t = absurd cc
turn_to Fulfilled (Ended k) t = absurd cc
turn_to Free to t = absurd cc
turn_to Making to t = absurd cc
turn_to (Ending l) to t = absurd cc
turn_to (Ended l) to t = absurd cc

-- a turn to an ending
turning_now : (g : Layout) (h : List Entry) (x d : ℕ) (from : Phase) (k : EndKind) (m : ℕ) (a : ℤ) (y : ℕ) (b : Booking) → present (state_of g h) x ≡ Some b → is_live b.phase ≡ true → Life g h x b.generation b
    → Life g (h ++ entry d (Turn x from (Ending k) m a y) ∷ []) x b.generation (turned d (Ending k) (end_at m a y) b)
turning_now g h x d from k m a y b at live l =
    let e : Entry = entry d (Turn x from (Ending k) m a y) in
    let w = l.sealed live in
    life_ending g (h ++ e ∷ []) x b.generation k (turned d (Ending k) (end_at m a y) b) refl
    (record {
      before = w.before;
      between = w.after;
      after = [];
      ender = d;
      from = from;
      sealed = w.sealed;
      sealing = w.sealing;
      turning = subst (λ (es : List Entry). IsPresentAt g es x b.generation) w.is (sym (present_latest (state_of g h) x b at).1);
      is = ap (λ (es : List Entry). es ++ e ∷ []) w.is;
      items = w.items;
    })

turn_on : (g : Layout) (h : List Entry) (x d : ℕ) (from to : Phase) (m : ℕ) (a : ℤ) (y : ℕ) (b : Booking) → present (state_of g h) x ≡ Some b → b.phase ≡ from → is_turn from to ≡ true → Life g h x b.generation b
    → Life g (h ++ entry d (Turn x from to m a y) ∷ []) x b.generation (turned d to (end_at m a y) b)
turn_on g h x d from to m a y b here at t l =
    let end : End = end_at m a y in
    let live : is_live b.phase ≡ true = ap is_live at ∙ turn_from from to t in
    ⊎_elim
    (λ (on : is_live to ≡ true). life_live g (h ++ entry d (Turn x from to m a y) ∷ []) x b.generation (turned d to end b) (ap is_live (turned-phase d to end b) ∙ on)
    (sealed_on g h x b.generation b (turned d to end b) (entry d (Turn x from to m a y)) (ap (map unmarked) (turned-items d to end b)) (l.sealed live)))
    (λ (ends : (k : EndKind) × (to ≡ Ending k)). subst (λ (p : Phase). Life g (h ++ entry d (Turn x from p m a y) ∷ []) x b.generation (turned d p end b)) (sym ends.1) (turning_now g h x d from ends.0 m a y b here live l))
    (turn_to from to t)

-- a start
start_on : (g : Layout) (h : List Entry) (row j x n d : ℕ) (c : Booking) → MayStart (state_of g h) x n → Lives g h row j → booking_at (state_of g h ++ started x n d (words_of_row (state_of g h) x) ∷ []) row j ≡ Some c → Life g (h ++ entry d (Start x n) ∷ []) row j c
start_on g h row j x n d c may k to = case (booking_at (state_of g h) row j) refl
  where
    new : Booking
    new = started x n d (words_of_row (state_of g h) x)

    case : (o : Option Booking) → booking_at (state_of g h) row j ≡ o → Life g (h ++ entry d (Start x n) ∷ []) row j c
    case None e =
        let on : IfNone (booking_at (state_of g h) row j) (IfSome (booking_at (state_of g h ++ new ∷ []) row j) (λ z. (z.phase ≡ Making) × (z.owner ≡ d))) = (GoesOn-Start d (state_of g h) x n (words_of_row (state_of g h) x) may).starts row j in
        let made : (c.phase ≡ Making) × (c.owner ≡ d) = rw (e, to) at on in
        life_making g (h ++ entry d (Start x n) ∷ []) row j c made.0
    case (Some b) e =
        let is : b ≡ c = some_same b c (sym (key-started (state_of g h) new row j b e) ∙ to) in
        subst (λ (z : Booking). Life g (h ++ entry d (Start x n) ∷ []) row j z) is (life_same g h row j b (entry d (Start x n)) (k b e))

-- each step
life_step : (g : Layout) (h : List Entry) (row j d : ℕ) (st : Step) → IsAllowedStep g (state_of g h) d st → Lives g h row j → (c : Booking) → booking_at (apply_step (state_of g h) d st) row j ≡ Some c → Life g (h ++ entry d st ∷ []) row j c
life_step g h row j d (Look p half n) may k c to = life_same g h row j c (entry d (Look p half n)) (k c to)
life_step g h row j d (SawRow x w n) may k c to = life_same g h row j c (entry d (SawRow x w n)) (k c to)
life_step g h row j d (LostTurn x wanted shown) may k c to = life_same g h row j c (entry d (LostTurn x wanted shown)) (k c to)
life_step g h row j d Met may k c to = life_same g h row j c (entry d Met) (k c to)
life_step g h row j d (Start x n) may k c to = start_on g h row j x n d c may.1 k to
life_step g h row j d (Take x p span) may k c to =
    let b = found (present (state_of g h) x) (λ b. IsMadeBy d b × (length b.items < most_items)) may.2 in
    on_change g h row j x (item_taken p span) (entry d (Take x p span)) b.0 c (λ _. refl) k b.1 (λ _. life_making g (h ++ entry d (Take x p span) ∷ []) x b.0.generation (item_taken p span b.0) b.2.0.0) to
life_step g h row j d (Give x i) may k c to =
    let b = found (present (state_of g h) x) (λ b. (IsMadeBy d b × (i + 1 ≡ length b.items)) ⊎ (IsBeingEndedBy d b × IsLeft b i)) may.1 in
    on_change g h row j x (given i) (entry d (Give x i)) b.0 c (λ _. refl) k b.1
    (λ l. ⊎_elim
    (λ making. life_making g (h ++ entry d (Give x i) ∷ []) x b.0.generation (given i b.0) making.0.0)
    (λ ending. ending_on g h x b.0.generation d (entry d (Give x i)) ending.0.0 b.0 (given i b.0) ending.0.1.0 refl (changed_to g (state_of g h) d (Give x i) x (given i) b.0 (λ _. refl) may b.1 refl) l)
    b.2) to
life_step g h row j d (Note x w n) may k c to =
    let b = found (present (state_of g h) x) (λ b. (IsMadeBy d b × IsMakerWord w) ⊎ (IsBeingEndedBy d b × IsEndWord w)) may.1 in
    on_change g h row j x (noted w n) (entry d (Note x w n)) b.0 c (λ _. refl) k b.1
    (λ l. ⊎_elim
    (λ making. life_making g (h ++ entry d (Note x w n) ∷ []) x b.0.generation (noted w n b.0) making.0.0)
    (λ ending. ending_on g h x b.0.generation d (entry d (Note x w n)) ending.0.0 b.0 (noted w n b.0) ending.0.1.0 refl (changed_to g (state_of g h) d (Note x w n) x (noted w n) b.0 (λ _. refl) may b.1 refl) l)
    b.2) to
life_step g h row j d (Seal x phase) may k c to =
    let b = found (present (state_of g h) x) (λ b. IsMadeBy d b × IsSealable b × MaySealAs (state_of g h) d b phase) may.1 in
    on_change g h row j x (in_phase phase) (entry d (Seal x phase)) b.0 c (λ _. refl) k b.1 (λ _. sealing_now g h x d phase b.0 b.1 (⊎_elim (λ p. inl p) (λ q. inr q.0) b.2.2)) to
life_step g h row j d (Turn x from to_phase m a y) may k c to =
    let end : End = end_at m a y in
    let b = found (present (state_of g h) x) (λ b. (b.phase ≡ from) × TurnsWith (state_of g h) d (limit_of b) to_phase end) may.3 in
    on_change g h row j x (turned d to_phase end) (entry d (Turn x from to_phase m a y)) b.0 c (turned-key d to_phase end) k b.1 (λ l. turn_on g h x d from to_phase m a y b.0 b.1 b.2.0 may.1 l) to
life_step g h row j d (Close x) may k c to =
    let b = found (present (state_of g h) x) (λ b. (kind : EndKind) × IsEndedBy d kind b × AllGiven b × HasEndWords kind b) may.1 in
    on_change g h row j x closed (entry d (Close x)) b.0 c (λ _. refl) k b.1
    (λ l. life_ended g (h ++ entry d (Close x) ∷ []) x b.0.generation b.2.0 (closed b.0) (ap ended_phase b.2.1.0) (turned_on g h x b.0.generation b.2.0 b.0 (closed b.0) (entry d (Close x)) refl refl (l.turned b.2.0 b.2.1.0))) to

-- whole histories

lives_step : (g : Layout) (h : List Entry) (e : Entry) (row j : ℕ) → IsAllowed g (state_of g h) e → Lives g h row j → Lives g (h ++ e ∷ []) row j
lives_step g h e row j may k c to =
    life_step g h row j e.desk e.step may k c (sym (ap (λ (t : State). booking_at t row j) (state_of-append g h (e ∷ []))) ∙ to)

lives_on : (g : Layout) (h rest : List Entry) (row j : ℕ) → IsLegalFrom g (state_of g h) rest → Lives g h row j → Lives g (h ++ rest) row j
lives_on g h [] row j l k = subst (λ (x : List Entry). Lives g x row j) (sym (append-nil h)) k
lives_on g h (e ∷ es) row j l k =
    subst (λ (x : List Entry). Lives g x row j) (append_assoc h (e ∷ []) es)
    (lives_on g (h ++ e ∷ []) es row j (subst (λ (s : State). IsLegalFrom g s es) (sym (state_of-append g h (e ∷ []))) l.1) (lives_step g h e row j l.0 k))

not_owned : (p : Phase) (k : EndKind) → is_owners p ≡ false → p ≡ Ending k → ⊥
not_owned p k e f = let no : true ≡ false = sym (ap is_owners f) ∙ e in cc

lives_opening : (g : Layout) (row j : ℕ) → IsOpening g g.opening → Lives g [] row j
lives_opening g row j o c at =
    let settled : is_owners c.phase ≡ false = All-found (λ (b : Booking). is_owners b.phase ≡ false) (stands_as row j) g.opening c at o.settled in
    record {
      sealed = λ t. record { before = []; after = []; sealed = c; sealing = record { found = at; sealed = live_sealed c.phase t; last = inl refl }; is = refl; items = refl };
      turned = λ k p. absurd (not_owned c.phase k settled p);
      ended = λ k p. inl at;
    }

-- items that are all given back are those of a list of the same items, each given back

head_same : (x y : BookedItem) (xs ys : List BookedItem) → x ∷ xs ≡ y ∷ ys → x ≡ y
head_same x y xs ys e = cc

tail_same : (x y : BookedItem) (xs ys : List BookedItem) → x ∷ xs ≡ y ∷ ys → xs ≡ ys
tail_same x y xs ys e = cc

all_back : (is js : List BookedItem) → AllByRecursion (λ i. i.given_back ≡ true) is → map unmarked is ≡ map unmarked js → is ≡ all_given_back js
all_back [] [] g e = refl
all_back [] (j ∷ js) g e = absurd cc
all_back (i ∷ is) [] g e = absurd cc
all_back (i ∷ is) (j ∷ js) g e =
    let back : i.given_back ≡ true = g.0 in
    let same : unmarked i ≡ unmarked j = head_same (unmarked i) (unmarked j) (map unmarked is) (map unmarked js) e in
    let first : i ≡ record j { given_back = true } = sym (ap (λ (t : Bool). record i { given_back = t }) (sym back)) ∙ ap (λ (x : BookedItem). record x { given_back = true }) same in
    ap₂ (λ (x : BookedItem) (xs : List BookedItem). x ∷ xs) first (all_back is js g.1 (tail_same (unmarked i) (unmarked j) (map unmarked is) (map unmarked js) e))

pub ended_law : (g : Layout) (history : List Entry) (row j : ℕ) (c : Booking) (kind : EndKind) → IsLegal g history → IsSound g c → booking_at (state_of g history) row j ≡ Some c → c.phase ≡ Ended kind → (booking_at g.opening row j ≡ Some c) ⊎ HasEnded g history row j kind c
ended_law g history row j c kind l sound at ended = ⊎_elim
    (λ o. inl o)
    (λ (w : WasTurned g history row j kind c). inr (record {
      before = w.before;
      between = w.between;
      after = w.after;
      ender = w.ender;
      from = w.from;
      sealed = w.sealed;
      sealing = w.sealing;
      turning = w.turning;
      history_is = w.is;
      items = all_back c.items w.sealed.items (sound.ended kind ended).0 w.items;
      amount = (sound.ended kind ended).1.amount;
    }))
    ((lives_on g [] history row j l.1 (lives_opening g row j l.0) c at).ended kind ended)

pub ended_all : (g : Layout) (history : List Entry) (row j : ℕ) → IsLegal g history → IfSome (booking_at (state_of g history) row j) (λ c. (kind : EndKind) → c.phase ≡ Ended kind → (booking_at g.opening row j ≡ Some c) ⊎ HasEnded g history row j kind c)
ended_all g history row j l = go (booking_at (state_of g history) row j) (λ c at kind ended. ended_law g history row j c kind l (sound c at) at ended)
  where
    sound : (c : Booking) → booking_at (state_of g history) row j ≡ Some c → IsSound g c
    sound c at = All-found (IsSound g) (stands_as row j) (state_of g history) c at (WellFormed-history g g.opening history l.0.well_formed l.1).each

    go : (o : Option Booking) → ((c : Booking) → o ≡ Some c → (kind : EndKind) → c.phase ≡ Ended kind → (booking_at g.opening row j ≡ Some c) ⊎ HasEnded g history row j kind c)
        → IfSome o (λ c. (kind : EndKind) → c.phase ≡ Ended kind → (booking_at g.opening row j ≡ Some c) ⊎ HasEnded g history row j kind c)
    go None k = tt
    go (Some c) k = k c refl
