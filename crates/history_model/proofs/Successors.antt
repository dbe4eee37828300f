-- A booking that a desk turned to an exchange stays one.
use Rattle.std.proofs.Common.{◌≡◌, ◌⊎◌, inl, inr, ℕ, zero, suc, Bool, true, false, cond, List, [], ◌∷◌, ◌++◌, Option, Some, None, refl, sym, ap, ◌∙◌, subst, ⊎_elim, append_assoc, arith}
use Rattle.std.specs.List.{AllByRecursion, Any, find}
use Rattle.history_model.proofs.ListLemmas.{split}
use Rattle.history_model.specs.declared.phase.Phase.{Phase}
use Rattle.history_model.specs.declared.phase.EndKind.TheVariants.{Exchange}
use Rattle.history_model.specs.declared.phase.Phase.TheVariants.{Ending, Ended}
use Rattle.history_model.specs.declared.booking.End.{End}
use Rattle.history_model.specs.declared.entry.Step.{Step}
use Rattle.history_model.specs.declared.entry.Step.TheVariants.{Look, Take, Give, Start, SawRow, Note, Seal, Turn, LostTurn, Close, Met}
use Rattle.history_model.specs.declared.entry.Entry.{Entry}
use Rattle.history_model.specs.Lists.{change_first}
use Rattle.history_model.specs.Booking.{Booking, Layout, State, successor_word, key_of, booking_at, stands_in, present, change}
use Rattle.history_model.specs.Allowed.{IsAllowedStep, IsMadeBy, IsExchangedFor, IsSuccessor}
use Rattle.history_model.specs.Apply.{apply, apply_step, words_of_row, started, item_taken, given, noted, in_phase, turned, closed}
use Rattle.history_model.specs.History.{IsLegalFrom, own, state_after}
use Rattle.history_model.specs.Phase.{is_ended}
use Rattle.history_model.specs.Laws.{IsWellFormed, MayBecome, MayFollow, GoesOn, is_turned_to_end}
use Rattle.history_model.specs.WholeEnds.{end_at}
use Rattle.history_model.proofs.Keeping.{found, turned-key}
use Rattle.history_model.proofs.Going.{GoesOn-step}
use Rattle.history_model.proofs.Generations.{present_key, key-changed, unended_present, stands_there}
use Rattle.history_model.proofs.Owners.{firm_stays, firm_making}

abbrev Some_of : {X : Type 0} → (X → Type 0) → List X → Type 0
Some_of P [] = ⊥
Some_of P (x ∷ xs) = P x ⊎ Some_of P xs

from_any : {X : Type 0} (P : X → Type 0) (xs : List X) → Any P xs → Some_of P xs
from_any P [] (k, x, below, e, p) = absurd (omega arith)
from_any P (y ∷ ys) (zero, x, below, e, p) = inl (subst P (sym e) p)
from_any P (y ∷ ys) (suc k, x, below, e, p) = inr (from_any P ys (k, x, (omega arith), e, p))

to_any : {X : Type 0} (P : X → Type 0) (xs : List X) → Some_of P xs → Any P xs
to_any P [] h = absurd h
to_any P (y ∷ ys) h = ⊎_elim (λ p. (0, y, (omega arith), refl, p)) (λ r. let t = to_any P ys r in (suc t.0, t.1, (let b = t.2 in omega arith), t.3, t.4)) h

some-append : {X : Type 0} (P : X → Type 0) (xs ys : List X) → Some_of P xs → Some_of P (xs ++ ys)
some-append P [] ys h = absurd h
some-append P (x ∷ xs) ys h = ⊎_elim inl (λ r. inr (some-append P xs ys r)) h

some-step : {X : Type 0} (P : X → Type 0) (p : X → Bool) (f : X → X) (x : X) (xs ys : List X) (t : Bool) → p x ≡ t → ((y : X) → cond t (Some x) (find p xs) ≡ Some y → P y → P (f y)) → P x ⊎ Some_of P xs → (((y : X) → find p xs ≡ Some y → P y → P (f y)) → Some_of P xs → Some_of P ys)
    → Some_of P (cond t (f x ∷ xs) (x ∷ ys))
some-step P p f x xs ys true test keep h rest = ⊎_elim (λ a. inl (keep x refl a)) inr h
some-step P p f x xs ys false test keep h rest = ⊎_elim inl (λ r. inr (rest keep r)) h

some-changed : {X : Type 0} (P : X → Type 0) (p : X → Bool) (f : X → X) (xs : List X) → ((x : X) → find p xs ≡ Some x → P x → P (f x)) → Some_of P xs → Some_of P (change_first p f xs)
some-changed P p f [] keep h = absurd h
some-changed P p f (x ∷ xs) keep h = some-step P p f x xs (change_first p f xs) (p x) refl keep h (λ k r. some-changed P p f xs k r)

some_same : {X : Type 0} (d x y : X) → Some x ≡ Some y → x ≡ y
some_same {X = X} d x y e = ap get e
  where
    get : Option X → X
    get None = d
    get (Some z) = z

-- what a changed booking became
becomes : (d : ℕ) (s : State) (q : ℕ) (f : Booking → Booking) (x : Booking) → GoesOn d s (change s q f) → ((y : Booking) → key_of (f y) ≡ key_of y) → present s q ≡ Some x → MayBecome d x (f x)
becomes d s q f x on key e =
    let n = found (booking_at (change s q f) q x.generation) (MayBecome d x) (rw (present_key s q x e) at (on.bookings q x.generation)) in
    subst (MayBecome d x) (some_same n.0 n.0 (f x) (sym n.1 ∙ key-changed s q f x key e)) n.2

exchanged_becomes : (d e word : ℕ) (x y : Booking) → MayBecome e x y → IsExchangedFor d word x → IsExchangedFor d word y
exchanged_becomes d e word x y m (own, next, phase) =
    let t : is_turned_to_end x.phase ≡ true = ⊎_elim (λ p. ap is_turned_to_end p) (λ p. ap is_turned_to_end p) phase in (
      m.ender t ∙ own,
      ap (λ (z : End). z.successor) (m.ended t) ∙ next,
      ⊎_elim
          (λ (same : y.phase ≡ x.phase). ⊎_elim (λ p. inl (same ∙ p)) (λ p. inr (same ∙ p)) phase)
          (λ (on : MayFollow x.phase y.phase). ⊎_elim (λ p. inr (ending x.phase y.phase p on)) (λ p. absurd (ended x.phase y.phase p on)) phase)
          m.forward,
    )
  where
    ending : (a b : Phase) → a ≡ Ending Exchange → MayFollow a b → b ≡ Ended Exchange
    ending a b p on = subst (λ (z : Phase). MayFollow z b) p on

    ended : (a b : Phase) → a ≡ Ended Exchange → MayFollow a b → ⊥
    ended a b p on = let no : false ≡ true = subst (λ (z : Phase). MayFollow z b) p on in cc

exchanged_change : (d e word : ℕ) (s : State) (q : ℕ) (f : Booking → Booking) → ((y : Booking) → key_of (f y) ≡ key_of y) → GoesOn e s (change s q f) → Some_of (IsExchangedFor d word) s → Some_of (IsExchangedFor d word) (change s q f)
exchanged_change d e word s q f keeps on h = some-changed (IsExchangedFor d word) (stands_in s q) f s (λ x at p. exchanged_becomes d e word x (f x) (becomes e s q f x on keeps at) p) h

exchanged_step : (g : Layout) (d e word : ℕ) (s : State) (st : Step) → IsAllowedStep g s e st → Some_of (IsExchangedFor d word) s → Some_of (IsExchangedFor d word) (apply_step s e st)
exchanged_step g d e word s (Look p k n) may h = h
exchanged_step g d e word s (Take q p span) may h = exchanged_change d e word s q (item_taken p span) (λ _. refl) (GoesOn-step g s e (Take q p span) may) h
exchanged_step g d e word s (Give q k) may h = exchanged_change d e word s q (given k) (λ _. refl) (GoesOn-step g s e (Give q k) may) h
exchanged_step g d e word s (Start q j) may h = some-append (IsExchangedFor d word) s (started q j e (words_of_row s q) ∷ []) h
exchanged_step g d e word s (SawRow q w n) may h = h
exchanged_step g d e word s (Note q w n) may h = exchanged_change d e word s q (noted w n) (λ _. refl) (GoesOn-step g s e (Note q w n) may) h
exchanged_step g d e word s (Seal q ph) may h = exchanged_change d e word s q (in_phase ph) (λ _. refl) (GoesOn-step g s e (Seal q ph) may) h
exchanged_step g d e word s (Turn q from to m a x) may h = exchanged_change d e word s q (turned e to (end_at m a x)) (turned-key e to (end_at m a x)) (GoesOn-step g s e (Turn q from to m a x) may) h
exchanged_step g d e word s (LostTurn q wanted shown) may h = h
exchanged_step g d e word s (Close q) may h = exchanged_change d e word s q closed (λ _. refl) (GoesOn-step g s e (Close q) may) h
exchanged_step g d e word s Met may h = h

exchanged_after : (g : Layout) (d word : ℕ) (s : State) (es : List Entry) → IsLegalFrom g s es → Some_of (IsExchangedFor d word) s → Some_of (IsExchangedFor d word) (state_after s es)
exchanged_after g d word s [] l h = h
exchanged_after g d word s (e ∷ es) l h = exchanged_after g d word (apply s e) es l.1 (exchanged_step g d e.desk word s e.step l.0 h)

pub exchanged_stays : (g : Layout) (d word : ℕ) (s : State) (es : List Entry) → IsLegalFrom g s es → Any (IsExchangedFor d word) s → Any (IsExchangedFor d word) (state_after s es)
exchanged_stays g d word s es l h = to_any (IsExchangedFor d word) (state_after s es) (exchanged_after g d word s es l (from_any (IsExchangedFor d word) s h))

in_middle : {X : Type 0} (P : X → Type 0) (before : List X) (x : X) (after : List X) → P x → Some_of P (before ++ x ∷ after)
in_middle P [] x after p = inl p
in_middle P (y ∷ ys) x after p = inr (in_middle P ys x after p)

-- a booking in the making of a desk is the successor of the word that says it
pub is_successor : (s : State) (d row : ℕ) (b : Booking) → present s row ≡ Some b → IsMadeBy d b → IsSuccessor s d (successor_word b.row b.generation)
is_successor s d row b at made =
    let Names : Booking → Type 0 = λ c. IsMadeBy d c × (successor_word c.row c.generation ≡ successor_word b.row b.generation) in
    let here = split (stands_in s row) s b at in
    to_any Names s (subst (λ (xs : List Booking). Some_of Names xs) (sym here.is) (in_middle Names here.before b here.after (made, refl)))

-- what holds of all bookings holds of a successor
pub successor_found : (P : Booking → Type 0) (s : State) (d word : ℕ) → AllByRecursion P s → IsSuccessor s d word → (b : Booking) × P b × (successor_word b.row b.generation ≡ word)
successor_found P s d word all is = go s all (from_any (λ c. IsMadeBy d c × (successor_word c.row c.generation ≡ word)) s is)
  where
    go : (xs : List Booking) → AllByRecursion P xs → Some_of (λ c. IsMadeBy d c × (successor_word c.row c.generation ≡ word)) xs → (b : Booking) × P b × (successor_word b.row b.generation ≡ word)
    go [] all h = absurd h
    go (x ∷ xs) all h = ⊎_elim (λ p. (x, all.0, p.1)) (λ r. go xs all.1 r) h

-- a successor is its row's present booking
successor_present : (g : Layout) (s : State) (d word : ℕ) → IsWellFormed g s → IsSuccessor s d word → (b : Booking) × (present s b.row ≡ Some b) × IsMadeBy d b × (successor_word b.row b.generation ≡ word)
successor_present g s d word good is = go [] s refl (from_any (λ c. IsMadeBy d c × (successor_word c.row c.generation ≡ word)) s is)
  where
    go : (front xs : State) → s ≡ front ++ xs → Some_of (λ c. IsMadeBy d c × (successor_word c.row c.generation ≡ word)) xs → (b : Booking) × (present s b.row ≡ Some b) × IsMadeBy d b × (successor_word b.row b.generation ≡ word)
    go front [] e h = absurd h
    go front (x ∷ xs) e h = ⊎_elim
        (λ (p : IsMadeBy d x × (successor_word x.row x.generation ≡ word)).
        (x, unended_present s x.row x.generation x good.earlier (stands_there s front x xs good.keys e) (ap is_ended p.0.0), p.0, p.1))
        (λ r. go (front ++ x ∷ []) xs (e ∙ sym (append_assoc front (x ∷ []) xs)) r)
        h

-- and stays one under the entries of others
pub successor_stays : (g : Layout) (s : State) (es : List Entry) (d word : ℕ) → IsWellFormed g s → IsLegalFrom g s es → own es d ≡ [] → IsSuccessor s d word → IsSuccessor (state_after s es) d word
successor_stays g s es d word good legal none is =
    let b = successor_present g s d word good is in
    let at : present (state_after s es) b.0.row ≡ Some b.0 = firm_stays g s b.0.row b.0 es b.1 (firm_making b.0.phase b.2.0) (ap (own es) b.2.1 ∙ none) legal in
    subst (IsSuccessor (state_after s es) d) b.3 (is_successor (state_after s es) d b.0.row b.0 at b.2)
