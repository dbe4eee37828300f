-- Which line of an export comes behind those that were read.
use Rattle.std.proofs.Common.{◌≡◌, ◌⊎◌, inl, inr, ℕ, ◌<◌, List, [], ◌∷◌, ◌++◌, map, length, get_or, nat_eq, true≢false, decimal, codes, Option, Some, None, IfSome, refl, sym, ap, ◌∙◌, subst, arith, append_assoc}
use Rattle.std.specs.List.{AllByRecursion, last_or}
use Rattle.std.proofs.lemmas.List.{append_cancel_left}
use Rattle.history_model.specs.Lists.{Pairwise}
use Rattle.line_text.specs.declared.ends.SaidRow.{SaidRow}
use Rattle.cold_store.specs.Drafts.{IsNextRow, row_said}
use Rattle.line_text.specs.Lines.{IsSayable, SaidBooking, booking_line, end_fields, items_fields, last_line, number_field, phase_field}
use Rattle.line_text.proofs.Numbers.{same_number}

-- lines of one booking are of one row

abbrev behind_row : SaidBooking → List ℕ
behind_row b =
    (number_field b.generation ++ phase_field b.phase)
    ++ (number_field b.retailer ++ (number_field b.limit ++ (number_field b.total
    ++ (number_field (length b.items) ++ (items_fields b.items ++ end_fields b.phase b.end)))))

from_row : (b : SaidBooking) → booking_line b ≡ (codes "row" ++ 32 ∷ []) ++ (decimal b.row ++ behind_row b)
from_row b = ap (λ (x : List ℕ). 114 ∷ 111 ∷ 119 ∷ 32 ∷ x) (append_assoc (decimal b.row) (number_field b.generation ++ phase_field b.phase) _)

same_row : (a b : SaidBooking) → IsSayable a → IsSayable b → booking_line a ≡ booking_line b → a.row ≡ b.row
same_row a b s t e =
    let n = append_cancel_left (codes "row" ++ 32 ∷ []) (decimal a.row ++ behind_row a) (decimal b.row ++ behind_row b)
    (sym (from_row a) ∙ (e ∙ from_row b)) in
    (same_number a.row b.row (behind_row a) (behind_row b) s.row t.row refl refl n).0

-- no line of a booking begins as the last one
pub begin_apart : (b : SaidBooking) (x y : List ℕ) → booking_line b ++ x ≡ 101 ∷ y → ⊥
begin_apart b x y e = true≢false (ap (λ (l : List ℕ). nat_eq (get_or l 0 0) 114) e)

pub apart : (b : SaidBooking) (n : ℕ) → booking_line b ≡ last_line n → ⊥
apart b n e = true≢false (ap (λ (l : List ℕ). nat_eq (get_or l 0 0) 114) e)

-- lists that are the same

pub heads : {A : Type 0} (x y : A) (xs ys : List A) → x ∷ xs ≡ y ∷ ys → x ≡ y
heads x y xs ys e = cc

pub tails : {A : Type 0} (x y : A) (xs ys : List A) → x ∷ xs ≡ y ∷ ys → xs ≡ ys
tails x y xs ys e = cc

-- rows that rise

abbrev pub Rises : SaidBooking → SaidBooking → Type 0
Rises a b = a.row < b.row

abbrev AreSameRows : List SaidBooking → List SaidBooking → Type 0
AreSameRows [] [] = Unit {0}
AreSameRows (a ∷ these) (b ∷ bs) = (a.row ≡ b.row) × AreSameRows these bs
AreSameRows _ _ = ⊥

abbrev pub AreBelow : ℕ → List SaidBooking → Type 0
AreBelow row said = AllByRecursion (λ (a : SaidBooking). a.row < row) said

below_same : (row : ℕ) (these bs : List SaidBooking) → AreSameRows these bs → AreBelow row these → AreBelow row bs
below_same row [] [] same below = tt
below_same row (a ∷ these) (b ∷ bs) same below =
    ((let e = same.0 in let l = below.0 in omega arith), below_same row these bs same.1 below.1)
below_same row [] (b ∷ bs) same below = absurd same
below_same row (a ∷ these) [] same below = absurd same

of_middle : {X : Type 0} (P : X → Type 0) (front : List X) (b : X) (behind : List X) → AllByRecursion P (front ++ b ∷ behind) → P b
of_middle P [] b behind h = h.0
of_middle P (a ∷ front) b behind h = of_middle P front b behind h.1

below_middle : (front : List SaidBooking) (b : SaidBooking) (behind : List SaidBooking) → Pairwise Rises (front ++ b ∷ behind) → AreBelow b.row front
below_middle [] b behind h = tt
below_middle (a ∷ front) b behind h = (of_middle (Rises a) front b behind h.0, below_middle front b behind h.1)

last_below : (row : ℕ) (o : Option SaidRow) (said : List SaidBooking) → IfSome o (λ (l : SaidRow). l.row < row) → AreBelow row said → IfSome (last_or o (map row_said said)) (λ (l : SaidRow). l.row < row)
last_below row o [] h below = h
last_below row o (b ∷ said) h below = last_below row (Some (row_said b)) said below.0 below.1

next_row : (row : ℕ) (said : List SaidBooking) → AreBelow row said → IsNextRow (map row_said said) row
next_row row said below = last_below row None said tt below

below_last : (row : ℕ) (first : SaidBooking) (said : List SaidBooking) → Pairwise Rises (first ∷ said) → IfSome (last_or (Some (row_said first)) (map row_said said)) (λ (l : SaidRow). l.row < row) → AreBelow row (first ∷ said)
below_last row first [] rising h = (h, tt)
below_last row first (b ∷ said) rising h =
    let behind = below_last row b said rising.1 h in
    ((let l = rising.0.0 in let k = behind.0 in omega arith), behind)

all_below : (row : ℕ) (said : List SaidBooking) → Pairwise Rises said → IsNextRow (map row_said said) row → AreBelow row said
all_below row [] rising next = tt
all_below row (b ∷ said) rising next = below_last row b said rising next

with_last : {X : Type 0} (P : X → Type 0) (these : List X) (b : X) → AllByRecursion P these → P b → AllByRecursion P (these ++ b ∷ [])
with_last P [] b h is = (is, tt)
with_last P (a ∷ these) b h is = (h.0, with_last P these b h.1 is)

rising_with : (said : List SaidBooking) (b : SaidBooking) → Pairwise Rises said → AreBelow b.row said → Pairwise Rises (said ++ b ∷ [])
rising_with [] b rising below = (tt, tt)
rising_with (a ∷ said) b rising below = (with_last (Rises a) said b rising.0 below.0, rising_with said b rising.1 below.1)

pub rising_more : (said : List SaidBooking) (b : SaidBooking) → Pairwise Rises said → IsNextRow (map row_said said) b.row → Pairwise Rises (said ++ b ∷ [])
rising_more said b rising next = rising_with said b rising (all_below b.row said rising next)

pub each_more : (said : List SaidBooking) (b : SaidBooking) → AllByRecursion IsSayable said → IsSayable b → AllByRecursion IsSayable (said ++ b ∷ [])
each_more said b each is = with_last IsSayable said b each is

-- behind the lines of some bookings comes that of one more, or the last

-- a booking that comes behind those of these rows
record Comes (all said : List SaidBooking) (zs : List (List ℕ)) : Type 0 where
  front : List SaidBooking
  booking : SaidBooking
  behind : List SaidBooking
  more : List (List ℕ)
  parts : all ≡ front ++ booking ∷ behind
  same : AreSameRows front said
  lines : zs ≡ booking_line booking ∷ more

abbrev IsAtLast : List SaidBooking → List SaidBooking → ℕ → List (List ℕ) → Type 0
IsAtLast all said n zs = (zs ≡ last_line n ∷ []) × (length all ≡ length said)

one_before : (a b : SaidBooking) (all said : List SaidBooking) (n : ℕ) (zs : List (List ℕ)) → a.row ≡ b.row → Comes all said zs ⊎ IsAtLast all said n zs → Comes (a ∷ all) (b ∷ said) zs ⊎ IsAtLast (a ∷ all) (b ∷ said) n zs
one_before a b all said n zs e (inl h) =
    inl (record {
      front = a ∷ h.front;
      booking = h.booking;
      behind = h.behind;
      more = h.more;
      parts = ap (λ (l : List SaidBooking). a ∷ l) h.parts;
      same = (e, h.same);
      lines = h.lines;
    })
one_before a b all said n zs e (inr h) = inr (h.0, let k = h.1 in omega arith)

behind : (all said : List SaidBooking) (n : ℕ) (zs : List (List ℕ)) → AllByRecursion IsSayable all → AllByRecursion IsSayable said → map booking_line all ++ last_line n ∷ [] ≡ map booking_line said ++ zs → Comes all said zs ⊎ IsAtLast all said n zs
behind [] [] n zs p q e = inr (sym e, refl)
behind (a ∷ all) [] n zs p q e =
    inl (record {
      front = [];
      booking = a;
      behind = all;
      more = map booking_line all ++ last_line n ∷ [];
      parts = refl;
      same = tt;
      lines = sym e;
    })
behind [] (b ∷ said) n zs p q e = absurd (apart b n (sym (heads (last_line n) (booking_line b) [] (map booking_line said ++ zs) e)))
behind (a ∷ all) (b ∷ said) n zs p q e =
    let line = heads (booking_line a) (booking_line b) (map booking_line all ++ last_line n ∷ []) (map booking_line said ++ zs) e in
    let rest = tails (booking_line a) (booking_line b) (map booking_line all ++ last_line n ∷ []) (map booking_line said ++ zs) e in
    one_before a b all said n zs (same_row a b p.0 q.0 line) (behind all said n zs p.1 q.1 rest)

-- so what comes is a line of a booking of a greater row, or the last with their number
pub record IsNextLine (said : List SaidBooking) (zs : List (List ℕ)) : Type 0 where
  pub booking : SaidBooking
  pub more : List (List ℕ)
  pub is : IsSayable booking
  pub next : IsNextRow (map row_said said) booking.row
  pub lines : zs ≡ booking_line booking ∷ more

next_or_last : (all said : List SaidBooking) (n : ℕ) (zs : List (List ℕ)) → AllByRecursion IsSayable all → Pairwise Rises all → n ≡ length all → Comes all said zs ⊎ IsAtLast all said n zs → IsNextLine said zs ⊎ (zs ≡ last_line (length said) ∷ [])
next_or_last all said n zs each rising many (inl h) =
    let p = subst (AllByRecursion IsSayable) h.parts each in
    let r = subst (Pairwise Rises) h.parts rising in
    inl (record {
      booking = h.booking;
      more = h.more;
      is = of_middle IsSayable h.front h.booking h.behind p;
      next = next_row h.booking.row said (below_same h.booking.row h.front said h.same (below_middle h.front h.booking h.behind r));
      lines = h.lines;
    })
next_or_last all said n zs each rising many (inr h) =
    inr (h.0 ∙ ap (λ (k : ℕ). last_line k ∷ []) (many ∙ h.1))

pub comes_behind : (all said : List SaidBooking) (zs : List (List ℕ)) → AllByRecursion IsSayable all → Pairwise Rises all → AllByRecursion IsSayable said → map booking_line all ++ last_line (length all) ∷ [] ≡ map booking_line said ++ zs → IsNextLine said zs ⊎ (zs ≡ last_line (length said) ∷ [])
comes_behind all said zs each rising said_each e =
    next_or_last all said (length all) zs each rising refl (behind all said (length all) zs each said_each e)
