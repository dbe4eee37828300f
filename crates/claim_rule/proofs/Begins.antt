-- What holds of books as they open.
use Rattle.std.proofs.Common.{◌≡◌, ℕ, zero, suc, true, false, List, [], ◌∷◌, replicate, None, refl, sym, ap, ◌∙◌, subst, arith}
use Rattle.std.proofs.lemmas.Bool.{true≢false}
use Rattle.std.proofs.lemmas.List.{length-replicate}
use mathlib.Core.Option.{some, some-injective, some-ne-none}
use lib.ListN.{get_elem?}
use Rattle.atomic_table.specs.Table.{opening}
use Rattle.atomic_table.specs.Seated.{TableId}
use Rattle.atomic_table.specs.declared.shared.Seat.{Seat}
use Rattle.claim_rule.specs.declared.rule.View.{View}
use Rattle.claim_rule.specs.Rule.{BooksView, DeskView, Fits, Kept, newcomer}
use Rattle.claim_rule.specs.Openings.{OpensWith, layout_with}
use Rattle.claim_rule.specs.Desks.{IsOf}
use Rattle.claim_rule.specs.Seats.{desk_view}
use Rattle.claim_rule.specs.Out.{IsTidy}
use Rattle.claim_rule.proofs.OwnWork.{opening_work}
use Rattle.history_model.proofs.Keeping.{found}
use Rattle.history_model.proofs.ListLemmas.{All-found}
use Rattle.history_model.proofs.Writing.{empty_value, no_word}
use Rattle.history_model.specs.Allowed.{IsBeingEndedBy, IsMadeBy, OnRow}
use Rattle.history_model.specs.Booking.{Booking, Layout, State, present, stands_in}
use Rattle.history_model.specs.Laws.{IsOpening, is_owners}
use Rattle.history_model.specs.Words.{AreWordsOf, index, word_count}

-- the table as it opens
pub begins : (lay : Layout) (words : List ℕ) → IsOpening lay lay.opening → AreWordsOf lay lay.opening words
    → Kept lay (opening words [] (newcomer lay 0 []))
begins lay words is are = record {
  history = [];
  desks = 0 ∷ [];
  legal = (is, tt);
  words = are;
  seats = λ j u at alive. one j u at;
  told = λ j u at gone. (one j u at).front;
  later = λ k past. refl;
  first = (0, newcomer lay 0 [], refl, refl, refl, refl);
}
  where
    one : (j : ℕ) (u : View) → get_elem? (newcomer lay 0 [] ∷ []) j ≡ some u → Fits [] (0 ∷ []) (newcomer lay 0 [] ∷ []) j u
    one zero u e = subst (Fits [] (0 ∷ []) (newcomer lay 0 [] ∷ []) 0) (some-injective (newcomer lay 0 []) u e)
        record { number = refl; front = ([], refl); own_all = refl; joined = tt; olds = tt }
    one (suc j) u e = absurd (some-ne-none u (sym e))

-- zeros are the words of books that open with nothing
pub empty_opens : (legs : List ℕ) (rows n : ℕ) → n ≡ word_count (layout_with legs rows [])
    → OpensWith legs rows (replicate n 0) []
empty_opens legs rows n is = record {
  may = record {
    rising = tt;
    ends = tt;
    opening = record {
      well_formed = record { keys = tt; earlier = tt; apart = tt; each = tt };
      settled = tt;
      owner = tt;
      in_range = tt;
    };
  };
  are = record {
    length_is = length-replicate n 0 ∙ is;
    each = λ a _. no_word n (index (layout_with legs rows []) a) ∙ sym (empty_value a);
  };
}

-- in an opening state nothing is in the making or ending
no_owners : (lay : Layout) (s : State) (row : ℕ) (P : Booking → Type 0) → IsOpening lay s
    → ((b : Booking) → P b → is_owners b.phase ≡ true) → OnRow s row P → ⊥
no_owners lay s row P is owns on =
    let b = found (present s row) P on in
    let settled = All-found (λ b. is_owners b.phase ≡ false) (stands_in s row) s b.0 b.1 is.settled in
    true≢false (sym (owns b.0 b.2) ∙ settled)

pub none_made : (lay : Layout) (s : State) (desk row : ℕ) → IsOpening lay s → OnRow s row (IsMadeBy desk) → ⊥
none_made lay s desk row is on = no_owners lay s row (IsMadeBy desk) is (λ b p. ap is_owners p.0) on

pub none_ending : (lay : Layout) (s : State) (desk row : ℕ) → IsOpening lay s → OnRow s row (IsBeingEndedBy desk) → ⊥
none_ending lay s desk row is on = no_owners lay s row (IsBeingEndedBy desk) is (λ b p. ap is_owners p.1.0) on

-- the first desk, before its first step
abbrev pub first_desk : TableId → Layout → DeskView
first_desk table lay =
    record { table = table; layout = lay; number = 0; seen = []; joined = []; parted = 0; kept = None; past = 0 }

pub is_first : (a : Seat ℕ View) (lay : Layout) → a.me ≡ (newcomer lay 0 [], [])
    → desk_view a None 0 ≡ first_desk a.table_id lay
is_first a lay e = λ i. record {
  table = a.table_id;
  layout = (e i).0.plan;
  number = (e i).0.number;
  seen = (e i).0.seen;
  joined = (e i).0.joined;
  parted = (e i).0.parted;
  kept = None;
  past = 0;
}

pub first_of : (books : BooksView) (table : TableId) (lay : Layout) → IsOpening lay lay.opening → table ≡ books.table
    → lay ≡ books.layout → IsOf books (first_desk table lay)
first_of books table lay is same layout = record {
  table = same;
  layout = layout;
  legal = (is, tt);
  kept = tt;
  past = λ lower less. absurd (omega (arith, less));
  within = omega arith;
  work = λ _ _. opening_work lay lay.opening is;
}

pub first_tidy : (table : TableId) (lay : Layout) → IsOpening lay lay.opening → IsTidy (first_desk table lay)
first_tidy table lay is = (
  (λ row on. absurd (none_made lay lay.opening 0 row is on), λ row on. none_ending lay lay.opening 0 row is on),
  tt,
  λ row on. absurd (none_made lay lay.opening 0 row is on),
)
