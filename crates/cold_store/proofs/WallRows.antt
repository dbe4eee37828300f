-- What the words of a closed wall say of a row.
use Rattle.std.proofs.Common.{◌≡◌, ◌≢◌, ◌∙◌, ℕ, zero, suc, ◌+◌, ◌<◌, ◌≤◌, Bool, true, cond, eqb, ne_eqb, List, [], ◌∷◌, map, take, drop, length, get_or, slice_index, refl, sym, ap, Option, Some, None, IsSomeAnd, arith}
use Rattle.std.proofs.lemmas.List.{get_or-take, get_or-drop}
use Rattle.std.specs.Prelude.{slice_get}
use Rattle.std.specs.List.{AllByRecursion}
use Rattle.std.specs.Option.{option_map_or}
use Rattle.leg_masks.specs.Interval.{IsItemOf, item_word, most_legs, most_places}
use Rattle.std.proofs.lemmas.Option.{get_or_from_slice_get}
use Rattle.history_model.specs.declared.booking.BookedItem.{BookedItem}
use Rattle.history_model.specs.declared.phase.Phase.{Phase}
use Rattle.history_model.specs.declared.phase.Phase.TheVariants.{Free}
use Rattle.history_model.specs.declared.word.Word.TheVariants.{Row}
use Rattle.history_model.specs.Allowed.{OnRow}
use Rattle.history_model.specs.Allows.{IsNoRowWord}
use Rattle.history_model.specs.Booking.{Booking, State, phase_of_row, present, row_words, word_at}
use Rattle.history_model.specs.Laws.{IsSound, IsWellFormed, LiesWithin}
use Rattle.history_model.specs.Phase.{is_sealed, row_word_of}
use Rattle.history_model.specs.Words.{row_number, row_word}
use Rattle.history_model.proofs.Keeping.{found}
use Rattle.history_model.proofs.PhaseWords.{row_word_same}
use Rattle.history_model.proofs.RowWords.{word_there as word_in_row, some_phase as says_phase}
use Rattle.history_model.proofs.Writing.{sound_of}
use Rattle.claim_rule.proofs.Moves.{is_sound}
use Rattle.claim_rule.specs.Openings.{placed}
use Rattle.claim_rule.specs.Walls.{WallView}
use Rattle.cold_store.specs.Exports.{HasItem, IsClosed, state_on}

pub well_formed : (w : WallView) → IsClosed w → IsWellFormed w.layout (state_on w)
well_formed w closed = is_sound w.layout w.history closed.legal

pub sound_on : (w : WallView) (row : ℕ) (b : Booking) → IsClosed w → present (state_on w) row ≡ Some b → IsSound w.layout b
sound_on w row b closed at = sound_of w.layout (state_on w) row b (well_formed w closed) at

-- the word that the wall has there
pub word_there : (w : WallView) (row word n : ℕ) → IsClosed w → row < w.layout.rows → word < row_words
    → slice_get w.words (row_number w.layout row word) ≡ Some n → n ≡ row_word (state_on w) row word
word_there w row word n closed within some is = word_in_row w.layout (state_on w) w.words row word n closed.are within some is

-- word 0 of a row is that of a phase
pub some_phase : (w : WallView) (row : ℕ) → IsClosed w → ¬ IsNoRowWord (row_word (state_on w) row 0)
some_phase w row closed = says_phase w.layout (state_on w) row (well_formed w closed)

-- items

less_than_most : (a b c : ℕ) → a < b → b ≤ c → a < c
less_than_most a b c l m = omega arith

at_most_both : (a b c : ℕ) → a ≤ b → b ≤ c → a ≤ c
at_most_both a b c l m = omega arith

one_of : (f : BookedItem → ℕ) (P : BookedItem → Type 0) (is : List BookedItem) (k : ℕ) → k < length is → AllByRecursion P is
    → (i : BookedItem) × (slice_get is k ≡ Some i) × P i × (get_or (map f is) k 0 ≡ f i)
one_of f P [] k l all = absurd (omega arith)
one_of f P (i ∷ is) zero l all = (i, refl, all.0, refl)
one_of f P (i ∷ is) (suc k) l all = one_of f P is k (omega arith) all.1

pub get_placed : (is : List BookedItem) (k : ℕ) (i : BookedItem) → slice_get is k ≡ Some i → slice_get (map placed is) k ≡ Some (placed i)
get_placed [] k i e = absurd cc
get_placed (x ∷ xs) zero i e = let same : x ≡ i = cc in ap (λ (j : BookedItem). Some (placed j)) same
get_placed (x ∷ xs) (suc k) i e = get_placed xs k i e

-- word w of the row of a booking, for w from 1
pub word_on : (s : State) (row w : ℕ) (b : Booking) → present s row ≡ Some b → w ≢ 0 → row_word s row w ≡ word_at b w
word_on s row w b at some = ap (λ (o : Option Booking). option_map_or (λ (b : Booking). cond (eqb w 0) (row_word_of b.phase b.generation) (word_at b w)) o 0) at
    ∙ ap (λ (c : Bool). cond c (row_word_of b.phase b.generation) (word_at b w)) (ne_eqb w 0 some)

-- an item of a sealed booking, which its word in the row says
pub record IsItemThere (w : WallView) (row k : ℕ) (b : Booking) (i : BookedItem) : Type 0 where
  pub at : present (state_on w) row ≡ Some b
  pub sound : IsSound w.layout b
  pub is : slice_get b.items k ≡ Some i
  pub lies : LiesWithin w.layout i
  pub word : IsItemOf i.place i.span (row_word (state_on w) row (8 + k))
  pub few : 8 + k < row_words

pub item_there : (w : WallView) (row k : ℕ) → IsClosed w → HasItem w row k → (b : Booking) × (i : BookedItem) × IsItemThere w row k b i
item_there w row k closed has =
    let f : BookedItem → ℕ = λ i. item_word i.place i.span in
    let b = found (present (state_on w) row) (λ b. (is_sealed b.phase ≡ true) × (k < length b.items)) has in
    let sound = sound_on w row b.0 closed b.1 in
    let words = b.0.words in
    let items = b.0.items in
    let less = b.2.1 in
    let x = one_of f (LiesWithin w.layout) items k less sound.within in
    let word : word_at b.0 (8 + k) ≡ f x.0 =
    sym (get_or-drop 8 words k 0) ∙ (sym (get_or-take (length items) (drop 8 words) k 0 less) ∙ (ap (λ (l : List ℕ). get_or l k 0) (sound.sealed b.2.0).items ∙ x.3)) in (
      b.0,
      x.0,
      record {
        at = b.1;
        sound = sound;
        is = x.1;
        lies = x.2;
        word = (
          less_than_most x.0.place (length w.layout.legs) most_places x.2.place closed.places,
          x.2.some,
          at_most_both x.0.span.to (slice_index w.layout.legs x.0.place) most_legs x.2.legs (closed.legs x.0.place 0 x.2.place),
          x.2.piece,
          sym (word_on (state_on w) row (8 + k) b.0 b.1 (λ (e : 8 + k ≡ 0). omega arith) ∙ word),
        );
        few = omega (arith, sound.count, less);
      },
    )
