-- A look at a row shows the booking that stands there.
use Rattle.std.proofs.Common.{◌≡◌, ℕ, suc, ◌+◌, ◌<◌, ◌≤◌, ℤ, pos, negsuc, Bool, true, false, cond, List, [], ◌∷◌, ◌++◌, map, length, take, drop, get_or, Option, Some, None, ne_eqb, eq-eqb, refl, sym, ap, ◌∙◌, subst, arith, drop-cons}
use Rattle.std.specs.Prelude.{◌/◌, ◌%◌, ◌*◌}
use Rattle.std.specs.List.{AllByRecursion}
use Rattle.leg_masks.specs.Interval.{item_word, PlacedSpan as Item}
use Rattle.leg_masks.proofs.Items.{one_item}
use Rattle.rail_ids.specs.declared.RowNo.{RowNo}
use Rattle.history_model.specs.declared.phase.Phase.{Phase}
use Rattle.history_model.specs.declared.phase.Phase.TheVariants.{Free, Making, Prebooked, Confirmed, Fulfilled, Ending, Ended}
use Rattle.history_model.specs.declared.phase.EndKind.{EndKind}
use Rattle.history_model.specs.declared.phase.EndKind.TheVariants.{Release, Expire, Refund, Exchange}
use Rattle.history_model.specs.declared.booking.BookedItem.{BookedItem}
use Rattle.history_model.specs.declared.booking.End.{End}
use Rattle.history_model.specs.declared.entry.Step.{Step}
use Rattle.history_model.specs.declared.entry.Step.TheVariants.{SawRow}
use Rattle.history_model.specs.Phase.{is_sealed}
use Rattle.history_model.specs.Allowed.{IsAmountOf}
use Rattle.history_model.specs.Booking.{Booking, Layout, State, present, amount_word}
use Rattle.history_model.specs.History.{IsLegalFrom}
use Rattle.history_model.specs.Laws.{LiesWithin, IsSound, IsWellFormed, IsInRange, AreInRange, HasAmountFor}
use Rattle.history_model.proofs.Writing.{sound_of}
use Rattle.history_model.proofs.Ranges.{all_found}
use Rattle.claim_rule.specs.Endings.{item_looks}
use Rattle.booking_rows.specs.Views.{RowSeen, HasWord, HasSaidAmount, LooksRow, has_end, said_amount, saw_words, saw_end}
use Rattle.booking_rows.specs.SealedRows.{FitWords}
use Rattle.lone_desk.specs.Lone.{entries_of}
use Rattle.lone_desk.proofs.Looking.{legal_parts}
use Rattle.plain_host.specs.PlainOf.{item_of, end_in, view_of}
use Rattle.plain_host.proofs.Looks.{word_shown, seen_first}

-- what each word says

abbrev word_of : Item → ℕ
word_of i = item_word i.place i.span

-- items

same_items : (xs ys : List Item) → AllByRecursion HasWord xs → AllByRecursion HasWord ys → map word_of xs ≡ map word_of ys → xs ≡ ys
same_items [] [] p q e = refl
same_items [] (y ∷ ys) p q e = absurd cc
same_items (x ∷ xs) [] p q e = absurd cc
same_items (x ∷ xs) (y ∷ ys) p q e =
    let here : word_of x ≡ word_of y = cc in
    let rest : map word_of xs ≡ map word_of ys = cc in
    let one = one_item x.place y.place x.span y.span p.0.1 p.0.2 q.0.1 q.0.2 here in
    let more = same_items xs ys p.1 q.1 rest in
    λ i. record { place = one.0 i; span = one.1 i } ∷ more i

have_words : (g : Layout) (is : List BookedItem) → FitWords g → AllByRecursion (LiesWithin g) is → AllByRecursion HasWord (map item_of is)
have_words g [] fit all = tt
have_words g (i ∷ is) fit all =
    let few = fit.legs i.place 0 all.0.place in
    ((omega (arith, all.0.place, fit.places), all.0.some, omega (arith, all.0.legs, few), all.0.piece), have_words g is fit all.1)

same_words : (is : List BookedItem) → map word_of (map item_of is) ≡ map (λ (i : BookedItem). item_word i.place i.span) is
same_words [] = refl
same_words (i ∷ is) = ap (λ (l : List ℕ). item_word i.place i.span ∷ l) (same_words is)

-- looks at items show the words from one on
items_shown : (g : Layout) (s : State) (desk row w : ℕ) (b : Booking) (items : List Item) (rest : List Step) → present s row ≡ Some b → length b.words ≡ 64 → 1 ≤ w
    → IsLegalFrom g s (entries_of desk (item_looks row w items ++ rest))
    → (map word_of items ≡ take (length items) (drop w b.words)) × IsLegalFrom g s (entries_of desk rest)
items_shown g s desk row w b [] rest at many some legal = (refl, legal)
items_shown g s desk row w b (i ∷ is) rest at many some legal =
    let more = items_shown g s desk row (suc w) b is rest at many (omega arith) legal.1 in
    let below : w < 64 = legal.0.1 in
    let word : word_of i ≡ get_or b.words w 0 = legal.0.2 ∙ word_shown s row w b some at in (
      ap (λ (n : ℕ). n ∷ map word_of is) word
          ∙ (ap (λ (l : List ℕ). get_or b.words w 0 ∷ l) more.0
          ∙ ap (take (suc (length is))) (sym (drop-cons b.words w 0 (omega (arith, below, many))))),
      more.1,
    )

-- ends

said : (kind : EndKind) (a : ℤ) → IsAmountOf kind a → said_amount kind (amount_word kind a) ≡ a
said Release a is = sym is
said Expire a is = sym is
said Refund (pos n) is = refl
said Refund (negsuc n) is = absurd (omega (arith, is.0))
said Exchange (pos n) is =
    ap (λ (t : Bool). cond t (pos (2 * n / 2)) (negsuc (2 * n / 2))) (eq-eqb (2 * n % 2) 0 (omega arith))
    ∙ ap (λ (k : ℕ). pos k) (let e : 2 * n / 2 ≡ n = omega arith in e)
said Exchange (negsuc n) is =
    ap (λ (t : Bool). cond t (pos ((2 * n + 1) / 2)) (negsuc ((2 * n + 1) / 2))) (ne_eqb ((2 * n + 1) % 2) 0 (λ e. omega (arith, e)))
    ∙ ap (λ (k : ℕ). negsuc k) (let e : (2 * n + 1) / 2 ≡ n = omega arith in e)

end_same : (e f : End) → e.moment ≡ f.moment → e.amount ≡ f.amount → e.successor ≡ f.successor → e ≡ f
end_same e f m a x = λ i. record { moment = m i; amount = a i; successor = x i }

end_shown : (g : Layout) (s : State) (desk row : ℕ) (b : Booking) (p : Phase) (e : Option End) → present s row ≡ Some b → b.phase ≡ p → IsSound g b → IsInRange g b
    → has_end p e ≡ true → HasSaidAmount p e → IsLegalFrom g s (entries_of desk (saw_end row p e)) → e ≡ end_in p b.end
end_shown g s desk row b (Ended kind) (Some e) at is sound range has amount legal =
    let ended = (sound.ended kind is).1 in
    let successor : e.successor ≡ b.end.successor = (legal.0.2 ∙ word_shown s row 5 b (omega arith) at) ∙ ended.successor in
    let word : amount_word kind e.amount ≡ amount_word kind b.end.amount = (legal.1.0.2 ∙ word_shown s row 6 b (omega arith) at) ∙ ended.amount in
    let moment : e.moment ≡ b.end.moment = (legal.1.1.0.2 ∙ word_shown s row 7 b (omega arith) at) ∙ ended.moment in
    let of : IsAmountOf kind b.end.amount = subst (λ (q : Phase). HasAmountFor q b.end.amount) is range.amount in
    ap (λ (x : End). Some x)
    (end_same e b.end moment (amount ∙ (ap (said_amount kind) word ∙ said kind b.end.amount of)) successor)
end_shown g s desk row b (Ended kind) None at is sound range has amount legal = absurd (let no : false ≡ true = has in cc)
end_shown g s desk row b Free (Some e) at is sound range has amount legal = absurd (let no : false ≡ true = has in cc)
end_shown g s desk row b Free None at is sound range has amount legal = refl
end_shown g s desk row b Making (Some e) at is sound range has amount legal = absurd (let no : false ≡ true = has in cc)
end_shown g s desk row b Making None at is sound range has amount legal = refl
end_shown g s desk row b Prebooked (Some e) at is sound range has amount legal = absurd (let no : false ≡ true = has in cc)
end_shown g s desk row b Prebooked None at is sound range has amount legal = refl
end_shown g s desk row b Confirmed (Some e) at is sound range has amount legal = absurd (let no : false ≡ true = has in cc)
end_shown g s desk row b Confirmed None at is sound range has amount legal = refl
end_shown g s desk row b Fulfilled (Some e) at is sound range has amount legal = absurd (let no : false ≡ true = has in cc)
end_shown g s desk row b Fulfilled None at is sound range has amount legal = refl
end_shown g s desk row b (Ending k) (Some e) at is sound range has amount legal = absurd (let no : false ≡ true = has in cc)
end_shown g s desk row b (Ending k) None at is sound range has amount legal = refl

-- what the looks at a sealed booking showed is its row's present one
pub record IsShown (s : State) (row : RowNo) (v : RowSeen) : Type 0 where
  pub booking : Booking
  pub found : present s row.row ≡ Some booking
  pub generation : booking.generation ≡ row.generation
  pub sealed : is_sealed booking.phase ≡ true
  pub view : v ≡ view_of booking

pub row_shown : (g : Layout) (s : State) (desk : ℕ) (row : RowNo) (v : RowSeen) (es : List Step) → IsWellFormed g s → AreInRange g s → FitWords g → LooksRow row (Some v) es
    → IsLegalFrom g s (entries_of desk es) → IsShown s row v
row_shown g s desk row v es good ranges fit (seen, (last, kept, is)) all =
    let r = row.row in
    let whole = subst (λ (x : List Step). IsLegalFrom g s (entries_of desk x)) is all in
    let legal = (legal_parts g s desk (saw_words r v) (SawRow r 0 last ∷ []) whole.1).0 in
    let at = seen_first s row v.phase seen.sealed whole.0.2 in
    let b = at.0 in
    let sound = sound_of g s r b good at.1 in
    let range = all_found (IsInRange g) s r b ranges at.1 in
    let sealed : is_sealed b.phase ≡ true = ap is_sealed at.3 ∙ seen.sealed in
    let able = sound.sealed sealed in
    let count : length v.items ≡ length b.items = (legal.1.1.1.0.2 ∙ word_shown s r 4 b (omega arith) at.1) ∙ able.count in
    let items = items_shown g s desk r 8 b v.items (saw_end r v.phase v.ended) at.1 sound.words (omega arith) legal.1.1.1.1 in
    let words : map word_of v.items ≡ map word_of (map item_of b.items) =
    items.0 ∙ (ap (λ (n : ℕ). take n (drop 8 b.words)) count ∙ (able.items ∙ sym (same_words b.items))) in
    let same : v.items ≡ map item_of b.items = same_items v.items (map item_of b.items) seen.items (have_words g b.items fit sound.within) words in
    let ended : v.ended ≡ end_in b.phase b.end =
    end_shown g s desk r b v.phase v.ended at.1 at.3 sound range seen.ended seen.amount items.1 ∙ ap (λ (p : Phase). end_in p b.end) (sym at.3) in
    record {
      booking = b;
      found = at.1;
      generation = at.2;
      sealed = sealed;
      view = λ i. record {
        phase = sym at.3 i;
        retailer = (legal.0.2 ∙ word_shown s r 1 b (omega arith) at.1) i;
        limit = (legal.1.0.2 ∙ word_shown s r 2 b (omega arith) at.1) i;
        total = (legal.1.1.0.2 ∙ word_shown s r 3 b (omega arith) at.1) i;
        items = same i;
        ended = ended i;
      };
    }
