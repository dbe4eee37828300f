use Rattle.std.proofs.Common.{◌≡◌, ℕ, zero, suc, ◌+◌, List, [], length, map, replicate, refl, sym, ap, ◌∙◌, inl, arith}
use Rattle.std.proofs.lemmas.List.{length-map}
use Rattle.std.specs.List.{range_with_len}
use Rattle.rail_ids.specs.declared.PlaceNo.{PlaceNo}
use Rattle.history_model.specs.Booking.{Layout}
use Rattle.history_model.specs.History.{state_of}
use Rattle.claim_rule.specs.Rule.{BooksView, DeskView, state_seen}
use Rattle.claim_rule.specs.Desks.{IsNew, IsOf}
use Rattle.hold_core.specs.Tries.{place_number}
use Rattle.host_tiny.specs.Run.{reservations, reserved}
use Rattle.host_tiny.proofs.run.Run.start.Goals as goal

length_range : (a n : ℕ) → length (range_with_len a n) ≡ n
length_range a zero = refl
length_range a (suc n) = ap suc (length_range (a + 1) n)

how_many : (places : List PlaceNo) (n : ℕ) → map place_number places ≡ range_with_len 0 n → length places ≡ n
how_many places n are = sym (length-map places place_number) ∙ (ap length are ∙ length_range 0 n)

-- a new desk of books that begin with nothing has seen nothing
empty_state : (books : BooksView) (desk : DeskView) → IsOf books desk → IsNew desk 0 [] → books.layout.opening ≡ [] → state_seen desk ≡ []
empty_state books desk own new none =
    ap (state_of desk.layout) new.seen ∙ (ap (λ (g : Layout). g.opening) own.layout ∙ none)

pub invariant_of-result : goal.invariant_of-result
invariant_of-result c =
    let numbers = c.in_ok-numbers.numbers.items in
    let count = how_many numbers c.args.places c.in_ok-numbers.ensures in
    let b = c.in_ok-books.ensures in
    let books = c.in_ok-books.books in
    let desk = c.in_ok-books.desk in
    let legs : c.as_slice.result.now ≡ replicate (length numbers) c.args.legs =
    c.as_slice.ensures.value ∙ (c.in_ok-lengths.ensures.items_if_clones_equal (λ x e. e) ∙ ap (λ (n : ℕ). replicate n c.args.legs) (c.from.ensures ∙ sym count)) in
    record {
      some = c.requires.some;
      few = c.requires.few;
      most = omega (arith, c.requires.most, count);
      numbers = c.in_ok-numbers.ensures ∙ ap (range_with_len 0) (sym count);
      layout = b.layout ∙ ap (λ (ls : List ℕ). record { legs = ls; rows = 1024; opening = [] }) legs;
      own = b.own;
      alone = record { number = b.desk.number; parted = b.desk.parted };
      none = b.tidy.0.0;
      settled = record {
        sold = [];
        each = tt;
        rows = tt;
        is = inl (empty_state books desk b.own b.desk (ap (λ (g : Layout). g.opening) b.layout));
      };
    }

pub returns : goal.returns
returns c =
    let count = how_many c.in_ok-numbers.numbers.items c.args.places c.in_ok-numbers.ensures in
    let b = c.in_ok-books.ensures in
    let held : reserved c.in_ok-books.desk ≡ [] =
    ap reservations (empty_state c.in_ok-books.books c.in_ok-books.desk b.own b.desk (ap (λ (g : Layout). g.opening) b.layout)) in
    record { run = λ i. record { legs = c.args.legs; places = count i; held = held i } }
