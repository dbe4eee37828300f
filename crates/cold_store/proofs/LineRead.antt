-- A line, read part by part.
use Rattle.std.proofs.Common.{◌≡◌, ℕ, true, false, List, [], ◌∷◌, ◌++◌, length, Option, Some, None, IsSomeAnd, refl, sym, ap, ◌∙◌, subst, append_assoc}
use Rattle.std.proofs.lemmas.List.{append_cancel_left}
use Rattle.leg_masks.specs.Interval.{PlacedSpan as Item}
use Rattle.history_model.specs.declared.phase.Phase.{Phase}
use Rattle.history_model.specs.declared.phase.Phase.TheVariants.{Ended}
use Rattle.line_text.specs.declared.heads.Head.{Head}
use Rattle.line_text.specs.declared.heads.SaidItem.{SaidItem}
use Rattle.line_text.specs.declared.ends.SaidEnd.{SaidEnd}
use Rattle.line_text.specs.Lines.{IsEndSaid, IsNumber, IsSayable, SaidBooking, booking_line, end_fields, head_text, items_fields, number_field}
use Rattle.cold_store.specs.Right.{head_of}
use Rattle.cold_store.specs.Reads.{AreItemsOf, ReadsItems, ReadsLine}
use Rattle.line_text.specs.Reads.{Eats, IsCut, IsHeadSaid, Reads, head_fields}

regroup : (h a b c d x : List ℕ) → h ++ (a ++ (b ++ (c ++ (d ++ x)))) ≡ (h ++ (a ++ (b ++ (c ++ d)))) ++ x
regroup h a b c d x = simp append_assoc

line_parts : (b : SaidBooking) → booking_line b ≡ head_fields (head_of b) ++ (items_fields b.items ++ end_fields b.phase b.end)
line_parts b =
    regroup (head_text b.row b.generation b.phase) (number_field b.retailer) (number_field b.limit) (number_field b.total)
    (number_field (length b.items)) (items_fields b.items ++ end_fields b.phase b.end)

nested : (a b c d : List ℕ) → (a ++ (b ++ c)) ++ d ≡ a ++ (b ++ (c ++ d))
nested a b c d = simp append_assoc

pub line_is : (b : SaidBooking) (rest : List ℕ) → booking_line b ++ rest ≡ head_fields (head_of b) ++ (items_fields b.items ++ (end_fields b.phase b.end ++ rest))
line_is b rest =
    ap (λ (x : List ℕ). x ++ rest) (line_parts b)
    ∙ nested (head_fields (head_of b)) (items_fields b.items) (end_fields b.phase b.end) rest

cut_end : (phase : Phase) (end : SaidEnd) (rest : List ℕ) → IsCut rest → IsCut (end_fields phase end ++ rest)
cut_end (Ended kind) end rest cut = refl
cut_end _ end rest cut = cut

cut_items : (items : List SaidItem) (rest : List ℕ) → IsCut rest → IsCut (items_fields items ++ rest)
cut_items [] rest cut = cut
cut_items (i ∷ items) rest cut = refl

head_said : (b : SaidBooking) → IsSayable b → IsHeadSaid (head_of b)
head_said b s =
    record {
      row = s.row;
      generation = s.generation;
      phase = s.phase;
      retailer = s.retailer;
      limit = s.limit;
      total = s.total;
      count = s.count;
    }

-- what a line says is read

module _ (b : SaidBooking) (rest : List ℕ) (s : IsSayable b) where
  head_only : {old mid : List ℕ} {r : Option Head} → Reads head_fields IsHeadSaid old mid r → old ≡ booking_line b ++ 10 ∷ rest → (r ≡ Some (head_of b)) × (mid ≡ items_fields b.items ++ (end_fields b.phase b.end ++ 10 ∷ rest))
  head_only r e =
      r.only (head_of b) (items_fields b.items ++ (end_fields b.phase b.end ++ 10 ∷ rest)) (head_said b s)
      (cut_items b.items (end_fields b.phase b.end ++ 10 ∷ rest) (cut_end b.phase b.end (10 ∷ rest) refl)) (e ∙ line_is b (10 ∷ rest))

  items_only : {legs old mid : List ℕ} {count : ℕ} {r : Option (Option (List Item))} → ReadsItems legs count old mid r → length b.items ≡ count → old ≡ items_fields b.items ++ (end_fields b.phase b.end ++ 10 ∷ rest) → IsSomeAnd r (AreItemsOf legs b.items) × (mid ≡ end_fields b.phase b.end ++ 10 ∷ rest)
  items_only r n e =
      r.only b.items (end_fields b.phase b.end ++ 10 ∷ rest) s.items n (cut_end b.phase b.end (10 ∷ rest) refl) e

  end_only : {old mid : List ℕ} {r : Option SaidEnd} → Reads (end_fields b.phase) (IsEndSaid b.phase) old mid r → old ≡ end_fields b.phase b.end ++ 10 ∷ rest → (r ≡ Some b.end) × (mid ≡ 10 ∷ rest)
  end_only r e = r.only b.end (10 ∷ rest) s.end refl e

-- so nothing is where a part isn't read

pub no_head : {legs old new : List ℕ} → Reads head_fields IsHeadSaid old new None → ReadsLine legs old new None
no_head r = record { found = tt; only = λ b rest s e. let h = head_only b rest s r e in absurd (let q = h.0 in cc) }

head_known : {old m₁ : List ℕ} {h : Head} → Reads head_fields IsHeadSaid old m₁ (Some h) → (b : SaidBooking) (rest : List ℕ) → IsSayable b → old ≡ booking_line b ++ 10 ∷ rest → (h ≡ head_of b) × (m₁ ≡ items_fields b.items ++ (end_fields b.phase b.end ++ 10 ∷ rest))
head_known {h = h} first b rest s e =
    let k = head_only b rest s first e in ((let q = k.0 in let t : h ≡ head_of b = cc in t), k.1)

pub no_items : {legs old m₁ new : List ℕ} {h : Head} → Reads head_fields IsHeadSaid old m₁ (Some h) → ReadsItems legs h.count m₁ new None → ReadsLine legs old new None
no_items first r =
    record {
      found = tt;
      only = λ b rest s e.
          let k = head_known first b rest s e in
          absurd (items_only b rest s r (sym (ap (λ (x : Head). x.count) k.0)) k.1).0;
    }

-- the fields and the items were read
pub record Begun (legs old mid : List ℕ) (h : Head) (items : Option (List Item)) : Type 0 where
  pub between : List ℕ
  pub first : Reads head_fields IsHeadSaid old between (Some h)
  pub second : ReadsItems legs h.count between mid (Some items)

module _ {legs old mid : List ℕ} {h : Head} {items : Option (List Item)} (begun : Begun legs old mid h items) where
  items_known : (b : SaidBooking) (rest : List ℕ) → IsSayable b → old ≡ booking_line b ++ 10 ∷ rest → (h ≡ head_of b) × AreItemsOf legs b.items items × (mid ≡ end_fields b.phase b.end ++ 10 ∷ rest)
  items_known b rest s e =
      let k = head_known begun.first b rest s e in
      let i = items_only b rest s begun.second (sym (ap (λ (x : Head). x.count) k.0)) k.1 in (k.0, i.0, i.1)

  end_known : {new : List ℕ} {r : Option SaidEnd} → Reads (end_fields h.phase) (IsEndSaid h.phase) mid new r → (b : SaidBooking) (rest : List ℕ) → IsSayable b → old ≡ booking_line b ++ 10 ∷ rest → (r ≡ Some b.end) × (new ≡ 10 ∷ rest)
  end_known {new = new} {r = r} third b rest s e =
      let k = items_known b rest s e in
      end_only b rest s (subst (λ (x : Head). Reads (end_fields x.phase) (IsEndSaid x.phase) mid new r) k.0 third) k.2

  pub no_end : {new : List ℕ} → Reads (end_fields h.phase) (IsEndSaid h.phase) mid new None → ReadsLine legs old new None
  no_end third =
      record { found = tt; only = λ b rest s e. let k = end_known third b rest s e in absurd (let q = k.0 in cc) }

  pub no_feed : {m₃ new : List ℕ} {end : SaidEnd} → Reads (end_fields h.phase) (IsEndSaid h.phase) mid m₃ (Some end) → Eats (10 ∷ []) m₃ new false → ReadsLine legs old new None
  no_feed third last =
      record {
        found = tt;
        only = λ b rest s e. let k = end_known third b rest s e in absurd ((last.none refl).1 rest k.1);
      }

  abbrev said_by : SaidEnd → SaidBooking
  said_by end =
      record {
        row = h.row;
        generation = h.generation;
        phase = h.phase;
        retailer = h.retailer;
        limit = h.limit;
        total = h.total;
        items = begun.second.found.0;
        end = end;
      }

  head_is : (end : SaidEnd) → h ≡ head_of (said_by end)
  head_is end =
      ap (λ (n : ℕ). let x : Head = record {
        row = h.row;
        generation = h.generation;
        phase = h.phase;
        retailer = h.retailer;
        limit = h.limit;
        total = h.total;
        count = n;
      } in x) (sym begun.second.found.2)

  is_sayable : (end : SaidEnd) → IsEndSaid h.phase end → IsSayable (said_by end)
  is_sayable end is =
      let head = begun.first.found.0 in let found = begun.second.found in
      record {
        row = head.row;
        generation = head.generation;
        phase = head.phase;
        retailer = head.retailer;
        limit = head.limit;
        total = head.total;
        count = subst IsNumber (sym found.2) head.count;
        items = found.1;
        end = is;
      }

  is_line : {m₃ new : List ℕ} (end : SaidEnd) → mid ≡ end_fields h.phase end ++ m₃ → m₃ ≡ 10 ∷ new → old ≡ booking_line (said_by end) ++ 10 ∷ new
  is_line {new = new} end e last =
      begun.first.found.1
      ∙ (ap (λ (x : List ℕ). head_fields h ++ x) (begun.second.found.3
      ∙ ap (λ (x : List ℕ). items_fields begun.second.found.0 ++ x) (e ∙ ap (λ (x : List ℕ). end_fields h.phase end ++ x) last))
      ∙ (ap (λ (x : Head). head_fields x ++ (items_fields begun.second.found.0 ++ (end_fields h.phase end ++ 10 ∷ new))) (head_is end)
      ∙ sym (line_is (said_by end) (10 ∷ new))))

  pub line_read : {m₃ new : List ℕ} {end : SaidEnd} → Reads (end_fields h.phase) (IsEndSaid h.phase) mid m₃ (Some end) → Eats (10 ∷ []) m₃ new true → ReadsLine legs old new (Some (record { head = h; items = items; end = end }))
  line_read {m₃ = m₃} {new = new} {end = end} third last =
      record {
        found = (
          said_by end,
          is_sayable end third.found.0,
          is_line end third.found.1 (last.found refl),
          record { head = head_is end; items = begun.second.found.4; end = refl },
        );
        only = λ b rest s e.
            let i = items_known b rest s e in let k = end_known third b rest s e in (
              record { head = i.0; items = i.1; end = let q = k.0 in let t : end ≡ b.end = cc in t },
              append_cancel_left (10 ∷ []) new rest (sym (last.found refl) ∙ k.1),
            );
      }
