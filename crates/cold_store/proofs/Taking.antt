-- What a draft keeps while items are taken.
use Rattle.std.proofs.Common.{◌≡◌, ℕ, zero, suc, ◌+◌, ◌*◌, ◌<◌, ◌≤◌, List, [], ◌∷◌, ◌++◌, length, take, get_or, set, All, Bool, true, false, cond, Option, Some, None, refl, sym, ap, ◌∙◌, subst, arith, add-one, length-set}
use Rattle.std.proofs.lemmas.List.Elements.{All-get_or}
use Rattle.leg_masks.specs.Interval.{PlacedSpan as Item}
use Rattle.std.specs.Option.{option_map_or}
use Rattle.history_model.specs.Phase.{is_live}
use Rattle.line_text.specs.declared.heads.Head.{Head}
use Rattle.line_text.specs.declared.ends.SaidEnd.{SaidEnd}
use Rattle.cold_store.specs.Drafts.{DraftView, IsPlaceOf, IsWholeDraft, first_word_of, took, with_items, with_line, with_taken, with_words, words_of_line}
use Rattle.cold_store.specs.Reads.{LineView}
use Rattle.cold_store.proofs.Puts.{length-put}

-- all but the words and the overlap stays
pub record Keeps (d e : DraftView) : Type 0 where
  pub places : e.places ≡ d.places
  pub rows : e.rows ≡ d.rows
  pub count : length e.words ≡ length d.words
  pub lines : e.lines ≡ d.lines
  pub follows : e.follows ≡ d.follows
  pub wrong : e.wrong ≡ d.wrong

pub Keeps-self : (d : DraftView) → Keeps d d
Keeps-self d = record { places = refl; rows = refl; count = refl; lines = refl; follows = refl; wrong = refl }

pub Keeps-chain : {d e f : DraftView} → Keeps d e → Keeps e f → Keeps d f
Keeps-chain h k =
    record {
      places = k.places ∙ h.places;
      rows = k.rows ∙ h.rows;
      count = k.count ∙ h.count;
      lines = k.lines ∙ h.lines;
      follows = k.follows ∙ h.follows;
      wrong = k.wrong ∙ h.wrong;
    }

pub took-keeps : (d : DraftView) (i : Item) → Keeps d (took d i)
took-keeps d i = record { places = refl; rows = refl; count = length-set d.words _ _; lines = refl; follows = refl; wrong = refl }

pub taken-keeps : (d : DraftView) (is : List Item) → Keeps d (with_taken d is)
taken-keeps d [] = Keeps-self d
taken-keeps d (i ∷ is) = Keeps-chain (took-keeps d i) (taken-keeps (took d i) is)

pub words-keeps : (d : DraftView) (row : ℕ) (ns : List ℕ) → Keeps d (with_words d row ns)
words-keeps d row ns = record { places = refl; rows = refl; count = length-put d.words (first_word_of d row) ns; lines = refl; follows = refl; wrong = refl }

items-keeps : (d : DraftView) (row : ℕ) (ns : List ℕ) (is : List Item) (t : Bool) → Keeps d (cond t (with_taken (with_words d row ns) is) (with_words d row ns))
items-keeps d row ns is true = Keeps-chain (words-keeps d row ns) (taken-keeps (with_words d row ns) is)
items-keeps d row ns is false = words-keeps d row ns

some-keeps : (d : DraftView) (h : Head) (e : SaidEnd) (o : Option (List Item)) → Keeps d (option_map_or (with_items d h e) o d)
some-keeps d h e None = Keeps-self d
some-keeps d h e (Some is) = items-keeps d h.row (words_of_line h e is) is (is_live h.phase)

pub line-keeps : (d : DraftView) (line : LineView) → Keeps d (with_line d line)
line-keeps d line = some-keeps d line.head line.end line.items

-- a draft that is whole stays so
pub whole-kept : (d e : DraftView) → Keeps d e → IsWholeDraft d → IsWholeDraft e
whole-kept d e k whole = let a = k.places in let b = k.rows in k.count ∙ whole ∙ rw (a, b) refl

pub place-kept : (d e : DraftView) (place : ℕ) → Keeps d e → IsPlaceOf d place → IsPlaceOf e place
place-kept d e place k is = let a = k.places in (whole-kept d e k is.0, rw a (is.1))

-- one item more
pub taken-more : (d : DraftView) (is : List Item) (k : ℕ) (x : Item) → k < length is → took (with_taken d (take k is)) (get_or is k x) ≡ with_taken d (take (k + 1) is)
taken-more d [] k x h = absurd (omega arith)
taken-more d (i ∷ is) zero x h = refl
taken-more d (i ∷ is) (suc k) x h = let e : suc k + 1 ≡ suc (k + 1) = omega arith in taken-more (took d i) is k x (omega arith) ∙ ap (λ (n : ℕ). with_taken d (take n (i ∷ is))) (sym e)
