-- The one spelling of an exchange offer.
use Rattle.std.specs.Prelude.{ℕ, ℤ, pos, negsuc, suc, ◌&&◌, nat_le, Bool, true, false, List, ◌∷◌, ◌++◌, codes, if◌then◌else◌}
use Rattle.rail_ids.specs.declared.RowNo.{RowNo}
use Rattle.offer_codes.specs.Marked.{marked}
use Rattle.offer_codes.specs.Rows.{is_row, row_marks}
use Rattle.offer_codes.specs.Offers.{OfferView, offer_view, is_offer, offer_marks}
use Rattle.offer_codes.specs.Refunds.{phase_mark}
use Rattle.offer_codes.specs.declared.code.ExchangeCode.{ExchangeCode}

-- an exchange offer, as contracts see it
pub record ExchangeView : Type 0 where
  pub row : RowNo
  pub made : ℕ
  pub fulfilled : Bool
  pub difference : ℤ
  pub offer : OfferView

abbrev pub exchange_view : ExchangeCode → ExchangeView
exchange_view c =
    record {
      row = c.row;
      made = c.made;
      fulfilled = c.fulfilled;
      difference = c.difference;
      offer = offer_view c.offer;
    }

abbrev pub magnitude : ℤ → ℕ
magnitude (pos n) = n
magnitude (negsuc n) = suc n

abbrev pub is_less : ℤ → Bool
is_less (pos n) = false
is_less (negsuc n) = true

abbrev pub is_exchange : ExchangeView → Bool
is_exchange x =
    is_row x.row && (nat_le x.made 4_102_444_799
    && (nat_le (magnitude x.difference) 99_999_999_999 && is_offer x.offer))

-- `p` before a difference of 0 and more, `m` before one of less
abbrev pub sign_mark : Bool → List ℕ
sign_mark less = if less then codes "m" else codes "p"

abbrev pub difference_mark : Bool → ℤ → List ℕ × ℕ
difference_mark fulfilled difference = (phase_mark fulfilled ++ sign_mark (is_less difference), magnitude difference)

-- how many bytes a difference takes at most: four of its mark, and twenty digits
abbrev pub difference_bytes : ℕ
difference_bytes = 24

-- `X` row, its generation, `-` made `-` phase `-` sign difference `-` offer
abbrev pub exchange_text : ExchangeView → List ℕ
exchange_text x = marked (row_marks (codes "X") x.row ++ (codes "-", x.made)
    ∷ difference_mark x.fulfilled x.difference ∷ offer_marks (codes "-O") x.offer)
