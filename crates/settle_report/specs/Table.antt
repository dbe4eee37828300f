-- The text of a settlement table.
use Rattle.std.specs.Prelude.{◌≡◌, ℕ, ◌++◌, List, [], ◌∷◌, codes, decimal, flat_map}
use Rattle.std.specs.Fmt.{signed_decimal}
use Rattle.csv.specs.Writing.{default_writer, row_text}
use Rattle.claim_rule.specs.Openings.{KeptBooking}
use Rattle.claim_rule.specs.Walls.{WallView}
use Rattle.settle_report.specs.declared.account.Account.{Account}
use Rattle.settle_report.specs.Accounts.{AreRetailers, account_of, given_away, kept_on, of_retailer, state_on}

-- the fields of the first record, of a retailer's, and of the last
abbrev pub head_fields : List (List ℕ)
head_fields =
    codes "retailer" ∷ codes "bookings" ∷ codes "live" ∷ codes "sold" ∷ codes "refunded" ∷ codes "exchanged" ∷ []

abbrev pub account_fields : ℕ → Account → List (List ℕ)
account_fields retailer a =
    decimal retailer ∷ decimal a.bookings ∷ decimal a.live ∷ decimal a.sold
    ∷ signed_decimal a.refunded ∷ signed_decimal a.exchanged ∷ []

abbrev pub forgotten_fields : ℕ → List (List ℕ)
forgotten_fields count =
    codes "forgotten" ∷ decimal count ∷ codes "0" ∷ codes "0" ∷ codes "0" ∷ codes "0" ∷ []

-- a record as a line of comma-separated fields
abbrev pub line_of : List (List ℕ) → List ℕ
line_of fields = row_text default_writer fields

abbrev pub account_line : List KeptBooking → ℕ → List ℕ
account_line kept retailer = line_of (account_fields retailer (account_of (of_retailer retailer kept)))

abbrev pub table_text : List KeptBooking → List ℕ → ℕ → List ℕ
table_text kept retailers forgotten =
    line_of head_fields ++ (flat_map (account_line kept) retailers ++ line_of (forgotten_fields forgotten))

-- the text is the settlement table of the wall
abbrev pub IsSettlement : WallView → List ℕ → Type 0
IsSettlement w text =
    (retailers : List ℕ) × AreRetailers (kept_on w) retailers
    × (text ≡ table_text (kept_on w) retailers (given_away w.layout.rows (state_on w)))
