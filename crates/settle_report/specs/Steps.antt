-- What the functions that make a settlement table do.
use Rattle.std.specs.Prelude.{◌≡◌, ℕ, ◌<◌, ◌≤◌, ◌*◌, ◌==◌, if◌then◌else◌, false, List, [], ◌∷◌, ◌++◌, Option, Some, None, option_and_then, flat_map, Vec, ◌≢◌, IsSomeAnd}
use Rattle.csv.specs.Writing.{default_writer, fields_written, has_written, text_written, writer_setup}
use Rattle.csv.specs.declared.writer.Writer.{Writer}
use Rattle.std.specs.Prelude.{ℤ, pos, ◌+ℤ◌, ◌≤ℤ◌}
use Rattle.std.specs.declared.alloc.Global.{Global}
use Rattle.std.specs.BTreeMap.{BTreeMap, get}
use Rattle.std.specs.Option.{unwrap_or}
use Rattle.std.specs.Ordering.{nat_cmp}
use Rattle.history_model.specs.declared.phase.EndKind.{EndKind}
use Rattle.history_model.specs.declared.phase.Phase.{Phase}
use Rattle.history_model.specs.Allowed.{IsAmountOf, OnRow}
use Rattle.history_model.specs.Booking.{State, amount_word, greatest_amount, most_rows}
use Rattle.claim_rule.specs.Openings.{KeptBooking, end_in, kept_bookings, kept_of_row}
use Rattle.claim_rule.specs.Walls.{WallView}
use Rattle.settle_report.specs.declared.account.Account.{Account}
use Rattle.settle_report.specs.declared.account.Sale.{Sale}
use Rattle.settle_report.specs.declared.table.Accounts.{Accounts}
use Rattle.settle_report.specs.Accounts.{account_of, given_away, of_retailer, state_on}
use Rattle.settle_report.specs.Table.{account_fields, forgotten_fields, head_fields, line_of}

-- what counts of a booking
abbrev pub sale_of : KeptBooking → Sale
sale_of k = record { retailer = k.retailer; phase = k.phase; total = k.total; amount = k.end.amount }

-- the same, where the retailer is above 0
abbrev pub own_sale : KeptBooking → Option Sale
own_sale k = if k.retailer == 0 then None else Some (sale_of k)

-- what counts of a row
abbrev pub sale_in : State → ℕ → Option Sale
sale_in s row = option_and_then own_sale (kept_of_row s row)

-- the amount is that of a booking's end of this kind, as its word says
abbrev pub IsAmountBy : EndKind → ℕ → ℤ → Type 0
IsAmountBy kind word amount = IsAmountOf kind amount × (amount_word kind amount ≡ word)

-- the row's booking is in this phase
abbrev pub IsInPhase : State → ℕ → Phase → Type 0
IsInPhase s row phase = OnRow s row (λ b. b.phase ≡ phase)

-- the amount is that of the end of the row's booking
abbrev pub IsEndAmount : State → ℕ → ℤ → Type 0
IsEndAmount s row amount = OnRow s row (λ b. amount ≡ (end_in b.phase b.end).amount)

-- as far from 0 as that many amounts of ends can sum to
abbrev pub most_paid : ℕ
most_paid = 100009999999

abbrev pub IsSumOfFew : ℕ → ℤ → Type 0
IsSumOfFew count amount = (pos 0 ≤ℤ (amount +ℤ pos (count * most_paid))) × (amount ≤ℤ pos (count * most_paid))

-- the numbers of a sale are in range
pub record IsFair (sale : Sale) : Type 0 where
  pub total : sale.total ≤ greatest_amount
  pub amount : IsSumOfFew 1 sale.amount

-- the account is no greater than one of that many bookings can be
pub record IsOfFew (count : ℕ) (a : Account) : Type 0 where
  pub bookings : a.bookings ≤ count
  pub live : a.live ≤ count
  pub sold : a.sold ≤ count * greatest_amount
  pub refunded : IsSumOfFew count a.refunded
  pub exchanged : IsSumOfFew count a.exchanged

-- it is not that of as many bookings as there may be rows, so it has room for one more
abbrev pub HasRoom : Account → Type 0
HasRoom a = (count : ℕ) × (count < most_rows) × IsOfFew count a

-- of whatever bookings the first account is, the second is of those and one more, of which this counts
abbrev pub AddsSale : Sale → Account → Account → Type 0
AddsSale sale old new =
    (kept : List KeptBooking) (k : KeptBooking) → old ≡ account_of kept → sale ≡ sale_of k
    → new ≡ account_of (kept ++ k ∷ [])

-- the retailer's account, and an empty one where it has none
abbrev pub account_at : BTreeMap ℕ Account → ℕ → Account
account_at accounts retailer = unwrap_or (get nat_cmp accounts retailer) (account_of [])

abbrev pub HasRoomAt : ℕ → BTreeMap ℕ Account → Type 0
HasRoomAt retailer accounts = HasRoom (account_at accounts retailer)

-- the sale is added to its retailer's account, and the others stay
pub record AddsToOne (sale : Sale) (old new : BTreeMap ℕ Account) : Type 0 where
  pub one : IsSomeAnd (get nat_cmp new sale.retailer) (AddsSale sale (account_at old sale.retailer))
  pub others : (retailer : ℕ) → retailer ≢ sale.retailer → get nat_cmp new retailer ≡ get nat_cmp old retailer

-- the account of some bookings, if there are any
abbrev pub some_account : List KeptBooking → Option Account
some_account [] = None
some_account (k ∷ ks) = Some (account_of (k ∷ ks))

-- the accounts are those of the rows below a number
pub record AreAccounts (w : WallView) (rows : ℕ) (a : Accounts) : Type 0 where
  pub each : (retailer : ℕ) → 0 < retailer
      → get nat_cmp a.by_retailer retailer ≡ some_account (of_retailer retailer (kept_bookings rows (state_on w)))
  pub no_retailer : get nat_cmp a.by_retailer 0 ≡ None
  pub given : a.given_away ≡ given_away rows (state_on w)

abbrev pub entry_line : ℕ × Account → List ℕ
entry_line e = line_of (account_fields e.0 e.1)

-- the table of these accounts
abbrev pub text_of : Accounts → List ℕ
text_of a =
    line_of head_fields ++ (flat_map entry_line a.by_retailer.entries ++ line_of (forgotten_fields a.given_away))

-- the writer has written this text, which ends with a record
pub record HasText (w : Writer (Vec ℕ Global)) (text : List ℕ) : Type 0 where
  pub text_is : text_written (λ (v : Vec ℕ Global). Some v.items) w ≡ Some text
  pub setup : writer_setup w ≡ default_writer
  pub fields : fields_written w ≡ 0
  pub between : has_written w ≡ false

-- a line was written after whatever text there was
abbrev pub AddsLine : List ℕ → Writer (Vec ℕ Global) → Writer (Vec ℕ Global) → Type 0
AddsLine line old new = (text : List ℕ) → HasText old text → HasText new (text ++ line)
