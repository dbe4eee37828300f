-- A hold that is out at a desk of the books.
use Rattle.claim_rule.specs.Rule.{BooksView, DeskView}
use Rattle.claim_rule.specs.Holds.{HoldView}
use Rattle.claim_rule.specs.Desks.{IsOf}
use Rattle.claim_rule.specs.Out.{IsHolding, KeepsEndings}

-- the desk is of these books, and this hold is out at it
pub record IsOutAt (books : BooksView) (desk : DeskView) (hold : HoldView) : Type 0 where
  pub own : IsOf books desk
  pub held : IsHolding desk hold

-- after the call this hold is out, and the desk's ending is as it was
pub record StaysOut (books : BooksView) (old new : DeskView) (hold : HoldView) : Type 0 where
  pub out : IsOutAt books new hold
  pub endings : KeepsEndings old new
