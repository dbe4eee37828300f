-- A desk at its shop between two commands.
use Rattle.claim_rule.specs.Rule.{BooksView, DeskView}
use Rattle.claim_rule.specs.Desks.{IsOf}
use Rattle.claim_rule.specs.Out.{IsIdle, IsTidy}

-- the desk is of these books, and nothing is out at it
pub record IsAtHome (books : BooksView) (desk : DeskView) : Type 0 where
  pub own : IsOf books desk
  pub idle : IsIdle desk

-- it is at home after the call too, and tidy where it was tidy before
pub record StaysHome (books : BooksView) (old new : DeskView) : Type 0 where
  pub home : IsAtHome books new
  pub tidy : IsTidy old → IsTidy new
