-- A desk stays at home from call to call.
use Rattle.claim_rule.specs.Rule.{BooksView, DeskView}
use Rattle.claim_rule.specs.Desks.{IsOf}
use Rattle.claim_rule.specs.Out.{IsTidy, KeepsHolds, KeepsEndings}
use Rattle.claim_rule.proofs.Out.{still_idle}
use Rattle.shop.specs.Homes.{IsAtHome, StaysHome}

-- through a call that leaves its holds and its endings
pub stays : (books : BooksView) (old new : DeskView) → IsOf books new → KeepsHolds old new → KeepsEndings old new → (IsTidy old → IsTidy new) → IsAtHome books old → StaysHome books old new
stays books old new own holds endings tidy home = record { home = record { own = own; idle = still_idle old new holds endings home.idle }; tidy = tidy }

-- through two calls
pub stays_then : (books : BooksView) (old mid new : DeskView) → StaysHome books old mid → StaysHome books mid new → StaysHome books old new
stays_then books old mid new first second = record { home = second.home; tidy = λ tidy. second.tidy (first.tidy tidy) }
