-- A command that was performed, by what was said of it.
use Rattle.std.proofs.Common.{◌≡◌, ℕ, Bool, List, [], Result, Ok, Err, arith}
use Rattle.history_model.specs.History.{IsLegal}
use Rattle.claim_rule.specs.Rule.{BooksView, DeskView}
use Rattle.claim_rule.specs.Desks.{IsOf}
use Rattle.claim_rule.proofs.Shapes.{adds_length}
use Rattle.expiry_sweeper.specs.Complete.{LeavesNoneOverdue}
use Rattle.catalogue_contents.specs.Contents.{CatalogueView}
use Rattle.osdm_parts.specs.declared.problem.Problem.{Problem}
use Rattle.osdm_texts.specs.Answers.{Reply, Told}
use Rattle.service_rules.specs.Ordered as order
use Rattle.service_rules.specs.Answering.{AnswersBy, BooksBy}
use Rattle.service_laws.specs.Bounded.{EndsWithin}
use Rattle.service_laws.specs.Commands.{IfSweeps}
use Rattle.service_laws.proofs.Commanding.{sweep_commands_complete}
use Rattle.service_laws.proofs.Placing.{commands_bounded}
use Rattle.rail_service.specs.Bytes.{told_bytes, reply_bytes}
use Rattle.rail_service.specs.Commands.{Says, GoesOn}
use Rattle.rail_service.specs.Sparing.{MakesFor}
use Rattle.rail_service.proofs.Telling.{written_so}
use Rattle.rail_service.proofs.Owned.{answers_own}
use Rattle.rail_service.proofs.Sparing.{answers_make}
use Rattle.rail_service.proofs.Going.{goes_on}

pub told_so : (cat : CatalogueView) (retailer now : ℕ) (last : Bool) (o : Result order.Ordered Problem) (old new : DeskView) (said : Told) (written : List ℕ) → IsLegal old.layout old.seen → Says cat retailer now o old new said
    → written ≡ told_bytes last said
    → (reply : Reply) × AnswersBy cat retailer now o old new reply × BooksBy cat now o old new reply × MakesFor old new reply × (written ≡ reply_bytes cat last reply)
told_so cat retailer now last o old new said written legal (reply, did, all, so) bytes =
    (reply, did, all, answers_make cat retailer now o old new reply legal did, written_so cat last reply said written bytes so)

pub went_on : (cat : CatalogueView) (retailer now : ℕ) (o : Result order.Ordered Problem) (old new : DeskView) (said : Told) → IsLegal old.layout old.seen → Says cat retailer now o old new said → GoesOn old new
went_on cat retailer now o old new said legal (reply, did, all, so) = goes_on old new (answers_own cat retailer now o old new reply legal did)

pub bounded_so : (cat : CatalogueView) (books : BooksView) (retailer now : ℕ) (o : Result order.Ordered Problem) (old new : DeskView) (said : Told) → IsOf books old → cat.rows ≡ books.layout.rows → Says cat retailer now o old new said → EndsWithin cat now o old new
bounded_so cat books retailer now (Ok o) old new said own rows (reply, did, all, so) = commands_bounded cat books retailer now o reply old new own rows did
bounded_so cat books retailer now (Err p) old new said own rows (reply, did, all, so) = adds_length old new [] 0 did.0 (omega arith)

pub complete_so : (cat : CatalogueView) (books : BooksView) (retailer now : ℕ) (o : Result order.Ordered Problem) (old new : DeskView) (said : Told) → IsOf books old → cat.rows ≡ books.layout.rows → Says cat retailer now o old new said
    → IfSweeps o (LeavesNoneOverdue books now old new)
complete_so cat books retailer now (Ok order.sweep) old new said own rows (reply, did, all, so) = sweep_commands_complete cat books old new retailer now reply own rows did
complete_so cat books retailer now (Ok (order.offers wish)) old new said own rows says = tt
complete_so cat books retailer now (Ok (order.book code together)) old new said own rows says = tt
complete_so cat books retailer now (Ok (order.reserve r)) old new said own rows says = tt
complete_so cat books retailer now (Ok (order.show row)) old new said own rows says = tt
complete_so cat books retailer now (Ok (order.release row)) old new said own rows says = tt
complete_so cat books retailer now (Ok (order.confirm row)) old new said own rows says = tt
complete_so cat books retailer now (Ok (order.fulfil row)) old new said own rows says = tt
complete_so cat books retailer now (Ok (order.quote_refund row)) old new said own rows says = tt
complete_so cat books retailer now (Ok (order.accept_refund code)) old new said own rows says = tt
complete_so cat books retailer now (Ok (order.quote_exchange row code)) old new said own rows says = tt
complete_so cat books retailer now (Ok (order.accept_exchange code)) old new said own rows says = tt
complete_so cat books retailer now (Ok (order.places segment)) old new said own rows says = tt
complete_so cat books retailer now (Err p) old new said own rows says = tt
