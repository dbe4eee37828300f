-- The bytes of what is told are those of its reply.
use Rattle.std.proofs.Common.{◌≡◌, ◌∙◌, ℕ, Bool, List, refl, ap}
use Rattle.catalogue_contents.specs.Contents.{CatalogueView}
use Rattle.osdm_parts.specs.declared.problem.Problem.{Problem}
use Rattle.osdm_texts.specs.Answers.{Reply, offer_list, created, booking, refund_offer, exchange_offer, exchanged, place_list, swept, problem, Told, refused, reply_told}
use Rattle.rail_service.specs.Bytes.{reply_bytes, told_bytes}

pub bytes_told : (cat : CatalogueView) (last : Bool) (reply : Reply) → told_bytes last (reply_told cat reply) ≡ reply_bytes cat last reply
unfolding reply_bytes reply_told
bytes_told cat last (offer_list offers) = refl
bytes_told cat last (created row view) = refl
bytes_told cat last (booking row view) = refl
bytes_told cat last (refund_offer code) = refl
bytes_told cat last (exchange_offer code) = refl
bytes_told cat last (exchanged row view difference replaced) = refl
bytes_told cat last (place_list run free) = refl
bytes_told cat last (swept n) = refl
bytes_told cat last (problem p) = refl

pub of_problem : (cat : CatalogueView) (last : Bool) (p : Problem) → told_bytes last (refused p) ≡ reply_bytes cat last (problem p)
unfolding reply_bytes
of_problem cat last p = refl

-- what was said of a reply is written so
pub written_so : (cat : CatalogueView) (last : Bool) (reply : Reply) (said : Told) (written : List ℕ) → written ≡ told_bytes last said → said ≡ reply_told cat reply → written ≡ reply_bytes cat last reply
written_so cat last reply said written is so = is ∙ (ap (told_bytes last) so ∙ bytes_told cat last reply)
