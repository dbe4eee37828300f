use Rattle.std.proofs.Common.{◌≡◌, ◌∙◌, ℕ, List, [], ◌∷◌, decimal, OnOk, subst, ap, rules, w64, FitsSigned}
use Rattle.std.specs.Fmt.{signed_decimal}
use Rattle.std.proofs.lemmas.Int.{to_z-of_z}
use Rattle.settle_report.specs.Steps.{AddsLine}
use Rattle.settle_report.specs.Table.{account_fields, line_of}
use Rattle.settle_report.proofs.table.write_account.Goals as goal

pub returns : goal.returns
returns c =
    let a = c.args.account in
    let number : c.as_bytes.result.now ≡ decimal c.args.retailer = c.as_bytes.ensures.value ∙ c.format.ensures.text in
    let bookings : c.as_bytes-2.result.now ≡ decimal a.bookings = c.as_bytes-2.ensures.value ∙ c.format-2.ensures.text in
    let live : c.as_bytes-3.result.now ≡ decimal a.live = c.as_bytes-3.ensures.value ∙ c.format-3.ensures.text in
    let sold : c.as_bytes-4.result.now ≡ decimal a.sold = c.as_bytes-4.ensures.value ∙ c.format-4.ensures.text in
    let fits : FitsSigned w64 a.refunded = search rules in
    let fits2 : FitsSigned w64 a.exchanged = search rules in
    let refunded : c.as_bytes-5.result.now ≡ signed_decimal a.refunded = c.as_bytes-5.ensures.value ∙ (c.format-5.ensures.text ∙ ap signed_decimal (to_z-of_z w64 a.refunded fits)) in
    let exchanged : c.as_bytes-6.result.now ≡ signed_decimal a.exchanged = c.as_bytes-6.ensures.value ∙ (c.format-6.ensures.text ∙ ap signed_decimal (to_z-of_z w64 a.exchanged fits2)) in
    let fields : (c.as_bytes.result.now ∷ c.as_bytes-2.result.now ∷ c.as_bytes-3.result.now ∷ c.as_bytes-4.result.now ∷ c.as_bytes-5.result.now ∷ c.as_bytes-6.result.now ∷ [])
    ≡ account_fields c.args.retailer a =
    λ i. number i ∷ bookings i ∷ live i ∷ sold i ∷ refunded i ∷ exchanged i ∷ [] in
    subst (λ (fs : List (List ℕ)). OnOk c.write_record.result (AddsLine (line_of fs) c.args.writer.now c.write_record.new.writer)) fields c.write_record.ensures
