-- What a command that was read orders is sound.
use Rattle.std.proofs.Common.{◌≡◌, ℕ, ◌+◌, ◌≤◌, Bool, true, false, cond, Option, Some, None, Ok, Err, refl, subst}
use Rattle.std.specs.Prelude.{Result, ◌&&◌, nat_le, nat_lt, IfSome}
use Rattle.std.proofs.lemmas.Bool.{and_parts, leb-true, ltb-false}
use Rattle.rail_ids.specs.declared.RowNo.{RowNo}
use Rattle.offer_codes.specs.declared.code.OfferCode.{OfferCode}
use Rattle.offer_codes.specs.Offers.{offer_view, is_offer, valid_seconds}
use Rattle.catalogue_contents.specs.Contents.{CatalogueView}
use Rattle.offer_engine.specs.Codes.{is_offered}
use Rattle.osdm_parts.specs.declared.problem.Problem.{Problem}
use Rattle.osdm_parts.specs.declared.problem.Problem.TheVariants.{UnknownOffer, OfferTooOld}
use Rattle.osdm_json.specs.declared.command.Command.{Command}
use Rattle.osdm_json.specs.declared.command.Command.TheVariants as command
use Rattle.osdm_json.specs.Readable.{IsReadable}
use Rattle.service_rules.specs.Ordered as order
use Rattle.service_rules.specs.Checks.{aged, checked, offer_checked, row_checked, is_of_row, refund_checked, is_quoted, exchange_checked, and_then, ordered}
use Rattle.service_rules.specs.Orders.{IsFresh, IsSoundOrder}

abbrev Checked : Type 0 → Type 0
Checked A = Result A Problem

ok_is : {A : Type 0} (x y : A) → ◌≡◌ {A = Checked A} (Ok x) (Ok y) → x ≡ y
ok_is x y e = cc

no_problem : {A : Type 0} (p : Problem) (x : A) → ◌≡◌ {A = Checked A} (Err p) (Ok x) → ⊥
no_problem p x e = absurd cc

-- a code that passed is known and fresh
checked_is : {A : Type 0} (known : Bool) (made now : ℕ) (code c : A) → checked known made now code ≡ Ok c → (known ≡ true) × (code ≡ c) × IsFresh made now
checked_is {A} known made now code c is = go (known && nat_le made now) refl is where
  young : (t : Bool) → nat_lt (made + valid_seconds) now ≡ t → cond t (Err (OfferTooOld made now)) (Ok code) ≡ Ok c → (code ≡ c) × (now ≤ made + valid_seconds)
  young true late is = absurd (no_problem (OfferTooOld made now) c is)
  young false late is = (ok_is code c is, ltb-false (made + valid_seconds) now late)

  go : (t : Bool) → (known && nat_le made now) ≡ t → cond t (aged made now code) (Err UnknownOffer) ≡ Ok c → (known ≡ true) × (code ≡ c) × IsFresh made now
  go false e is = absurd (no_problem UnknownOffer c is)
  go true e is =
      let both = and_parts known (nat_le made now) e in
      let aged_is = young (nat_lt (made + valid_seconds) now) refl is in
      (both.0, aged_is.0, (leb-true made now both.1, aged_is.1))

offer_sound : (cat : CatalogueView) (now : ℕ) (offer : Option OfferCode) (c : OfferCode) → IfSome offer (λ c. is_offer (offer_view c) ≡ true) → offer_checked cat now offer ≡ Ok c
    → (is_offer (offer_view c) ≡ true) × (is_offered cat (offer_view c) ≡ true) × IsFresh c.made now
offer_sound cat now None c readable is = absurd (no_problem UnknownOffer c is)
offer_sound cat now (Some code) c readable is =
    let (known, same, fresh) = checked_is (is_offered cat (offer_view code)) code.made now code c is in
    subst (λ (x : OfferCode). (is_offer (offer_view x) ≡ true) × (is_offered cat (offer_view x) ≡ true) × IsFresh x.made now) same (readable, known, fresh)

-- what was checked, and the order by it
by_ok : {A : Type 0} (r : Checked A) (next : A → Checked order.Ordered) (o : order.Ordered) → and_then r next ≡ Ok o → (a : A) × (r ≡ Ok a) × (next a ≡ Ok o)
by_ok (Err p) next o is = absurd (no_problem p o is)
by_ok (Ok a) next o is = (a, refl, is)

-- an order by an id asks nothing
by_row : (cat : CatalogueView) (now : ℕ) (row : Option RowNo) (orders : RowNo → order.Ordered) (o : order.Ordered) → ((r : RowNo) → IsSoundOrder cat now (orders r))
    → and_then (row_checked row) (λ r. Ok (orders r)) ≡ Ok o → IsSoundOrder cat now o
by_row cat now row orders o sound is =
    let (r, checked_row, made) = by_ok (row_checked row) (λ r. Ok (orders r)) o is in
    subst (IsSoundOrder cat now) (ok_is (orders r) o made) (sound r)

pub sound_order : (cat : CatalogueView) (now : ℕ) (c : Command) (o : order.Ordered) → IsReadable cat c → ordered cat now c ≡ Ok o → IsSoundOrder cat now o
sound_order cat now (command.Offers trip adults children class wanted) o readable is = subst (IsSoundOrder cat now) (ok_is _ o is) (readable.1, readable.2)
sound_order cat now (command.Book offer together) o readable is =
    let (c, passed, made) = by_ok (offer_checked cat now offer) (λ c. Ok (order.book c together)) o is in
    subst (IsSoundOrder cat now) (ok_is (order.book c together) o made) (offer_sound cat now offer c readable passed)
sound_order cat now (command.Reserve segment class count wanted together) o readable is = subst (IsSoundOrder cat now) (ok_is _ o is) readable
sound_order cat now (command.Show row) o readable is = by_row cat now row (λ r. order.show r) o (λ r. tt) is
sound_order cat now (command.Release row) o readable is = by_row cat now row (λ r. order.release r) o (λ r. tt) is
sound_order cat now (command.Confirm row) o readable is = by_row cat now row (λ r. order.confirm r) o (λ r. tt) is
sound_order cat now (command.Fulfil row) o readable is = by_row cat now row (λ r. order.fulfil r) o (λ r. tt) is
sound_order cat now (command.QuoteRefund row) o readable is = by_row cat now row (λ r. order.quote_refund r) o (λ r. tt) is
sound_order cat now (command.AcceptRefund row None) o readable is = absurd (no_problem UnknownOffer o is)
sound_order cat now (command.AcceptRefund row (Some code)) o readable is =
    let (c, passed, made) = by_ok (refund_checked now row (Some code)) (λ c. Ok (order.accept_refund c)) o is in
    let (known, same, fresh) = checked_is (is_of_row row code.row) code.made now code c passed in
    subst (IsSoundOrder cat now) (ok_is (order.accept_refund c) o made) (subst (λ x. IsSoundOrder cat now (order.accept_refund x)) same (readable, fresh))
sound_order cat now (command.QuoteExchange row offer) o readable is =
    let (c, passed, next) = by_ok (offer_checked cat now offer) (λ c. and_then (row_checked row) (λ r. Ok (order.quote_exchange r c))) o is in
    by_row cat now row (λ r. order.quote_exchange r c) o (λ r. offer_sound cat now offer c readable passed) next
sound_order cat now (command.AcceptExchange row None) o readable is = absurd (no_problem UnknownOffer o is)
sound_order cat now (command.AcceptExchange row (Some code)) o readable is =
    let (c, passed, made) = by_ok (exchange_checked cat now row (Some code)) (λ c. Ok (order.accept_exchange c)) o is in
    let (known, same, fresh) = checked_is (is_of_row row code.row && is_quoted cat code) code.made now code c passed in
    let quoted = (and_parts (is_of_row row code.row) (is_quoted cat code) known).1 in
    let offered = (and_parts (is_offered cat (offer_view code.offer)) (nat_le code.offer.made code.made && nat_le code.made (code.offer.made + valid_seconds)) quoted).0 in
    subst (IsSoundOrder cat now) (ok_is (order.accept_exchange c) o made) (subst (λ x. IsSoundOrder cat now (order.accept_exchange x)) same (readable, offered, fresh))
sound_order cat now (command.Places segment) o readable is = subst (IsSoundOrder cat now) (ok_is _ o is) readable
sound_order cat now command.Sweep o readable is = subst (IsSoundOrder cat now) (ok_is order.sweep o is) tt
