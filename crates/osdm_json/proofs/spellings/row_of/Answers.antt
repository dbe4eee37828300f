use Rattle.std.proofs.Common.{◌≡◌, ◌≢◌, ◌<◌, ◌≤◌, ◌^◌, ℕ, nat_lt, nat_le, true, List, Option, Some, None, arith, rules}
use Rattle.std.specs.Prelude.{IfSome, IfNone}
use Rattle.std.proofs.lemmas.Bool.{and_from, and_parts}
use Rattle.std.proofs.lemmas.Bool.Decides.{nat_tests}
use Rattle.rail_ids.specs.declared.RowNo.{RowNo}
use Rattle.rail_ids.specs.Spelling.{booking_id_text, last_generation}
use Rattle.osdm_json.specs.Commands.{is_named, SpellsRow}
use Rattle.osdm_json.proofs.spellings.row_of.Goals as goal

named : (row : RowNo) → row.row < 2 ^ 32 → row.generation ≤ last_generation → is_named row ≡ true
named row low few = and_from (nat_lt row.row (2 ^ 32)) (nat_le row.generation last_generation) (grind (arith, nat_tests)) (grind (arith, nat_tests))

below : (a b : ℕ) → nat_lt a b ≡ true → a < b
below a b h = grind (arith, nat_tests)

at_most : (a b : ℕ) → nat_le a b ≡ true → a ≤ b
at_most a b h = grind (arith, nat_tests)

spelled : (text : List ℕ) (r : Option RowNo) → IfSome r (λ r. (r.generation ≤ last_generation) × (text ≡ booking_id_text r.row r.generation))
    → IfNone r ((row generation : ℕ) → row < 2 ^ 32 → generation ≤ last_generation → text ≢ booking_id_text row generation) → IfSome r (λ r. r.row < 2 ^ 32) → SpellsRow text r
spelled text (Some r) some none low = (named r low some.0, some.1)
spelled text None some none low =
    λ a is. let b = and_parts (nat_lt a.row (2 ^ 32)) (nat_le a.generation last_generation) is in
    none a.row a.generation (below a.row (2 ^ 32) b.0) (at_most a.generation last_generation b.1)

pub returns : goal.returns
returns c =
    let low : IfSome c.read_booking_id.result (λ r. r.row < 2 ^ 32) = search rules in
    spelled c.args.text.now c.read_booking_id.result c.read_booking_id.ensures.some c.read_booking_id.ensures.none low
