-- Worked bodies: the span that each asks for, on a run of three legs.
use Rattle.std.proofs.Common.{◌≡◌, [], ◌∷◌, Ok, Err, refl, codes}
use Rattle.std.specs.Str.{is_utf8, chars}
use Rattle.serde_json.proofs.OnLiterals.{serde_json_on_literals}
use Rattle.host_tiny.specs.Json.{json_of}
use Rattle.host_tiny.specs.Wish.{wish_of}
use Rattle.host_tiny.specs.declared.wish.WishFault.TheVariants.{NotJson, BadField}
use Rattle.host_tiny.specs.declared.wish.FieldName.TheVariants.{From, To}

asked : wish_of 3 (json_of (codes "{\"from\":0,\"to\":2}")) ≡ Ok (record { from = 0; to = 2 })
unfolding serde_json_on_literals is_utf8 chars
asked = refl

last_counts : wish_of 3 (json_of (codes " { \"to\" : 1, \"from\" : 0, \"x\":[], \"to\":3 }")) ≡ Ok (record { from = 0; to = 3 })
unfolding serde_json_on_literals is_utf8 chars
last_counts = refl

exponent : wish_of 3 (json_of (codes "{\"from\":1e0,\"to\":2}")) ≡ Err (BadField From)
unfolding serde_json_on_literals is_utf8 chars
exponent = refl

fraction : wish_of 3 (json_of (codes "{\"from\":0,\"to\":2.0}")) ≡ Err (BadField To)
unfolding serde_json_on_literals is_utf8 chars
fraction = refl

minus_zero : wish_of 3 (json_of (codes "{\"from\":-0,\"to\":2}")) ≡ Err (BadField From)
unfolding serde_json_on_literals is_utf8 chars
minus_zero = refl

no_object : wish_of 3 (json_of (codes "[]")) ≡ Err (BadField From)
unfolding serde_json_on_literals is_utf8 chars
no_object = refl

no_leg : wish_of 3 (json_of (codes "{\"from\":2,\"to\":2}")) ≡ Err (BadField To)
unfolding serde_json_on_literals is_utf8 chars
no_leg = refl

past_the_end : wish_of 3 (json_of (codes "{\"from\":3,\"to\":4}")) ≡ Err (BadField From)
unfolding serde_json_on_literals is_utf8 chars
past_the_end = refl

cut : wish_of 3 (json_of (codes "{")) ≡ Err NotJson
unfolding serde_json_on_literals is_utf8 chars
cut = refl

not_utf8 : wish_of 3 (json_of (34 ∷ 255 ∷ 34 ∷ [])) ≡ Err NotJson
unfolding serde_json_on_literals is_utf8 chars
not_utf8 = refl
