-- The body of a drill's requests.
use Rattle.std.proofs.Common.{◌≡◌, ◌∙◌, ℕ, zero, suc, ◌+◌, ◌<◌, ◌++◌, List, ◌∷◌, length, Some, refl, ap, arith, codes, append_assoc}
use Rattle.std.specs.Str.{is_utf8, chars}
use Rattle.serde_json.specs.Data.{Data, unsigned, number, string, object, no_members, member}
use Rattle.serde_json.proofs.OnLiterals.{serde_json_on_literals}
use Rattle.rail_catalogue.specs.Json.{json_of}
use Rattle.host_drill.specs.Generator.{digit, request_front, request_middle, request_end, request_bytes}
use Rattle.host_drill.specs.Fits.{station_code}
use Rattle.host_drill.proofs.DrillHead.{head_bytes}

abbrev body_front : List ℕ
body_front = codes "{\"from\":\"D"

abbrev body_rest : ℕ → List ℕ
body_rest leg = digit leg ∷ (request_middle ++ digit (leg + 1) ∷ request_end)

-- the body of the request for a leg
abbrev pub body_bytes : ℕ → List ℕ
body_bytes leg = body_front ++ body_rest leg

front_split : request_front ≡ head_bytes ++ body_front
unfolding head_bytes
front_split = refl

pub request_split : (leg : ℕ) (tail : List ℕ) → request_bytes leg ++ tail ≡ head_bytes ++ (body_bytes leg ++ tail)
request_split leg tail =
    ap (λ (l : List ℕ). (l ++ body_rest leg) ++ tail) front_split
    ∙ ap (λ (l : List ℕ). l ++ tail) (append_assoc head_bytes body_front (body_rest leg))
    ∙ append_assoc head_bytes (body_bytes leg) tail

pub body_size : (leg : ℕ) → length (body_bytes leg) ≡ 31
body_size leg = refl

-- ---- as JSON

abbrev pub body_data : ℕ → Data
body_data leg =
    object (member (codes "from") (string (station_code leg)) (member (codes "run") (number (unsigned 0))
    (member (codes "to") (string (station_code (leg + 1))) no_members)))

data_0 : json_of (body_bytes 0) ≡ Some (body_data 0)
unfolding serde_json_on_literals is_utf8 chars
data_0 = refl

data_1 : json_of (body_bytes 1) ≡ Some (body_data 1)
unfolding serde_json_on_literals is_utf8 chars
data_1 = refl

data_2 : json_of (body_bytes 2) ≡ Some (body_data 2)
unfolding serde_json_on_literals is_utf8 chars
data_2 = refl

data_3 : json_of (body_bytes 3) ≡ Some (body_data 3)
unfolding serde_json_on_literals is_utf8 chars
data_3 = refl

data_4 : json_of (body_bytes 4) ≡ Some (body_data 4)
unfolding serde_json_on_literals is_utf8 chars
data_4 = refl

data_5 : json_of (body_bytes 5) ≡ Some (body_data 5)
unfolding serde_json_on_literals is_utf8 chars
data_5 = refl

data_6 : json_of (body_bytes 6) ≡ Some (body_data 6)
unfolding serde_json_on_literals is_utf8 chars
data_6 = refl

data_7 : json_of (body_bytes 7) ≡ Some (body_data 7)
unfolding serde_json_on_literals is_utf8 chars
data_7 = refl

pub body_is : (leg : ℕ) → leg < 8 → json_of (body_bytes leg) ≡ Some (body_data leg)
body_is zero less = data_0
body_is (suc zero) less = data_1
body_is (suc (suc zero)) less = data_2
body_is (suc (suc (suc zero))) less = data_3
body_is (suc (suc (suc (suc zero)))) less = data_4
body_is (suc (suc (suc (suc (suc zero))))) less = data_5
body_is (suc (suc (suc (suc (suc (suc zero)))))) less = data_6
body_is (suc (suc (suc (suc (suc (suc (suc zero))))))) less = data_7
body_is (suc (suc (suc (suc (suc (suc (suc (suc leg)))))))) less = absurd (omega (arith, less))
