-- The head of a drill's requests.
use Rattle.std.proofs.Common.{◌≡◌, ◌∙◌, ◌≤◌, ◌<◌, ℕ, ◌++◌, ◌||◌, ◌==◌, Bool, true, false, List, [], ◌∷◌, length, take, Some, refl, sym, ap, subst, arith, codes, take_at, drop_at}
use lib.Utf8.{encode}
use Rattle.std.specs.Str.{is_utf8, chars}
use Rattle.std.specs.Char.{is_ascii_digit}
use Rattle.std.proofs.lemmas.Bool.{ne_eqb}
use Rattle.std.proofs.lemmas.Str.{IsUtf8-from_is_utf8}
use Rattle.std.proofs.lemmas.List.Sums.{AllPass-from_list_all}
use Rattle.std.proofs.lemmas.List.Elements.{All-nil, All-cons}
use Rattle.httparse.specs.Grammar.{crlf, is_token_byte, is_uri_byte, is_value_byte, Field, IsField, RequestHead, IsRequestHead, print_request}
use Rattle.httparse.proofs.OnLiterals.{httparse_on_literals}
use Rattle.http_wire.proofs.Search.{Ended, search_head}
use Rattle.http_wire.specs.HeadLines.{IsNumeral, IsLength, IsServedHead, codings_of, lengths_of, lines_of, closes_in, is_last}
use Rattle.http_wire.specs.Requests.{RequestText, HeadAt, IsRequest, request_of}
use Rattle.http_wire.proofs.Fronts.{head_at_found}

-- its bytes
unfoldable pub head_bytes : List ℕ
head_bytes = codes "POST /reservations HTTP/1.1\r\nHost: drill\r\nRetailer-Key: drill\r\nContent-Length: 31\r\n\r\n"

-- its lines
host_line : Field
host_line = record { name = codes "Host"; raw = codes " drill"; end = crlf }

key_line : Field
key_line = record { name = codes "Retailer-Key"; raw = codes " drill"; end = crlf }

length_line : Field
length_line = record { name = codes "Content-Length"; raw = codes " 31"; end = crlf }

pub drill_head : RequestHead
drill_head = record {
  blank = [];
  method = codes "POST";
  target = codes "/reservations";
  minor = 1;
  line_end = crlf;
  fields = host_line ∷ key_line ∷ length_line ∷ [];
  last = crlf;
}

printed : print_request drill_head ≡ head_bytes
unfolding httparse_on_literals head_bytes drill_head host_line key_line length_line
printed = refl

-- ---- the head ends where its bytes do

found : search_head 0 false true false head_bytes ≡ Ended (length head_bytes)
unfolding head_bytes
found = refl

short : length head_bytes ≤ 16384
unfolding head_bytes
short = omega arith

head_at : (tail : List ℕ) → HeadAt (head_bytes ++ tail) head_bytes tail
head_at tail =
    let n = length head_bytes in
    let cut : take n (head_bytes ++ tail) ≡ head_bytes = take_at head_bytes tail n refl in
    let ends : search_head 0 false true false (take n (head_bytes ++ tail)) ≡ Ended n = ap (search_head 0 false true false) cut ∙ found in
    let at = (head_at_found (head_bytes ++ tail) n n short ends).0 in
    subst (λ (h : List ℕ). HeadAt (head_bytes ++ tail) h tail) cut
    (subst (λ (r : List ℕ). HeadAt (head_bytes ++ tail) (take n (head_bytes ++ tail)) r) (drop_at head_bytes tail n refl) at)

-- ---- the head is one

host_field : IsField host_line
unfolding host_line is_token_byte
host_field = record {
  name = (omega arith, AllPass-from_list_all is_token_byte (codes "Host") refl);
  raw = AllPass-from_list_all is_value_byte (codes " drill") refl;
}

key_field : IsField key_line
unfolding key_line is_token_byte
key_field = record {
  name = (omega arith, AllPass-from_list_all is_token_byte (codes "Retailer-Key") refl);
  raw = AllPass-from_list_all is_value_byte (codes " drill") refl;
}

length_field : IsField length_line
unfolding length_line is_token_byte
length_field = record {
  name = (omega arith, AllPass-from_list_all is_token_byte (codes "Content-Length") refl);
  raw = AllPass-from_list_all is_value_byte (codes " 31") refl;
}

valid : IsRequestHead drill_head
unfolding drill_head is_token_byte is_utf8 chars encode
valid = record {
  method = (omega arith, AllPass-from_list_all is_token_byte (codes "POST") refl);
  target = (omega arith, AllPass-from_list_all is_uri_byte (codes "/reservations") refl);
  target_text = IsUtf8-from_is_utf8 (codes "/reservations") refl;
  minor = omega arith;
  fields = All-cons IsField host_line (key_line ∷ length_line ∷ []) host_field (All-cons IsField key_line (length_line ∷ []) key_field (All-cons IsField length_line [] length_field (All-nil IsField)));
}

-- ---- what its lines say

uncoded : codings_of drill_head ≡ []
unfolding httparse_on_literals drill_head host_line key_line length_line
uncoded = refl

lengths : lengths_of drill_head ≡ codes "31" ∷ []
unfolding httparse_on_literals drill_head host_line key_line length_line
lengths = refl

numeral : IsNumeral (codes "31") 31
numeral = record { some = omega arith; few = omega arith; each = AllPass-from_list_all is_ascii_digit (codes "31") refl; is = refl }

served : IsServedHead head_bytes drill_head 31
served = record {
  of = record { valid = valid; is = sym printed };
  uncoded = uncoded;
  size = subst (λ (values : List (List ℕ)). IsLength values 31) (sym lengths) (numeral, tt);
  fits = omega arith;
}

goes_on : ((drill_head.minor == 0) || closes_in (lines_of drill_head)) ≡ false
unfolding httparse_on_literals drill_head host_line key_line length_line
goes_on = refl

not_last : (number : ℕ) → number < 65536 → is_last number drill_head ≡ false
unfolding is_last
not_last number few = ap (λ (b : Bool). b || (number == 65536)) goes_on ∙ ne_eqb number 65536 (λ e. omega (arith, e, few))

-- a request with this head and this body
abbrev pub text_with : List ℕ → RequestText
text_with body = record { method = codes "POST"; path = codes "/reservations"; key = Some (codes "drill"); body = body; last = false }

text_is : (body : List ℕ) → request_of drill_head body false ≡ text_with body
unfolding httparse_on_literals drill_head host_line key_line length_line
text_is body = refl

pub is_request : (number : ℕ) (body tail : List ℕ) → length body ≡ 31 → number < 65536 → IsRequest number (head_bytes ++ (body ++ tail)) (text_with body) tail
is_request number body tail size few = (
  head_bytes,
  drill_head,
  body,
  record {
    at = head_at (body ++ tail);
    served = subst (λ (n : ℕ). IsServedHead head_bytes drill_head n) (sym size) served;
    is = sym (text_is body) ∙ ap (request_of drill_head body) (sym (not_last number few));
  },
)
