-- What the lines of a head say of its request.
use Rattle.std.specs.Prelude.{◌≡◌, ℕ, ◌<◌, ◌≤◌, Bool, List, [], ◌∷◌, length, map, filter, Option, slice_get, ◌==◌, ◌||◌, codes}
use Rattle.std.specs.List.{before_first, list_any, slice_split, AllByRecursion}
use Rattle.std.specs.Char.{to_ascii_lowercase, is_ascii_digit}
use Rattle.std.specs.Str.{bytes_eq}
use Rattle.std.specs.Str.Parse.{digits_value}
use Rattle.httparse.specs.Grammar.{AllPass, RequestHead, IsRequestHead, print_request, trim_ows}
use Rattle.httparse.specs.Spans.{name_and_value, header_bytes}
use Rattle.httparse.specs.declared.spans.HeaderSpan.{HeaderSpan}

-- the same name, without regard to ASCII case
abbrev pub same_name : List ℕ → List ℕ → Bool
same_name a b = bytes_eq (map to_ascii_lowercase a) (map to_ascii_lowercase b)

-- the values of the lines with the name, of lines as pairs of name and value
abbrev pub values_named : List ℕ → List (List ℕ × List ℕ) → List (List ℕ)
values_named name lines = map (λ line. line.1) (filter (λ line. same_name line.0 name) lines)

-- 1 to 10 digits spell the number
pub record IsNumeral (digits : List ℕ) (number : ℕ) : Type 0 where
  pub some : 0 < length digits
  pub few : length digits ≤ 10
  pub each : AllPass is_ascii_digit digits
  pub is : number ≡ digits_value 10 digits

-- lines that are spans of the head
abbrev pub lines_at : List ℕ → List HeaderSpan → List (List ℕ × List ℕ)
lines_at head lines = map (header_bytes head) lines

abbrev pub IsFirstOf : List (List ℕ) → List ℕ → Type 0
IsFirstOf values first = (more : List (List ℕ)) × (values ≡ first ∷ more)

-- the body's length by the values of the lines that give it: equal numbers, and 0 where there are none
abbrev pub IsLength : List (List ℕ) → ℕ → Type 0
IsLength [] number = number ≡ 0
IsLength (digits ∷ values) number = AllByRecursion (λ d. IsNumeral d number) (digits ∷ values)

-- lines as pairs of name and value: the values that give a length, and those that give a coding
abbrev pub lengths_in : List (List ℕ × List ℕ) → List (List ℕ)
lengths_in lines = values_named (codes "content-length") lines

abbrev pub codings_in : List (List ℕ × List ℕ) → List (List ℕ)
codings_in lines = values_named (codes "transfer-encoding") lines

-- one of the comma-separated words of the value is `close`, in any case
abbrev pub says_close : List ℕ → Bool
says_close value = list_any (λ word. same_name (trim_ows word) (codes "close")) (slice_split (λ b. b == 44) value)

abbrev pub closes_in : List (List ℕ × List ℕ) → Bool
closes_in lines = list_any says_close (values_named (codes "connection") lines)

-- the lines of a head
abbrev pub lines_of : RequestHead → List (List ℕ × List ℕ)
lines_of h = map name_and_value h.fields

abbrev pub lengths_of : RequestHead → List (List ℕ)
lengths_of h = lengths_in (lines_of h)

abbrev pub codings_of : RequestHead → List (List ℕ)
codings_of h = codings_in (lines_of h)

-- The request is the last of its connection: HTTP/1.0, a word `close`, or the number 65,536.
unfoldable pub is_last : ℕ → RequestHead → Bool
is_last number h = (h.minor == 0) || closes_in (lines_of h) || (number == 65536)

-- the head is h
pub record IsHeadOf (head : List ℕ) (h : RequestHead) : Type 0 where
  pub valid : IsRequestHead h
  pub is : head ≡ print_request h

-- the head is that of a request with a body of this length
pub record IsServedHead (head : List ℕ) (h : RequestHead) (number : ℕ) : Type 0 where
  pub of : IsHeadOf head h
  pub uncoded : codings_of h ≡ []
  pub size : IsLength (lengths_of h) number
  pub fits : number ≤ 262144

-- the target up to the first question mark
abbrev pub path_of : RequestHead → List ℕ
path_of h = before_first (λ b. b == 63) h.target

-- the value of the first key of these lines
abbrev pub first_key : List (List ℕ × List ℕ) → Option (List ℕ)
first_key lines = slice_get (values_named (codes "retailer-key") lines) 0

-- the value of the first key
abbrev pub key_of : RequestHead → Option (List ℕ)
key_of h = first_key (lines_of h)
