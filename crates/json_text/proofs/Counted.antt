-- A text has at most one token more than it has bytes.
use Rattle.std.proofs.Common.{ℕ, suc, ◌≤◌, List, [], ◌∷◌, length, Bool, true, false, arith}
use Rattle.json.specs.Token.{Token}
use Rattle.json.specs.Lex.{Lexeme, token, comma, colon, Class, quote, backslash, operator, space, other, class, Mode, between, in_word, in_string, in_escape, lex_byte, lex, Place, fresh, after_value, after_comma, after_key, begins_colon, may_begin, may_close, if_allowed, place_token, punctuate, tokens}

byte : (m : Mode) (c : Class) (x : ℕ) (xs : List ℕ) (k : Mode → List Lexeme) → ((n : Mode) → length (k n) ≤ length xs) → length (lex_byte m c x xs k) ≤ suc (length xs)
byte between quote x xs k h = omega (arith, h in_string)
byte between backslash x xs k h = omega (arith, h in_word)
byte between operator x xs k h = omega (arith, h between)
byte between space x xs k h = omega (arith, h between)
byte between other x xs k h = omega (arith, h in_word)
byte in_word quote x xs k h = omega (arith, h in_word)
byte in_word backslash x xs k h = omega (arith, h in_word)
byte in_word operator x xs k h = omega (arith, h between)
byte in_word space x xs k h = omega (arith, h between)
byte in_word other x xs k h = omega (arith, h in_word)
byte in_string quote x xs k h = omega (arith, h between)
byte in_string backslash x xs k h = omega (arith, h in_escape)
byte in_string operator x xs k h = omega (arith, h in_string)
byte in_string space x xs k h = omega (arith, h in_string)
byte in_string other x xs k h = omega (arith, h in_string)
byte in_escape c x xs k h = omega (arith, h in_string)

few_lexemes : (m : Mode) (xs : List ℕ) → length (lex m xs) ≤ length xs
unfolding lex
few_lexemes m [] = omega arith
few_lexemes m (x ∷ xs) = byte m (class x) x xs (λ n. lex n xs) (λ n. few_lexemes n xs)

allowed : (b : Bool) (t : Token) (k : Place → List Token) (next : Place) (n : ℕ) → length (k next) ≤ n → length (if_allowed b t k next) ≤ suc n
allowed true t k next n h = omega (arith, h)
allowed false t k next n h = omega arith

placed : (p : Place) (t : Token) (b : Bool) (k : Place → List Token) (n : ℕ) → ((next : Place) → length (k next) ≤ n) → length (place_token p t b k) ≤ suc n
placed p Token.begin_object b k n h = allowed (may_begin p) Token.begin_object k fresh n (h fresh)
placed p Token.end_object b k n h = allowed (may_close p) Token.end_object k after_value n (h after_value)
placed p Token.begin_array b k n h = allowed (may_begin p) Token.begin_array k fresh n (h fresh)
placed p Token.end_array b k n h = allowed (may_close p) Token.end_array k after_value n (h after_value)
placed p (Token.key s) b k n h = omega arith
placed p (Token.string s) true k n h = allowed (may_begin p) (Token.key s) k after_key n (h after_key)
placed p (Token.string s) false k n h = allowed (may_begin p) (Token.string s) k after_value n (h after_value)
placed p (Token.number s) b k n h = allowed (may_begin p) (Token.number s) k after_value n (h after_value)
placed p (Token.boolean x) b k n h = allowed (may_begin p) (Token.boolean x) k after_value n (h after_value)
placed p Token.null b k n h = allowed (may_begin p) Token.null k after_value n (h after_value)
placed p Token.bad b k n h = omega arith

few_punctuated : (p : Place) (ls : List Lexeme) → length (punctuate p ls) ≤ suc (length ls)
unfolding punctuate
few_punctuated fresh [] = omega arith
few_punctuated after_value [] = omega arith
few_punctuated after_comma [] = omega arith
few_punctuated after_key [] = omega arith
few_punctuated fresh (token t ∷ ls) = placed fresh t (begins_colon ls) (λ next. punctuate next ls) (suc (length ls)) (λ next. few_punctuated next ls)
few_punctuated after_value (token t ∷ ls) = placed after_value t (begins_colon ls) (λ next. punctuate next ls) (suc (length ls)) (λ next. few_punctuated next ls)
few_punctuated after_comma (token t ∷ ls) = placed after_comma t (begins_colon ls) (λ next. punctuate next ls) (suc (length ls)) (λ next. few_punctuated next ls)
few_punctuated after_key (token t ∷ ls) = placed after_key t (begins_colon ls) (λ next. punctuate next ls) (suc (length ls)) (λ next. few_punctuated next ls)
few_punctuated fresh (comma ∷ ls) = omega arith
few_punctuated after_value (comma ∷ ls) = omega (arith, few_punctuated after_comma ls)
few_punctuated after_comma (comma ∷ ls) = omega arith
few_punctuated after_key (comma ∷ ls) = omega arith
few_punctuated fresh (colon ∷ ls) = omega arith
few_punctuated after_value (colon ∷ ls) = omega arith
few_punctuated after_comma (colon ∷ ls) = omega arith
few_punctuated after_key (colon ∷ ls) = omega (arith, few_punctuated fresh ls)

pub few_tokens : (text : List ℕ) → length (tokens text) ≤ suc (length text)
few_tokens text = omega (arith, few_punctuated fresh (lex between text), few_lexemes between text)
