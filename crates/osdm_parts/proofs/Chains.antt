-- What calls in a row put behind the tokens of a writer.
use Rattle.std.proofs.Common.{◌≡◌, ℕ, ◌+◌, ◌<◌, map, length, drop, get_or, add-one, List, [], ◌∷◌, ◌++◌, Result, Ok, OnOk, refl, sym, ap, ◌∙◌, append_assoc, subst}
use Rattle.std.proofs.Math.Seq.{drop-cons}
use Rattle.std.proofs.lemmas.Result.{on_ok_weaker}
use Rattle.json.specs.Token.{Token, end_array}
use Rattle.json.specs.Tree.{items_tokens}
use Rattle.json.specs.Print.{print}
use Rattle.json.specs.Written.{Written, Writes}
use Rattle.serde_json.specs.Data.{Data}
use Rattle.serde_json.specs.View.{items_of}
use Rattle.serde_json.specs.Written.{items_outline, compact_text}
use Rattle.serde_json.proofs.Texts.{print-outline}
use Rattle.osdm_parts.specs.Appends.{Appends, tokens_of, listed}

-- one token
pub one : {E : Type 0} {u : Unit {0}} {old new : Written} {t : Token} → Writes {E = E} (Ok u) old new t → Appends old new (t ∷ [])
one w = record { before = w.room.0; tokens = w.ok }

-- one call after another
pub step : {a b c : Written} {xs ys : List Token} → Appends a b xs → Appends b c ys → Appends a c (xs ++ ys)
step {a} {b} {c} {xs} {ys} p q = record {
  before = q.before ∙ p.before;
  tokens = q.tokens ∙ (ap (λ (l : List Token). l ++ ys) p.tokens ∙ append_assoc a.tokens xs ys);
}

-- a last token
pub last : {E : Type 0} (r : Result (Unit {0}) E) {a b c : Written} {xs ts : List Token} {t : Token} → Appends a b xs → Writes r b c t → xs ++ t ∷ [] ≡ ts → OnOk r (Appends a c ts)
last r {c = c} {xs} {ts} {t} p w e = on_ok_weaker r (λ tokens. subst (Appends _ c) e (step p (record { before = w.room.0; tokens = tokens }))) w.ok

-- a last call
pub last_call : {E : Type 0} (r : Result (Unit {0}) E) {a b : Written} (c : Written) {xs : List Token} (ys : List Token) {ts : List Token} → Appends a b xs → OnOk r (Appends b c ys) → xs ++ ys ≡ ts → OnOk r (Appends a c ts)
last_call r c ys p w e = on_ok_weaker r (λ q. subst (Appends _ c) e (step p q)) w

-- the tokens of a list, with the bracket that ends it
pub items_tokens-listed : (ds : List Data) → items_tokens (items_outline (items_of ds)) ≡ listed ds ++ end_array ∷ []
items_tokens-listed [] = refl
items_tokens-listed (d ∷ ds) = ap (λ (l : List Token). tokens_of d ++ l) (items_tokens-listed ds) ∙ sym (append_assoc (tokens_of d) (listed ds) (end_array ∷ []))

-- values, and the bracket that ends them
pub ended : {a b c : Written} (ds : List Data) → Appends a b (listed ds) → Appends b c (end_array ∷ []) → Appends a c (items_tokens (items_outline (items_of ds)))
ended {a} {c = c} ds p q = subst (Appends a c) (sym (items_tokens-listed ds)) (step p q)

-- the text of a value whose tokens were written
pub written : (text start : List ℕ) (ts : List Token) (d : Data) → start ≡ [] → text ≡ start ++ print ts → ts ≡ tokens_of d → text ≡ compact_text d
written text start ts d none is same = is ∙ (ap (λ (l : List ℕ). l ++ print ts) none ∙ (ap print same ∙ print-outline d))

-- one value more is written of those that are left
pub turned : (old new whole : List Token) (d : Data) (ds next : List Data) → ds ≡ d ∷ next → old ++ listed ds ≡ whole → new ≡ old ++ tokens_of d → new ++ listed next ≡ whole
turned old new whole d ds next left before now =
    ap (λ (l : List Token). l ++ listed next) now ∙ append_assoc old (tokens_of d) (listed next) ∙ sym (ap (λ (l : List Data). old ++ listed l) left) ∙ before

-- the values of the elements that are left, of which this is the first
pub mapped : {A : Type 0} (f : A → Data) (xs : List A) (i : ℕ) (x : A) → i < length xs → x ≡ get_or xs i x → map f (drop i xs) ≡ f x ∷ map f (drop (i + 1) xs)
mapped f xs i x small is = rw (drop-cons xs i x, ← is, add-one) refl
