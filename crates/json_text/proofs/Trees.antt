-- A value, level by level, and looking into the list of an object's members.
use Rattle.std.proofs.Common.{◌≡◌, ℕ, List, [], ◌∷◌, ◌++◌, map, Bool, true, false, cond, Some, true≢false, Bor, Vec, Global, refl, sym, ap, ◌∙◌, rules}
use Rattle.std.specs.Str.{bytes_eq}
use Rattle.std.proofs.lemmas.Slice.Eq.{bytes_eq-Decides}
use Rattle.serde_json.specs.Data.{Data, array, object, Members, no_members, put}
use Rattle.serde_json.specs.Find.{get_member}
use Rattle.serde_json.proofs.Views.{get_member-put, get_member-put_other}
use Rattle.json_text.specs.View.{put_all, view, items_view, members_view}
use Rattle.json_text.specs.declared.value.Value.{Value, Array, Object, the_lemmas}

abbrev pub Entry : Type 0
Entry = Bor (List ℕ) × Value

pub view-Array : (v : Vec Value Global) → view (Array v) ≡ array (items_view v.items)
view-Array v = search (rules, the_lemmas)

pub view-Object : (v : Vec Entry Global) → view (Object v) ≡ object (members_view v.items)
view-Object v = search (rules, the_lemmas)

put_all-push : (es : List Entry) (e : Entry) (found : Members)
    → put_all (map (λ (m : Entry). (m.0, view m.1)) (es ++ e ∷ [])) found ≡ put e.0.now (view e.1) (put_all (map (λ (m : Entry). (m.0, view m.1)) es) found)
put_all-push [] e found = refl
put_all-push (m ∷ es) e found = put_all-push es e (put m.0.now (view m.1) found)

pub members_view-push : (es : List Entry) (e : Entry) → members_view (es ++ e ∷ []) ≡ put e.0.now (view e.1) (members_view es)
members_view-push es e = put_all-push es e no_members

pub found_at : (b : Bool) (name k : List ℕ) (d : Data) (ms : Members) → bytes_eq k name ≡ b → get_member name (put k d ms) ≡ cond b (Some d) (get_member name ms)
found_at true name k d ms e = let same = (bytes_eq-Decides k name).0 e in ap (λ n. get_member n (put k d ms)) (sym same) ∙ get_member-put k d ms
found_at false name k d ms e = get_member-put_other name k d ms (λ h. true≢false (sym ((bytes_eq-Decides k name).1 (sym h)) ∙ e))

pub get_member-push : (name : List ℕ) (es : List Entry) (e : Entry)
    → get_member name (members_view (es ++ e ∷ [])) ≡ cond (bytes_eq e.0.now name) (Some (view e.1)) (get_member name (members_view es))
get_member-push name es e = ap (get_member name) (members_view-push es e) ∙ found_at (bytes_eq e.0.now name) name e.0.now (view e.1) (members_view es) refl
