-- What paths name, and the parts between their slashes.
use Rattle.std.proofs.Common.{◌≡◌, ℕ, ◌+◌, ◌<◌, Bool, true, false, List, map, length, drop, get_or, Option, None, refl, sym, ap, ◌∙◌}
use Rattle.std.proofs.lemmas.List.{drop_more}
use Rattle.std.proofs.lemmas.Str.{is_utf8-from_IsUtf8, IsUtf8-from_is_utf8}
use Rattle.std.specs.Prelude.{fold, option_map, if◌then◌else◌}
use Rattle.std.specs.Str.{IsUtf8, is_utf8}
use Rattle.matchit.specs.Seek.{first}
use Rattle.matchit.specs.Router.{RouteOf}
use Rattle.rail_service.specs.declared.resource.Resource.{Resource}
use Rattle.rail_service.specs.Paths.{all_rows, resource_at}

-- one item more of a fold over the items left
pub fold_on : {A B R : Type 0} (put : R → B → R) (view : A → B) (items : List A) (i : ℕ) (d : A) (r next all : R)
    → i < length items → next ≡ put r (view (get_or items i d)) → fold put r (map view (drop i items)) ≡ all
    → fold put next (map view (drop (i + 1) items)) ≡ all
fold_on {A} {B} {R} put view items i d r next all within is before =
    ap (λ (n : R). fold put n (map view (drop (i + 1) items))) is
    ∙ (sym (ap (λ (l : List A). fold put r (map view l)) (drop_more items i d within)) ∙ before)

abbrev found_at : List ℕ → Bool → Option Resource
found_at path is_text = if is_text then option_map (λ (r : RouteOf Resource). r.value) (first all_rows path) else None

no_text : (path : List ℕ) (is_text : Bool) → is_utf8 path ≡ is_text → (IsUtf8 path → ⊥) → found_at path is_text ≡ None
no_text path true is none = absurd (none (IsUtf8-from_is_utf8 path is))
no_text path false is none = refl

pub names_none : (path : List ℕ) → (IsUtf8 path → ⊥) → resource_at path ≡ None
names_none path none = no_text path (is_utf8 path) refl none

pub names : (path : List ℕ) (found : Option (RouteOf Resource)) → IsUtf8 path → first all_rows path ≡ found
    → resource_at path ≡ option_map (λ (r : RouteOf Resource). r.value) found
names path found text is =
    ap (found_at path) (is_utf8-from_IsUtf8 path text) ∙ ap (option_map (λ (r : RouteOf Resource). r.value)) is
