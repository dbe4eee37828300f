use Rattle.std.proofs.Common.{◌≡◌, ℕ, ◌++◌, ◌∷◌, [], Bool, ◌||◌, List, Option, Some, None, cond, sym, ap, ap₂, ◌∙◌, rules}
use Rattle.std.specs.List.{list_any}
use Rattle.std.specs.Map.{lookup}
use Rattle.std.specs.Ordering.{nat_cmp, is_eq}
use Rattle.std.specs.Cmp.Lexicographic.{slice_cmp}
use Rattle.rail_ids.specs.declared.RetailerNo.{RetailerNo}
use Rattle.catalogue_contents.specs.Retailers.{RetailerView, retailer_with, has_number}
use Rattle.catalogue_contents.proofs.Indexes.{Key, at, lookup-insert_entry, retailer_with-last, list_any-insert_key, has_number-last}
use Rattle.catalogue_contents.proofs.retailers.Retailers.with.Goals as goal

pub invariant_of-result : goal.invariant_of-result
invariant_of-result c =
    let number : ℕ = c.args.number in
    let key : List ℕ = c.args.key.now in
    let list : List RetailerView = c.self.inside.list.items in
    let v : RetailerNo = record { 0 = number } in
    let copied : c.in_ok-to_vec.field-0.items ≡ key = search rules in
    let items : c.push.new.self.items ≡ list ++ (record { number = number; key = key }) ∷ [] = search rules in
    let fresh : retailer_with key list ≡ None = ap (retailer_with key) c.self.view_is ∙ c.requires.fresh in (
      λ q.
          ap (λ (es : List (Key × RetailerNo)). lookup (at q) es) c.in_ok-insert-2.ensures.entries
          ∙ lookup-insert_entry q c.in_ok-to_vec.field-0 v c.self.inside.by_key.entries
          ∙ ap₂ (λ (b : Bool) (o : Option RetailerNo). cond b (Some v) o) (ap (λ (l : List ℕ). is_eq (slice_cmp nat_cmp q l)) copied) (c.self.invariant.0 q)
          ∙ retailer_with-last q key number list fresh
          ∙ ap (retailer_with q) (sym items),
      λ n.
          ap (λ (ks : List ℕ). list_any (λ m. is_eq (nat_cmp n m)) ks) c.in_ok-insert.ensures.keys
          ∙ list_any-insert_key n number c.self.inside.numbers.keys
          ∙ ap (λ (b : Bool). is_eq (nat_cmp n number) || b) (c.self.invariant.1 n)
          ∙ has_number-last n number key list
          ∙ ap (has_number n) (sym items),
    )
