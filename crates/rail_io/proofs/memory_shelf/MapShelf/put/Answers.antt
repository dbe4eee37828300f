use Rattle.std.proofs.Common.{◌≡◌, ℕ, Bool, true, false, Option, Some, string_bytes, ap, if◌then◌else◌}
use Rattle.std.specs.Prelude.{option_map, cond, Vec}
use Rattle.std.specs.Str.{bytes_eq}
use Rattle.std.specs.BTreeMap.{get_by_text}
use Rattle.std.specs.declared.alloc.Global.{Global}
use Rattle.std.proofs.lemmas.Map.Text.{btree_map_updates_text}
use Rattle.rail_io.proofs.memory_shelf.MapShelf.put.Goals as goal

content_after : (same : Bool) (content : Vec ℕ Global) (old new : Option (Vec ℕ Global)) → new ≡ cond same (Some content) old
    → option_map (λ (v : Vec ℕ Global). v.items) new ≡ (if same then Some content.items else option_map (λ (v : Vec ℕ Global). v.items) old)
content_after true content old new e = ap (option_map (λ (v : Vec ℕ Global). v.items)) e
content_after false content old new e = ap (option_map (λ (v : Vec ℕ Global). v.items)) e

pub returns-clause-ok : goal.returns-clause-ok
returns-clause-ok c = λ other.
    content_after (bytes_eq (string_bytes c.args.name) other) c.args.content (get_by_text c.args.self.now.files other) _
    (btree_map_updates_text (string_bytes c.args.name) c.args.self.now.files c.insert.new.self (Some c.args.content) c.in_ok-insert.ensures.updates other)
