-- The JSON of a sweep's counts.
use Rattle.std.specs.Prelude.{codes}
use Rattle.serde_json.specs.Data.{Data, object, no_members, member}
use Rattle.booking_rows.specs.declared.swept.Swept.{Swept}
use Rattle.osdm_parts.specs.Amounts.{count_tree}

abbrev pub swept_tree : Swept → Data
swept_tree swept =
    object (member (codes "expired") (count_tree swept.expired) (member (codes "lost") (count_tree swept.lost)
    (member (codes "waiting") (count_tree swept.waiting) no_members)))
