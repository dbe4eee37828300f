-- What a body asks for: the span of the object {"from":F,"to":T}.
use Rattle.std.specs.Prelude.{ℕ, ◌+◌, ◌-◌, Option, Some, None, Result, Ok, Err, codes}
use Rattle.serde_json.specs.Data.{Data}
use Rattle.serde_json.specs.Find.{get}
use Rattle.leg_masks.specs.Interval.{Interval}
use Rattle.host_tiny.specs.Json.{whole_in}
use Rattle.host_tiny.specs.declared.wish.WishFault.{WishFault}
use Rattle.host_tiny.specs.declared.wish.WishFault.TheVariants.{NotJson, BadField}
use Rattle.host_tiny.specs.declared.wish.FieldName.TheVariants.{From, To}

abbrev pub with_to : ℕ → Option ℕ → Result Interval WishFault
with_to from None = Err (BadField To)
with_to from (Some to) = Ok (record { from = from; to = to })

abbrev pub with_from : ℕ → Data → Option ℕ → Result Interval WishFault
with_from legs d None = Err (BadField From)
with_from legs d (Some from) = with_to from (whole_in (from + 1) legs (get (codes "to") d))

-- The span of a value, on a run with this many legs, or the first member at fault. A value that is no
-- object has no members; of a member that stands twice the last counts.
abbrev pub wish_of : ℕ → Option Data → Result Interval WishFault
wish_of legs None = Err NotJson
wish_of legs (Some d) = with_from legs d (whole_in 0 (legs - 1) (get (codes "from") d))
