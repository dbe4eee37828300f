-- What the settings of a stream keep.
use Rattle.std.proofs.Common.{◌≡◌, ℕ, Bool, Option, Some, None, refl}
use Rattle.host_io.specs.Wires.{Settings, set_waits, set_limit, set_ended, limits_of}
use Rattle.host_io.specs.Talks.{limited_to, drained}

pub waits_leave : (waits : Bool) (told : Option Settings) → limits_of (set_waits waits told) ≡ limits_of told
waits_leave waits None = refl
waits_leave waits (Some s) = refl

pub limit_sets : (limit : ℕ) (told : Option Settings) → limits_of (set_limit limit told) ≡ limited_to limit (limits_of told)
limit_sets limit None = refl
limit_sets limit (Some s) = refl

pub end_drains : (told : Option Settings) → limits_of (set_limit 250 (set_ended told)) ≡ drained (limits_of told)
end_drains None = refl
end_drains (Some s) = refl
