-- The totals of a worked drill.
use Rattle.std.proofs.Common.{◌≡◌, refl}
use Rattle.host_drill.specs.Totals.{asked_for, most_sold}

-- of 160 requests from number 7 on, legs 0, 3 and 7 are asked for 80, 40 and 40 times
asked_at_0 : asked_for 7 160 0 ≡ 80
asked_at_0 = refl

asked_at_3 : asked_for 7 160 3 ≡ 40
asked_at_3 = refl

asked_at_7 : asked_for 7 160 7 ≡ 40
asked_at_7 = refl

sold_of_160 : most_sold 7 160 30 ≡ 90
sold_of_160 = refl

-- of 32000 requests from number 0 on, legs 0, 1 and 4 are asked for more often than there are places, and no other leg
-- is asked for
sold_of_32000 : most_sold 0 32000 1200 ≡ 3600
sold_of_32000 = refl
