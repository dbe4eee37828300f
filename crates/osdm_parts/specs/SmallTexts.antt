-- The pieces of a problem's text.
use Rattle.std.specs.Prelude.{ℕ, ◌≤◌, List, [], ◌++◌, Option, Some, None, codes}
use Rattle.rail_time.specs.Moments.{last_second}
use Rattle.osdm_parts.specs.declared.problem.Problem.{Problem}
use Rattle.osdm_parts.specs.declared.problem.Problem.TheVariants.{OfferTooOld, TooLate}

-- the member `detail` with the comma before it
abbrev pub detail_text : Option (List ℕ) → List ℕ
detail_text None = []
detail_text (Some detail) = codes ",\"detail\":\"" ++ (detail ++ codes "\"")

-- the moments that a problem names are in the years
abbrev pub AreMoments : Problem → Type 0
AreMoments (OfferTooOld made now) = (made ≤ last_second) × (now ≤ last_second)
AreMoments (TooLate limit now) = (limit ≤ last_second) × (now ≤ last_second)
AreMoments _ = Unit {0}
