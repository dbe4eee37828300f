use Rattle.std.proofs.Common.{◌≡◌, ◌≤◌, ◌+◌, ◌*◌, ◌++◌, option_map, length, true}
use Rattle.std.specs.List.{list_all}
use Rattle.arrayvec.specs.ArrayVec.{array_vec_len}
use Rattle.offer_codes.specs.Found.{segments_from}
use Rattle.offer_codes.specs.Offers.{is_segment}
use Rattle.offer_codes.proofs.offer.segments_of.Given as goal

abbrev pub invariant-loop-rest : goal.invariant-loop-rest
invariant-loop-rest l = record {
  whole : option_map (λ more. l.segments.items ++ more) (segments_from l.rest) ≡ segments_from l.fn.numbers;
  short : 3 * array_vec_len l.segments + length l.rest ≤ 9;
  all : list_all is_segment l.segments.items ≡ true;
}

abbrev pub decreases-loop-rest : goal.decreases-loop-rest
decreases-loop-rest l = length l.rest
