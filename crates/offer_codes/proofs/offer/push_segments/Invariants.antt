use Rattle.std.proofs.Common.{◌≡◌, ◌≤◌, ◌+◌, ◌*◌, ◌++◌, length, drop, true}
use Rattle.std.specs.List.{list_all}
use Rattle.arrayvec.specs.ArrayVec.{array_vec_len}
use Rattle.std.specs.Prelude.{codes}
use Rattle.offer_codes.specs.Marked.{marked}
use Rattle.offer_codes.specs.Offers.{segments_marks, is_segment}
use Rattle.offer_codes.proofs.offer.push_segments.Given as goal

abbrev pub invariant-loop-segment : goal.invariant-loop-segment
invariant-loop-segment l = record {
  whole : l.text.items ++ marked (segments_marks l.joint (drop l.segment-index l.segments)) ≡ l.fn.text.items ++ marked (segments_marks (codes "-") l.segments);
  left : list_all is_segment (drop l.segment-index l.segments) ≡ true;
  few : length l.segments ≤ 3;
  joint : length l.joint ≡ 1;
  short : array_vec_len l.text ≤ 80 + 14 * l.segment-index;
}
