use Rattle.std.proofs.Common.{◌≡◌, ◌+◌, ◌++◌, length, take}
use Rattle.arrayvec.specs.ArrayVec.{array_vec_len}
use Rattle.offer_codes.proofs.numbers.push_bytes.Given as goal

abbrev pub invariant-loop-byte : goal.invariant-loop-byte
invariant-loop-byte l = record {
  pushed : l.text.items ≡ l.fn.text.items ++ take l.byte-index l.bytes;
  room : array_vec_len l.text + length l.bytes ≡ array_vec_len l.fn.text + length l.bytes + l.byte-index;
}
