-- The header of a frame stays as it is when bytes follow.
use Rattle.std.proofs.Common.{◌≡◌, ℕ, ◌+◌, ◌<◌, ◌≤◌, List, ◌++◌, length, arith}
use Rattle.std.proofs.lemmas.List.{get_or_append_left}
use Rattle.modbus_frame.specs.Frame.{protocol_of, length_of, IsLength, IsRest}

pub protocol_of-append : (bytes more : List ℕ) → 4 ≤ length bytes → protocol_of (bytes ++ more) ≡ protocol_of bytes
protocol_of-append bytes more h =
    let third = get_or_append_left bytes more 0 2 (omega arith) in
    let fourth = get_or_append_left bytes more 0 3 (omega arith) in
    omega (arith, third, fourth)

pub length_of-append : (bytes more : List ℕ) → 6 ≤ length bytes → length_of (bytes ++ more) ≡ length_of bytes
length_of-append bytes more h =
    let fifth = get_or_append_left bytes more 0 4 (omega arith) in
    let sixth = get_or_append_left bytes more 0 5 (omega arith) in
    omega (arith, fifth, sixth)

-- a header with fewer bytes after it than its length says
pub IsRest-append : (bytes more : List ℕ) → 6 ≤ length bytes → protocol_of bytes ≡ 0 → IsLength (length_of bytes) → length (bytes ++ more) < 6 + length_of bytes → IsRest (bytes ++ more)
IsRest-append bytes more header protocol long short = record {
  protocol = λ _. omega (arith, protocol_of-append bytes more (omega arith));
  announced = λ _. let same = length_of-append bytes more header in (omega (arith, long.0), omega (arith, long.1));
  unfinished = λ _. omega (arith, length_of-append bytes more header);
}
