use Rattle.std.proofs.Common.{◌≡◌, ℕ, ◌+◌, ◌/◌, ◌%◌, List, [], ◌∷◌, ◌++◌, length, take, drop, arith, refl, ap, ◌∙◌}
use Rattle.std.proofs.lemmas.List.{take_at, drop_at, drop-drop}
use borrow.Rule.Slice.PartMut.{put_mid}
use Rattle.modbus_frame.specs.Bytes.{number_bytes}
use Rattle.modbus_frame.proofs.frame.write_frame.Goals as goal

-- A header over the front, and the PDU after it.
put_mid-header : (out header body old : List ℕ) (k : ℕ) → length header ≡ 7 → old ≡ header ++ drop 7 out → k ≡ length body → put_mid 7 k old body ≡ header ++ (body ++ drop (7 + length body) out)
put_mid-header out header body old k seven was len =
    let front : take 7 old ≡ header = ap (take 7) was ∙ take_at header (drop 7 out) 7 seven in
    let back : drop 7 old ≡ drop 7 out = ap (drop 7) was ∙ drop_at header (drop 7 out) 7 seven in
    let behind : drop k (drop 7 old) ≡ drop (7 + length body) out = ap (drop k) back ∙ drop-drop k 7 out ∙ ap (λ n. drop (7 + n) out) len in
    rw (front, behind) refl

pub returns-clause-bytes : goal.returns-clause-bytes
returns-clause-bytes c =
    let f = c.args.frame.now in
    let n = length f.pdu in
    let high : f.transaction / 256 % 256 ≡ f.transaction / 256 = omega arith in
    let long : (1 + n) / 256 % 256 ≡ (1 + n) / 256 = omega (arith, c.bytes-pdu.ensures.most) in
    let header : List ℕ = number_bytes f.transaction ++ 0 ∷ 0 ∷ number_bytes (1 + n) ++ f.unit ∷ [] in
    let first : c.copy_from_slice.new.self ≡ header = rw (c.copy_from_slice.ensures.after, c.to_be_bytes.ensures, c.to_be_bytes-2.ensures, high, c.bytes-pdu.ensures.value, long) refl in
    let old : c.copy_from_slice.new.self ++ drop 7 c.args.out.now ≡ header ++ drop 7 c.args.out.now = ap (λ l. l ++ drop 7 c.args.out.now) first in
    let body : c.copy_from_slice-2.new.self ≡ f.pdu = c.copy_from_slice-2.ensures.after ∙ c.bytes-pdu.ensures.value in
    rw (body, c.bytes-pdu.ensures.value) (put_mid-header c.args.out.now header f.pdu _ _ refl old (omega arith))
