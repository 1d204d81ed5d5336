-- The raw numbers that a kind holds are those of its range.
use Rattle.std.proofs.Common.{◌≡◌, ◌↔◌, ℕ, List, ℤ, pos, neg_ℤ, ◌^◌, ◌+ℤ◌, ◌≤ℤ◌, Some, None, IfSome, refl, sym, ap, subst, arith}
use Rattle.std.proofs.lemmas.Int.{ints, by_lt_z}
use Rattle.point_types.specs.declared.kind.Kind.{Kind}
use Rattle.point_types.specs.declared.kind.Kind.TheVariants as kinds
use Rattle.point_types.specs.Laws.{CanHold}
use Rattle.point_types.specs.Point.{StandsFor}
use Rattle.point_types.proofs.Spellings.{holds_exactly}
use Rattle.site_model.specs.Serving.{raw_range}

same_number : {m n : ℤ} → Some m ≡ Some n → m ≡ n
same_number e = cc

-- a number that isn't the least one, or the greatest
above : (low v : ℤ) → (low ≡ v → ⊥) → low ≤ℤ v → (low +ℤ pos 1) ≤ℤ v
above low v other l = by_lt_z {P = (low +ℤ pos 1) ≤ℤ v} low v (λ h. omega (arith, ints)) (λ g. absurd (other (omega (arith, ints))))

below : (high v : ℤ) → (high ≡ v → ⊥) → v ≤ℤ high → (v +ℤ pos 1) ≤ℤ high
below high v other l = by_lt_z {P = (v +ℤ pos 1) ≤ℤ high} v high (λ h. omega (arith, ints)) (λ g. absurd (other (omega (arith, ints))))

abbrev IsIn : ℤ × ℤ → ℤ → Type 0
IsIn r v = (r.0 ≤ℤ v) × (v ≤ℤ r.1)

abbrev HoldsIn : Kind → ℤ → ℤ → Type 0
HoldsIn k low high = (v : ℤ) → CanHold k v ↔ IsIn (low, high) v

int16 : HoldsIn kinds.Int16 (neg_ℤ (pos 32767)) (pos 32767)
int16 v = (
  λ h. let a = above (neg_ℤ (pos 32768)) v (λ e. h.1 (ap Some e)) (let l = h.0.0 in omega (arith, ints)) in let m = h.0.1 in (omega (arith, ints), omega (arith, ints)),
  λ r. ((let l = r.0 in omega (arith, ints), let l = r.1 in omega (arith, ints)), λ e. let s = same_number e in let l = r.0 in omega (arith, ints)),
)

int32 : HoldsIn kinds.Int32 (neg_ℤ (pos 2147483647)) (pos 2147483647)
int32 v = (
  λ h. let a = above (neg_ℤ (pos 2147483648)) v (λ e. h.1 (ap Some e)) (let l = h.0.0 in omega (arith, ints)) in let m = h.0.1 in (omega (arith, ints), omega (arith, ints)),
  λ r. ((let l = r.0 in omega (arith, ints), let l = r.1 in omega (arith, ints)), λ e. let s = same_number e in let l = r.0 in omega (arith, ints)),
)

int64 : HoldsIn kinds.Int64 (neg_ℤ (pos 9223372036854775807)) (pos 9223372036854775807)
int64 v = (
  λ h. let a = above (neg_ℤ (pos 9223372036854775808)) v (λ e. h.1 (ap Some e)) (let l = h.0.0 in omega (arith, ints)) in let m = h.0.1 in (omega (arith, ints), omega (arith, ints)),
  λ r. ((let l = r.0 in omega (arith, ints), let l = r.1 in omega (arith, ints)), λ e. let s = same_number e in let l = r.0 in omega (arith, ints)),
)

uint16 : HoldsIn kinds.Uint16 (pos 0) (pos 65534)
uint16 v = (
  λ h. let a = below (pos 65535) v (λ e. h.1 (ap Some e)) (let l = h.0.1 in omega (arith, ints)) in (h.0.0, omega (arith, ints)),
  λ r. ((r.0, let l = r.1 in omega (arith, ints)), λ e. let s = same_number e in let l = r.1 in omega (arith, ints)),
)

uint32 : HoldsIn kinds.Uint32 (pos 0) (pos 4294967294)
uint32 v = (
  λ h. let a = below (pos 4294967295) v (λ e. h.1 (ap Some e)) (let l = h.0.1 in omega (arith, ints)) in (h.0.0, omega (arith, ints)),
  λ r. ((r.0, let l = r.1 in omega (arith, ints)), λ e. let s = same_number e in let l = r.1 in omega (arith, ints)),
)

uint64 : HoldsIn kinds.Uint64 (pos 0) (pos 18446744073709551614)
uint64 v = (
  λ h. let a = below (pos 18446744073709551615) v (λ e. h.1 (ap Some e)) (let l = h.0.1 in omega (arith, ints)) in (h.0.0, omega (arith, ints)),
  λ r. ((r.0, let l = r.1 in omega (arith, ints)), λ e. let s = same_number e in let l = r.1 in omega (arith, ints)),
)

acc16 : HoldsIn kinds.Acc16 (pos 1) (pos 65535)
acc16 v = (
  λ h. (above (pos 0) v (λ e. h.1 (ap Some e)) h.0.0, let l = h.0.1 in omega (arith, ints)),
  λ r. ((let l = r.0 in omega (arith, ints), let l = r.1 in omega (arith, ints)), λ e. let s = same_number e in let l = r.0 in omega (arith, ints)),
)

acc32 : HoldsIn kinds.Acc32 (pos 1) (pos 4294967295)
acc32 v = (
  λ h. (above (pos 0) v (λ e. h.1 (ap Some e)) h.0.0, let l = h.0.1 in omega (arith, ints)),
  λ r. ((let l = r.0 in omega (arith, ints), let l = r.1 in omega (arith, ints)), λ e. let s = same_number e in let l = r.0 in omega (arith, ints)),
)

acc64 : HoldsIn kinds.Acc64 (pos 1) (pos 18446744073709551615)
acc64 v = (
  λ h. (above (pos 0) v (λ e. h.1 (ap Some e)) h.0.0, let l = h.0.1 in omega (arith, ints)),
  λ r. ((let l = r.0 in omega (arith, ints), let l = r.1 in omega (arith, ints)), λ e. let s = same_number e in let l = r.0 in omega (arith, ints)),
)

bitfield16 : HoldsIn kinds.Bitfield16 (pos 0) (pos 32767)
bitfield16 v = (λ h. (h.0.0, let l = h.0.1 in omega (arith, ints)), λ r. ((r.0, let l = r.1 in omega (arith, ints)), λ e. cc))

bitfield32 : HoldsIn kinds.Bitfield32 (pos 0) (pos 2147483647)
bitfield32 v = (λ h. (h.0.0, let l = h.0.1 in omega (arith, ints)), λ r. ((r.0, let l = r.1 in omega (arith, ints)), λ e. cc))

all_hold : (k : Kind) → IfSome (raw_range k) (λ r. (v : ℤ) → CanHold k v ↔ IsIn r v)
all_hold kinds.Int16 = int16
all_hold kinds.Sunssf = int16
all_hold kinds.Int32 = int32
all_hold kinds.Int64 = int64
all_hold kinds.Uint16 = uint16
all_hold kinds.Enum16 = uint16
all_hold kinds.Uint32 = uint32
all_hold kinds.Enum32 = uint32
all_hold kinds.Uint64 = uint64
all_hold kinds.Acc16 = acc16
all_hold kinds.Acc32 = acc32
all_hold kinds.Acc64 = acc64
all_hold kinds.Bitfield16 = bitfield16
all_hold kinds.Bitfield32 = bitfield32
all_hold kinds.Pad = tt
all_hold kinds.String = tt

holds : (k : Kind) (r : ℤ × ℤ) → Some r ≡ raw_range k → (v : ℤ) → CanHold k v ↔ IsIn r v
holds k r e = subst (λ o. IfSome o (λ r. (v : ℤ) → CanHold k v ↔ IsIn r v)) (sym e) (all_hold k)

-- what words of a kind stand for lies in its range
pub in_range : (k : Kind) (r : ℤ × ℤ) → Some r ≡ raw_range k → (ws : List ℕ) (v : ℤ) → StandsFor k ws v → IsIn r v
in_range k r e ws v h = (holds k r e v).0 ((holds_exactly k v).1 (ws, h))

-- each number of the range has words
pub has_words : (k : Kind) (r : ℤ × ℤ) → Some r ≡ raw_range k → (v : ℤ) → IsIn r v → (ws : List ℕ) × StandsFor k ws v
has_words k r e v h = (holds_exactly k v).0 ((holds k r e v).1 h)

-- each range leaves 64 bits by a sign at most
all_small : (k : Kind) → IfSome (raw_range k) (λ r. (neg_ℤ (pos (2 ^ 64)) ≤ℤ r.0) × (r.0 ≤ℤ r.1) × (r.1 ≤ℤ pos (2 ^ 64)))
all_small kinds.Pad = tt
all_small kinds.String = tt
all_small other = (omega (arith, ints), omega (arith, ints), omega (arith, ints))

pub small : (k : Kind) (r : ℤ × ℤ) → Some r ≡ raw_range k → (neg_ℤ (pos (2 ^ 64)) ≤ℤ r.0) × (r.0 ≤ℤ r.1) × (r.1 ≤ℤ pos (2 ^ 64))
small k r e = subst (λ o. IfSome o (λ r. (neg_ℤ (pos (2 ^ 64)) ≤ℤ r.0) × (r.0 ≤ℤ r.1) × (r.1 ≤ℤ pos (2 ^ 64)))) (sym e) (all_small k)

-- only pads and strings have no range
pub has_range : (k : Kind) → None ≡ raw_range k → (k ≡ kinds.Pad → ⊥) → (k ≡ kinds.String → ⊥) → ⊥
has_range kinds.Pad e pad string = pad refl
has_range kinds.String e pad string = string refl
has_range other e pad string = cc
