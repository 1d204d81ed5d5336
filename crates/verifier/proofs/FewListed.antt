-- A listing has no more instructions than its image has bytes.
use Rattle.std.proofs.Common.{◌≡◌, ℕ, zero, suc, ◌+◌, ◌<◌, ◌≤◌, List, [], ◌∷◌, length, Result, Ok, Err, Option, Some, None, Bool, true, false, ◌&&◌, nat_le, IfOk, if◌then◌else◌, subst, arith}
use Rattle.point_types.specs.Value.{◌>>=◌}
use Rattle.scan_code.specs.Image.{Image}
use Rattle.scan_code.specs.declared.op.Op.{Op}
use Rattle.scan_code.specs.Instruction.{decoded_at}
use Rattle.facts.specs.declared.refusal.Refusal.{Refusal}
use Rattle.verifier.specs.Listing.{Entry, is_end, is_placed, jumps_after, listed_from, listed_with, listing_of, wrong_at}
use Rattle.facts.specs.Word.{AnswersOrWantsMemory}
use Rattle.verifier.proofs.Images.{by_both, ok_is}

-- an instruction has one byte at least
listed_few : (image : Image) (most at n jumps : ℕ) (ended : Bool) (es : List Entry) → listed_from image most at n jumps ended ≡ Ok es → length es ≤ most
listed_few image zero at n jumps ended es e = go (ended && nat_le (length image.code) at) e
  where
    go : (t : Bool) → ◌≡◌ {A = Result (List Entry) Refusal} (if t then Ok [] else wrong_at n) (Ok es) → length es ≤ 0
    go true f = subst (λ (xs : List Entry). length xs ≤ 0) (ok_is [] es f) (omega arith)
    go false f = absurd (cc)
listed_few image (suc most) at n jumps ended es e = past (nat_le (length image.code) at) e (λ next i rest. listed_few image most next (n + 1) (jumps_after jumps i) (is_end i) rest)
  where
    over : (t : Bool) → ◌≡◌ {A = Result (List Entry) Refusal} (if t then Ok [] else wrong_at n) (Ok es) → length es ≤ suc most
    over true f = subst (λ (xs : List Entry). length xs ≤ suc most) (ok_is [] es f) (omega arith)
    over false f = absurd (cc)

    placed : (i : Op) (next : ℕ) (t : Bool) → ◌≡◌ {A = Result (List Entry) Refusal} (if t then (listed_from image most next (n + 1) (jumps_after jumps i) (is_end i) >>= λ rest. Ok ((at, i) ∷ rest)) else wrong_at n) (Ok es) → ((rest : List Entry) → listed_from image most next (n + 1) (jumps_after jumps i) (is_end i) ≡ Ok rest → length rest ≤ most) → length es ≤ suc most
    placed i next false f again = absurd (cc)
    placed i next true f again = by_both (listed_from image most next (n + 1) (jumps_after jumps i) (is_end i)) (λ rest. Ok ((at, i) ∷ rest)) es f
        (λ rest g h. subst (λ (xs : List Entry). length xs ≤ suc most) (ok_is ((at, i) ∷ rest) es h) (omega (arith, again rest g)))

    found : (o : Option (Op × ℕ)) → listed_with image at n jumps o (λ i next. listed_from image most next (n + 1) (jumps_after jumps i) (is_end i)) ≡ Ok es → ((next : ℕ) (i : Op) (rest : List Entry) → listed_from image most next (n + 1) (jumps_after jumps i) (is_end i) ≡ Ok rest → length rest ≤ most) → length es ≤ suc most
    found None f again = absurd (cc)
    found (Some x) f again = placed x.0 x.1 (is_placed image jumps x.0) f (again x.1 x.0)

    past : (t : Bool) → ◌≡◌ {A = Result (List Entry) Refusal} (if t then (if ended then Ok [] else wrong_at n) else listed_with image at n jumps (decoded_at image.code at) (λ i next. listed_from image most next (n + 1) (jumps_after jumps i) (is_end i))) (Ok es) → ((next : ℕ) (i : Op) (rest : List Entry) → listed_from image most next (n + 1) (jumps_after jumps i) (is_end i) ≡ Ok rest → length rest ≤ most) → length es ≤ suc most
    past true f again = over ended f
    past false f again = found (decoded_at image.code at) f again

pub few_listed : (image : Image) (r : Result (List Entry) Refusal) → length image.code < 65536 → AnswersOrWantsMemory (λ listing. listing) (listing_of image) r → IfOk r (λ listing. length listing < 65536)
few_listed image (Ok es) h e = let few = listed_few image (length image.code) 0 0 0 false es e in omega (arith, few)
few_listed image (Err refusal) h e = tt
