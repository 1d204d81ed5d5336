use Rattle.std.proofs.Common.{rules, ◌≡◌, ◌+◌, ◌<◌, ◌≤◌, length, false, true, Some, Ok, Err, List, [], ◌∷◌, ◌++◌, inl, refl, sym, ap, if◌then◌else◌, ◌∙◌, arith, length-append}
use Rattle.scan_code.specs.Instruction.{decoded_at}
use Rattle.facts.specs.declared.refusal.Refusal.{Refusal}
use Rattle.facts.specs.declared.refusal.RefusedAt.TheVariants as spot
use Rattle.facts.specs.declared.refusal.RefusalKind.TheVariants.{Code}
use Rattle.verifier.specs.Listing.{Entry, is_placed, wrong_at}
use Rattle.verifier.proofs.Listed.{left_at_last, left_after, left_misplaced, jumps_few}
use Rattle.verifier.proofs.listing.listing.Goals as goal

pub returns-then-not-is_placed : goal.returns-then-not-is_placed
returns-then-not-is_placed c =
    let image = c.args.image.now in
    let l = c.loop-at in
    let before : l.at < length image.code = search rules in
    let decoded : decoded_at image.code l.at ≡ Some (c.in-Some.op, c.in-Some.next) = search rules in
    let misplaced : is_placed image l.jumps c.in-Some.op ≡ false = search rules in
    let refusal : ◌≡◌ {A = Refusal} (record { at = spot.Instruction (length l.listing.items); kind = Code }) c.wrong_at-then-not-is_placed.result = search rules in
    inl (sym l.invariant.0 ∙ left_misplaced image l.listing.items l.at l.jumps c.in-Some.next l.ended c.in-Some.op before l.invariant.1 decoded misplaced ∙ ap (λ (r : Refusal). Err r) refusal)

pub loop-at-preserved : goal.loop-at-preserved
loop-at-preserved c =
    let image = c.args.image.now in
    let l = c.loop-at in
    let before : l.at < length image.code = search rules in
    let decoded : decoded_at image.code l.at ≡ Some (c.in-Some.op, c.in-Some.next) = search rules in
    let placed : is_placed image l.jumps c.in-Some.op ≡ true = search rules in
    let items : c.push.new.self.items ≡ l.listing.items ++ (l.at, c.in-Some.op) ∷ [] = search rules in
    let on : l.at + 1 ≤ c.in-Some.next = search rules in
    let within : c.in-Some.next ≤ length image.code = search rules in
    let long : length c.push.new.self.items ≡ length l.listing.items + 1 = ap (λ (es : List Entry). length es) items ∙ length-append l.listing.items ((l.at, c.in-Some.op) ∷ []) in
    let jumps = c.jumps_after-jumps.ensures in
    let ended = c.is_end-ended.ensures in
    let few = jumps_few l.jumps c.in-Some.op in (
      rw (items, jumps, ended) (sym (left_after image l.listing.items l.at l.jumps c.in-Some.next l.ended c.in-Some.op before l.invariant.1 decoded placed) ∙ l.invariant.0),
      omega (arith, long, on, l.invariant.1),
      omega (arith, long, few, jumps, l.invariant.2),
      within,
    )

pub returns-in_ok-of : goal.returns-in_ok-of
returns-in_ok-of c =
    let l = c.loop-at in
    let past : length c.args.image.now.code ≤ l.at = search rules in
    let all : (if l.ended then Ok l.listing.items else wrong_at (length l.listing.items)) ≡ Ok l.listing.items = rw c.if-ended.true refl in
    sym l.invariant.0 ∙ left_at_last c.args.image.now l.listing.items l.at l.jumps l.ended past ∙ all ∙ ap (λ (es : List Entry). Ok es) (sym (c.in_ok-of.ensures ∙ c.from_vec.ensures))
