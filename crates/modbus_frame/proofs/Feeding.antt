-- Two fills of a framer's buffer, first to the end of a header and then to the end of its frame.
use Rattle.std.proofs.Common.{◌≡◌, ℕ, ◌+◌, ◌-◌, ◌<◌, min, List, ◌++◌, length, take, drop, Option, None, Result, append_assoc, sym, ◌∙◌, ap, subst, arith, length-append, length-take, length-drop, take-add, take_all, refl}
use Rattle.modbus_frame.specs.declared.fault.FrameFault.{FrameFault}
use Rattle.modbus_frame.specs.declared.framer.Fed.{Fed}
use Rattle.modbus_frame.specs.Held.{Held}
use Rattle.modbus_frame.specs.Framing.{Feeds, FeedsFrom, FeedsUnless, KeepsAll}
use Rattle.modbus_frame.specs.Frame.{IsRest}

-- Both fills together took the front of the piece.
pub fills_take_front : (kept piece first second : List ℕ) (h m : ℕ) → first ≡ kept ++ take h piece → second ≡ first ++ take m (drop h piece) → second ≡ kept ++ take (h + m) piece
fills_take_front kept piece first second h m one two =
    two ∙ ap (λ l. l ++ take m (drop h piece)) one ∙ append_assoc kept (take h piece) (take m (drop h piece)) ∙ ap (λ l. kept ++ l) (sym (take-add h m piece))

-- Where the second didn't reach the end of the frame, they took all of it.
pub fills_take_all : (kept piece first second : List ℕ) (h m len : ℕ) → h ≡ min (6 - length kept) (length piece) → m ≡ min (len - length first) (length (drop h piece)) → second ≡ first ++ take m (drop h piece) → length second < len → h + m ≡ length piece
fills_take_all kept piece first second h m len took more two short =
    let filled : length second ≡ length first + min m (length (drop h piece)) = ap length two ∙ length-append first _ ∙ ap (λ n. length first + n) (length-take m (drop h piece)) in
    omega (arith, length-drop h piece)

-- What a framer without a fault does, told of its fields.
pub feeds_without_fault : (old new : Held) (kept piece : List ℕ) (fault : Option FrameFault) (result : Result Fed FrameFault) → record { kept = kept; fault = fault } ≡ old → fault ≡ None → FeedsFrom kept piece result new → Feeds old piece result new
feeds_without_fault old new kept piece fault result seen none feeds =
    let P : Held → Type 0 = λ h. Feeds h piece result new in
    let Q : Option FrameFault → Type 0 = λ f. FeedsUnless f (record { kept = kept; fault = f }) piece result new in
    subst P seen (subst Q (sym none) feeds)

-- All of the piece is kept, and there is still no fault.
pub keeps_all : {kept piece second : List ℕ} {used : ℕ} {fault : Option FrameFault} → used ≡ length piece → second ≡ kept ++ take used piece → IsRest second → fault ≡ None → KeepsAll kept piece used (record { kept = second; fault = fault })
keeps_all {kept} {piece} {second} {used} {fault} all front rest none =
    let whole : second ≡ kept ++ piece = front ∙ ap (λ n. kept ++ take n piece) all ∙ ap (λ l. kept ++ l) (take_all (length piece) piece (omega arith)) in
    let P : List ℕ → Type 0 = IsRest in
    record {
      all = all;
      partial = subst P whole rest;
      after = rw (whole, none) refl;
    }
