-- What is left of a stream while it is read.
use Rattle.std.proofs.Common.{◌≡◌, ◌≢◌, ℕ, ◌<◌, ◌≤◌, List, [], ◌∷◌, ◌++◌, length, take, drop, Option, None, Some, Result, Ok, sym, ◌∙◌, ap, subst, arith, refl, append_assoc, take-append-drop, length-drop}
use Rattle.std.proofs.lemmas.List.{append-nil, drop_all}
use Rattle.std.specs.Io.KnownBytes.{Keeps, Consumes, IsAtEnd, prepend_known}
use Rattle.modbus_frame.specs.declared.fault.FrameFault.{FrameFault}
use Rattle.modbus_frame.specs.declared.frame.Frame.{Frame}
use Rattle.modbus_frame.specs.declared.framer.Fed.{Fed}
use Rattle.modbus_frame.specs.Frame.{frame_bytes, IsRest}
use Rattle.modbus_frame.specs.Framing.{FeedsUnless, FeedsFrom, GivesOrKeeps}
use Rattle.modbus_frame.specs.Held.{Held}
use Rattle.modbus_frame.specs.Link.{CountsBy, Failures, FailsBy}
use Rattle.modbus_frame.specs.Reading.{Reading}
use Rattle.modbus_frame.specs.Exchange.{left, FeedsUnfed, KnownIsCut}

-- Nothing of the stream is lost, and no fault is met.
pub record ReadSoFar (old new : Reading) (coming remaining sent now : Option (List ℕ)) (failed failing : Failures) (called calling : Option ℕ) (turns spare spent : ℕ) : Type 0 where
  pub reads : Keeps (left old coming) (left new remaining)
  pub fault : (new.held).fault ≡ None
  pub keeps : Keeps sent now
  pub failures : FailsBy 0 0 0 failed failing
  pub calls : CountsBy spent called calling
  pub within : spare ≤ turns

pub without_fault : (fault : Option FrameFault) (old : Held) (piece : List ℕ) (result : Result Fed FrameFault) (new : Held) → fault ≡ None → FeedsUnless fault old piece result new → FeedsFrom old.kept piece result new
without_fault None old piece result new none feeds = feeds
without_fault (Some f) old piece result new none feeds = cc

-- One feed of all that was read, told of the bytes after what it used.
pub feeds_unfed : (held : Held) (piece : List ℕ) (used : ℕ) (frame : Option Frame) (new : Held) (unfed : List ℕ) → GivesOrKeeps held.kept piece used frame new → unfed ≡ drop used piece → length piece ≤ 260 → FeedsUnfed (record { held = held; unfed = piece }) (Ok frame) (record { held = new; unfed = unfed })
feeds_unfed held piece used (Some frame) new unfed gives behind few =
    let parts : held.kept ++ piece ≡ (held.kept ++ take used piece) ++ drop used piece = ap (λ l. held.kept ++ l) (sym (take-append-drop used piece)) ∙ sym (append_assoc held.kept (take used piece) (drop used piece)) in
    (gives.is_frame, parts ∙ ap (λ l. l ++ drop used piece) gives.spelled ∙ ap (λ l. frame_bytes frame ++ l) (sym behind), gives.after, omega (arith, few, ap length behind, length-drop used piece))
feeds_unfed held piece used None new unfed keeps behind few =
    (keeps.partial, keeps.after, behind ∙ drop_all used piece (omega (arith, keeps.all)))

some_byte : (bytes : List ℕ) → bytes ≢ [] → 0 < length bytes
some_byte [] some = absurd (some refl)
some_byte (byte ∷ bytes) some = omega arith

pub no_byte : (bytes : List ℕ) → 0 ≡ length bytes → bytes ≡ []
no_byte [] none = refl
no_byte (byte ∷ bytes) none = absurd (omega arith)

-- The stream ended where less than a frame was read.
pub ends_inside : (stream coming now : Option (List ℕ)) (rest unfed kept : List ℕ) → Keeps stream (prepend_known rest coming) → IsRest rest → rest ≢ [] → kept ≡ rest → Consumes coming now unfed → 0 ≡ length unfed → IsAtEnd now → KnownIsCut stream × Keeps stream (prepend_known (kept ++ unfed) now)
ends_inside None coming now rest unfed kept whole partial some same reads none ended = (tt, tt)
ends_inside (Some bytes) None now rest unfed kept whole partial some same reads none ended = absurd whole
ends_inside (Some bytes) (Some coming) None rest unfed kept whole partial some same reads none ended = absurd reads
ends_inside (Some bytes) (Some coming) (Some now) rest unfed kept whole partial some same reads none ended =
    let nothing : coming ≡ [] = reads ∙ ap (λ l. l ++ now) (no_byte unfed none) ∙ ended in
    let all : bytes ≡ rest = sym whole ∙ ap (λ l. rest ++ l) nothing ∙ append-nil rest in
    let P : List ℕ → Type 0 = λ l. IsRest l × (0 < length l) in
    (subst P (sym all) (partial, some_byte rest some), ap (λ l. l ++ now) (ap (λ l. l ++ unfed) same ∙ ap (λ l. rest ++ l) (no_byte unfed none) ∙ append-nil rest) ∙ ap (λ l. rest ++ l) ended ∙ append-nil rest ∙ sym all)
