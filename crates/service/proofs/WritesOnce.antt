-- A service writes each output once at most after a scan.
use Rattle.std.proofs.Common.{◌≡◌, ◌≤◌, ◌+◌, ℕ, List, [], ◌∷◌, ◌++◌, length, slice_get, sym, ap, subst, arith}
use Rattle.service_requests.specs.declared.task.Task.{Task}
use Rattle.service_parts.specs.Frames.{begun, due_at, times_asked}
use Rattle.service_parts.proofs.Frames.{times_joined}
use Rattle.service.specs.Rounds.{Progress, Writing}
use Rattle.service.specs.Rounds as rounds
use Rattle.service.specs.Stages.{Stage}
use Rattle.service.specs.WrittenOnce as after
use Rattle.service.specs.WrittenOnce.{AfterScan, EachRunIsWrittenOnce, EachScanWritesOnce, OverLink, times_due}
use Rattle.service.proofs.Going.{due_most}
use Rattle.service.proofs.Sent.{each_output_once}

same_round : (p : Progress) (asked : List ℕ) (q r : Progress) → r ≡ q → Writing p asked q → Writing p asked r
same_round p asked q r same run = subst (Writing p asked) (sym same) run

module _ (scanned : Stage) where
  writing : (asked : List ℕ) (s : Stage) → AfterScan scanned asked s → Writing scanned.round asked s.round
  writing asked s after.done = rounds.begin scanned.round
  writing asked s (after.opened {asked = before} {s = t} run device turn u is) = rounds.sends (writing before t run) t.core device turn s.round is.opens
  writing asked s (after.ended {s = t} run device u is) = rounds.ends (writing asked t run) device s.round is.closes
  writing asked s (after.skipped {s = t} run device u is) = rounds.skips (writing asked t run) device s.round (ap (λ (x : Stage). x.round) is)
  writing asked s (after.told {s = t} run i f is_new u is) = rounds.tells (writing asked t run) s.round (ap (λ (p : Progress). p.writes) is.round)
  writing asked s (after.learned {s = t} run device found u is) = same_round scanned.round asked t.round s.round (ap (λ (x : Stage). x.round) is.same) (writing asked t run)
  writing asked s (after.waited {s = t} run ms u is) = same_round scanned.round asked t.round s.round is.round (writing asked t run)
  writing asked s (after.heard {s = t} run pdu u is) = same_round scanned.round asked t.round s.round is.round (writing asked t run)
  writing asked s (after.adopted {s = t} run machine u is) = same_round scanned.round asked t.round s.round (ap (λ (x : Stage). x.round) is.same) (writing asked t run)

pub each_scan_writes_once : EachScanWritesOnce
each_scan_writes_once now old scanned s asked scans run = each_output_once scanned.round asked s.round (writing scanned asked s run)

due_joined : (output : ℕ) (xs ys : List (List Task)) → times_due output (xs ++ ys) ≡ times_due output xs + times_due output ys
due_joined output [] ys = omega arith
due_joined output (x ∷ xs) ys = omega (arith, due_joined output xs ys)

planned_once : (link : ℕ) (first : List Task) (scans : List (List Task)) (asked : List ℕ) (last : List Task) → OverLink link first scans asked last → (output : ℕ) → times_asked output asked + due_at output last ≤ due_at output first + times_due output scans
planned_once link first scans asked last after.none output = omega arith
planned_once link first scans asked last (after.calls {scans = earlier} {asked = so_far} {before} run runs now limits from then_on lines led) output =
    omega (arith, planned_once link first earlier so_far before run output, led.within output, times_joined output (begun led.course) so_far, due_joined output runs earlier)

ran_once : (output : ℕ) (scans : List (List Task)) → times_due output scans ≤ length scans
ran_once output [] = omega arith
ran_once output (tasks ∷ scans) = omega (arith, ran_once output scans, due_most (slice_get tasks output))

pub each_run_is_written_once : EachRunIsWrittenOnce
each_run_is_written_once = record { planned = planned_once; ran = ran_once }
