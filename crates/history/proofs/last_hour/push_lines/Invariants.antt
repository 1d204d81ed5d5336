use Rattle.std.proofs.Common.{◌≡◌, ◌++◌, string_bytes, map, drop}
use Rattle.history.specs.Events.{line_of}
use Rattle.history.specs.Told.{is_later, joined, texts_after}
use Rattle.history.proofs.last_hour.push_lines.Given as goal

abbrev pub invariant-loop-event : goal.invariant-loop-event
invariant-loop-event l =
    let rest = texts_after l.after (map line_of (drop l.event-index l.events)) in
    let all = texts_after l.after (map line_of l.events) in
    (string_bytes l.text ++ joined l.later rest ≡ string_bytes l.fn.text ++ joined l.fn.later all) × (is_later l.later rest ≡ is_later l.fn.later all)
