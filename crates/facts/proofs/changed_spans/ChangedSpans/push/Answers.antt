use Rattle.std.proofs.Common.{◌≡◌, length, refl}
use Rattle.facts.specs.Overlay.{at_entry, change, IsChange}
use Rattle.facts.proofs.Overlaying.{changes_next, is_change, overlaid_next, shown_change}
use Rattle.facts.proofs.changed_spans.ChangedSpans.push.Goals as goal

pub invariant_of-self-2 : goal.invariant_of-self-2
invariant_of-self-2 c =
    let one : IsChange (at_entry c.self.inside.at_entry.value (length c.self.inside.kept)) c.change-place.result =
    rw (c.change-place.ensures, c.span_at_entry-entry.ensures, c.len.ensures, c.as_slice.ensures, c.as_ref.ensures) (is_change (at_entry c.self.inside.at_entry.value (length c.self.inside.kept)) c.args.span) in
    rw (c.in_ok-push.ensures.ok) (changes_next c.self.inside.at_entry.value c.self.inside.kept c.change-place.result c.self.invariant one)

pub returns : goal.returns
returns c =
    let one : c.change-place.result ≡ change (at_entry c.self.inside.at_entry.value (length c.self.inside.kept)) c.args.span =
    rw (c.change-place.ensures, c.span_at_entry-entry.ensures, c.len.ensures, c.as_slice.ensures, c.as_ref.ensures) refl in
    let next = overlaid_next c.self.inside.at_entry.value c.self.inside.kept c.change-place.result in
    rw (← c.self.view_is, c.in_ok-push.ensures.ok, next, one, shown_change (at_entry c.self.inside.at_entry.value (length c.self.inside.kept)) c.args.span) refl
