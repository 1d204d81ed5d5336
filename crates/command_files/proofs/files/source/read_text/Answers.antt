use Rattle.std.proofs.Common.{◌≡◌, ◌<◌, length, rules, arith, string_bytes}
use Rattle.command_files.proofs.SourceLemmas.{no_text, whole_bytes}
use Rattle.command_files.proofs.files.source.read_text.Goals as goal

pub returns-in-Ok-from_utf8-clause-whole : goal.returns-in-Ok-from_utf8-clause-whole
returns-in-Ok-from_utf8-clause-whole g c =
    let same : string_bytes c.in-Ok-from_utf8.text ≡ c.read_to_end.new.buf.items = search rules in
    let few : length c.read_to_end.new.buf.items < c.take.result.limit = omega arith in
    rw (same, ← c.take.ensures.inner) (whole_bytes _ c.take.result.limit c.read_to_end.new.buf.items c.new-bytes.result.items c.new-bytes.ensures.items few c.in-Ok.ensures.bytes)

pub returns-in-Ok-2-clause-refused : goal.returns-in-Ok-2-clause-refused
returns-in-Ok-2-clause-refused g c =
    let few : length c.read_to_end.new.buf.items < c.take.result.limit = omega arith in
    rw (← c.take.ensures.inner) (no_text _ c.read_to_end.new.buf.items
    (whole_bytes _ c.take.result.limit c.read_to_end.new.buf.items c.new-bytes.result.items c.new-bytes.ensures.items few c.in-Ok.ensures.bytes)
    c.in-Err-from_utf8.ensures.succeeds)
